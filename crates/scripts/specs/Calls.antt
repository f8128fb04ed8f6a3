-- The calls of a key that is begun, and the lines that name them.
use Rattle.std.specs.Prelude.{ℕ, if◌then◌else◌, List, [], length, Some, None, codes, Option, ◌==◌}
use Rattle.std.specs.Option.{option_map}
use Rattle.std.specs.Str.{bytes_eq}
use Rattle.records.specs.Records.{longest_release}
use Rattle.scripts.specs.Digits.{number_rule}
use Rattle.scripts.specs.Hex.{hex_bytes}
use Rattle.scripts.specs.Sizes.{most_room, largest_leaf}
use Rattle.scripts.specs.Words.{and_then, string_word}
use Rattle.scripts.specs.declared.call.Call.{Call}
use Rattle.scripts.specs.declared.call.Call.TheVariants.{Grow, Nodes, Finish, Key, Sign}
use Rattle.scripts.specs.declared.call.Call.TheVariants.{Skip, Retire, Trace}

-- a call of a script, with what it is given
pub data Said : Type 0 where
  grow : Said
  nodes : Said
  finish : Said
  key : (room : ℕ) → Said
  sign : (stamp : List ℕ) (room : ℕ) → Said
  skip : (leaf : ℕ) → Said
  retire : Said
  trace : (stamp bytes : List ℕ) → Said

-- what a call says
abbrev pub said : Call → Said
said Grow = grow
said Nodes = nodes
said Finish = finish
said (Key room) = key room.bytes
said (Sign stamp room) = sign stamp room.bytes
said (Skip leaf) = skip leaf
said Retire = retire
said (Trace stamp bytes) = trace stamp bytes.now

-- a call that takes no word more
abbrev pub alone : Said → Option (List ℕ) → Option Said
alone call None = Some call
alone call (Some rest) = None

-- how long the output is: as much as any record takes, where nothing is said of it
abbrev pub room_rule : Option (List ℕ) → Option ℕ
room_rule None = Some longest_release
room_rule (Some text) = number_rule most_room text

-- key [ROOM]
abbrev pub read_key : Option (List ℕ) → Option Said
read_key rest = option_map key (room_rule rest)

-- sign STAMP [ROOM]
abbrev pub read_sign : Option (List ℕ) → Option Said
read_sign rest = and_then (string_word rest) (λ w. option_map (sign w.word) (room_rule w.rest))

-- skip N
abbrev pub read_skip : Option (List ℕ) → Option Said
read_skip rest = and_then rest (λ text. option_map skip (number_rule largest_leaf text))

-- a record: its bytes as hex digits, or - for no bytes
abbrev pub record_rule : List ℕ → Option (List ℕ)
record_rule text =
    if bytes_eq text (codes "-") then Some [] else
    if length text == 0 then None else hex_bytes text

-- trace STAMP RECORD
abbrev pub read_trace : Option (List ℕ) → Option Said
read_trace rest =
    and_then (string_word rest)
    (λ w. and_then w.rest (λ t. option_map (trace w.word) (record_rule t)))

-- the call with this name, and what follows the name
abbrev pub read_call : List ℕ → Option (List ℕ) → Option Said
read_call name rest =
    if bytes_eq name (codes "grow") then alone grow rest else
    if bytes_eq name (codes "nodes") then alone nodes rest else
    if bytes_eq name (codes "finish") then alone finish rest else
    if bytes_eq name (codes "key") then read_key rest else
    if bytes_eq name (codes "sign") then read_sign rest else
    if bytes_eq name (codes "skip") then read_skip rest else
    if bytes_eq name (codes "retire") then alone retire rest else
    if bytes_eq name (codes "trace") then read_trace rest else None
