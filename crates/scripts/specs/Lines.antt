-- What a line of a script says.
use Rattle.std.specs.Prelude.{ℕ, if◌then◌else◌, ◌||◌, List, length, Some, None, codes, Option, ◌==◌}
use Rattle.std.specs.Prelude.{nat_lt, slice_index}
use Rattle.std.specs.Option.{option_map}
use Rattle.std.specs.Str.{bytes_eq}
use Rattle.growth.specs.Grown.{masks_size}
use Rattle.scripts.specs.Ascii.{number_sign}
use Rattle.scripts.specs.Calls.{Said, said, read_call}
use Rattle.scripts.specs.Hex.{hex_of}
use Rattle.scripts.specs.Sizes.{longest_line}
use Rattle.scripts.specs.Words.{word_of, after_word, and_then, byte_word, string_word}
use Rattle.scripts.specs.declared.begin.Begin.{Begin}
use Rattle.scripts.specs.declared.line.Line.{Line}
use Rattle.scripts.specs.declared.line.Line.TheVariants as line

-- what a line asks for
pub data Meant : Type 0 where
  nothing : Meant
  not_a_call : Meant
  begins : Begin → Meant
  calls : Said → Meant

-- what a line that was read asks for
abbrev pub line_of : Line → Meant
line_of line.Silent = nothing
line_of line.NotACall = not_a_call
line_of (line.Begin b) = begins b
line_of (line.Call c) = calls (said c)

-- HASH CODE HEIGHT SEED HASHKEY MASKS: three numbers, two strings and all the masks
abbrev pub read_begin : Option (List ℕ) → Option Begin
read_begin text =
    and_then (byte_word text)
    (λ hash.
    and_then (byte_word hash.rest)
    (λ code.
    and_then (byte_word code.rest)
    (λ height.
    and_then (string_word height.rest)
    (λ seed.
    and_then (string_word seed.rest)
    (λ key.
    and_then key.rest
    (λ t.
    option_map
    (λ masks. record {
      hash = hash.word;
      code = code.word;
      height = height.word;
      seed = seed.word;
      hash_key = key.word;
      masks = masks;
    })
    (hex_of masks_size t)))))))

-- a begin, where it was read
abbrev pub begin_line : Option Begin → Meant
begin_line (Some b) = begins b
begin_line None = not_a_call

-- a call, where it was read
abbrev pub call_line : Option Said → Meant
call_line (Some c) = calls c
call_line None = not_a_call

-- a line of words: begin, or another call
abbrev pub words_line : List ℕ → Meant
words_line text =
    if bytes_eq (word_of text) (codes "begin") then begin_line (read_begin (after_word text))
    else call_line (read_call (word_of text) (after_word text))

-- a line asks for nothing where it is empty or begins with #, and is no call where it is too long
abbrev pub line_rule : List ℕ → Meant
line_rule text =
    if length text == 0 || slice_index text 0 == number_sign then nothing else
    if nat_lt longest_line (length text) then not_a_call else words_line text
