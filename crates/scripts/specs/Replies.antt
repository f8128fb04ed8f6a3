-- What a session answers to a call, and what it leaves.
use Rattle.std.specs.Prelude.{ℕ, zero, suc, List, [], ◌∷◌, ◌++◌, take, replicate, Some, None, Ok}
use Rattle.std.specs.Prelude.{Err, Option, Result}
use Rattle.std.specs.List.{flat_map}
use Rattle.hashes.specs.declared.ChainHash as chain_hash
use Rattle.hashes.specs.declared.TreeHash as tree_hash
use Rattle.codes.specs.declared.Code as code_trait
use Rattle.tree.specs.Meaning.{Hash, Code}
use Rattle.growth.specs.Grown.{held_levels}
use Rattle.records.specs.declared.refusal.Refusal.{Refusal}
use Rattle.compare.specs.Found.{report_size}
use Rattle.rules.specs.Rules as signer_rules
use Rattle.rules.specs.States.{Making, Signing}
use Rattle.histories.specs.Histories.{State, growing, serving, retired}
use Rattle.signer.specs.Views.{making_of, signing_of, signing_of_retired}
use Rattle.scripts.specs.Calls.{Said, grow, nodes, finish, key, sign, skip, retire, trace}
use Rattle.scripts.specs.declared.answer.Answer.{Answer}
use Rattle.scripts.specs.declared.answer.Answer.TheVariants.{Begun, Grown, Nodes, Finished, Key}
use Rattle.scripts.specs.declared.answer.Answer.TheVariants.{Signed, Next}
use Rattle.scripts.specs.declared.answer.Answer.TheVariants.{Retired, Verdict, Refused}
use Rattle.scripts.specs.declared.answer.Answer.TheVariants.{UnknownScheme, NotNow, NotACall}
use Rattle.scripts.specs.declared.answer.Node.{Node}
use Rattle.scripts.specs.declared.begin.NotBegun.{NotBegun}
use Rattle.scripts.specs.declared.begin.NotBegun.TheVariants as not_begun
use Rattle.scripts.specs.declared.session.Session.{Session}
use Rattle.scripts.specs.declared.session.Session.TheVariants as session

-- a node that is held: its level, its position and its string
pub record Held : Type 0 where
  pub level : ℕ
  pub position : ℕ
  pub node : List ℕ

-- a node of an answer
abbrev pub node_of : Node → Held
node_of n = record { level = n.level; position = n.position; node = n.node }

-- the node of a level of an answer, where it has one
abbrev pub held_in : Option Node → List Held
held_in None = []
held_in (Some n) = node_of n ∷ []

-- an answer, with what it tells
pub data Told : Type 0 where
  begun : (hash code height : ℕ) → Told
  grown : (leaves : ℕ) → Told
  held : (nodes : List Held) → Told
  finished : Told
  keyed : (bytes : List ℕ) → Told
  signed : (leaf : ℕ) (bytes : List ℕ) → Told
  next : (leaf : ℕ) → Told
  gone : Told
  verdict : (numbers : ℕ × ℕ × ℕ) (report : List ℕ) → Told
  refused : Refusal → Told
  unknown_scheme : Told
  not_now : Told
  not_a_call : Told

-- what an answer tells
abbrev pub told : Answer → Told
told (Begun hash code height) = begun hash code height
told (Grown n) = grown n
told (Nodes levels) = held (flat_map held_in levels)
told Finished = finished
told (Key bytes) = keyed bytes.now
told (Signed leaf bytes) = signed leaf bytes.now
told (Next leaf) = next leaf
told Retired = gone
told (Verdict numbers report) = verdict numbers report
told (Refused e) = refused e
told UnknownScheme = unknown_scheme
told NotNow = not_now
told NotACall = not_a_call

-- what a begin is answered that begins no key
abbrev pub not_begun_reply : NotBegun → Told
not_begun_reply (not_begun.Refused e) = refused e
not_begun_reply not_begun.UnknownScheme = unknown_scheme

-- what an answer of the signer tells, or its refusal
abbrev pub answered : {A : Type 0} → (A → Told) → Result A Refusal → Told
answered f (Ok x) = f x
answered f (Err e) = refused e

-- the node of a level, where it is held
abbrev pub held_one : ℕ → Option (ℕ × List ℕ) → List Held
held_one a None = []
held_one a (Some x) = record { level = a; position = x.0; node = x.1 } ∷ []

-- the nodes of the first n levels that are held
unfoldable pub held_below : Making → ℕ → List Held
held_below m zero = []
held_below m (suc n) = held_below m n ++ held_one n (signer_rules.held_rule m n)

-- all nodes that are held (the treehash stack), lowest level number first: no key has more levels
abbrev pub held_nodes : Making → List Held
held_nodes m = held_below m held_levels

-- an output of this size: zeros
abbrev pub output : ℕ → List ℕ
output room = replicate room 0

module _ (hash : Hash) (code : Code) where
  -- key: the record stands at the front of the output
  abbrev pub key_reply : Signing → ℕ → Told
  key_reply s room =
      answered
      (λ n. keyed (take n (signer_rules.key_output hash code s (output room))))
      (signer_rules.key_answer code s (output room))

  -- sign: likewise, with the leaf that was spent
  abbrev pub sign_reply : Signing → List ℕ → ℕ → Told
  sign_reply s stamp room =
      answered
      (λ x. signed x.1 (take x.0 (signer_rules.sign_output hash code s stamp (output room))))
      (signer_rules.sign_answer code s (output room))

  -- trace: the verdict, and the report that it leaves
  abbrev pub trace_reply : Signing → List ℕ → List ℕ → Told
  trace_reply s stamp bytes =
      answered
      (λ x. verdict x (signer_rules.trace_report hash code s stamp bytes (output report_size)))
      (signer_rules.trace_answer hash code s stamp bytes)

  -- the answer to a call, in each state
  abbrev pub reply : State → Said → Told
  reply (growing m) grow = answered grown (signer_rules.grow_answer m)
  reply (growing m) nodes = held (held_nodes m)
  reply (growing m) finish = finished
  reply (growing m) (key room) = not_now
  reply (growing m) (sign stamp room) = not_now
  reply (growing m) (skip leaf) = not_now
  reply (growing m) retire = not_now
  reply (growing m) (trace stamp bytes) = not_now
  reply (serving s) grow = not_now
  reply (serving s) nodes = not_now
  reply (serving s) finish = not_now
  reply (serving s) (key room) = key_reply s room
  reply (serving s) (sign stamp room) = sign_reply s stamp room
  reply (serving s) (skip leaf) = answered next (signer_rules.skip_answer s leaf)
  reply (serving s) retire = gone
  reply (serving s) (trace stamp bytes) = trace_reply s stamp bytes
  reply (retired s) grow = not_now
  reply (retired s) nodes = not_now
  reply (retired s) finish = not_now
  reply (retired s) (key room) = key_reply s room
  reply (retired s) (sign stamp room) = not_now
  reply (retired s) (skip leaf) = not_now
  reply (retired s) retire = not_now
  reply (retired s) (trace stamp bytes) = trace_reply s stamp bytes

  -- the state after it
  abbrev pub leaves : State → Said → State
  leaves (growing m) grow = growing (signer_rules.grow_state hash code m)
  leaves (growing m) nodes = growing m
  leaves (growing m) finish = serving (signer_rules.finish_state hash code m)
  leaves (growing m) (key room) = growing m
  leaves (growing m) (sign stamp room) = growing m
  leaves (growing m) (skip leaf) = growing m
  leaves (growing m) retire = growing m
  leaves (growing m) (trace stamp bytes) = growing m
  leaves (serving s) grow = serving s
  leaves (serving s) nodes = serving s
  leaves (serving s) finish = serving s
  leaves (serving s) (key room) = serving s
  leaves (serving s) (sign stamp room) =
      serving (signer_rules.sign_state code s stamp (output room))
  leaves (serving s) (skip leaf) = serving (signer_rules.skip_state s leaf)
  leaves (serving s) retire = retired s
  leaves (serving s) (trace stamp bytes) = serving s
  leaves (retired s) grow = retired s
  leaves (retired s) nodes = retired s
  leaves (retired s) finish = retired s
  leaves (retired s) (key room) = retired s
  leaves (retired s) (sign stamp room) = retired s
  leaves (retired s) (skip leaf) = retired s
  leaves (retired s) retire = retired s
  leaves (retired s) (trace stamp bytes) = retired s

module _ {H C : Type 0} {tree : tree_hash.Ghosts H} {chain : chain_hash.Ghosts H} where
  -- the state that a session is in
  abbrev pub state_of : {code : code_trait.Ghosts C} → Session H C tree chain code → State
  state_of (session.Growing m) = growing (making_of m)
  state_of (session.Serving s) = serving (signing_of s)
  state_of (session.Retired r) = retired (signing_of_retired r)
