-- The calls behind a signer, and the state that they lead to.
use Rattle.std.specs.Prelude.{ℕ, List, [], ◌∷◌, take, Ok, Result}
use Rattle.strings.specs.Strings.{IsString}
use Rattle.tree.specs.Meaning.{Hash, Code}
use Rattle.growth.specs.declared.origin.Origin.{Origin}
use Rattle.records.specs.declared.refusal.Refusal.{Refusal}
use Rattle.rules.specs.Rules.{begin_state, grow_answer, grow_state, finish_state, key_answer}
use Rattle.rules.specs.Rules.{key_output, sign_answer, sign_state, sign_output, skip_answer}
use Rattle.rules.specs.Rules.{skip_state, trace_answer, trace_report}
use Rattle.rules.specs.States.{Begun, Making, Signing}

-- a key: a maker that is growing, or a signer in service or retired
pub data State : Type 0 where
  growing : Making → State
  serving : Signing → State
  retired : Signing → State

-- the state is a signer, in service or retired
pub data IsSigner : State → Signing → Type 0 where
  in_service : (s : Signing) → IsSigner (serving s) s
  out_of_service : (s : Signing) → IsSigner (retired s) s

-- a call: what it was given, what it answered, and what was in the output or the report after
pub data Event : Type 0 where
  grow : (answer : Result ℕ Refusal) → Event
  finish : Event
  key : (out : List ℕ) (answer : Result ℕ Refusal) (after : List ℕ) → Event
  sign : (stamp out : List ℕ) (answer : Result (ℕ × ℕ) Refusal) (after : List ℕ) → Event
  skip : (leaf : ℕ) (answer : Result ℕ Refusal) → Event
  retire : Event
  trace : (stamp bytes report : List ℕ) (answer : Result (ℕ × ℕ × ℕ) Refusal)
      (after : List ℕ) → Event

-- the calls behind a key since begin, the newest first
abbrev pub History : Type 0
History = List Event

-- a call leads from one state to the next, by the rule of that call; key and trace, of a signer in
-- service or retired, leave the state as it was
pub data Leads (hash : Hash) (code : Code) : State → Event → State → Type 0 where
  grows : (m : Making) →
      Leads hash code (growing m) (grow (grow_answer m)) (growing (grow_state hash code m))
  finishes : (m : Making) →
      Leads hash code (growing m) finish (serving (finish_state hash code m))
  writes_key : (x : State) (s : Signing) (out : List ℕ) → IsSigner x s →
      Leads hash code x (key out (key_answer code s out) (key_output hash code s out)) x
  signs : (s : Signing) (stamp out : List ℕ) → IsString stamp →
      Leads hash code (serving s)
      (sign stamp out (sign_answer code s out) (sign_output hash code s stamp out))
      (serving (sign_state code s stamp out))
  skips : (s : Signing) (leaf : ℕ) →
      Leads hash code (serving s) (skip leaf (skip_answer s leaf)) (serving (skip_state s leaf))
  retires : (s : Signing) → Leads hash code (serving s) retire (retired s)
  traces : (x : State) (s : Signing) (stamp bytes report : List ℕ) → IsSigner x s →
      Leads hash code x
      (trace stamp bytes report (trace_answer hash code s stamp bytes)
      (trace_report hash code s stamp bytes report)) x

-- a history leads from begin, with o given, to a state: each call works on what the one before left
pub data Lived (hash : Hash) (code : Code) (o : Origin) : History → State → Type 0 where
  begun : Begun o → Lived hash code o [] (growing (begin_state o))
  called : {w : History} {x y : State} {call : Event} →
      Lived hash code o w x → Leads hash code x call y → Lived hash code o (call ∷ w) y

-- some begin and some history of calls lead to this state
abbrev pub HasLived : Hash → Code → State → Type 0
HasLived hash code x = ∥ ((o : Origin) × (w : History) × Lived hash code o w x) ∥₁

-- with this call added, every history that leads to the state x leads to the state y
abbrev pub Continues : Hash → Code → State → Event → State → Type 0
Continues hash code x call y =
    (o : Origin) (w : History) → Lived hash code o w x → Lived hash code o (call ∷ w) y

-- a call hands out leaf number i: a sign call that was not refused, and answered a length and i
pub data HandsOut : Event → ℕ → Type 0 where
  hands_out : {stamp out after : List ℕ} {n i : ℕ} →
      HandsOut (sign stamp out (Ok (n, i)) after) i

-- some call of the history hands out leaf number i
pub data HandedOut : History → ℕ → Type 0 where
  newest : {call : Event} {w : History} {i : ℕ} → HandsOut call i → HandedOut (call ∷ w) i
  older : {call : Event} {w : History} {i : ℕ} → HandedOut w i → HandedOut (call ∷ w) i

-- a call issues these bytes as the record of leaf i for this stamp: a sign call was given the
-- stamp, was not refused, answered a length and i, and left the bytes at the start of its output
pub data Issues : Event → ℕ → List ℕ → List ℕ → Type 0 where
  issues : {stamp out after : List ℕ} {n i : ℕ} →
      Issues (sign stamp out (Ok (n, i)) after) i (take n after) stamp

-- some call of the history issued these bytes as the record of leaf i for this stamp
pub data Issued : History → ℕ → List ℕ → List ℕ → Type 0 where
  here : {call : Event} {w : History} {i : ℕ} {bytes stamp : List ℕ} →
      Issues call i bytes stamp → Issued (call ∷ w) i bytes stamp
  there : {call : Event} {w : History} {i : ℕ} {bytes stamp : List ℕ} →
      Issued w i bytes stamp → Issued (call ∷ w) i bytes stamp
