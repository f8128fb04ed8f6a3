-- What is promised of every history that leads to a signer, in service or retired, that traces a
-- record.
use Rattle.std.specs.Prelude.{◌≡◌, ◌≢◌, ℕ, ◌<◌, ◌≤◌, ◌⊎◌, List, ◌∷◌, ◌++◌}
use Rattle.std.specs.Prelude.{replicate, Ok, Result}
use Rattle.strings.specs.Strings.{string_at}
use Rattle.tree.specs.Meaning.{Hash, Code}
use Rattle.tree.specs.Rows.{chain_in}
use Rattle.growth.specs.Grown.{chain_string}
use Rattle.growth.specs.declared.origin.Origin.{Origin}
use Rattle.records.specs.Records.{row_of}
use Rattle.records.specs.declared.refusal.Refusal.{Refusal}
use Rattle.compare.specs.Found.{Found, report_size, verdict_numbers, verdict_report}
use Rattle.compare.specs.declared.verdict.Verdict.{Verdict}
use Rattle.rules.specs.Rules.{Accepts, traced_by}
use Rattle.rules.specs.States.{Signing}
use Rattle.histories.specs.Histories.{State, IsSigner, Event, History, Lived}
use Rattle.histories.specs.Histories.{HandsOut, HandedOut, Issued}

-- no leaf number is handed out twice: what a call hands out, no call before it had handed out
abbrev pub Once : History → Type 0
Once w =
    (later earlier : History) (call : Event) (i : ℕ) → w ≡ later ++ (call ∷ earlier) →
    HandsOut call i → HandedOut earlier i → ⊥

-- the history issued a record of leaf i for a stamp whose digit at chain k is at most e
pub record RevealedBy (code : Code) (w : History) (i k e : ℕ) (bytes stamp : List ℕ) : Type 0 where
  pub issued : Issued w i bytes stamp
  pub low : code.digit stamp k ≤ e
  pub high : e ≤ code.top

-- of chain k of leaf i, the history revealed height e: the top digit; and where it issued a record
-- there, the heights from the digit of that record's stamp up to the top digit
abbrev pub Revealed : Code → History → ℕ → ℕ → ℕ → Type 0
Revealed code w i k e =
    (e ≡ code.top)
    ⊎ ((bytes : List ℕ) × (stamp : List ℕ) × RevealedBy code w i k e bytes stamp)

-- an answer of trace: a verdict and two numbers, or a refusal
abbrev pub TraceAnswer : Type 0
TraceAnswer = Result (ℕ × ℕ × ℕ) Refusal

-- the verdict is 0, whatever the two numbers and the report
abbrev pub VerdictOurs : TraceAnswer → Type 0
VerdictOurs r = (x : ℕ) × (y : ℕ) × (r ≡ Ok (0, x, y))

-- trace says that the record is ours, as leaf i: it answers 0, i and 0, and the report is zeros
abbrev pub SaysOurs : ℕ → TraceAnswer → List ℕ → Type 0
SaysOurs i r report = (r ≡ Ok (0, i, 0)) × (report ≡ replicate report_size 0)

-- a report of two different inputs of pair with one value (a collision of pair): its strings 0 and
-- 1, and its strings 2 and 3
pub record PairBreak (hash : Hash) (key report : List ℕ) : Type 0 where
  pub differ :
      (string_at report 0 ≡ string_at report 2) × (string_at report 1 ≡ string_at report 3) → ⊥
  pub meet :
      hash.pair key (string_at report 0) (string_at report 1)
      ≡ hash.pair key (string_at report 2) (string_at report 3)

-- a report of two different strings that step to one (a collision of step)
pub record StepBreak (hash : Hash) (key report : List ℕ) : Type 0 where
  pub differ : string_at report 0 ≢ string_at report 1
  pub meet : hash.step key (string_at report 0) ≡ hash.step key (string_at report 1)

-- a report of the signer's own string of chain k of leaf i at height e, the stamp's digit: the
-- record shows it, and the history did not reveal it
pub record Unrevealed (hash : Hash) (code : Code) (w : History) (s : Signing)
    (stamp bytes : List ℕ) (i : ℕ) (report : List ℕ) (k e : ℕ) : Type 0 where
  pub chain : k < code.count
  pub height : e ≡ code.digit stamp k
  pub own : string_at report 0 ≡ chain_string hash s.origin i k e
  pub shown : chain_in (row_of bytes) k ≡ string_at report 0
  pub not_revealed : Revealed code w i k e → ⊥

-- trace shows where the hash gave way, for a record with leaf number i: its answer r is the verdict
-- and two numbers, and its report shows the break
pub data Breaks (hash : Hash) (code : Code) (w : History) (s : Signing) (stamp bytes : List ℕ)
    (i : ℕ) (r : TraceAnswer) (report : List ℕ) : Type 0 where
  pair_break : (a b : ℕ) → r ≡ Ok (1, a, b) → PairBreak hash s.origin.hash_key report →
      Breaks hash code w s stamp bytes i r report
  step_break : (k e : ℕ) → r ≡ Ok (2, k, e) → StepBreak hash s.origin.hash_key report →
      Breaks hash code w s stamp bytes i r report
  unrevealed : (k e : ℕ) → r ≡ Ok (3, k, e) →
      Unrevealed hash code w s stamp bytes i report k e →
      Breaks hash code w s stamp bytes i r report

-- the answer to a record with leaf number i and the report are those of the verdict v, which is on
-- what is to be found first
pub record ShowsFirst (hash : Hash) (code : Code) (s : Signing) (stamp bytes : List ℕ) (i : ℕ)
    (r : TraceAnswer) (report : List ℕ) (v : Verdict) : Type 0 where
  pub first : Found hash code (traced_by s stamp i bytes) v
  pub answers : r ≡ Ok (verdict_numbers i v)
  pub reports : report ≡ verdict_report v

-- what is promised of a history w that leads to the signer s, which answers r to a stamp and a
-- record and leaves this report
pub record Promise (hash : Hash) (code : Code) (w : History) (s : Signing) (stamp bytes : List ℕ)
    (r : TraceAnswer) (report : List ℕ) : Type 0 where
  -- no leaf number is handed out twice
  pub once : Once w
  -- verify accepts each record issued, with its stamp, as the leaf it was issued for
  pub accepted : (i : ℕ) (issued m : List ℕ) → Issued w i issued m →
      Accepts hash code s m issued i
  -- of a record and a stamp that verify accepts as leaf i, the verdict is 0 exactly when the
  -- history issued this record as leaf i for this stamp, and then trace says "ours": it answers
  -- 0, i and 0, and leaves a report of zeros
  pub ours : (i : ℕ) → Accepts hash code s stamp bytes i → VerdictOurs r →
      Issued w i bytes stamp × SaysOurs i r report
  -- and of each record issued, with its stamp, it says so
  pub issued : (i : ℕ) → Issued w i bytes stamp → SaysOurs i r report
  -- otherwise it shows a break: what is to be found first, and what that means
  pub broken : (i : ℕ) → Accepts hash code s stamp bytes i →
      ((j : ℕ) → Issued w j bytes stamp → ⊥) →
      ((v : Verdict) × ShowsFirst hash code s stamp bytes i r report v)
      × Breaks hash code w s stamp bytes i r report

-- the promise, for every history that leads to this signer, in service or retired
abbrev pub Promised : Hash → Code → Signing → List ℕ → List ℕ → TraceAnswer → List ℕ → Type 0
Promised hash code s stamp bytes r report =
    (o : Origin) (w : History) (x : State) → IsSigner x s → Lived hash code o w x →
    Promise hash code w s stamp bytes r report
