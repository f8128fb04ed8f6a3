-- What a key record and an order are refused for: each condition, and both lists in their order.
use Rattle.std.specs.Prelude.{◌≡◌, ℕ, ◌<◌, List, [], ◌∷◌, ◌++◌}
use Rattle.std.specs.Prelude.{length, take, drop, IsErr, Ok, Result}
use Rattle.tree.specs.Meaning.{Hash, Code}
use Rattle.records.specs.Causes.{Cause, cause, Refuses}
use Rattle.records.specs.Conditions.{WrongHeight, WrongKeyLength, header_causes}
use Rattle.records.specs.Keys.{Key}
use Rattle.records.specs.Records.{hash_number_of, code_number_of}
use Rattle.records.specs.Rules.{open_rule}
use Rattle.records.specs.declared.kind.RecordKind.TheVariants as kind
use Rattle.records.specs.declared.refusal.Refusal.{Refusal}
use Rattle.verifier.specs.Conditions.{Opening, verify_causes}
use Rattle.schemes.specs.Names.{hash_named, code_named, UnknownNumbers}
use Rattle.schemes.specs.declared.names.CodeName.{CodeName}
use Rattle.schemes.specs.declared.names.HashName.{HashName}
use Rattle.orders.specs.Outcomes.{first_record, after_record}
use Rattle.orders.specs.Reports.{Reported}

-- 8, of a key record: no hash that is known has its hash number, or no code its code number
abbrev pub UnknownKey : List ℕ → Type 0
UnknownKey bytes = UnknownNumbers (hash_number_of bytes) (code_number_of bytes)

-- 10, of a key record: another byte count than the layout has under the code that it names
abbrev pub WrongNamedLength : List ℕ → Type 0
WrongNamedLength bytes =
    (code : CodeName) × ((code_named code).number ≡ code_number_of bytes)
    × WrongKeyLength (code_named code).levels bytes

-- a key record, by the hash and the code that it names
abbrev pub named_key_causes : List ℕ → List Cause
named_key_causes bytes =
    header_causes kind.Key bytes
    ++ (cause 8 (UnknownKey bytes)
    ∷ (cause 9 (WrongHeight bytes) ∷ (cause 10 (WrongNamedLength bytes) ∷ [])))

-- the first order in `bytes`, under a key that this hash and code opened: a stamp that is cut
-- short, and then what verify refuses
abbrev pub order_causes : Hash → Code → Key → List ℕ → List Cause
order_causes hash code key bytes =
    let with : Opening = record { hash = hash.number; code = code.number; levels = code.levels } in
    cause 6 (length bytes < 16)
    ∷ verify_causes hash code with key (take 16 bytes) (first_record (drop 16 bytes))

-- there is an answer to each order in `bytes`, and it refuses by the list of that order
abbrev pub EachRefuses : (List ℕ → List Cause) → List ℕ → List (Result ℕ Refusal) → Type 0
EachRefuses causes bytes [] = length bytes ≡ 0
EachRefuses causes bytes (answer ∷ answers) =
    (0 < length bytes) × Refuses (causes bytes) answer
    × EachRefuses causes (after_record (drop 16 bytes)) answers

-- under a key record that opens, by the hash and the code that it names
abbrev pub OrdersRefuse : Hash → Code → List ℕ → List ℕ → List (Result ℕ Refusal) → Type 0
OrdersRefuse hash code bytes orders answers =
    (key : Key) → open_rule hash.number code.number code.levels bytes ≡ Ok key →
    EachRefuses (order_causes hash code key) orders answers

-- the report of an input refuses by these lists
pub record RefusesByLists (input : List ℕ) (report : Reported) : Type 0 where
  pub of_key : Refuses (named_key_causes (first_record input)) report.key
  pub of_none : IsErr report.key → report.orders ≡ []
  pub of_orders : (hash : HashName) (code : CodeName) →
      OrdersRefuse (hash_named hash) (code_named code) (first_record input) (after_record input)
      report.orders
