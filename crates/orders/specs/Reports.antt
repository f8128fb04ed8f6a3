-- What is reported of a key record and the orders that follow it.
use Rattle.std.specs.Prelude.{◌≡◌, ℕ, List, [], Ok, Err, Result}
use Rattle.tree.specs.Meaning.{Hash, Code}
use Rattle.records.specs.Keys.{Key}
use Rattle.records.specs.Records.{hash_number_of, code_number_of}
use Rattle.records.specs.Rules.{header_rule, open_rule}
use Rattle.records.specs.declared.kind.RecordKind.TheVariants as kind
use Rattle.records.specs.declared.refusal.Refusal.{Refusal}
use Rattle.records.specs.declared.refusal.Refusal.TheVariants.{Parameters}
use Rattle.verifier.specs.Rules.{verify_rule}
use Rattle.schemes.specs.Names.{hash_named, code_named, scheme_numbered}
use Rattle.schemes.specs.declared.scheme.Scheme.{Scheme}
use Rattle.schemes.specs.declared.unknown.UnknownScheme.{UnknownScheme}
use Rattle.orders.specs.Outcomes.{Outcomes, first_record, after_record}
use Rattle.orders.specs.declared.key.KeySummary.{KeySummary}

-- what an opened key record names, or its refusal, and the answer to each order
pub record Reported : Type 0 where
  pub key : Result KeySummary Refusal
  pub orders : List (Result ℕ Refusal)

-- the key record refused, and no order looked at
abbrev pub Refused : Refusal → Reported → Type 0
Refused e report = (report.key ≡ Err e) × (report.orders ≡ [])

-- what open answers of the key record decides: the key's numbers and height, and the answer of
-- verify to each order
abbrev pub Checked : Hash → Code → Result Key Refusal → List ℕ → Reported → Type 0
Checked hash code (Ok key) orders report =
    (report.key ≡ Ok (record { hash = hash.number; code = code.number; height = key.height }))
    × Outcomes (verify_rule hash code key) orders report.orders
Checked hash code (Err e) orders report = Refused e report

-- a key record that names a hash or code that is not known: refused as such, unless its header is
-- refused first
abbrev pub Unknown : Result (List ℕ) Refusal → Reported → Type 0
Unknown (Ok body) report = Refused Parameters report
Unknown (Err e) report = Refused e report

-- by the hash and the code that the key record names
abbrev pub CheckedBy : Result Scheme UnknownScheme → List ℕ → List ℕ → Reported → Type 0
CheckedBy (Ok scheme) key orders report =
    let hash = hash_named scheme.hash in
    let code = code_named scheme.code in
    Checked hash code (open_rule hash.number code.number code.levels key) orders report
CheckedBy (Err e) key orders report = Unknown (header_rule kind.Key key) report

-- the report of an input: a key record, then orders
abbrev pub Reports : List ℕ → Reported → Type 0
Reports input report =
    let key = first_record input in
    let scheme = scheme_numbered (hash_number_of key) (code_number_of key) in
    CheckedBy scheme key (after_record input) report

-- as much of an input as is read, in bytes
abbrev pub most_read : ℕ
most_read = 65536
