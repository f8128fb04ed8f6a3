-- The report of an input, and that there is no other.
use Rattle.records.specs.declared.kind.RecordKind.TheVariants as kind
use Rattle.std.proofs.Common.{◌≡◌, ℕ, List, Ok, Err, Result, sym, ap, ◌∙◌, subst}
use Rattle.tree.specs.Meaning.{Hash, Code}
use Rattle.records.specs.Keys.{Key}
use Rattle.records.specs.Records.{hash_number_of, code_number_of}
use Rattle.records.specs.Rules.{header_rule}
use Rattle.verifier.specs.Rules.{verify_rule}
use Rattle.verifier.specs.Views.{key_of}
use Rattle.verifier.specs.declared.key.OpenedKey.{OpenedKey}
use Rattle.records.specs.declared.refusal.Refusal.{Refusal}
use Rattle.schemes.specs.Names.{hash_named, code_named, scheme_numbered}
use Rattle.schemes.specs.declared.scheme.Scheme.{Scheme}
use Rattle.schemes.specs.declared.unknown.UnknownScheme.{UnknownScheme}
use Rattle.orders.specs.Openings.{Opens}
use Rattle.orders.specs.Outcomes.{Outcomes, first_record, after_record, answers_to}
use Rattle.orders.specs.Reports.{Reported, Refused, Checked, Unknown, CheckedBy, Reports}
use Rattle.orders.specs.declared.key.KeySummary.{KeySummary}
use Rattle.orders.proofs.Listed.{all-listed, outcomes-unique}

-- of a key that was opened
pub opened-checked : (hash : Hash) (code : Code) (r : Result Key Refusal) (key : OpenedKey) (summary : KeySummary) (orders : List ℕ) → Opens hash code r (Ok (key, summary)) → Checked hash code r orders (record { key = Ok summary; orders = answers_to (verify_rule hash code (key_of key)) orders })
opened-checked hash code (Ok k) key summary orders p =
    (ap Ok p.1, subst (λ o. Outcomes (verify_rule hash code o) orders (answers_to (verify_rule hash code (key_of key)) orders)) p.0 (all-listed (verify_rule hash code (key_of key)) orders))
opened-checked hash code (Err e) key summary orders p = absurd p

same : (a b : Reported) → a.key ≡ b.key → a.orders ≡ b.orders → a ≡ b
same a b k o = λ i. record { key = k i; orders = o i }

refused-only : (e : Refusal) (a b : Reported) → Refused e a → Refused e b → b ≡ a
refused-only e a b p q = same b a (q.0 ∙ sym p.0) (q.1 ∙ sym p.1)

checked-only : (hash : Hash) (code : Code) (r : Result Key Refusal) (orders : List ℕ) (a b : Reported) → Checked hash code r orders a → Checked hash code r orders b → b ≡ a
checked-only hash code (Ok key) orders a b p q =
    same b a (q.0 ∙ sym p.0) (outcomes-unique (verify_rule hash code key) p.1 b.orders q.1)
checked-only hash code (Err e) orders a b p q = refused-only e a b p q

unknown-only : (r : Result (List ℕ) Refusal) (a b : Reported) → Unknown r a → Unknown r b → b ≡ a
unknown-only (Ok body) a b p q = refused-only _ a b p q
unknown-only (Err e) a b p q = refused-only e a b p q

checked_by-only : (s : Result Scheme UnknownScheme) (key orders : List ℕ) (a b : Reported) → CheckedBy s key orders a → CheckedBy s key orders b → b ≡ a
checked_by-only (Ok scheme) key orders a b p q = checked-only (hash_named scheme.hash) (code_named scheme.code) _ orders a b p q
checked_by-only (Err e) key orders a b p q = unknown-only (header_rule kind.Key key) a b p q

-- an input has one report
pub reports-only : (input : List ℕ) (a b : Reported) → Reports input a → Reports input b → b ≡ a
reports-only input a b p q =
    let key = first_record input in
    checked_by-only (scheme_numbered (hash_number_of key) (code_number_of key)) key (after_record input) a b p q
