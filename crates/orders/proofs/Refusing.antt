-- A report refuses by the lists of the key record and of the orders.
use Rattle.records.specs.declared.kind.RecordKind.TheVariants as kind
use Rattle.std.proofs.Common.{◌≡◌, ℕ, ◌<◌, ◌≤◌, false, not, eqb, inl, ⊎_elim, List, ◌∷◌, length, take, drop, Ok, Err, Result, Decides, sym, ap, ◌∙◌, subst, arith, [], is_err, IsErr, refl}
use Rattle.std.proofs.Math.ListN.{drop_of_length-le}
use Rattle.std.proofs.lemmas.Bool.{false≢true}
use Rattle.std.proofs.lemmas.Bool.Decides.{Decides-eqb, Decides-not, Decides-or, Decides-ltb}
use Rattle.tree.specs.Meaning.{Hash, Code}
use Rattle.records.specs.Causes.{Cause, cause, Refuses}
use Rattle.records.specs.Conditions.{WrongHeight, WrongKeyLength}
use Rattle.verifier.specs.Conditions.{Opening, OpenedWith}
use Rattle.records.specs.Keys.{Key}
use Rattle.records.specs.Records.{key_length, hash_number_of, code_number_of, height_of, spare_of}
use Rattle.records.specs.Refusals.{refusal_number}
use Rattle.records.specs.Rules.{after, is_foreign, has_bad_height, header_rule, open_rule}
use Rattle.verifier.specs.Rules.{verify_rule}
use Rattle.records.specs.declared.refusal.Refusal.{Refusal}
use Rattle.records.specs.declared.refusal.Refusal.TheVariants.{Length, Parameters, Height, Layout}
use Rattle.records.proofs.Causing.{refuses-none, refuses-more, refuses-after}
use Rattle.records.proofs.Facts.{open-to}
use Rattle.records.proofs.Refusing.{header-refuses}
use Rattle.verifier.proofs.Refusing.{verify-refuses}
use Rattle.schemes.specs.Names.{hash_named, code_named, scheme_numbered}
use Rattle.schemes.specs.declared.names.HashName.{HashName}
use Rattle.schemes.specs.declared.names.CodeName.{CodeName}
use Rattle.schemes.specs.declared.scheme.Scheme.{Scheme}
use Rattle.schemes.specs.declared.unknown.UnknownScheme.{UnknownScheme}
use Rattle.schemes.proofs.Numbered.{same-code, itself, either}
use Rattle.orders.specs.Conditions.{UnknownKey, WrongNamedLength, named_key_causes, order_causes, EachRefuses, OrdersRefuse, RefusesByLists}
use Rattle.orders.specs.Outcomes.{Outcomes, none, short, order, first_record, after_record}
use Rattle.orders.specs.Reports.{Reported, Checked, Unknown, CheckedBy, Reports}

-- ---- the key record

-- the first condition holds
refuses-here : {A : Type 0} (P : Type 0) (e : Refusal) (causes : List Cause) → P → Refuses {A = A} (cause (refusal_number e) P ∷ causes) (Err e)
refuses-here P e causes holds = record {
  refused = λ n. (λ is. inl (is, holds), λ first. ⊎_elim (λ here. here.0) (λ later. absurd (later.0 holds)) first);
  answered = (λ ok. absurd (false≢true ok), λ none. absurd (none.0 holds));
}

differs : (x y : ℕ) → Decides (not (eqb x y)) (x ≡ y → ⊥)
differs x y = Decides-not (eqb x y) (Decides-eqb x y)

-- open by the hash and code that the record names
open-refuses : (hash : HashName) (code : CodeName) (key : List ℕ) → (hash_named hash).number ≡ hash_number_of key → (code_named code).number ≡ code_number_of key → Refuses (named_key_causes key) (open_rule (hash_named hash).number (code_named code).number (code_named code).levels key)
open-refuses hash code key h c =
    let unlike = Decides-or _ _ (differs (hash_number_of key) (hash_named hash).number) (differs (code_number_of key) (code_named code).number) in
    let long = differs (length key) (key_length (height_of key) (code_named code).levels) in
    refuses-after _ _ (header_rule kind.Key key) _ (header-refuses kind.Key key)
    (λ body is.
    refuses-more (is_foreign (hash_named hash).number (code_named code).number key) (UnknownKey key) Parameters _ _
    (λ test. absurd (⊎_elim (λ n. n (sym h)) (λ n. n (sym c)) (unlike.0 test)), λ unknown. absurd (⊎_elim (λ n. n hash h) (λ n. n code c) unknown))
    (refuses-more (has_bad_height key) (WrongHeight key) Height _ _
    (Decides-or _ _ (Decides-ltb (height_of key) 1) (Decides-or _ _ (Decides-ltb 8 (height_of key)) (differs (spare_of key) 0)))
    (refuses-more _ (WrongNamedLength key) Layout _ _
    (λ test. (code, c, long.0 test), λ wrong. long.1 (subst (λ d. WrongKeyLength (code_named d).levels key) (same-code wrong.0 code (wrong.1 ∙ sym c)) wrong.2))
    (refuses-none _))))

checked-refuses : (hash : Hash) (code : Code) (r : Result Key Refusal) (causes : List Cause) (orders : List ℕ) (report : Reported) → Checked hash code r orders report → Refuses causes r → Refuses causes report.key
checked-refuses hash code (Ok key) causes orders report p by =
    subst (Refuses causes) (sym p.0) (record { refused = by.refused; answered = by.answered })
checked-refuses hash code (Err e) causes orders report p by =
    subst (Refuses causes) (sym p.0) (record { refused = by.refused; answered = by.answered })

unknown-like : (r : Result (List ℕ) Refusal) (causes : List Cause) (report : Reported) → Unknown r report → Refuses {A = List ℕ} causes (after r (λ body. Err Parameters)) → Refuses causes report.key
unknown-like (Ok body) causes report p by =
    subst (Refuses causes) (sym p.0) (record { refused = by.refused; answered = by.answered })
unknown-like (Err e) causes report p by =
    subst (Refuses causes) (sym p.0) (record { refused = by.refused; answered = by.answered })

unknown-refuses : (key : List ℕ) (report : Reported) → Unknown (header_rule kind.Key key) report → UnknownKey key → Refuses (named_key_causes key) report.key
unknown-refuses key report p unknown =
    unknown-like (header_rule kind.Key key) (named_key_causes key) report p
    (refuses-after _ _ (header_rule kind.Key key) _ (header-refuses kind.Key key) (λ body is. refuses-here (UnknownKey key) Parameters _ unknown))

key-refuses : (key orders : List ℕ) (report : Reported) → CheckedBy (scheme_numbered (hash_number_of key) (code_number_of key)) key orders report → Refuses (named_key_causes key) report.key
key-refuses key orders report p =
    let at = λ (s : Result Scheme UnknownScheme) (e : scheme_numbered (hash_number_of key) (code_number_of key) ≡ s). subst (λ t. CheckedBy t key orders report) e p in
    ⊎_elim
    (λ k. checked-refuses (hash_named k.hash) (code_named k.code) _ _ orders report (at _ k.named) (open-refuses k.hash k.code key k.hashed k.coded))
    (λ u. unknown-refuses key report (at _ u.0) u.1)
    (either (hash_number_of key) (code_number_of key))

-- ---- the orders

opening : Hash → Code → Opening
opening hash code =
    record { hash = hash.number; code = code.number; levels = code.levels }

-- no bytes follow a stamp that is cut short
nothing-after : (bytes : List ℕ) → length bytes < 16 → length (after_record (drop 16 bytes)) ≡ 0
nothing-after bytes few =
    let within : length bytes ≤ 16 = omega (arith, few) in
    ap (λ l. length (after_record l)) (drop_of_length-le bytes within)

each-refuses : (hash : Hash) (code : Code) (key : Key) → OpenedWith (opening hash code) key → {bytes : List ℕ} {answers : List (Result ℕ Refusal)} → Outcomes (verify_rule hash code key) bytes answers → EachRefuses (order_causes hash code key) bytes answers
unfolding opening
each-refuses hash code key opened none = refl
each-refuses hash code key opened (short {bytes = bytes} some few) =
    (some, refuses-here (length bytes < 16) Length _ few, nothing-after bytes few)
each-refuses hash code key opened (order {bytes = bytes} long rest) =
    (omega (arith, long), refuses-more false (length bytes < 16) Length _ _ (λ test. absurd (false≢true test), λ few. absurd (omega arith)) (verify-refuses hash code (opening hash code) key (take 16 bytes) (first_record (drop 16 bytes)) opened), each-refuses hash code key opened rest)

orders-refuse : (hash : HashName) (code : CodeName) (key orders : List ℕ) (report : Reported) → CheckedBy (scheme_numbered (hash_number_of key) (code_number_of key)) key orders report → OrdersRefuse (hash_named hash) (code_named code) key orders report.orders
unfolding opening
orders-refuse hash code key orders report p opened is =
    let facts = open-to (hash_named hash).number (code_named code).number (code_named code).levels key opened is in
    let scheme =
    ap (λ a. scheme_numbered a (code_number_of key)) facts.0.hashed
    ∙ (ap (scheme_numbered (hash_named hash).number) facts.0.coded ∙ itself hash code) in
    let checked = subst (λ s. CheckedBy s key orders report) scheme p in
    let answered = subst (λ r. Checked (hash_named hash) (code_named code) r orders report) is checked in
    let again = subst (λ b. open_rule (hash_named hash).number (code_named code).number (code_named code).levels b ≡ Ok opened) (sym (ap (λ k. k.bytes) facts.1)) is in
    each-refuses (hash_named hash) (code_named code) opened again answered.1

none-after : (hash : Hash) (code : Code) (r : Result Key Refusal) (orders : List ℕ) (report : Reported) → Checked hash code r orders report → IsErr report.key → report.orders ≡ []
none-after hash code (Ok key) orders report p e = absurd (false≢true (sym (ap is_err p.0) ∙ e))
none-after hash code (Err x) orders report p e = p.1

none-unknown : (r : Result (List ℕ) Refusal) (report : Reported) → Unknown r report → report.orders ≡ []
none-unknown (Ok body) report p = p.1
none-unknown (Err e) report p = p.1

no-orders : (scheme : Result Scheme UnknownScheme) (key orders : List ℕ) (report : Reported) → CheckedBy scheme key orders report → IsErr report.key → report.orders ≡ []
no-orders (Ok scheme) key orders report p e =
    let hash = hash_named scheme.hash in
    let code = code_named scheme.code in
    none-after hash code (open_rule hash.number code.number code.levels key) orders report p e
no-orders (Err u) key orders report p e = none-unknown (header_rule kind.Key key) report p

pub refuses-by-lists : (input : List ℕ) (report : Reported) → Reports input report → RefusesByLists input report
refuses-by-lists input report p = record {
  of_key = key-refuses (first_record input) (after_record input) report p;
  of_none = no-orders (scheme_numbered (hash_number_of (first_record input)) (code_number_of (first_record input))) (first_record input) (after_record input) report p;
  of_orders = λ hash code. orders-refuse hash code (first_record input) (after_record input) report p;
}
