-- What trace answers and leaves, where verify refuses and where it does not.
use Rattle.std.proofs.Common.{◌≡◌, ℕ, ◌^◌, true, false, not, eqb, leb, List, length, get_or, None, Ok, Err, Option, Result, sym, ap, ◌∙◌, subst}
use Rattle.std.specs.Str.{bytes_eq}
use Rattle.std.proofs.lemmas.Bool.{cond-true, cond-false, not_from_true, not_from_false}
use Rattle.compare.specs.Found.{Found, verdict_numbers, verdict_report}
use Rattle.compare.specs.Search.{found}
use Rattle.compare.specs.declared.verdict.Verdict.{Verdict}
use Rattle.compare.proofs.Searches.{found_first, found-only}
use Rattle.tree.specs.Meaning.{Hash, Code}
use Rattle.tree.specs.Rebuilt.{rebuilt}
use Rattle.growth.specs.Grown.{parameters}
use Rattle.records.specs.declared.kind.RecordKind.TheVariants as kind
use Rattle.records.specs.Keys.{Release}
use Rattle.records.specs.Records.{release_length, leaf_of, row_of}
use Rattle.verifier.specs.Rules.{verify_rule}
use Rattle.records.specs.Rules.{after, refuse, header_rule, release_rule}
use Rattle.records.specs.declared.refusal.Refusal.{Refusal}
use Rattle.records.specs.declared.refusal.Refusal.TheVariants.{Layout, Leaf, Root}
use Rattle.records.proofs.Facts.{after-at, after-ok, passes, stops, ok_same}
use Rattle.rules.specs.Rules.{own_key, traced_by, trace_answer, report_after, trace_report, Finds}
use Rattle.rules.specs.States.{Signing}

-- what a signer reads of a record of its own: the leaf number, and the strings that follow it
pub own-shown : (count h : ℕ) (bytes : List ℕ) (shown : Release) → release_rule count h bytes ≡ Ok shown → shown ≡ record { leaf = leaf_of bytes; row = row_of bytes }
own-shown count h bytes shown is =
    let head = after-ok (header_rule kind.Release bytes) _ is in
    let long = passes (not (eqb (length bytes) (release_length count h))) Layout _ head.2 in
    let below = passes (leb (2 ^ h) (leaf_of bytes)) Leaf _ long.1 in
    ok_same (sym below.1)

module _ (hash : Hash) (code : Code) (s : Signing) (stamp bytes report : List ℕ) where
  abbrev verified : Result ℕ Refusal
  verified = verify_rule hash code (own_key hash code s) stamp bytes

  abbrev first : ℕ → Verdict
  first i = found hash code (traced_by s stamp i bytes)

  -- an answer and a report that are by the rule
  pub record ByRule (r : Result (ℕ × ℕ × ℕ) Refusal) (shown : List ℕ) : Type 0 where
    pub answers : r ≡ trace_answer hash code s stamp bytes
    pub reports : shown ≡ trace_report hash code s stamp bytes report
    pub finds : Finds hash code s stamp bytes r shown

  -- a refusal is verify's, and the report stays
  refused : (e : Refusal) → verified ≡ Err e → ByRule (Err e) report
  refused e is =
      record {
        answers = sym (ap (λ v. after v (λ i. Ok (verdict_numbers i (first i)))) is);
        reports = sym (ap (λ v. report_after v (λ i. verdict_report (first i)) report) is);
        finds = is;
      }

  -- else the verdict is that of what is found first
  decided : (i : ℕ) (v : Verdict) (numbers : ℕ × ℕ × ℕ) (shown : List ℕ) → verified ≡ Ok i → v ≡ first i → numbers ≡ verdict_numbers i v → shown ≡ verdict_report v → ByRule (Ok numbers) shown
  decided i v numbers shown is finds n r =
      let t = traced_by s stamp i bytes in
      record {
        answers = ap {B = Result (ℕ × ℕ × ℕ) Refusal} Ok (n ∙ ap (verdict_numbers i) finds) ∙ sym (ap (λ x. after x (λ j. Ok (verdict_numbers j (first j)))) is);
        reports = r ∙ ap verdict_report finds ∙ sym (ap (λ x. report_after x (λ j. verdict_report (first j)) report) is);
        finds = (
          i,
          v,
          record {
            verified = is;
            first = subst (Found hash code t) (sym finds) (found_first hash code t);
            only = λ v' f. found-only hash code t v' f ∙ sym finds;
            answers = n;
            reports = r;
          },
        );
      }

  -- what the signer reads by itself decides as verify does
  abbrev pub ReadsOwn : Type 0
  ReadsOwn =
      verified ≡ after (release_rule code.count s.origin.height bytes) (λ release. refuse (not (bytes_eq (rebuilt hash code (parameters s.origin) release.leaf stamp release.row) s.root)) Root (Ok release.leaf))

  module _ (read : ReadsOwn) where
    pub unread : (e : Refusal) → Err e ≡ release_rule code.count s.origin.height bytes → ByRule (Err e) report
    unread e is = refused e (read ∙ sym (stops (release_rule code.count s.origin.height bytes) e _ is))

    module _ (shown : Release) (is : Ok shown ≡ release_rule code.count s.origin.height bytes) (root : List ℕ) (leads : root ≡ rebuilt hash code (parameters s.origin) shown.leaf stamp shown.row) where
      tested : verified ≡ refuse (not (bytes_eq root s.root)) Root (Ok shown.leaf)
      tested = read ∙ after-at (release_rule code.count s.origin.height bytes) shown _ (sym is) ∙ ap (λ r. refuse (not (bytes_eq r s.root)) Root (Ok shown.leaf)) (sym leads)

      pub misled : bytes_eq root s.root ≡ false → ByRule (Err Root) report
      misled differ = refused Root (tested ∙ cond-true (not (bytes_eq root s.root)) _ _ (not_from_false _ differ))

      -- the strings read are those that follow the leaf number
      pub row_read : shown.row ≡ row_of bytes
      row_read = ap (λ x. x.row) (own-shown code.count s.origin.height bytes shown (sym is))

      pub led : bytes_eq root s.root ≡ true → (entered : Option (List ℕ)) (v : Verdict) (numbers : ℕ × ℕ × ℕ) (filled : List ℕ) → entered ≡ get_or s.rows shown.leaf None → v ≡ found hash code (record { origin = s.origin; entered = entered; stamp = stamp; leaf = shown.leaf; row = shown.row }) → numbers ≡ verdict_numbers shown.leaf v → filled ≡ verdict_report v → ByRule (Ok numbers) filled
      led same entered v numbers filled row finds n r =
          decided shown.leaf v numbers filled
          (tested ∙ cond-false (not (bytes_eq root s.root)) _ _ (not_from_true _ same))
          (finds ∙ (λ i. found hash code (record { origin = s.origin; entered = row i; stamp = stamp; leaf = shown.leaf; row = row_read i })))
          n r
