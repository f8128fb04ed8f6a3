-- The verifier's rules refuse by their lists.
use Rattle.std.proofs.Common.{◌≡◌, ℕ, not, List, ◌∷◌, [], Ok, Decides, ◌⊎◌, inl, inr, ⊎_elim, arith, sym, ap, ◌∙◌, subst}
use Rattle.std.specs.Str.{bytes_eq}
use Rattle.std.proofs.lemmas.Bool.Decides.{Decides-not, Decides-like}
use Rattle.std.proofs.lemmas.Bool.{cases_eq}
use Rattle.std.proofs.lemmas.Slice.Eq.{bytes_eq-Decides}
use Rattle.tree.specs.Meaning.{Hash, Code}
use Rattle.records.specs.Causes.{cause, Refuses}
use Rattle.records.specs.Keys.{Key}
use Rattle.records.specs.Records.{key_length, height_of, root_of}
use Rattle.records.specs.Rules.{refuse, header_rule}
use Rattle.records.specs.declared.kind.RecordKind.TheVariants as kind
use Rattle.records.specs.declared.refusal.Refusal.TheVariants.{Parameters, Root}
use Rattle.records.proofs.Causing.{refuses-none, refuses-more, refuses-after}
use Rattle.records.proofs.Facts.{open-to}
use Rattle.records.proofs.Refusing.{header-refuses, parts-refuses}
use Rattle.verifier.specs.Conditions.{WrongRoot, Opening, OpenedWith, WrongOpening, read_causes, verify_causes}
use Rattle.verifier.specs.Rules.{suits, read_rule, root_shown, verify_rule}
use Rattle.verifier.proofs.Facts.{suited-from, suited-to, read-to}

-- a key suits a verifier with the numbers and levels that it was opened with, and no other
suits-same : (hash code levels : ℕ) (by : Opening) (key : Key) → OpenedWith by key → Decides (suits hash code levels key) ((by.hash ≡ hash) × ((by.code ≡ code) × (by.levels ≡ levels)))
suits-same hash code levels by key opened =
    let o = open-to by.hash by.code by.levels key.bytes key opened in (
      λ suits. let s = suited-to hash code levels key suits in (sym o.0.hashed ∙ s.0.hashed, (sym o.0.coded ∙ s.0.coded, omega (arith, o.0.laid, s.0.laid))),
      λ same.
          suited-from hash code levels key
          (record { headed = o.0.headed; hashed = o.0.hashed ∙ same.0; coded = o.0.coded ∙ same.1.0; tall = o.0.tall; spared = o.0.spared; laid = o.0.laid ∙ ap (key_length (height_of key.bytes)) same.1.1 })
          (sym (ap (λ k. k.height) o.1)),
    )

-- one of three numbers is another
one-differs : (a b c x y z : ℕ) → ((a ≡ x) × ((b ≡ y) × (c ≡ z)) → ⊥) → (a ≡ x → ⊥) ⊎ ((b ≡ y → ⊥) ⊎ (c ≡ z → ⊥))
one-differs a b c x y z unlike =
    ⊎_elim
    (λ same. ⊎_elim (λ alike. inr (inr (λ equal. unlike (same, (alike, equal))))) (λ other. inr (inl other)) (cases_eq b y))
    (λ other. inl other)
    (cases_eq a x)

suits-opened : (hash : ℕ) (code : Code) (by : Opening) (key : Key) → OpenedWith by key → Decides (not (suits hash code.number code.levels key)) (WrongOpening hash code by)
suits-opened hash code by key opened =
    Decides-like _ (one-differs by.hash by.code by.levels hash code.number code.levels)
    (λ other same. ⊎_elim (λ h. h same.0) (λ more. ⊎_elim (λ c. c same.1.0) (λ l. l same.1.1) more) other)
    (Decides-not _ (suits-same hash code.number code.levels by key opened))

pub read-refuses : (hash : ℕ) (code : Code) (by : Opening) (key : Key) (bytes : List ℕ) → OpenedWith by key → Refuses (read_causes hash code by key bytes) (read_rule hash code key bytes)
read-refuses hash code by key bytes opened =
    refuses-after _ _ (header_rule kind.Release bytes) _ (header-refuses kind.Release bytes)
    (λ body is.
    refuses-more _ (WrongOpening hash code by) Parameters _ _ (suits-opened hash code by key opened) (parts-refuses code.count key.height bytes))

pub verify-refuses : (hash : Hash) (code : Code) (by : Opening) (key : Key) (stamp bytes : List ℕ) → OpenedWith by key → Refuses (verify_causes hash code by key stamp bytes) (verify_rule hash code key stamp bytes)
verify-refuses hash code by key stamp bytes opened =
    refuses-after _ _ (read_rule hash.number code key bytes) _ (read-refuses hash.number code by key bytes opened)
    (λ release is.
    subst (λ r. Refuses (cause 12 (WrongRoot hash code key stamp bytes) ∷ []) (refuse (not (bytes_eq (root_shown hash code key stamp r) (root_of key.bytes))) Root (Ok r.leaf)))
    (sym (read-to hash.number code key bytes release is).1)
    (refuses-more _ (WrongRoot hash code key stamp bytes) Root _ _ (Decides-not _ (bytes_eq-Decides _ _)) (refuses-none _)))
