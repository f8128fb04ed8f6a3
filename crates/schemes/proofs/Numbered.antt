-- The names that numbers have.
use Rattle.std.proofs.Common.{◌≡◌, ℕ, ◌⊎◌, inl, inr, ⊎_elim, ◌↔◌, Ok, Err, is_err, IsErr, refl, sym, ap, ◌∙◌, Result, if◌then◌else◌, ◌==◌}
use Rattle.std.proofs.lemmas.Bool.{false≢true, cases_eq, eq-eqb, ne_eqb}
use Rattle.records.specs.Rules.{after}
use Rattle.schemes.specs.Names.{hash_named, code_named, hash_name, code_name, scheme_numbered, no_such, UnknownNumbers}
use Rattle.schemes.specs.declared.names.HashName.{HashName}
use Rattle.schemes.specs.declared.names.HashName.TheVariants.{Sha256, Aes128, Practice}
use Rattle.schemes.specs.declared.names.CodeName.{CodeName}
use Rattle.schemes.specs.declared.names.CodeName.TheVariants.{LamportDiffie, Winternitz2, Winternitz4}
use Rattle.schemes.specs.declared.unknown.UnknownScheme.{UnknownScheme}

hash-itself : (hash : HashName) → hash_name (hash_named hash).number ≡ Ok hash
hash-itself Sha256 = refl
hash-itself Aes128 = refl
hash-itself Practice = refl

code-itself : (code : CodeName) → code_name (code_named code).number ≡ Ok code
code-itself LamportDiffie = refl
code-itself Winternitz2 = refl
code-itself Winternitz4 = refl

pub same-code : (c d : CodeName) → (code_named c).number ≡ (code_named d).number → c ≡ d
same-code c d e =
    let ok : code_name (code_named c).number ≡ Ok c = code-itself c in
    let other : code_name (code_named c).number ≡ Ok d = ap code_name e ∙ code-itself d in
    cc

-- one of three has the number, or none has
module _ {A : Type 0} (number : A → ℕ) (x y z : A) (three : (P : A → Type 0) → P x → P y → P z → (a : A) → P a) where
  name : ℕ → Result A UnknownScheme
  name n =
      if n == number x then Ok x else
      if n == number y then Ok y else
      if n == number z then Ok z else Err no_such

  one-of-three : (n : ℕ) → ((a : A) × (name n ≡ Ok a) × (number a ≡ n)) ⊎ ((name n ≡ Err no_such) × ((a : A) → number a ≡ n → ⊥))
  unfolding name
  one-of-three n =
      elim (cases_eq n (number x)) [
        | inl e ↦ inl (x, rw (eq-eqb n (number x) e) refl, sym e)
        | inr d ↦ elim (cases_eq n (number y)) [
          | inl e ↦ inl (y, rw (ne_eqb n (number x) d, eq-eqb n (number y) e) refl, sym e)
          | inr f ↦ elim (cases_eq n (number z)) [
            | inl e ↦ inl (z, rw (ne_eqb n (number x) d, ne_eqb n (number y) f, eq-eqb n (number z) e) refl, sym e)
            | inr g ↦ inr (rw (ne_eqb n (number x) d, ne_eqb n (number y) f, ne_eqb n (number z) g) refl, three (λ a. number a ≡ n → ⊥) (λ e. d (sym e)) (λ e. f (sym e)) (λ e. g (sym e)))
          ]
        ]
      ]

hash-either : (n : ℕ) → ((hash : HashName) × (hash_name n ≡ Ok hash) × ((hash_named hash).number ≡ n)) ⊎ ((hash_name n ≡ Err no_such) × ((hash : HashName) → (hash_named hash).number ≡ n → ⊥))
unfolding name
hash-either = one-of-three (λ hash. (hash_named hash).number) Sha256 Aes128 Practice (λ P p q r. elim [ Sha256 ↦ p | Aes128 ↦ q | Practice ↦ r ])

code-either : (n : ℕ) → ((code : CodeName) × (code_name n ≡ Ok code) × ((code_named code).number ≡ n)) ⊎ ((code_name n ≡ Err no_such) × ((code : CodeName) → (code_named code).number ≡ n → ⊥))
unfolding name
code-either = one-of-three (λ code. (code_named code).number) LamportDiffie Winternitz2 Winternitz4 (λ P p q r. elim [ LamportDiffie ↦ p | Winternitz2 ↦ q | Winternitz4 ↦ r ])

named : (a b : ℕ) (hash : HashName) (code : CodeName) → hash_name a ≡ Ok hash → code_name b ≡ Ok code → scheme_numbered a b ≡ Ok (record { hash = hash; code = code })
named a b hash code h c =
    ap (λ r. after r (λ x. after (code_name b) (λ y. Ok (record { hash = x; code = y })))) h
    ∙ ap (λ r. after r (λ y. Ok (record { hash = hash; code = y }))) c

no-hash : (a b : ℕ) → hash_name a ≡ Err no_such → scheme_numbered a b ≡ Err no_such
no-hash a b h = ap (λ r. after r (λ x. after (code_name b) (λ y. Ok (record { hash = x; code = y })))) h

no-code : (a b : ℕ) (hash : HashName) → hash_name a ≡ Ok hash → code_name b ≡ Err no_such → scheme_numbered a b ≡ Err no_such
no-code a b hash h c =
    ap (λ r. after r (λ x. after (code_name b) (λ y. Ok (record { hash = x; code = y })))) h
    ∙ ap (λ r. after r (λ y. Ok (record { hash = hash; code = y }))) c

-- a hash and a code have their numbers
pub itself : (hash : HashName) (code : CodeName) → scheme_numbered (hash_named hash).number (code_named code).number ≡ Ok (record { hash = hash; code = code })
itself hash code = named (hash_named hash).number (code_named code).number hash code (hash-itself hash) (code-itself code)

-- a hash has the first number and a code the second
pub record Known (a b : ℕ) : Type 0 where
  pub hash : HashName
  pub code : CodeName
  pub hashed : (hash_named hash).number ≡ a
  pub coded : (code_named code).number ≡ b
  pub named : scheme_numbered a b ≡ Ok (record { hash = hash; code = code })

-- or no hash has, or no code
pub either : (a b : ℕ) → Known a b ⊎ ((scheme_numbered a b ≡ Err no_such) × UnknownNumbers a b)
either a b =
    ⊎_elim
    (λ h. ⊎_elim
    (λ c. inl (record { hash = h.0; code = c.0; hashed = h.2; coded = c.2; named = named a b h.0 c.0 h.1 c.1 }))
    (λ c. inr (no-code a b h.0 h.1 c.0, inr c.1))
    (code-either b))
    (λ h. inr (no-hash a b h.0, inl h.1))
    (hash-either a)

pub unknown-numbers : (a b : ℕ) → IsErr (scheme_numbered a b) ↔ UnknownNumbers a b
unknown-numbers a b =
    ⊎_elim
    (λ k. (λ e. absurd (false≢true (ap is_err (sym k.named) ∙ e)), λ u. absurd (⊎_elim (λ n. n k.hash k.hashed) (λ n. n k.code k.coded) u)))
    (λ u. (λ e. u.1, λ v. ap is_err u.0))
    (either a b)
