-- The list of the answers, and the relation that determines it.
use Rattle.std.proofs.Common.{◌≡◌, ℕ, zero, suc, ◌+◌, ◌<◌, ◌≤◌, inl, inr, List, [], ◌∷◌, length, take, drop, Err, Result, sym, refl, ap, ◌∙◌, subst, arith, add-one, le_refl, length-drop}
use Rattle.std.proofs.lemmas.Bool.{eq-eqb, ne_eqb, lt-ltb, le-ltb, cases_eq, cases_lt}
use Rattle.std.proofs.lemmas.List.{nil_from_length}
use Rattle.records.specs.declared.refusal.Refusal.{Refusal}
use Rattle.records.specs.declared.refusal.Refusal.TheVariants.{Length}
use Rattle.orders.specs.Outcomes.{Outcomes, none, short, order, first_record, after_record, first_answers, answers_to}
use Rattle.orders.specs.Texts.{counted_from}

module _ (verify : List ℕ → List ℕ → Result ℕ Refusal) where
  -- no bytes have no answers
  ended : {bytes : List ℕ} {answers : List (Result ℕ Refusal)} → Outcomes verify bytes answers → length bytes ≡ 0 → answers ≡ []
  ended none e = refl
  ended (short some few) e = absurd (omega arith)
  ended (order long rest) e = absurd (omega arith)

  short-only : {bytes : List ℕ} {answers : List (Result ℕ Refusal)} → Outcomes verify bytes answers → 0 < length bytes → length bytes < 16 → answers ≡ Err Length ∷ []
  short-only none some few = absurd (omega arith)
  short-only (short s f) some few = refl
  short-only (order long rest) some few = absurd (omega arith)

  order-only : {bytes : List ℕ} {answers : List (Result ℕ Refusal)} → Outcomes verify bytes answers → 16 ≤ length bytes → (more : List (Result ℕ Refusal)) × (answers ≡ verify (take 16 bytes) (first_record (drop 16 bytes)) ∷ more) × Outcomes verify (after_record (drop 16 bytes)) more
  order-only none long = absurd (omega arith)
  order-only (short s f) long = absurd (omega arith)
  order-only (order {answers = more} l rest) long = (more, refl, rest)

  -- the answers are determined by the bytes
  pub outcomes-unique : {bytes : List ℕ} {answers : List (Result ℕ Refusal)} → Outcomes verify bytes answers → (others : List (Result ℕ Refusal)) → Outcomes verify bytes others → others ≡ answers
  outcomes-unique none others q = ended q refl
  outcomes-unique (short s f) others q = short-only q s f
  outcomes-unique (order {bytes = bytes} long rest) others q =
      let o = order-only q long in
      o.1 ∙ ap (λ more. verify (take 16 bytes) (first_record (drop 16 bytes)) ∷ more) (outcomes-unique rest o.0 o.2)

  none-listed : (most : ℕ) (bytes : List ℕ) → length bytes ≡ 0 → first_answers verify (suc most) bytes ≡ []
  unfolding first_answers
  none-listed most bytes e = rw (eq-eqb (length bytes) 0 e) refl

  short-listed : (most : ℕ) (bytes : List ℕ) → (length bytes ≡ 0 → ⊥) → length bytes < 16 → first_answers verify (suc most) bytes ≡ Err Length ∷ []
  unfolding first_answers
  short-listed most bytes some few = rw (ne_eqb (length bytes) 0 some, lt-ltb (length bytes) 16 few) refl

  order-listed : (most : ℕ) (bytes : List ℕ) → (length bytes ≡ 0 → ⊥) → 16 ≤ length bytes → first_answers verify (suc most) bytes ≡ verify (take 16 bytes) (first_record (drop 16 bytes)) ∷ first_answers verify most (after_record (drop 16 bytes))
  unfolding first_answers
  order-listed most bytes some long = rw (ne_eqb (length bytes) 0 some, le-ltb (length bytes) 16 long) refl

  fewer : (most k : ℕ) (bytes : List ℕ) → 16 ≤ length bytes → length bytes ≤ suc most → length (drop k (drop 16 bytes)) ≤ most
  fewer most k bytes long within = omega (arith, length-drop k (drop 16 bytes), length-drop 16 bytes)

  -- the list has the answers
  listed : (most : ℕ) (bytes : List ℕ) → length bytes ≤ most → Outcomes verify bytes (first_answers verify most bytes)
  unfolding first_answers
  listed zero bytes within =
      subst (λ b. Outcomes verify b []) (sym (nil_from_length bytes (omega arith))) none
  listed (suc most) bytes within = elim (cases_eq (length bytes) 0) [
    | inl e ↦ rw (none-listed most bytes e) (subst (λ b. Outcomes verify b []) (sym (nil_from_length bytes e)) none)
    | inr some ↦ elim (cases_lt (length bytes) 16) [
      | inl few ↦ rw (short-listed most bytes some few) (let more : 0 < length bytes = omega (arith, some) in short more few)
      | inr long ↦ rw (order-listed most bytes some long) (order long (listed most (after_record (drop 16 bytes)) (fewer most _ bytes long within)))
    ]
  ]

  pub all-listed : (bytes : List ℕ) → Outcomes verify bytes (answers_to verify bytes)
  all-listed bytes = listed (length bytes) bytes (le_refl (length bytes))

  -- a stamp that is cut short
  pub short-first : (bytes : List ℕ) → 0 < length bytes → length bytes < 16 → answers_to verify bytes ≡ Err Length ∷ answers_to verify []
  unfolding first_answers
  short-first bytes some few = short-only (all-listed bytes) some few

  -- a stamp, its record, and the orders after it
  pub order-first : (bytes stamp release others : List ℕ) → 16 ≤ length bytes → stamp ≡ take 16 bytes → release ≡ first_record (drop 16 bytes) → others ≡ after_record (drop 16 bytes) → (outcome : Result ℕ Refusal) → outcome ≡ verify stamp release → answers_to verify bytes ≡ outcome ∷ answers_to verify others
  order-first bytes stamp release others long s r o outcome is =
      outcomes-unique (order long (all-listed (after_record (drop 16 bytes)))) _ (all-listed bytes)
      ∙ (λ i. sym (is ∙ (λ j. verify (s j) (r j))) i ∷ answers_to verify (sym o i))

  -- no order is left
  pub none-left : (given : ℕ) (bytes : List ℕ) → length bytes ≡ 0 → counted_from (suc given) (answers_to verify bytes) ≡ []
  unfolding counted_from first_answers
  none-left given bytes e = ap (λ n. counted_from (suc given) (first_answers verify n bytes)) e

-- the next order, and those after it
pub next-first : (given : ℕ) (all others : List (Result ℕ Refusal)) (outcome : Result ℕ Refusal) → all ≡ outcome ∷ others → counted_from (suc given) all ≡ record { number = given + 1; outcome = outcome } ∷ counted_from (suc (given + 1)) others
unfolding counted_from
next-first given all others outcome e = rw add-one (ap (counted_from (suc given)) e)
