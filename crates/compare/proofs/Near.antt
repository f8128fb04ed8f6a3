-- The places above a leaf and within it, and those beside the way up from it.
use Rattle.std.proofs.Common.{◌≡◌, ℕ, zero, suc, ◌+◌, ◌-◌, ◌*◌, ◌/◌, ◌%◌, ◌^◌, ◌<◌, ◌≤◌, ◌⊎◌, sym, ap, ◌∙◌, subst, inl, inr, ⊎_elim, mod-lt, arith, pow_pos, rules}
use native.Mathlib.Nat.{div-eq_of_lt}
use Rattle.std.proofs.lemmas.Nat.{shr-shr}
use Rattle.std.proofs.lemmas.Bool.{cases_eq, cases_lt}
use Rattle.growth.specs.Shown.{sibling_of}
use Rattle.growth.proofs.Paths.{shr-none, sibling-is}

-- of a tree of height h, position b of level a is above leaf i or within it
abbrev pub Near : ℕ → ℕ → ℕ → ℕ → Type 0
Near h i a b = b / 2 ^ (a - h) ≡ i / 2 ^ (h - a)

shr_one : (n e e' : ℕ) → e + 1 ≡ e' → n / 2 ^ e / 2 ≡ n / 2 ^ e'
shr_one n e e' up = shr-shr n e 1 ∙ ap (λ k. n / 2 ^ k) up

one-shr : (n e e' : ℕ) → 1 + e ≡ e' → n / 2 / 2 ^ e ≡ n / 2 ^ e'
one-shr n e e' up = shr-shr n 1 e ∙ ap (λ k. n / 2 ^ k) up

-- a child is the left or the right one
pub child : (P : ℕ → Type 0) (c : ℕ) → P (2 * (c / 2)) → P (2 * (c / 2) + 1) → P c
child P c left right = search rules

pub sibling-half : (b : ℕ) → sibling_of b / 2 ≡ b / 2
sibling-half b = omega (arith, sibling-is b)

pub sibling-other : (b : ℕ) → sibling_of b ≡ b → ⊥
sibling-other b same = omega (arith, sibling-is b)

other-child : (b c : ℕ) → c / 2 ≡ b / 2 → (c ≡ b → ⊥) → c ≡ sibling_of b
other-child b c half ne = omega (arith, sibling-is b)

module _ (h i : ℕ) where
  -- at the root's level, the root alone
  pub root-only : i < 2 ^ h → (b : ℕ) → Near h i 0 b → b ≡ 0
  root-only lt b near = sym (shr-none b (0 - h) (omega arith)) ∙ near ∙ ap (λ e. i / 2 ^ e) (omega arith) ∙ div-eq_of_lt lt

  -- the place on the way up from the leaf, e levels above it
  pub near-way : (e : ℕ) → e ≤ h → Near h i (h - e) (i / 2 ^ e)
  near-way e le = shr-none (i / 2 ^ e) (h - e - h) (omega arith) ∙ ap (λ n. i / 2 ^ n) (omega arith)

  -- the place above a near place
  pub near_up : (a c : ℕ) → Near h i (a + 1) c → Near h i a (c / 2)
  near_up a c near =
      ⊎_elim
      (λ (high : a < h).
      let is : c ≡ i / 2 ^ (h - (a + 1)) = sym (shr-none c (a + 1 - h) (omega arith)) ∙ near in
      shr-none (c / 2) (a - h) (omega arith) ∙ ap (λ n. n / 2) is ∙ shr_one i (h - (a + 1)) (h - a) (omega arith))
      (λ (low : h ≤ a).
      one-shr c (a - h) (a + 1 - h) (omega arith) ∙ near ∙ shr-none i (h - (a + 1)) (omega arith) ∙ sym (shr-none i (h - a) (omega arith)))
      (cases_lt a h)

  -- a place below a near place is near, or beside the way up
  near_down : (a c : ℕ) → Near h i a (c / 2) → (Near h i (a + 1) c) ⊎ ((a < h) × (c ≡ sibling_of (i / 2 ^ (h - (a + 1)))))
  near_down a c near =
      ⊎_elim
      (λ (high : a < h).
      let b = i / 2 ^ (h - (a + 1)) in
      let half : c / 2 ≡ b / 2 = sym (shr-none (c / 2) (a - h) (omega arith)) ∙ near ∙ sym (shr_one i (h - (a + 1)) (h - a) (omega arith)) in
      ⊎_elim
      (λ (on : c ≡ b). inl (shr-none c (a + 1 - h) (omega arith) ∙ on))
      (λ (off : c ≡ b → ⊥). inr (high, other-child b c half off))
      (cases_eq c b))
      (λ (low : h ≤ a).
      inl (sym (one-shr c (a - h) (a + 1 - h) (omega arith)) ∙ near ∙ shr-none i (h - a) (omega arith) ∙ sym (shr-none i (h - (a + 1)) (omega arith))))
      (cases_lt a h)

  -- the places of the bottom level, l levels below the leaf
  pub near-bottom : (l k : ℕ) → k < 2 ^ l → Near h i (h + l) (i * 2 ^ l + k)
  near-bottom l k lt = search rules

  bottom-near : (l p : ℕ) → Near h i (h + l) p → i * 2 ^ l + p % 2 ^ l ≡ p
  bottom-near l p near = search rules

-- what holds beside the way up and at the bottom, and with two places of the one above them, holds below each near place
module _ (h i l : ℕ) (P : ℕ → ℕ → Type 0) (siblings : (e : ℕ) → e < h → P (h - e) (sibling_of (i / 2 ^ e))) (bottom : (k : ℕ) → k < 2 ^ l → P (h + l) (i * 2 ^ l + k)) (parent : (a b : ℕ) → a < h + l → Near h i a b → P (a + 1) (2 * b) → P (a + 1) (2 * b + 1) → P a b) where
  one-child : (a c : ℕ) → ((b : ℕ) → Near h i (a + 1) b → P (a + 1) b) → Near h i a (c / 2) → P (a + 1) c
  one-child a c below near =
      ⊎_elim (below c)
      (λ (beside : (a < h) × (c ≡ sibling_of (i / 2 ^ (h - (a + 1))))).
      let e = h - (a + 1) in
      let level : h - e ≡ a + 1 = omega (arith, beside.0) in
      subst (P (a + 1)) (sym beside.1) (subst (λ n. P n (sibling_of (i / 2 ^ e))) level (siblings e (omega (arith, beside.0)))))
      (near_down h i a c near)

  children : (a b : ℕ) → ((c : ℕ) → Near h i (a + 1) c → P (a + 1) c) → Near h i a b → P (a + 1) (2 * b) × P (a + 1) (2 * b + 1)
  children a b below near =
      let under : (c : ℕ) → c / 2 ≡ b → P (a + 1) c = λ c half. one-child a c below (subst (Near h i a) (sym half) near) in
      (under (2 * b) (omega arith), under (2 * b + 1) (omega arith))

  near-all : (d a b : ℕ) → a + d ≡ h + l → Near h i a b → P a b
  near-all zero a b at near =
      let low : h + l ≡ a = omega arith in
      let near' = subst (λ n. Near h i n b) (sym low) near in
      subst (λ n. P n b) low (subst (P (h + l)) (bottom-near h i l b near') (bottom (b % 2 ^ l) (mod-lt b (pow_pos l))))
  near-all (suc d) a b at near =
      let both = children a b (λ c. near-all d (a + 1) c (omega arith)) near in
      parent a b (omega arith) near both.0 both.1

  pub below-near : (a b : ℕ) → a < h + l → Near h i a b → P (a + 1) (2 * b) × P (a + 1) (2 * b + 1)
  below-near a b inner near = children a b (λ c. near-all (h + l - (a + 1)) (a + 1) c (omega arith)) near
