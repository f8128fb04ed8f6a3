-- The way from a leaf to the root, and the siblings on it.
use Rattle.std.proofs.Common.{◌≡◌, ℕ, ◌+◌, ◌-◌, ◌*◌, ◌/◌, ◌%◌, ◌^◌, ◌<◌, ◌≤◌, ap, ◌∙◌, subst, arith}
use Rattle.std.proofs.lemmas.Nat.{pow-add, shr_below}
use Rattle.std.proofs.lemmas.Bool.Decides.{nat_tests}
use Rattle.growth.specs.Shown.{sibling_of}

pub shr-none : (n e : ℕ) → e ≡ 0 → n / 2 ^ e ≡ n
shr-none n e z = ap (λ k. n / 2 ^ k) z ∙ omega arith

-- the sibling of an even place is the next one, and of an odd place the one before
pub sibling-is : (b : ℕ) → sibling_of b ≡ b + 1 - 2 * (b % 2)
sibling-is b = grind (arith, nat_tests)

-- below a leaf's level, positions halve
position-below : (h e i : ℕ) → i < 2 ^ h → e ≤ h → i / 2 ^ e < 2 ^ (h - e)
position-below h e i lt le = shr_below i (h - e) e (subst (λ n. i < 2 ^ n) (omega arith) lt)

pub sibling-below : (h e i : ℕ) → i < 2 ^ h → e < h → sibling_of (i / 2 ^ e) < 2 ^ (h - e)
sibling-below h e i lt le =
    let even : 2 ^ (h - e) ≡ 2 * 2 ^ (h - e - 1) = ap (λ n. 2 ^ n) (let s : h - e ≡ 1 + (h - e - 1) = omega arith in s) ∙ pow-add 2 1 (h - e - 1) in
    omega (arith, sibling-is (i / 2 ^ e), position-below h e i lt (omega arith))
