-- The rounds, one at a time and in groups.
use Rattle.std.proofs.Common.{◌≡◌, ℕ, zero, suc, ◌+◌, ◌*◌, ◌≤◌, List, length, take, drop, sym, refl, ap, ◌∙◌, add-zero, add-suc, add-one, drop-cons, arith}
use Rattle.std.specs.List.{fold, zip}
use Rattle.std.specs.Simd.{first_chunks}
use Rattle.std.proofs.lemmas.List.{drop-drop}
use Rattle.sha256.specs.declared.state.State.{State}
use Rattle.sha256.specs.Constants.{round_words}
use Rattle.sha256.specs.Compress.{round_at, rounds, rounds_of}

-- m rounds from round number t on, then n more from round number u on
rounds-join : (m n t u : ℕ) (s : State) (w : List ℕ) → t + m ≡ u → rounds n u (rounds m t s w) w ≡ rounds (m + n) t s w
unfolding rounds
rounds-join m zero t u s w at = ap (λ k. rounds k t s w) (sym (add-zero m))
rounds-join m (suc n) t u s w at =
    let number : u + n ≡ t + (m + n) = omega arith in
    let before = rounds-join m n t u s w at in
    (λ i. round_at (before i) (number i) w) ∙ ap (λ k. rounds k t s w) (sym (add-suc m n))

-- n rounds from round number t on are those of n constants and words
rounds-from : (n t : ℕ) (s : State) (w : List ℕ) → length w ≡ 64 → t + n ≤ 64 → rounds_of s (take n (drop t round_words)) (take n (drop t w)) ≡ rounds n t s w
unfolding rounds
rounds-from zero t s w long h = refl
rounds-from (suc n) t s w long h =
    let constants = drop-cons round_words t 0 (omega arith) in
    let words = drop-cons w t 0 (omega arith) in
    let count : 1 + n ≡ suc n = omega arith in
    let first : rounds 1 t s w ≡ round_at s t w = ap (λ k. round_at s k w) (add-zero t) in
    (λ i. rounds_of s (take (suc n) (constants i)) (take (suc n) (words i)))
    ∙ rounds-from n (suc t) (round_at s t w) w long (omega arith)
    ∙ ap (λ r. rounds n (suc t) r w) (sym first)
    ∙ rounds-join 1 n t (suc t) s w (add-one t)
    ∙ ap (λ k. rounds k t s w) count

-- n times four rounds from round number t on
pub rounds-fours : (n t : ℕ) (s : State) (w : List ℕ) → length w ≡ 64 → t + 4 * n ≤ 64 → fold (λ r p. rounds_of r p.0 p.1) s (zip (first_chunks 4 n (drop t round_words)) (first_chunks 4 n (drop t w))) ≡ rounds (4 * n) t s w
unfolding rounds
rounds-fours zero t s w long h = refl
rounds-fours (suc n) t s w long h =
    let count : 4 + 4 * n ≡ 4 * suc n = omega arith in
    let four = rounds-from 4 t s w long (omega arith) in
    let constants = drop-drop 4 t round_words in
    let words = drop-drop 4 t w in
    (λ i. fold (λ r p. rounds_of r p.0 p.1) (four i) (zip (first_chunks 4 n (constants i)) (first_chunks 4 n (words i))))
    ∙ rounds-fours n (t + 4) (rounds 4 t s w) w long (omega arith)
    ∙ rounds-join 4 (4 * n) t (t + 4) s w refl
    ∙ ap (λ k. rounds k t s w) count
