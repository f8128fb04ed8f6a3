-- Rows of strings: one string more, how long they are, and each string.
use Rattle.std.proofs.Common.{◌≡◌, ℕ, zero, suc, ◌+◌, ◌*◌, ◌<◌, ◌≤◌, List, [], ◌∷◌, ◌++◌, length, take, sym, refl, ap, ◌∙◌, ⊎_elim, zero-add, add-one, arith}
use Rattle.std.specs.List.{range_with_len, flat_map}
use Rattle.std.proofs.lemmas.List.FromFn.{map-range_with_len_more}
use Rattle.std.proofs.lemmas.List.{length-append, map-id, flat_map_more, take_all, drop_at}
use Rattle.std.proofs.lemmas.Bool.{cases_lt}
use Rattle.strings.specs.Strings.{string_at}
use Rattle.strings.proofs.Laws.{piece-front}
use Rattle.tree.specs.Rows.{row_from}

counting-push : (k : ℕ) → range_with_len 0 (k + 1) ≡ range_with_len 0 k ++ (k ∷ [])
counting-push k = sym (map-id (range_with_len 0 (k + 1))) ∙ map-range_with_len_more (λ j. j) 0 k k (zero-add k) ∙ ap (λ l. l ++ (k ∷ [])) (map-id (range_with_len 0 k))

pub joined-push : (f : ℕ → List ℕ) (k : ℕ) → row_from f (k + 1) ≡ row_from f k ++ f k
joined-push f k = ap (flat_map f) (counting-push k) ∙ sym (flat_map_more f [] (range_with_len 0 k) k)

-- a row of n strings: its length, and each string
pub row-long : (f : ℕ → List ℕ) (n : ℕ) → ((k : ℕ) → k < n → length (f k) ≡ 16) → length (row_from f n) ≡ 16 * n
row-long f zero each = refl
row-long f (suc n) each =
    ap (λ m. length (row_from f m)) (sym (add-one n))
    ∙ ap length (joined-push f n)
    ∙ length-append (row_from f n) (f n)
    ∙ omega (arith, row-long f n (λ k h. each k (omega arith)), each n (omega arith))

pub row_at : (f : ℕ → List ℕ) (n : ℕ) → ((k : ℕ) → k < n → length (f k) ≡ 16) → (k : ℕ) → k < n → string_at (row_from f n) k ≡ f k
row_at f zero each k h = absurd (omega arith)
row_at f (suc n) each k h =
    let row = row_from f n in
    let less : (j : ℕ) → j < n → length (f j) ≡ 16 = λ j lt. each j (omega arith) in
    let long = row-long f n less in
    ap (λ m. string_at (row_from f m) k) (sym (add-one n))
    ∙ ap (λ l. string_at l k) (joined-push f n)
    ∙ ⊎_elim
    (λ (lt : k < n). piece-front 16 row (f n) (16 * k) (omega arith) ∙ row_at f n less k lt)
    (λ (le : n ≤ k).
    let is : k ≡ n = omega arith in
    ap (take 16) (drop_at row (f n) (16 * k) (omega arith))
    ∙ take_all 16 (f n) (let e = each n (omega arith) in omega arith)
    ∙ ap f (sym is))
    (cases_lt k n)
