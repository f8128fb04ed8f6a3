-- A release record, part by part.
use Rattle.std.proofs.Common.{◌≡◌, ℕ, ◌+◌, ◌*◌, ◌≤◌, List, ◌++◌, length, take, drop, sym, ap, ◌∙◌, subst, arith}
use Rattle.std.proofs.lemmas.List.{append_assoc, length-append, length-take-le}
use Rattle.strings.proofs.Laws.{Put, Written, written-more}
use Rattle.tree.specs.Rows.{row_from}
use Rattle.tree.proofs.Joining.{joined-push}

-- the front of 8 bytes and k strings, written
abbrev pub RowWritten : (ℕ → List ℕ) → List ℕ → List ℕ → ℕ → Type 0
RowWritten f b₀ b k = Written b₀ b (take 8 b₀ ++ row_from f k) × (length (row_from f k) ≡ 16 * k)

pub shown-more : (f : ℕ → List ℕ) (b₀ b b' s : List ℕ) (k : ℕ) → RowWritten f b₀ b k → 8 + 16 * (k + 1) ≤ length b₀ → s ≡ f k → length s ≡ 16 → Put b b' (8 + 16 * k) s → RowWritten f b₀ b' (k + 1)
shown-more f b₀ b b' s k w room is long wrote =
    let front = take 8 b₀ in
    let sofar = row_from f k in
    let eight : length front ≡ 8 = length-take-le 8 b₀ (omega arith) in
    let here : length (front ++ sofar) ≡ 8 + 16 * k = length-append front sofar ∙ omega (arith, w.1) in
    let next : (front ++ sofar) ++ s ≡ front ++ row_from f (k + 1) = append_assoc front sofar s ∙ ap (λ l. front ++ l) (ap (λ l. sofar ++ l) is ∙ sym (joined-push f k)) in (
      subst (Written b₀ b') next (written-more b₀ b b' (front ++ sofar) s (8 + 16 * k) w.0 here (omega arith) wrote.0 wrote.1),
      ap length (joined-push f k) ∙ length-append sofar (f k) ∙ omega (arith, w.1, ap length is),
    )

pub shown-all : (f : ℕ → List ℕ) (b₀ b : List ℕ) (k n : ℕ) → RowWritten f b₀ b k → k ≡ n → 8 ≤ length b₀ → b ≡ (take 8 b₀ ++ row_from f n) ++ drop (8 + 16 * n) b₀
shown-all f b₀ b k n w is room =
    let front = take 8 b₀ in
    let eight : length front ≡ 8 = length-take-le 8 b₀ room in
    let end : length (front ++ row_from f k) ≡ 8 + 16 * k = length-append front (row_from f k) ∙ omega (arith, w.1) in
    w.0.0
    ∙ ap (λ m. (front ++ row_from f k) ++ drop m b₀) end
    ∙ ap (λ m. (front ++ row_from f m) ++ drop (8 + 16 * m) b₀) is
