-- A key record, part by part.
use Rattle.std.proofs.Common.{◌≡◌, ℕ, ◌+◌, ◌-◌, ◌≤◌, List, [], ◌++◌, length, drop, refl, ap, ◌∙◌, arith}
use Rattle.std.proofs.lemmas.List.{append_assoc, length-append}
use Rattle.strings.specs.Strings.{little_endian}
use Rattle.strings.proofs.Laws.{Put, written-more}
use Rattle.records.specs.Kinds.{kind_number}
use Rattle.records.specs.Records.{framed}
use Rattle.records.specs.declared.kind.RecordKind.{RecordKind}

-- five parts written one after another, as long as those of a key record
pub five-parts : (b₀ b₁ b₂ b₃ b₄ b₅ p₁ p₂ p₃ p₄ p₅ : List ℕ) (size : ℕ) → 42 ≤ size → size ≤ length b₀ → length p₁ ≡ 6 → length p₂ ≡ 4 → length p₃ ≡ 16 → length p₄ ≡ size - 42 → length p₅ ≡ 16 → Put b₀ b₁ 0 p₁ → Put b₁ b₂ 6 p₂ → Put b₂ b₃ 10 p₃ → Put b₃ b₄ 26 p₄ → Put b₄ b₅ (26 + length p₄) p₅ → b₅ ≡ ((((p₁ ++ p₂) ++ p₃) ++ p₄) ++ p₅) ++ drop size b₀
five-parts b₀ b₁ b₂ b₃ b₄ b₅ p₁ p₂ p₃ p₄ p₅ size big room l₁ l₂ l₃ l₄ l₅ e₁ e₂ e₃ e₄ e₅ =
    let q₂ = p₁ ++ p₂ in
    let q₃ = q₂ ++ p₃ in
    let q₄ = q₃ ++ p₄ in
    let n₂ : length q₂ ≡ 10 = length-append p₁ p₂ ∙ omega arith in
    let n₃ : length q₃ ≡ 26 = length-append q₂ p₃ ∙ omega arith in
    let n₄ : length q₄ ≡ 26 + length p₄ = length-append q₃ p₄ ∙ omega arith in
    let n₅ : length (q₄ ++ p₅) ≡ size = length-append q₄ p₅ ∙ omega arith in
    let w₁ = written-more b₀ b₀ b₁ [] p₁ 0 (refl, omega arith) refl (omega arith) e₁.0 e₁.1 in
    let w₂ = written-more b₀ b₁ b₂ p₁ p₂ 6 w₁ l₁ (omega arith) e₂.0 e₂.1 in
    let w₃ = written-more b₀ b₂ b₃ q₂ p₃ 10 w₂ n₂ (omega arith) e₃.0 e₃.1 in
    let w₄ = written-more b₀ b₃ b₄ q₃ p₄ 26 w₃ n₃ (omega arith) e₄.0 e₄.1 in
    let w₅ = written-more b₀ b₄ b₅ q₄ p₅ (26 + length p₄) w₄ n₄ (omega arith) e₅.0 e₅.1 in
    w₅.0 ∙ ap (λ n. (q₄ ++ p₅) ++ drop n b₀) n₅

-- the parts of a framed record with a length, a kind and four parts of body
pub framed_is : (len kind p₃ p₄ p₅ p₆ : List ℕ) (size : ℕ) (k : RecordKind) → size ≡ 6 + length (p₃ ++ (p₄ ++ (p₅ ++ p₆))) → len ≡ little_endian 4 size → kind ≡ little_endian 2 (kind_number k) → ((((len ++ kind) ++ p₃) ++ p₄) ++ p₅) ++ p₆ ≡ framed k (p₃ ++ (p₄ ++ (p₅ ++ p₆)))
framed_is len kind p₃ p₄ p₅ p₆ size k is e₁ e₂ =
    simp append_assoc (λ i. (e₁ ∙ ap (little_endian 4) is) i ++ (e₂ i ++ (p₃ ++ (p₄ ++ (p₅ ++ p₆)))))

pub four-long : (p₃ p₄ p₅ p₆ : List ℕ) (n : ℕ) → length p₃ ≡ 4 → length p₄ ≡ 16 → length p₅ ≡ n → length p₆ ≡ 16 → 42 + n ≡ 6 + length (p₃ ++ (p₄ ++ (p₅ ++ p₆)))
four-long p₃ p₄ p₅ p₆ n l₃ l₄ l₅ l₆ = simp length-append (omega arith)
