-- What the parts of the code give: a state by its columns, and a round key from the one before it.
use Rattle.std.specs.Prelude.{ℕ, ◌+◌, ◌%◌, List, [], ◌∷◌, slice_index, slice_index_or}
use Rattle.strings.specs.Strings.{xor}
use Rattle.aes128.specs.State.{state, word, column, mixed}
use Rattle.aes128.specs.Schedule.{rot_word, sub_word, rcon}

-- the state with the four columns
abbrev pub columns : List ℕ → List ℕ → List ℕ → List ℕ → List ℕ
columns w₀ w₁ w₂ w₃ = state (λ r c. slice_index (slice_index_or (w₀ ∷ w₁ ∷ w₂ ∷ w₃ ∷ []) c []) r)

-- a column, mixed
abbrev pub mixed_column : List ℕ → List ℕ
mixed_column w =
    word (λ r.
    let below : ℕ → ℕ = λ k. slice_index w ((r + k) % 4) in
    mixed (slice_index w r) (below 1) (below 2) (below 3))

-- each word from the one above it and the one before it
abbrev pub chained : List ℕ → List ℕ → List ℕ → List ℕ → List ℕ → List ℕ
chained before w₀ w₁ w₂ w₃ =
    let v₀ = xor w₀ before in
    let v₁ = xor w₁ v₀ in
    let v₂ = xor w₂ v₁ in
    columns v₀ v₁ v₂ (xor w₃ v₂)

-- the key of round n, from that of the round before
unfoldable pub next_key : List ℕ → ℕ → List ℕ
next_key key n =
    let before = xor (sub_word (rot_word (column key 3))) (rcon n) in
    chained before (column key 0) (column key 1) (column key 2) (column key 3)
