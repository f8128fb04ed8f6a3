-- The state of FIPS 197, section 3.4, and the steps of a round. A state is a list of 16 bytes; byte
-- 4c + r stands in row r and column c.
use Rattle.std.specs.Prelude.{ℕ, ◌+◌, ◌*◌, ◌/◌, ◌%◌, List, map, slice_index}
use Rattle.std.specs.List.{range_with_len}
use Rattle.strings.specs.Strings.{xor}
use Rattle.aes128.specs.Field.{◌⊕◌, mul, sub}

-- the byte in row r and column c
abbrev pub at : List ℕ → ℕ → ℕ → ℕ
at s r c = slice_index s (4 * c + r)

-- the state with f r c in row r and column c
abbrev pub state : (ℕ → ℕ → ℕ) → List ℕ
state f = map (λ i. f (i % 4) (i / 4)) (range_with_len 0 16)

-- the word, four bytes, whose byte r is f r
abbrev pub word : (ℕ → ℕ) → List ℕ
word f = map f (range_with_len 0 4)

-- column c of a state
abbrev pub column : List ℕ → ℕ → List ℕ
column s c = word (λ r. at s r c)

-- SubBytes, section 5.1.1: each byte substituted
abbrev pub sub_bytes : List ℕ → List ℕ
sub_bytes s = state (λ r c. sub (at s r c))

-- ShiftRows, section 5.1.2: row r moves r places to the left
abbrev pub shift_rows : List ℕ → List ℕ
shift_rows s = state (λ r c. at s r ((c + r) % 4))

-- twice a, three times b, c and d in sum
abbrev pub mixed : ℕ → ℕ → ℕ → ℕ → ℕ
mixed a b c d = mul 2 a ⊕ mul 3 b ⊕ c ⊕ d

-- MixColumns, section 5.1.3: each byte from the four of its column, its own first
abbrev pub mix_columns : List ℕ → List ℕ
mix_columns s =
    state (λ r c.
    mixed (at s r c) (at s ((r + 1) % 4) c) (at s ((r + 2) % 4) c) (at s ((r + 3) % 4) c))

-- AddRoundKey, section 5.1.4
abbrev pub add_round_key : List ℕ → List ℕ → List ℕ
add_round_key s key = xor s key

-- a round before the last
unfoldable pub full_round : List ℕ → List ℕ → List ℕ
full_round s key = add_round_key (mix_columns (shift_rows (sub_bytes s))) key

-- the last round mixes no columns
unfoldable pub final_round : List ℕ → List ℕ → List ℕ
final_round s key = add_round_key (shift_rows (sub_bytes s)) key
