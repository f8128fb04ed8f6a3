-- The practice hash: simple enough to follow by hand, and easy to find collisions of.
use Rattle.std.specs.Prelude.{ℕ, ◌+◌, ◌/◌, ◌%◌, List, map, bit_xor, slice_index}
use Rattle.std.specs.List.{range_with_len}

-- the string whose byte j is f j
abbrev pub bytewise : (ℕ → ℕ) → List ℕ
bytewise f = map f (range_with_len 0 16)

-- byte j of a step: half of byte j of the string, rounded down, exclusive or byte j of the key
abbrev pub step_byte : List ℕ → List ℕ → ℕ → ℕ
step_byte key s j = bit_xor (slice_index s j / 2) (slice_index key j)

-- byte j of a pair: the sum of both bytes j modulo 256, exclusive or byte j of the key
abbrev pub pair_byte : List ℕ → List ℕ → List ℕ → ℕ → ℕ
pair_byte key left right j =
    bit_xor ((slice_index left j + slice_index right j) % 256) (slice_index key j)

-- the step, of key and string
abbrev pub practice_step : List ℕ → List ℕ → List ℕ
practice_step key s = bytewise (step_byte key s)

-- the pair, of key, left string and right string
abbrev pub practice_pair : List ℕ → List ℕ → List ℕ → List ℕ
practice_pair key left right = bytewise (pair_byte key left right)
