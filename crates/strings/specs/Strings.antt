-- Strings of 16 bytes as lists of numbers: what the functions of this crate answer.
use Rattle.std.specs.Prelude.{◌≡◌, ℕ, ◌+◌, ◌*◌, ◌/◌, ◌%◌, ◌^◌, ◌<◌, List, [], ◌∷◌, ◌++◌}
use Rattle.std.specs.Prelude.{map, length, take, drop, replicate, bit_xor}
use Rattle.std.specs.List.{range_with_len, AllByRecursion}

-- a byte is a number below 256
abbrev pub IsBytes : List ℕ → Type 0
IsBytes s = AllByRecursion (λ b. b < 256) s

-- a string: 16 bytes
abbrev pub IsString : List ℕ → Type 0
IsString s = (length s ≡ 16) × IsBytes s

-- the string of zeros
abbrev pub zero_string : List ℕ
zero_string = replicate 16 0

-- exclusive or with a mask, byte by byte; bytes past the mask's end stay
abbrev pub xor : List ℕ → List ℕ → List ℕ
xor [] mask = []
xor (x ∷ s) [] = x ∷ s
xor (x ∷ s) (y ∷ mask) = bit_xor x y ∷ xor s mask

-- n in k bytes, little-endian: byte j is the digit of weight 256 ^ j
abbrev pub little_endian : ℕ → ℕ → List ℕ
little_endian k n = map (λ j. n / 256 ^ j % 256) (range_with_len 0 k)

-- n written as a string
unfoldable pub numeral : ℕ → List ℕ
numeral n = little_endian 16 n

-- string number i of a row of strings
abbrev pub string_at : List ℕ → ℕ → List ℕ
string_at bytes i = take 16 (drop (16 * i) bytes)

-- the row with s in place of string number i
abbrev pub put_string : List ℕ → ℕ → List ℕ → List ℕ
put_string bytes i s = take (16 * i) bytes ++ (s ++ drop (16 * i + 16) bytes)
