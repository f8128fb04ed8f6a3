-- Bytes as text.
use Rattle.std.specs.Prelude.{ℕ, ◌+◌, ◌/◌, ◌%◌, if◌then◌else◌, List, [], ◌∷◌, nat_lt}
use Rattle.std.specs.List.{flat_map}

-- the digit of a number below 16: 0 to 9 stand from 48 on, a to f from 97 on
abbrev pub digit_of : ℕ → ℕ
digit_of n = if nat_lt n 10 then 48 + n else 87 + n

-- a byte as two digits, the higher one first
abbrev pub two_digits : ℕ → List ℕ
two_digits byte = digit_of (byte / 16) ∷ (digit_of (byte % 16) ∷ [])

-- bytes as hex digits, two for each, in lower case
abbrev pub hex_text : List ℕ → List ℕ
hex_text bytes = flat_map two_digits bytes
