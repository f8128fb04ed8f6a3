-- Bytes as hex digits, two to a byte, in lower case.
use Rattle.std.specs.Prelude.{ℕ, ◌+◌, ◌-◌, ◌*◌, if◌then◌else◌, ◌&&◌, List, [], ◌∷◌, length, Some}
use Rattle.std.specs.Prelude.{None, Option, ◌==◌, nat_le}

-- what a digit stands for: in ASCII 0 to 9 are 48 to 57, and a to f, for 10 to 15, 97 to 102
abbrev pub hex_digit : ℕ → Option ℕ
hex_digit c =
    if nat_le 48 c && nat_le c 57 then Some (c - 48) else
    if nat_le 97 c && nat_le c 102 then Some (c - 87) else None

-- the byte that two digits name
abbrev pub byte_of : Option ℕ → Option ℕ → Option ℕ
byte_of (Some high) (Some low) = Some (16 * high + low)
byte_of (Some high) None = None
byte_of None low = None

-- bytes after a byte, where both are there
abbrev pub onto : Option ℕ → Option (List ℕ) → Option (List ℕ)
onto (Some b) (Some bs) = Some (b ∷ bs)
onto (Some b) None = None
onto None bs = None

-- the bytes that a text names: two digits each
abbrev pub hex_bytes : List ℕ → Option (List ℕ)
hex_bytes [] = Some []
hex_bytes (a ∷ []) = None
hex_bytes (a ∷ (b ∷ rest)) = onto (byte_of (hex_digit a) (hex_digit b)) (hex_bytes rest)

-- bytes, where they are n
abbrev pub of_length : ℕ → Option (List ℕ) → Option (List ℕ)
of_length n (Some bs) = if length bs == n then Some bs else None
of_length n None = None

-- the n bytes that a text names
abbrev pub hex_of : ℕ → List ℕ → Option (List ℕ)
hex_of n text = of_length n (hex_bytes text)
