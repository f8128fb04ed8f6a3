-- Numbers as decimal digits.
use Rattle.std.specs.Prelude.{ℕ, ◌+◌, ◌-◌, ◌*◌, if◌then◌else◌, ◌&&◌, List, [], ◌∷◌, Some, None}
use Rattle.std.specs.Prelude.{Option, nat_le}

-- the number that the digits of n, and then those of a text, name; in ASCII 0 to 9 are 48 to 57
abbrev pub number_from : ℕ → List ℕ → Option ℕ
number_from n [] = Some n
number_from n (c ∷ rest) =
    if nat_le 48 c && nat_le c 57 then number_from (10 * n + (c - 48)) rest else None

-- a number, where it is no more than `most`
abbrev pub at_most : ℕ → Option ℕ → Option ℕ
at_most most (Some n) = if nat_le n most then Some n else None
at_most most None = None

-- the number that a text names: digits, one at least, and no more than `most`
abbrev pub number_rule : ℕ → List ℕ → Option ℕ
number_rule most [] = None
number_rule most (c ∷ rest) = at_most most (number_from 0 (c ∷ rest))
