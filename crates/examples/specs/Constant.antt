-- A hash may be constant; a code may not be blind to the stamp.
use Rattle.std.specs.Prelude.{ℕ, List}
use Rattle.std.proofs.Common.{rules}
use Rattle.strings.specs.Strings.{IsString, zero_string}

-- the zero string is a string
pub constant-str : IsString zero_string
constant-str = search rules

-- the digits of a code that looks at the place alone
abbrev pub blind : (ℕ → ℕ) → List ℕ → ℕ → ℕ
blind f m k = f k
