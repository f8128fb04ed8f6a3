-- The characters that part a line, in ASCII.
use Rattle.std.specs.Prelude.{ℕ}

-- between two words
abbrev pub space : ℕ
space = 32

-- a line that begins with it, #, asks for nothing
abbrev pub number_sign : ℕ
number_sign = 35
