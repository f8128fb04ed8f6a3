-- The field of 256 elements of FIPS 197, section 4.2, with the modulus x^8 + x^4 + x^3 + x + 1, and
-- the substitution of bytes that is made from it, section 5.1.1. A byte is the polynomial of its
-- bits.
use Rattle.std.specs.Prelude.{ℕ, zero, suc, ◌+◌, ◌*◌, ◌/◌, ◌%◌, ◌^◌, if◌then◌else◌}
use Rattle.std.specs.Prelude.{List, [], ◌∷◌, map, ◌==◌, bit_xor}
use Rattle.std.specs.List.{range_with_len}

infixl 65 ◌⊕◌
-- the sum of two bytes, or of two bits, section 4.1: exclusive or
abbrev pub ◌⊕◌ : ℕ → ℕ → ℕ
x ⊕ y = bit_xor x y

-- a times x: where this has a bit 8, the modulus 0x11b is taken away, of which 0x1b, that is 27, is
-- left below that bit
abbrev pub times_x : ℕ → ℕ
times_x a = ((a * 2) % 256) ⊕ ((a / 128) * 27)

-- x to the power n
abbrev pub power_of_x : ℕ → ℕ
power_of_x zero = 1
power_of_x (suc n) = times_x (power_of_x n)

-- the product of the polynomial of the lowest n bits of a, and b
abbrev pub mul_bits : ℕ → ℕ → ℕ → ℕ
mul_bits zero a b = 0
mul_bits (suc n) a b =
    if a % 2 == 1 then mul_bits n (a / 2) (times_x b) ⊕ b
    else mul_bits n (a / 2) (times_x b)

-- the product of two bytes
abbrev pub mul : ℕ → ℕ → ℕ
mul a b = mul_bits 8 a b

-- the first number of a list whose product with a is 1, or 0
abbrev pub inverse_among : ℕ → List ℕ → ℕ
inverse_among a [] = 0
inverse_among a (b ∷ bs) = if mul a b == 1 then b else inverse_among a bs

-- the multiplicative inverse; that of 0 is 0
abbrev pub inverse : ℕ → ℕ
inverse a = inverse_among a (range_with_len 1 255)

-- bit i of a byte, with i modulo 8
abbrev pub bit : ℕ → ℕ → ℕ
bit b i = b / 2 ^ (i % 8) % 2

-- the number of these bits, the lowest first
abbrev pub from_bits : List ℕ → ℕ
from_bits [] = 0
from_bits (b ∷ bs) = b + 2 * from_bits bs

-- bit i of the affine map, with the constant 0x63, that is 99
abbrev pub affine_bit : ℕ → ℕ → ℕ
affine_bit b i =
    bit b i ⊕ bit b (i + 4) ⊕ bit b (i + 5) ⊕ bit b (i + 6) ⊕ bit b (i + 7) ⊕ bit 99 i

-- the affine map, bit by bit
abbrev pub affine : ℕ → ℕ
affine b = from_bits (map (affine_bit b) (range_with_len 0 8))

-- the substitute of a byte: its inverse under the affine map
unfoldable pub sub : ℕ → ℕ
sub b = affine (inverse b)
