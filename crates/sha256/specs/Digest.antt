-- SHA-256 of a message of bytes, as FIPS 180-4 defines it.
use Rattle.std.specs.Prelude.{ℕ, zero, suc, ◌-◌, ◌*◌, ◌/◌, ◌%◌, ◌^◌, List, [], ◌∷◌, ◌++◌}
use Rattle.std.specs.Prelude.{reverse, length, take, drop, replicate}
use Rattle.std.specs.List.{flat_map}
use Rattle.strings.specs.Strings.{little_endian}
use Rattle.sha256.specs.declared.state.State.{State}
use Rattle.sha256.specs.Constants.{initial}
use Rattle.sha256.specs.Compress.{compress}

-- n in k bytes, big-endian
abbrev pub big_endian : ℕ → ℕ → List ℕ
big_endian k n = reverse (little_endian k n)

-- the zero bytes of the padding after n bytes: the least k with n + 1 + k + 8 a multiple of 64
abbrev pub zeros : ℕ → ℕ
zeros n = (119 - n % 64) % 64

-- what follows a message of n bytes, section 5.1.1: the byte 0x80, zeros, and the message's length
-- in bits, in 64 bits. From 2 ^ 61 bytes on the length does not fit, and FIPS 180-4 defines no
-- hash: here its low 64 bits are taken.
abbrev pub padding : ℕ → List ℕ
padding n = 0x80 ∷ (replicate (zeros n) 0 ++ big_endian 8 ((n * 8) % 2 ^ 64))

-- a message with its padding: whole blocks
abbrev pub padded : List ℕ → List ℕ
padded message = message ++ padding (length message)

-- block number i, of 64 bytes
abbrev pub block_at : List ℕ → ℕ → List ℕ
block_at bytes i = take 64 (drop (64 * i) bytes)

-- the hash value after the first n blocks
unfoldable pub hashed : ℕ → State → List ℕ → State
hashed zero s bytes = s
hashed (suc i) s bytes = compress (hashed i s bytes) (block_at bytes i)

-- the eight words of a hash value
abbrev pub state_words : State → List ℕ
state_words s = s.a ∷ s.b ∷ s.c ∷ s.d ∷ s.e ∷ s.f ∷ s.g ∷ s.h ∷ []

-- a hash value as 32 bytes
unfoldable pub digest : State → List ℕ
digest s = flat_map (big_endian 4) (state_words s)

-- the hash value after the last block of the padded message, as bytes
unfoldable pub sha256_of : List ℕ → List ℕ
sha256_of message = digest (hashed (length (padded message) / 64) initial (padded message))
