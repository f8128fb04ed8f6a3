-- The digits of a stamp, as three codes write them.
use Rattle.std.specs.Prelude.{◌≡◌, ℕ, zero, suc, ◌+◌, ◌-◌, ◌*◌, ◌/◌, ◌%◌, ◌^◌, ◌<◌, ◌≢◌, ◌==◌}
use Rattle.std.specs.Prelude.{if◌then◌else◌, List, [], ◌∷◌, ◌++◌, map, nat_lt}
use Rattle.std.specs.Prelude.{slice_index, slice_index_or}
use Rattle.std.specs.List.{range_with_len}
use Rattle.strings.specs.Strings.{IsString}

-- the law of codes: of two different stamps, each has a digit smaller than the other's at the same
-- place
abbrev pub Apart : (List ℕ → ℕ → ℕ) → Type 0
Apart digits =
    (m n : List ℕ) → IsString m → IsString n → (m ≢ n) → (k : ℕ) × (digits m k < digits n k)

-- a width of digits: a whole number of them makes a byte, and more than one
abbrev pub IsWidth : ℕ → Type 0
IsWidth w = (w * (8 / w) ≡ 8) × (w < 8)

-- digit number j of a stamp cut into digits of w bits, from the highest bit of byte 0 on
abbrev pub bits : ℕ → List ℕ → ℕ → ℕ
bits w stamp j = slice_index stamp (w * j / 8) / 2 ^ (8 - w - w * j % 8) % 2 ^ w

-- all digits of a stamp cut into digits of w bits
unfoldable pub cut : ℕ → List ℕ → List ℕ
cut w stamp = map (bits w stamp) (range_with_len 0 (128 / w))

-- the Lamport-Diffie code: each bit, and one minus it; past them the largest digit
abbrev pub lamport_diffie : List ℕ → ℕ → ℕ
lamport_diffie stamp k =
    let bit = bits 1 stamp (k / 2) in
    if nat_lt k 256 then (if k % 2 == 0 then bit else 1 - bit) else 1

-- the checksum: what all digits of w bits lack to 2 ^ w, in sum; it falls where a digit grows
unfoldable pub checksum : ℕ → List ℕ → ℕ
checksum w [] = 0
checksum w (d ∷ ds) = 2 ^ w - d + checksum w ds

-- the n lowest digits of c in base 2 ^ w, highest first
unfoldable pub ending : ℕ → ℕ → ℕ → List ℕ
ending w zero c = []
ending w (suc n) c = (c / 2 ^ (w * n) % 2 ^ w) ∷ ending w n c

-- digits, and their checksum in n more
abbrev pub codeword : ℕ → ℕ → List ℕ → List ℕ
codeword w n ds = ds ++ ending w n (checksum w ds)

-- the Winternitz code with digits of w bits, n of them for the checksum; past them the largest
-- digit
abbrev pub winternitz : ℕ → ℕ → List ℕ → ℕ → ℕ
winternitz w n stamp k = slice_index_or (codeword w n (cut w stamp)) k (2 ^ w - 1)
