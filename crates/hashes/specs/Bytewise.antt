-- What the practice hash gives, byte by byte, is a string.
use Rattle.std.specs.Prelude.{ℕ, ◌+◌, ◌/◌, ◌%◌, ◌<◌, List, slice_index, refl}
use Rattle.std.proofs.Common.{mod-lt, arith}
use Rattle.std.proofs.lemmas.Nat.{xor_lt}
use Rattle.std.specs.List.{range_with_len}
use Rattle.strings.specs.Strings.{IsString}
use Rattle.strings.proofs.Laws.{bytes-map, byte-below}
use Rattle.hashes.specs.Practice.{bytewise, step_byte, pair_byte, practice_step, practice_pair}

bytewise-str : (f : ℕ → ℕ) → ((j : ℕ) → f j < 256) → IsString (bytewise f)
bytewise-str f h = (refl, bytes-map f (range_with_len 0 16) h)

pub step-str : (k s : List ℕ) → IsString k → IsString s → IsString (practice_step k s)
step-str k s a b =
    bytewise-str (step_byte k s) (λ j.
    let byte = byte-below s j b.1 in
    xor_lt 8 (slice_index s j / 2) (slice_index k j) (omega arith) (byte-below k j a.1))

pub pair-str : (k l r : List ℕ) → IsString k → IsString l → IsString r →
    IsString (practice_pair k l r)
pair-str k l r a b c =
    bytewise-str (pair_byte k l r) (λ j.
    let sum = slice_index l j + slice_index r j in
    let small : sum % 256 < 256 = mod-lt sum (omega arith) in
    xor_lt 8 (sum % 256) (slice_index k j) small (byte-below k j a.1))
