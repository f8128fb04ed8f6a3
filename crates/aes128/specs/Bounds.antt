-- What the cipher and its hash give is a string of 16 bytes.
use Rattle.std.specs.Prelude.{ℕ, zero, suc, ◌+◌, ◌-◌, ◌*◌, ◌/◌, ◌%◌, ◌^◌, ◌<◌, ◌==◌}
use Rattle.std.specs.Prelude.{true, false, cond, List, map, slice_index, refl}
use Rattle.std.proofs.Common.{mod-lt, arith}
use Rattle.std.proofs.lemmas.Nat.{xor_lt}
use Rattle.std.specs.List.{range_with_len}
use Rattle.strings.specs.Strings.{IsBytes, IsString, xor}
use Rattle.strings.proofs.Laws.{bytes-map, byte-below, xor_bytes, xor-str}
use Rattle.aes128.specs.Field.{◌⊕◌, times_x, power_of_x, inverse, bit, from_bits, affine_bit, sub}
use Rattle.aes128.specs.State.{at, state, column, sub_bytes, shift_rows, final_round}
use Rattle.aes128.specs.Schedule.{rot_word, sub_word, rcon, temp, key_word, key_of_round}
use Rattle.aes128.specs.Cipher.{rounds, aes128_of, aes_step, aes_pair}

state-str : (f : ℕ → ℕ → ℕ) → ((r c : ℕ) → f r c < 256) → IsString (state f)
state-str f h =
    let small = λ (i : ℕ). h (i % 4) (i / 4) in
    (refl, bytes-map (λ i. f (i % 4) (i / 4)) (range_with_len 0 16) small)

times_x-below : (a : ℕ) → a < 256 → times_x a < 256
times_x-below a h =
    xor_lt 8 ((a * 2) % 256) ((a / 128) * 27) (mod-lt (a * 2) (omega arith)) (omega arith)

power_below : (n : ℕ) → power_of_x n < 256
power_below zero = omega arith
power_below (suc n) = times_x-below (power_of_x n) (power_below n)

bit_below : (b i : ℕ) → bit b i < 2
bit_below b i = mod-lt (b / 2 ^ (i % 8)) (omega arith)

affine_bit-below : (b i : ℕ) → affine_bit b i < 2
affine_bit-below b i =
    let next : (x k : ℕ) → x < 2 → x ⊕ bit b (i + k) < 2 = λ x k h.
    xor_lt 1 x (bit b (i + k)) h (bit_below b (i + k)) in
    xor_lt 1 _ (bit 99 i) (next _ 7 (next _ 6 (next _ 5 (next _ 4 (bit_below b i)))))
    (bit_below 99 i)

from_bits-below : (f : ℕ → ℕ) → ((i : ℕ) → f i < 2) →
    from_bits (map f (range_with_len 0 8)) < 256
from_bits-below f h = omega (arith, h 0, h 1, h 2, h 3, h 4, h 5, h 6, h 7)

sub-below : (b : ℕ) → sub b < 256
unfolding sub
sub-below b = from_bits-below (affine_bit (inverse b)) (affine_bit-below (inverse b))

temp-bytes : (i : ℕ) (w : List ℕ) → IsBytes w → IsBytes (temp i w)
temp-bytes i w b =
    let zeros : 0 < 256 = omega arith in
    let first = power_below (i / 4 - 1) in
    let constant : IsBytes (rcon (i / 4)) = (first, (zeros, (zeros, (zeros, tt)))) in
    let rotated = rot_word w in
    let substituted : IsBytes (sub_word rotated) =
    bytes-map _ (range_with_len 0 4) (λ r. sub-below (slice_index rotated r)) in
    elim (i % 4 == 0) as (λ t. IsBytes (cond t (xor (sub_word rotated) (rcon (i / 4))) w)) [
      | true ↦ xor_bytes (sub_word rotated) (rcon (i / 4)) substituted constant
      | false ↦ b
    ]

column-bytes : (s : List ℕ) (c : ℕ) → IsBytes s → IsBytes (column s c)
column-bytes s c b =
    bytes-map (λ r. at s r c) (range_with_len 0 4) (λ r. byte-below s (4 * c + r) b)

key_word-bytes : (key : List ℕ) → IsBytes key → (i : ℕ) → IsBytes (key_word key i)
unfolding key_word
key_word-bytes key b zero = column-bytes key 0 b
key_word-bytes key b (suc zero) = column-bytes key 1 b
key_word-bytes key b (suc (suc zero)) = column-bytes key 2 b
key_word-bytes key b (suc (suc (suc zero))) = column-bytes key 3 b
key_word-bytes key b (suc (suc (suc (suc i)))) =
    let last = key_word-bytes key b (suc (suc (suc i))) in
    xor_bytes (key_word key i) _ (key_word-bytes key b i) (temp-bytes (i + 4) _ last)

key_of_round-str : (key : List ℕ) (n : ℕ) → IsBytes key → IsString (key_of_round key n)
unfolding key_of_round
key_of_round-str key n b =
    let word : ℕ → List ℕ = λ c. key_word key (4 * n + c) in
    state-str _ (λ r c. byte-below (word c) r (key_word-bytes key b (4 * n + c)))

aes-str : (k s : List ℕ) → IsBytes k → IsString (aes128_of k s)
unfolding aes128_of final_round
aes-str k s b =
    let last = rounds k s 9 in
    let bytes = sub_bytes last in
    let substituted : IsString bytes = state-str _ (λ r c. sub-below (at last r c)) in
    let shifted : IsString (shift_rows bytes) =
    state-str _ (λ r c. byte-below bytes (4 * ((c + r) % 4) + r) substituted.1) in
    xor-str (shift_rows bytes) (key_of_round k 10) shifted (key_of_round-str k 10 b)

pub step-str : (k s : List ℕ) → IsString k → IsString s → IsString (aes_step k s)
step-str k s a b = xor-str (aes128_of k s) s (aes-str k s a.1) b

pub pair-str : (k l r : List ℕ) → IsString k → IsString l → IsString r → IsString (aes_pair k l r)
pair-str k l r a b c = step-str (aes_step k l) r (step-str k l a b) c
