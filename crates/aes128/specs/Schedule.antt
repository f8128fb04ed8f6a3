-- The key expansion of FIPS 197, section 5.2, word by word. A word is a list of 4 bytes.
use Rattle.std.specs.Prelude.{ℕ, zero, suc, ◌+◌, ◌-◌, ◌*◌, ◌/◌, ◌%◌, if◌then◌else◌}
use Rattle.std.specs.Prelude.{List, [], ◌∷◌, ◌==◌, slice_index}
use Rattle.strings.specs.Strings.{xor}
use Rattle.aes128.specs.Field.{power_of_x, sub}
use Rattle.aes128.specs.State.{state, word, column}

-- RotWord: each byte moves one place to the left
abbrev pub rot_word : List ℕ → List ℕ
rot_word w = word (λ r. slice_index w ((r + 1) % 4))

-- SubWord: each byte substituted
abbrev pub sub_word : List ℕ → List ℕ
sub_word w = word (λ r. sub (slice_index w r))

-- round constant n, from 1 on
abbrev pub rcon : ℕ → List ℕ
rcon n = power_of_x (n - 1) ∷ 0 ∷ 0 ∷ 0 ∷ []

-- what is added to word i - 4 to make word i: the last word, which at each fourth place is rotated,
-- substituted and given a constant
abbrev pub temp : ℕ → List ℕ → List ℕ
temp i w = if i % 4 == 0 then xor (sub_word (rot_word w)) (rcon (i / 4)) else w

-- word i of the key schedule
unfoldable pub key_word : List ℕ → ℕ → List ℕ
key_word key zero = column key 0
key_word key (suc zero) = column key 1
key_word key (suc (suc zero)) = column key 2
key_word key (suc (suc (suc zero))) = column key 3
key_word key (suc (suc (suc (suc i)))) =
    xor (key_word key i) (temp (i + 4) (key_word key (suc (suc (suc i)))))

-- the key of round n: four words, one to a column
unfoldable pub key_of_round : List ℕ → ℕ → List ℕ
key_of_round key n = state (λ r c. slice_index (key_word key (4 * n + c)) r)
