-- AES-128 as FIPS 197 defines it, section 5.1, and the tree hash that is made from it by the
-- Matyas-Meyer-Oseas construction.
use Rattle.std.specs.Prelude.{ℕ, zero, suc, List}
use Rattle.strings.specs.Strings.{xor}
use Rattle.aes128.specs.State.{add_round_key, full_round, final_round}
use Rattle.aes128.specs.Schedule.{key_of_round}

-- the state after n full rounds
unfoldable pub rounds : List ℕ → List ℕ → ℕ → List ℕ
rounds key block zero = add_round_key block (key_of_round key 0)
rounds key block (suc n) = full_round (rounds key block n) (key_of_round key (suc n))

-- the encryption of a block under a key: ten rounds, the last one final
unfoldable pub aes128_of : List ℕ → List ℕ → List ℕ
aes128_of key block = final_round (rounds key block 9) (key_of_round key 10)

-- the step: the encryption of the string under the key, exclusive or the string
abbrev pub aes_step : List ℕ → List ℕ → List ℕ
aes_step key s = xor (aes128_of key s) s

-- the pair: a step on the left string gives the key for the right one
abbrev pub aes_pair : List ℕ → List ℕ → List ℕ → List ℕ
aes_pair key left right = aes_step (aes_step key left) right
