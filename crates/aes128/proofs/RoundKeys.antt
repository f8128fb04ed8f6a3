-- The round keys: the first is the key, and each other one follows from the one before. And the rounds, one after the other.
use Rattle.std.proofs.Common.{◌≡◌, ℕ, zero, suc, ◌+◌, ◌*◌, ◌/◌, ◌%◌, false, cond, eqb, List, length, get_or, sym, refl, ap, ◌∙◌, add-one, arith}
use lib.Dec.{eqb-suc-zero}
use Rattle.std.proofs.lemmas.List.FromFn.{fill_by_all}
use Rattle.strings.specs.Strings.{xor}
use Rattle.strings.proofs.Laws.{length-xor}
use Rattle.aes128.specs.State.{full_round, add_round_key}
use Rattle.aes128.specs.Schedule.{rot_word, sub_word, rcon, temp, key_word, key_of_round}
use Rattle.aes128.specs.Cipher.{rounds}
use Rattle.aes128.specs.Pieces.{columns, chained, next_key}

length-key_word : (key : List ℕ) (i : ℕ) → length (key_word key i) ≡ 4
unfolding key_word
length-key_word key zero = refl
length-key_word key (suc zero) = refl
length-key_word key (suc (suc zero)) = refl
length-key_word key (suc (suc (suc zero))) = refl
length-key_word key (suc (suc (suc (suc i)))) = length-xor (key_word key i) _ ∙ length-key_word key i

-- word j, where i and k are four places and one place before it
new_word : (key : List ℕ) (i j k : ℕ) → i + 4 ≡ j → i + 3 ≡ k → key_word key j ≡ xor (key_word key i) (temp j (key_word key k))
unfolding key_word
new_word key i j k p q = grind arith

-- word j where j is a multiple of 4
first_word : (key : List ℕ) (i j k n : ℕ) → i + 4 ≡ j → i + 3 ≡ k → j ≡ 4 * n → key_word key j ≡ xor (key_word key i) (xor (sub_word (rot_word (key_word key k))) (rcon n))
first_word key i j k n p q e =
    let w = key_word key k in
    let rest : j % 4 ≡ 0 = omega arith in
    let quotient : j / 4 ≡ n = omega arith in
    new_word key i j k p q ∙ (λ t. xor (key_word key i) (cond (eqb (rest t) 0) (xor (sub_word (rot_word w)) (rcon (quotient t))) w))

-- and elsewhere
later-word : (key : List ℕ) (i j k m : ℕ) → i + 4 ≡ j → i + 3 ≡ k → j % 4 ≡ suc m → key_word key j ≡ xor (key_word key i) (key_word key k)
later-word key i j k m p q e =
    let w = key_word key k in
    let apart : eqb (j % 4) 0 ≡ false = ap (λ r. eqb r 0) e ∙ eqb-suc-zero m in
    new_word key i j k p q ∙ (λ t. xor (key_word key i) (cond (apart t) (xor (sub_word (rot_word w)) (rcon (j / 4))) w))

pub key_of_round-none : (key : List ℕ) → length key ≡ 16 → key_of_round key 0 ≡ key
unfolding key_of_round key_word
key_of_round-none key e = sym (fill_by_all (λ k. get_or key k 0) key 16 0 e (λ k h. refl))

key_of_round-more : (key : List ℕ) (n : ℕ) → key_of_round key (n + 1) ≡ next_key (key_of_round key n) (n + 1)
unfolding key_of_round next_key
key_of_round-more key n =
    let w : ℕ → List ℕ = λ c. key_word key (4 * n + c) in
    let old : (c : ℕ) → ◌≡◌ {A = List ℕ} _ (w c) = λ c. sym (fill_by_all (λ k. get_or (w c) k 0) (w c) 4 0 (length-key_word key (4 * n + c)) (λ k h. refl)) in
    let e₀ = first_word key (4 * n + 0) (4 * (n + 1) + 0) (4 * n + 3) (n + 1) (omega arith) (omega arith) (omega arith) in
    let e₁ = later-word key (4 * n + 1) (4 * (n + 1) + 1) (4 * (n + 1) + 0) 0 (omega arith) (omega arith) (omega arith) ∙ ap (xor (w 1)) e₀ in
    let e₂ = later-word key (4 * n + 2) (4 * (n + 1) + 2) (4 * (n + 1) + 1) 1 (omega arith) (omega arith) (omega arith) ∙ ap (xor (w 2)) e₁ in
    let e₃ = later-word key (4 * n + 3) (4 * (n + 1) + 3) (4 * (n + 1) + 2) 2 (omega arith) (omega arith) (omega arith) ∙ ap (xor (w 3)) e₂ in
    (λ t. columns (e₀ t) (e₁ t) (e₂ t) (e₃ t))
    ∙ sym (λ t. chained (xor (sub_word (rot_word (old 3 t))) (rcon (n + 1))) (old 0 t) (old 1 t) (old 2 t) (old 3 t))

-- what follows round key n is round key n + 1
pub next-key_of_round : (key k r : List ℕ) (n : ℕ) → k ≡ key_of_round key n → r ≡ next_key k (n + 1) → r ≡ key_of_round key (n + 1)
next-key_of_round key k r n p q = q ∙ ap (λ k. next_key k (n + 1)) p ∙ sym (key_of_round-more key n)

pub rounds-none : (key block : List ℕ) → rounds key block 0 ≡ add_round_key block (key_of_round key 0)
unfolding rounds
rounds-none key block = refl

pub rounds-more : (key block : List ℕ) (n : ℕ) → rounds key block (n + 1) ≡ full_round (rounds key block n) (key_of_round key (n + 1))
unfolding rounds
rounds-more key block n = ap (rounds key block) (add-one n) ∙ ap (λ m. full_round (rounds key block n) (key_of_round key m)) (sym (add-one n))
