-- Reading words, hex digits and numbers place by place.
use Rattle.std.proofs.Common.{◌≡◌, ℕ, suc, ◌+◌, ◌-◌, ◌*◌, ◌/◌, ◌%◌, ◌<◌, ◌≤◌, Bool, true, false, not, cond, ◌==◌, nat_lt, ◌&&◌, eqb, leb, List, [], ◌∷◌, ◌++◌, length, get_or, set, take, drop, position, IfSome, Some, None, Option, MatchOption, sym, refl, ap, ◌∙◌, append_assoc, append-nil, length-append, arith}
use Rattle.std.proofs.lemmas.List.{drop_more, take_more_set, drop_all, take_all}
use Rattle.std.proofs.lemmas.Bool.{cond-true, cond-false, eq-eqb, ne_eqb, lt-leb, ltb-true, ltb-false}
use Rattle.std.specs.Bool.{then_some}
use Rattle.std.specs.List.{position_or_len}
use Rattle.std.specs.Option.{option_map}
use Rattle.scripts.specs.Ascii.{space}
use Rattle.scripts.specs.Digits.{number_from, at_most}
use Rattle.scripts.specs.Hex.{hex_digit, byte_of, onto, hex_bytes, of_length, hex_of}
use Rattle.scripts.specs.Words.{word_of, after_word, rest_after, string_word}

-- words

-- where the first space is, or the length
abbrev pub first_space : List ℕ → ℕ
first_space xs = position_or_len (λ c. c == space) xs

word-space : (xs : List ℕ) → word_of xs ≡ take (first_space xs) xs
word-space [] = refl
word-space (x ∷ xs) = turned (x == space) (first_space xs) (word-space xs)
  where
    turned : (b : Bool) (n : ℕ) → word_of xs ≡ take n xs → cond b [] (x ∷ word_of xs) ≡ take (cond (not b) (1 + n) 0) (x ∷ xs)
    turned true n e = refl
    turned false n e = let h : suc n ≡ 1 + n = omega arith in ap (λ t. x ∷ t) e ∙ ap (λ k. take k (x ∷ xs)) h

abbrev past : List ℕ → Option (List ℕ)
past [] = None
past (x ∷ xs) = Some xs

after-space : (xs : List ℕ) → after_word xs ≡ past (drop (first_space xs) xs)
after-space [] = refl
after-space (x ∷ xs) = turned (x == space) (first_space xs) (after-space xs)
  where
    turned : (b : Bool) (n : ℕ) → after_word xs ≡ past (drop n xs) → cond b (Some xs) (after_word xs) ≡ past (drop (cond (not b) (1 + n) 0) (x ∷ xs))
    turned true n e = refl
    turned false n e = let h : suc n ≡ 1 + n = omega arith in e ∙ ap (λ k. past (drop k (x ∷ xs))) h

-- the first word and what stands after it, by the place of the first space
pub word-cut : (xs : List ℕ) (r : Option ℕ) → r ≡ position (λ c. c == space) xs → MatchOption r ((xs ≡ word_of xs) × (None ≡ after_word xs)) (λ i. (take i xs ≡ word_of xs) × (Some (drop (i + 1) xs) ≡ after_word xs))
word-cut xs r is = rw is (split (nat_lt n (length xs)) refl)
  where
    n : ℕ
    n = first_space xs

    split : (b : Bool) → nat_lt n (length xs) ≡ b → MatchOption (cond b (Some n) None) ((xs ≡ word_of xs) × (None ≡ after_word xs)) (λ i. (take i xs ≡ word_of xs) × (Some (drop (i + 1) xs) ≡ after_word xs))
    split true e = (sym (word-space xs), sym (after-space xs ∙ ap past (drop_more xs n 0 (ltb-true n (length xs) e))))
    split false e =
        let all : length xs ≤ n = ltb-false n (length xs) e in
        (sym (word-space xs ∙ take_all n xs all), sym (after-space xs ∙ ap past (drop_all n xs all)))

pub string-taken : (text : Option (List ℕ)) (word : List ℕ) (rest : Option (List ℕ)) → Some word ≡ option_map word_of text → rest ≡ rest_after text → option_map (λ s. record { word = s; rest = rest }) (hex_of 16 word) ≡ string_word text
string-taken (Some t) word rest e f = let h : word ≡ word_of t = cc in rw (h, f) refl
string-taken None word rest e f = cc

-- hex digits

-- the bytes so far, before those that are left
abbrev pub following : List ℕ → Option (List ℕ) → Option (List ℕ)
following out o = option_map (λ r. out ++ r) o

onto-following : (out : List ℕ) (b : ℕ) (o : Option (List ℕ)) → following out (onto (Some b) o) ≡ following (out ++ b ∷ []) o
onto-following out b (Some r) = ap Some (sym (append_assoc out (b ∷ []) r))
onto-following out b None = refl

following-nil : (o : Option (List ℕ)) → o ≡ following [] o
following-nil (Some r) = refl
following-nil None = refl

pub hex-none : (xs : List ℕ) → hex_bytes xs ≡ following [] (hex_bytes xs)
hex-none xs = following-nil (hex_bytes xs)

hex-pair : (xs : List ℕ) → 2 ≤ length xs → hex_bytes xs ≡ onto (byte_of (hex_digit (get_or xs 0 0)) (hex_digit (get_or xs 1 0))) (hex_bytes (drop 2 xs))
hex-pair [] h = absurd (omega arith)
hex-pair (a ∷ []) h = absurd (omega arith)
hex-pair (a ∷ (b ∷ rest)) h = refl

pub hex-more : (xs out rest : List ℕ) (i b : ℕ) → i < length out → 2 ≤ length rest → byte_of (hex_digit (get_or rest 0 0)) (hex_digit (get_or rest 1 0)) ≡ Some b → hex_bytes xs ≡ following (take i out) (hex_bytes rest) → hex_bytes xs ≡ following (take (i + 1) (set out i b)) (hex_bytes (drop 2 rest))
hex-more xs out rest i b lt two is e =
    let d = hex_bytes (drop 2 rest) in
    e
    ∙ (ap (following (take i out)) (hex-pair rest two ∙ ap (λ o. onto o d) is)
    ∙ (onto-following (take i out) b d ∙ ap (λ t. following t d) (sym (take_more_set out i b lt))))

other-length : (n : ℕ) (bs : List ℕ) → (length bs ≡ n → ⊥) → of_length n (Some bs) ≡ None
other-length n bs ne = cond-false (eqb (length bs) n) (Some bs) None (ne_eqb (length bs) n ne)

more-follows : (out : List ℕ) (o : Option ℕ) (r : Option (List ℕ)) → None ≡ of_length (length out) (following out (onto o r))
more-follows out (Some b) (Some bs) = sym (other-length (length out) (out ++ b ∷ bs) (λ h. omega (arith, length-append out (b ∷ bs))))
more-follows out (Some b) None = refl
more-follows out None r = refl

none-left : (out : List ℕ) (n : ℕ) → 0 < n → option_map (λ x. out) (then_some (n == 0) (tt {0})) ≡ None
none-left out n h = ap (λ b. option_map (λ x. out) (then_some b (tt {0}))) (ne_eqb n 0 (λ e. omega arith))

pub hex-full : (xs out rest : List ℕ) (n : ℕ) → length out ≡ n → hex_bytes xs ≡ following out (hex_bytes rest) → option_map (λ x. out) (then_some (length rest == 0) (tt {0})) ≡ hex_of n xs
hex-full xs out [] n long e = sym (ap (of_length n) (e ∙ ap Some (append-nil out)) ∙ cond-true (eqb (length out) n) (Some out) None (eq-eqb (length out) n long))
hex-full xs out (a ∷ []) n long e = none-left out 1 (omega arith) ∙ sym (ap (of_length n) e)
hex-full xs out (a ∷ (b ∷ rest)) n long e =
    none-left out (length (a ∷ (b ∷ rest))) (omega arith)
    ∙ (more-follows out (byte_of (hex_digit a) (hex_digit b)) (hex_bytes rest)
    ∙ (ap (λ k. of_length k (following out (hex_bytes (a ∷ (b ∷ rest))))) long ∙ sym (ap (of_length n) e)))

sized-onto : (o : Option ℕ) (r : Option (List ℕ)) (n : ℕ) → IfSome r (λ bs. n ≡ 2 * length bs) → IfSome (onto o r) (λ bs. suc (suc n) ≡ 2 * length bs)
sized-onto (Some b) (Some bs) n e = omega arith
sized-onto (Some b) None n e = tt
sized-onto None r n e = tt

hex-sized : (xs : List ℕ) → IfSome (hex_bytes xs) (λ bs. length xs ≡ 2 * length bs)
hex-sized [] = refl
hex-sized (a ∷ []) = tt
hex-sized (a ∷ (b ∷ rest)) = sized-onto (byte_of (hex_digit a) (hex_digit b)) (hex_bytes rest) (length rest) (hex-sized rest)

half-of : (o : Option (List ℕ)) (n : ℕ) → IfSome o (λ bs. n ≡ 2 * length bs) → of_length (n / 2) o ≡ o
half-of (Some bs) n e = cond-true (eqb (length bs) (n / 2)) (Some bs) None (eq-eqb (length bs) (n / 2) (omega arith))
half-of None n e = refl

-- a text of n digits names no other number of bytes than half of n
sized-odd : (o : Option (List ℕ)) (n : ℕ) → IfSome o (λ bs. n ≡ 2 * length bs) → (n % 2 ≡ 0 → ⊥) → o ≡ None
sized-odd (Some bs) n e odd = absurd (odd (omega arith))
sized-odd None n e odd = refl

pub hex-odd : (xs : List ℕ) → (length xs % 2 ≡ 0 → ⊥) → hex_bytes xs ≡ None
hex-odd xs odd = sized-odd (hex_bytes xs) (length xs) (hex-sized xs) odd

pub hex-half : (xs : List ℕ) → hex_of (length xs / 2) xs ≡ hex_bytes xs
hex-half xs = half-of (hex_bytes xs) (length xs) (hex-sized xs)

-- numbers

none-either : (most : ℕ) (t : Bool) (o : Option ℕ) → at_most most o ≡ None → at_most most (cond t o None) ≡ None
none-either most true o e = e
none-either most false o e = refl

-- a number that is too large stays so
number-over : (most v : ℕ) (xs : List ℕ) → most < v → at_most most (number_from v xs) ≡ None
number-over most v [] over = cond-false (leb v most) (Some v) None (lt-leb v most over)
number-over most v (c ∷ rest) over = none-either most (leb 48 c && leb c 57) (number_from (10 * v + (c - 48)) rest) (number-over most (10 * v + (c - 48)) rest (omega arith))

-- so does one that the next digit makes too large
pub number-past : (most v : ℕ) (xs : List ℕ) (i : ℕ) → i < length xs → most < 10 * v + (get_or xs i 0 - 48) → None ≡ at_most most (number_from v (drop i xs))
number-past most v xs i lt over =
    let c = get_or xs i 0 in
    let rest = drop (i + 1) xs in
    sym
    (ap (λ t. at_most most (number_from v t)) (drop_more xs i 0 lt)
    ∙ none-either most (leb 48 c && leb c 57) (number_from (10 * v + (c - 48)) rest) (number-over most (10 * v + (c - 48)) rest over))
