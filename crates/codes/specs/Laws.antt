-- The digits of numbers, of stamps and of codewords.
use Rattle.std.specs.Prelude.{◌≡◌, ℕ, zero, suc, ◌+◌, ◌-◌, ◌*◌, ◌/◌, ◌%◌, ◌^◌, ◌<◌, ◌≤◌, ◌≢◌}
use Rattle.std.specs.Prelude.{◌⊎◌, List, [], ◌∷◌, ◌++◌, length, get_or, drop}
use Rattle.std.specs.Prelude.{slice_index, slice_index_or, refl}
use Rattle.std.proofs.Common.{sym, ap, ◌∙◌, inl, inr, ⊎_elim, mod-eq_of_lt, le_of_suc-le-suc}
use Rattle.std.proofs.Common.{mul-zero, mul-suc, zero-mul, zero-add, mul-le-mul_left, arith, lit<}
use Rattle.std.proofs.Math.Nat.{mod-one, mul-div_right, mul-sub}
use Rattle.std.specs.List.{AllByRecursion}
use Rattle.std.proofs.lemmas.Nat.{mod-pow-add, pow_pos, mod_below, div_below, le-div, mul-le}
use Rattle.std.proofs.lemmas.Nat.{mul-add-lt, div-add-mod', pow_below}
use Rattle.std.proofs.lemmas.List.{length-append, get_or_append_left, get_or-append_right}
use Rattle.std.proofs.lemmas.List.{get_or-append-add, get_or_past, ext_get_or}
use Rattle.std.proofs.lemmas.List.{at_drop_more, at_drop_all}
use Rattle.std.proofs.ByRecursion.{All-get_or, All-append, All-from_get_or}
use Rattle.std.proofs.lemmas.Bool.{cases_lt, cases_eq, cases_order, cond-true, cond-false}
use Rattle.std.proofs.lemmas.Bool.{lt-ltb, eq-eqb, ne_eqb}
use Rattle.std.proofs.lemmas.List.FromFn.{length-map-range_with_len, get_or-map-range_with_len}
use Rattle.strings.specs.Strings.{IsString}
use Rattle.codes.specs.Codes.{IsWidth, bits, cut, lamport_diffie, checksum, ending, codeword}
use Rattle.codes.specs.Codes.{winternitz}

-- xs has a digit that is smaller than the one of ys at the same place; d stands past the ends
abbrev pub Smaller : ℕ → List ℕ → List ℕ → Type 0
Smaller d xs ys = (k : ℕ) × (k < length xs) × (slice_index_or xs k d < slice_index_or ys k d)

smaller-left : (d : ℕ) (xs ys us vs : List ℕ) → length xs ≡ length ys → Smaller d xs ys →
    Smaller d (xs ++ us) (ys ++ vs)
smaller-left d xs ys us vs e f =
    let k = f.0 in
    let here = get_or_append_left xs us d k f.1 in
    let there = get_or_append_left ys vs d k (omega (arith, f.1)) in
    (k, omega (arith, f.1, length-append xs us), omega (arith, f.2, here, there))

smaller-right : (d : ℕ) (xs ys us vs : List ℕ) → length xs ≡ length ys → Smaller d us vs →
    Smaller d (xs ++ us) (ys ++ vs)
smaller-right d xs ys us vs e f =
    let k = f.0 in
    let here = get_or-append-add xs us k d in
    let there : get_or (ys ++ vs) (length xs + k) d ≡ get_or vs k d =
    ap (λ t. get_or (ys ++ vs) (t + k) d) e ∙ get_or-append-add ys vs k d in
    (length xs + k, omega (arith, f.1, length-append xs us), omega (arith, f.2, here, there))

-- ending digits

pub length-ending : (w n c : ℕ) → length (ending w n c) ≡ n
unfolding ending
length-ending w zero c = refl
length-ending w (suc n) c = ap suc (length-ending w n c)

-- the last digit has weight 1
pub get_or-ending : (w n c i d : ℕ) → i < n →
    slice_index_or (ending w n c) i d ≡ c / 2 ^ (w * (n - 1 - i)) % 2 ^ w
unfolding ending
get_or-ending w zero c i d h = absurd (omega arith)
get_or-ending w (suc n) c zero d h = ap (λ t. c / 2 ^ (w * t) % 2 ^ w) (omega arith)
get_or-ending w (suc n) c (suc i) d h =
    get_or-ending w n c i d (le_of_suc-le-suc h) ∙ ap (λ t. c / 2 ^ (w * t) % 2 ^ w) (omega arith)

pub ending-below : (w n c : ℕ) → AllByRecursion (λ x. x < 2 ^ w) (ending w n c)
unfolding ending
ending-below w zero c = tt
ending-below w (suc n) c = (mod_below (c / 2 ^ (w * n)) (2 ^ w) (pow_pos w), ending-below w n c)

-- of two numbers the smaller has a smaller digit
pub ending-smaller : (w n a b d : ℕ) → a % 2 ^ (w * n) < b % 2 ^ (w * n) →
    Smaller d (ending w n a) (ending w n b)
unfolding ending
ending-smaller w zero a b d h =
    let one : 2 ^ (w * 0) ≡ 1 = ap (λ t. 2 ^ t) (mul-zero w) in
    absurd (omega (arith, mod-one a, mod-one b, rw one at h))
ending-smaller w (suc n) a b d h =
    let k = 2 ^ (w * n) in
    let x = a / k % 2 ^ w in
    let y = b / k % 2 ^ w in
    let split : (c : ℕ) → c % 2 ^ (w * suc n) ≡ (c / k % 2 ^ w) * k + c % k = λ c.
    ap (λ t. c % 2 ^ t) (omega (arith, mul-suc w n)) ∙ mod-pow-add c w (w * n) in
    let low : b % k < k = mod_below b k (pow_pos (w * n)) in
    ⊎_elim
    (λ (e : x ≡ y).
    let f = ending-smaller w n a b d (omega (arith, split a, split b, ap (λ t. t * k) e)) in
    (suc f.0, omega (arith, f.1), f.2))
    (⊎_elim
    (λ (lt : x < y). (0, omega arith, lt))
    (λ (gt : y < x). absurd (omega (arith, split a, split b, mul-add-lt y k (b % k) x gt low))))
    (cases_order x y)

-- a number is not less than another one of the same digits
not-less : (w n a b : ℕ) → a < 2 ^ (w * n) → b < 2 ^ (w * n) →
    ending w n a ≡ ending w n b → b ≤ a
not-less w n a b ha hb e =
    ⊎_elim
    (λ (lt : a < b).
    let f = ending-smaller w n a b 0 (omega (arith, mod-eq_of_lt ha, mod-eq_of_lt hb)) in
    absurd (omega (arith, f.2, ap (λ l. slice_index l f.0) e)))
    (λ le. le)
    (cases_lt a b)

-- a number is known by its digits
pub ending-injective : (w n a b : ℕ) → a < 2 ^ (w * n) → b < 2 ^ (w * n) →
    ending w n a ≡ ending w n b → a ≡ b
ending-injective w n a b ha hb e =
    omega (arith, not-less w n a b ha hb e, not-less w n b a hb ha (sym e))

-- checksums

pub checksum-le : (w : ℕ) (ds : List ℕ) → checksum w ds ≤ length ds * 2 ^ w
unfolding checksum
checksum-le w [] = omega arith
checksum-le w (d ∷ ds) = omega (arith, checksum-le w ds)

-- Of two lists of digits the first has a smaller digit, or they are the same, or the first has a
-- smaller checksum.
pub compared : (w d : ℕ) (xs ys : List ℕ) → length xs ≡ length ys →
    AllByRecursion (λ x. x < 2 ^ w) xs →
    Smaller d xs ys ⊎ ((xs ≡ ys) ⊎ (checksum w xs < checksum w ys))
unfolding checksum
compared w d [] [] e a = inr (inl refl)
compared w d [] (y ∷ ys) e a = absurd (omega arith)
compared w d (x ∷ xs) [] e a = absurd (omega arith)
compared w d (x ∷ xs) (y ∷ ys) e a =
    let room : x < 2 ^ w = a.0 in
    ⊎_elim
    (λ (lt : x < y). inl (0, omega arith, lt))
    (λ (ge : y ≤ x).
    ⊎_elim
    (λ f. inl (suc f.0, omega (arith, f.1), f.2))
    (⊎_elim
    (λ (s : xs ≡ ys).
    ⊎_elim
    (λ (t : x ≡ y). inr (inl (λ i. t i ∷ s i)))
    (λ (ne : x ≡ y → ⊥). inr (inr (omega (arith, ap (checksum w) s))))
    (cases_eq x y))
    (λ (lt : checksum w xs < checksum w ys). inr (inr (omega arith))))
    (compared w d xs ys (omega arith) a.1))
    (cases_lt x y)

-- Of two different lists of digits, each has a digit in its codeword that is smaller than the
-- other's.
pub codeword-smaller : (w n d : ℕ) (xs ys : List ℕ) → length xs ≡ length ys →
    AllByRecursion (λ x. x < 2 ^ w) xs → checksum w xs < 2 ^ (w * n) →
    checksum w ys < 2 ^ (w * n) → (xs ≢ ys) →
    Smaller d (codeword w n xs) (codeword w n ys)
codeword-smaller w n d xs ys e a hx hy ne =
    ⊎_elim
    (smaller-left d xs ys _ _ e)
    (⊎_elim
    (λ s. absurd (ne s))
    (λ (lt : checksum w xs < checksum w ys).
    let here = mod-eq_of_lt hx in
    let there = mod-eq_of_lt hy in
    smaller-right d xs ys _ _ e
    (ending-smaller w n (checksum w xs) (checksum w ys) d (omega (arith, here, there)))))
    (compared w d xs ys e a)

-- stamps cut into digits

pub length_cut : (w : ℕ) (m : List ℕ) → length (cut w m) ≡ 128 / w
unfolding cut
length_cut w m = length-map-range_with_len (bits w m) 0 (128 / w)

cut-lengths : (w : ℕ) (m n : List ℕ) → length (cut w m) ≡ length (cut w n)
cut-lengths w m n = length_cut w m ∙ sym (length_cut w n)

pub get_or-cut : (w : ℕ) (m : List ℕ) (k d : ℕ) → k < 128 / w →
    slice_index_or (cut w m) k d ≡ bits w m k
unfolding cut
get_or-cut w m k d h = get_or-map-range_with_len (bits w m) 0 (128 / w) k k d h (zero-add k)

pub cut_below : (w : ℕ) (m : List ℕ) → AllByRecursion (λ x. x < 2 ^ w) (cut w m)
cut_below w m =
    All-from_get_or (λ x. x < 2 ^ w) (cut w m) 0 (λ i h.
    let in' : i < 128 / w = omega (arith, length_cut w m) in
    rw get_or-cut (mod_below _ (2 ^ w) (pow_pos w)))

width-pos : (w : ℕ) → IsWidth w → 0 < w
width-pos zero v = absurd (omega (arith, zero-mul (8 / 0), v.0))
width-pos (suc w) v = omega arith

pub digit-count : (w : ℕ) → IsWidth w → 128 / w ≡ 16 * (8 / w)
digit-count w v =
    let all : 128 ≡ w * (16 * (8 / w)) = omega (arith, v.0) in
    ap (λ t. t / w) all ∙ mul-div_right (16 * (8 / w)) (width-pos w v)

-- where digit b of byte a begins, and that it ends in that byte
begins : (w a b : ℕ) → IsWidth w → b < 8 / w →
    (w * (a * (8 / w) + b) ≡ 8 * a + w * b) × (w * b + w ≤ 8)
begins w a b v h =
    let ends : w * b + w ≤ 8 = omega (arith, v.0, mul-le-mul_left w h, mul-suc w b) in
    (omega (arith, ap (λ t. a * t) v.0), ends)

-- where the bits of a digit stand: in one byte of the stamp
pub in-stamp : (w j : ℕ) → IsWidth w → j < 128 / w → (w * j / 8 < 16) × (w * j % 8 + w ≤ 8)
in-stamp w j v h =
    let q = 8 / w in
    let some : 0 < q = le-div 1 8 w (width-pos w v) (omega (arith, v.1)) in
    let a = j / q in
    let b = j % q in
    let from = begins w a b v (mod_below j q some) in
    let byte : a < 16 = div_below j q 16 some (omega (arith, h, digit-count w v)) in
    let at : w * j ≡ 8 * a + w * b = ap (λ t. w * t) (sym (div-add-mod' j q)) ∙ from.0 in
    let wide = width-pos w v in
    (omega (arith, at, from.1), omega (arith, at, from.1))

-- digit b of byte a of a stamp is digit b of that byte
bits-in-byte : (w a b d : ℕ) (m : List ℕ) → IsWidth w → b < 8 / w →
    bits w m (a * (8 / w) + b) ≡ slice_index_or (ending w (8 / w) (slice_index m a)) b d
bits-in-byte w a b d m v h =
    let q = 8 / w in
    let from = begins w a b v h in
    let wide = width-pos w v in
    let byte : w * (a * q + b) / 8 ≡ a = omega (arith, from.0, from.1) in
    let shift : 8 - w - w * (a * q + b) % 8 ≡ w * (q - 1 - b) =
    omega (arith, v.0, from.0, from.1, mul-sub w (q - 1) b, mul-sub w q 1) in
    (λ i. slice_index m (byte i) / 2 ^ shift i % 2 ^ w)
    ∙ sym (get_or-ending w q (slice_index m a) b d h)

-- and so is the digit at its place in the cut stamp
digit-in-byte : (w a b : ℕ) (m : List ℕ) → IsWidth w → a < 16 → b < 8 / w →
    slice_index (cut w m) (a * (8 / w) + b) ≡ slice_index (ending w (8 / w) (slice_index m a)) b
digit-in-byte w a b m v h g =
    let q = 8 / w in
    let within : a * q + b < 128 / w = omega (arith, digit-count w v, mul-add-lt a q b 16 h g) in
    get_or-cut w m (a * q + b) 0 within ∙ bits-in-byte w a b 0 m v g

-- the digits of a byte are those of the cut stamp
same-endings : (w : ℕ) → IsWidth w → (m n : List ℕ) → cut w m ≡ cut w n → (a : ℕ) → a < 16 →
    ending w (8 / w) (slice_index m a) ≡ ending w (8 / w) (slice_index n a)
same-endings w v m n e a h =
    let q = 8 / w in
    let long : (c : ℕ) → length (ending w q c) ≡ q = length-ending w q in
    ext_get_or 0 _ _ (long _ ∙ sym (long _)) (λ b g.
    let within : b < q = omega (arith, g, long (slice_index m a)) in
    sym (digit-in-byte w a b m v h within)
    ∙ ap (λ l. slice_index l (a * q + b)) e
    ∙ digit-in-byte w a b n v h within)

-- a stamp is known by its digits
pub cut-injective : (w : ℕ) → IsWidth w → (m n : List ℕ) → IsString m → IsString n →
    cut w m ≡ cut w n → m ≡ n
cut-injective w v m n sm sn e =
    let q = 8 / w in
    let small : (l : List ℕ) (a : ℕ) → IsString l → a < 16 → slice_index l a < 2 ^ (w * q) =
    λ l a s h. rw v.0 (All-get_or (λ z. z < 256) l a 0 (omega (arith, s.0)) s.1) in
    ext_get_or 0 m n (sm.0 ∙ sym sn.0) (λ a h.
    let within : a < 16 = omega (arith, sm.0) in
    ending-injective w q (slice_index m a) (slice_index n a) (small m a sm within)
    (small n a sn within)
    (same-endings w v m n e a within))

pub checksum-more : (w : ℕ) (m : List ℕ) (j : ℕ) → j < 128 / w →
    checksum w (drop j (cut w m)) ≡ 2 ^ w - bits w m j + checksum w (drop (j + 1) (cut w m))
unfolding checksum
checksum-more w m j h =
    at_drop_more (checksum w) (cut w m) j 0 (omega (arith, length_cut w m))
    ∙ ap (λ t. 2 ^ w - t + checksum w (drop (j + 1) (cut w m))) (get_or-cut w m j 0 h)

pub checksum-end : (w : ℕ) (m : List ℕ) (j : ℕ) → 128 / w ≤ j →
    checksum w (drop j (cut w m)) ≡ 0
unfolding checksum
checksum-end w m j h = at_drop_all (checksum w) (cut w m) j (omega (arith, length_cut w m))

pub checksum-fits : (w : ℕ) (m : List ℕ) → IsWidth w → checksum w (cut w m) < 2 ^ 16
checksum-fits w m v =
    let ds = cut w m in
    let some = mul-le 1 (8 / w) w (8 / w) (width-pos w v) (omega arith) in
    let few : length ds ≤ 128 = omega (arith, length_cut w m, digit-count w v, some, v.0) in
    let power : 2 ^ w < 2 ^ 8 = pow_below w 8 v.1 in
    omega (arith, checksum-le w ds, mul-le (length ds) (2 ^ w) 128 256 few (omega arith))

-- the Winternitz codes

pub winternitz-front : (w n : ℕ) (m : List ℕ) (k : ℕ) → k < 128 / w →
    winternitz w n m k ≡ bits w m k
winternitz-front w n m k h =
    let ds = cut w m in
    let d = 2 ^ w - 1 in
    let within : k < length ds = omega (arith, length_cut w m) in
    get_or_append_left ds (ending w n (checksum w ds)) d k within ∙ get_or-cut w m k d h

pub winternitz-end : (w n : ℕ) (m : List ℕ) (k : ℕ) → 128 / w ≤ k → k - 128 / w < n →
    winternitz w n m k ≡ checksum w (cut w m) / 2 ^ (w * (n - 1 - (k - 128 / w))) % 2 ^ w
winternitz-end w n m k h g =
    let ds = cut w m in
    let c = checksum w ds in
    let d = 2 ^ w - 1 in
    get_or-append_right ds (ending w n c) (128 / w) k d (length_cut w m) h
    ∙ get_or-ending w n c (k - 128 / w) d g

pub winternitz-within : (w n : ℕ) (m : List ℕ) (k : ℕ) → winternitz w n m k ≤ 2 ^ w - 1
winternitz-within w n m k =
    let ds = cut w m in
    let word = codeword w n ds in
    let d = 2 ^ w - 1 in
    let ends = ending-below w n (checksum w ds) in
    let small : AllByRecursion (λ x. x < 2 ^ w) word =
    All-append (λ x. x < 2 ^ w) ds _ (cut_below w m) ends in
    ⊎_elim
    (λ (lt : k < length word). omega (arith, All-get_or (λ x. x < 2 ^ w) word k d lt small))
    (λ (le : length word ≤ k). omega (arith, get_or_past word k d le))
    (cases_lt k (length word))

pub winternitz-past : (w n : ℕ) (m : List ℕ) (k : ℕ) → 128 / w + n ≤ k →
    winternitz w n m k ≡ 2 ^ w - 1
winternitz-past w n m k h =
    let ds = cut w m in
    let c = checksum w ds in
    let word = codeword w n ds in
    let long = length-append ds (ending w n c) in
    let past : length word ≤ k = omega (arith, long, length_cut w m, length-ending w n c) in
    get_or_past word k (2 ^ w - 1) past

pub winternitz-apart : (w n : ℕ) → IsWidth w → 128 / w * 2 ^ w < 2 ^ (w * n) →
    (m m' : List ℕ) → IsString m → IsString m' → (m ≢ m') →
    (k : ℕ) × (winternitz w n m k < winternitz w n m' k)
winternitz-apart w n v room m m' s s' ne =
    let ds = cut w m in
    let ds' = cut w m' in
    let long = cut-lengths w m m' in
    let fits : (l : List ℕ) → checksum w (cut w l) < 2 ^ (w * n) = λ l.
    let width = ap (λ t. t * 2 ^ w) (length_cut w l) in
    omega (arith, room, checksum-le w (cut w l), width) in
    let differ : ds ≢ ds' = λ e. ne (cut-injective w v m m' s s' e) in
    let d = 2 ^ w - 1 in
    let f = codeword-smaller w n d ds ds' long (cut_below w m) (fits m) (fits m') differ in
    (f.0, f.2)

-- the Lamport-Diffie code

even-digit : (m : List ℕ) (j : ℕ) → j < 128 → lamport_diffie m (2 * j) ≡ bits 1 m j
even-digit m j h =
    cond-true _ _ _ (lt-ltb (2 * j) 256 (omega arith))
    ∙ cond-true _ _ _ (eq-eqb (2 * j % 2) 0 (omega arith))
    ∙ ap (bits 1 m) (omega arith)

odd-digit : (m : List ℕ) (j : ℕ) → j < 128 → lamport_diffie m (2 * j + 1) ≡ 1 - bits 1 m j
odd-digit m j h =
    cond-true _ _ _ (lt-ltb (2 * j + 1) 256 (omega arith))
    ∙ cond-false _ _ _ (ne_eqb ((2 * j + 1) % 2) 0 (omega arith))
    ∙ ap (λ t. 1 - bits 1 m t) (omega arith)

-- of two different stamps the first has a smaller bit, or the smaller checksum
bit-smaller : (m n : List ℕ) → (cut 1 m ≢ cut 1 n) →
    ((j : ℕ) × (j < 128) × (bits 1 m j < bits 1 n j))
    ⊎ (checksum 1 (cut 1 m) < checksum 1 (cut 1 n))
bit-smaller m n ne =
    ⊎_elim
    (λ f.
    let j = f.0 in
    let h : j < 128 = omega (arith, f.1, length_cut 1 m) in
    inl (j, h, omega (arith, f.2, get_or-cut 1 m j 0 h, get_or-cut 1 n j 0 h)))
    (⊎_elim (λ s. absurd (ne s)) inr)
    (compared 1 0 (cut 1 m) (cut 1 n) (cut-lengths 1 m n) (cut_below 1 m))

pub lamport_diffie-apart : (m n : List ℕ) → IsString m → IsString n → (m ≢ n) →
    (k : ℕ) × (lamport_diffie m k < lamport_diffie n k)
lamport_diffie-apart m n sm sn ne =
    let differ : cut 1 m ≡ cut 1 n → ⊥ = λ e. ne (cut-injective 1 (refl, lit< tt) m n sm sn e) in
    ⊎_elim
    (λ f. (2 * f.0, omega (arith, f.2, even-digit m f.0 f.1, even-digit n f.0 f.1)))
    (λ (lt : checksum 1 (cut 1 m) < checksum 1 (cut 1 n)).
    ⊎_elim
    (λ f. (2 * f.0 + 1, omega (arith, f.2, odd-digit m f.0 f.1, odd-digit n f.0 f.1)))
    (λ (gt : checksum 1 (cut 1 n) < checksum 1 (cut 1 m)). absurd (omega arith))
    (bit-smaller n m (λ e. differ (sym e))))
    (bit-smaller m n differ)
