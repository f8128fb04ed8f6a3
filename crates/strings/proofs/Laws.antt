-- The laws of strings, and of rows of strings in a buffer.
use Rattle.std.proofs.Common.{◌≡◌, ℕ, zero, suc, ◌+◌, ◌-◌, ◌*◌, ◌/◌, ◌%◌, ◌^◌, ◌<◌, ◌≤◌, ◌≢◌, List, [], ◌∷◌, ◌++◌, map, length, get_or, set, take, drop, replicate, sym, refl, ap, ◌∙◌, le_of_suc-le-suc, mod-eq_of_lt, zero-add, add-one, mul-zero, mul-suc, arith, rules}
use native.Mathlib.Nat.{mod-one, pow-succ', one-le-pow}
use lib.Bits.{bit_xor, xor_assoc, xor_self, xor_zero_r, xor_lt}
use lib.Arith.{mod-mul}
use Rattle.std.specs.List.{range_with_len}
use Rattle.std.specs.Simd.{first_chunks}
use Rattle.std.proofs.lemmas.List.Edits.{fill_by_more}
use Rattle.std.proofs.lemmas.List.{places, same_lists, take-append-drop, length-append, take_at, drop_at, drop-drop, same_from_push, drop-replicate, take-replicate}
use Rattle.std.proofs.ByRecursion.{All-take, All-drop, All-from_get_or}
use Rattle.std.proofs.lemmas.List.FromFn.{length-map-range_with_len, map-range_with_len_more, fill_by_all}
use Rattle.strings.specs.Strings.{IsBytes, IsString, zero_string, xor, little_endian, numeral, string_at, put_string}

pub length-xor : (s m : List ℕ) → length (xor s m) ≡ length s
length-xor [] m = refl
length-xor (x ∷ s) [] = refl
length-xor (x ∷ s) (y ∷ m) = ap suc (length-xor s m)

pub get_or-xor : (s m : List ℕ) (k : ℕ) → k < length s → k < length m → get_or (xor s m) k 0 ≡ bit_xor (get_or s k 0) (get_or m k 0)
get_or-xor [] m k h g = absurd (omega arith)
get_or-xor (x ∷ s) [] k h g = absurd (omega arith)
get_or-xor (x ∷ s) (y ∷ m) zero h g = refl
get_or-xor (x ∷ s) (y ∷ m) (suc k) h g = get_or-xor s m k (le_of_suc-le-suc h) (le_of_suc-le-suc g)

-- a mask takes itself away again
pub xor-back : (s m : List ℕ) → xor (xor s m) m ≡ s
xor-back [] m = refl
xor-back (x ∷ s) [] = refl
xor-back (x ∷ s) (y ∷ m) = λ i. (xor_assoc x y y ∙ ap (bit_xor x) (xor_self y) ∙ xor_zero_r x) i ∷ xor-back s m i

pub xor-injective : (s t m : List ℕ) → xor s m ≡ xor t m → s ≡ t
xor-injective s t m e = sym (xor-back s m) ∙ ap (λ u. xor u m) e ∙ xor-back t m

pub xor_bytes : (s m : List ℕ) → IsBytes s → IsBytes m → IsBytes (xor s m)
xor_bytes [] m a b = tt
xor_bytes (x ∷ s) [] a b = a
xor_bytes (x ∷ s) (y ∷ m) a b = (xor_lt 8 x y a.0 b.0, xor_bytes s m a.1 b.1)

pub xor-str : (s m : List ℕ) → IsString s → IsString m → IsString (xor s m)
xor-str s m a b = (length-xor s m ∙ a.0, xor_bytes s m a.1 b.1)

-- the bytes of a list that is given by f, and a byte at any place: 0 past the end
pub bytes-map : (f : ℕ → ℕ) (js : List ℕ) → ((j : ℕ) → f j < 256) → IsBytes (map f js)
bytes-map f [] small = tt
bytes-map f (j ∷ js) small = (small j, bytes-map f js small)

pub byte-below : (s : List ℕ) (j : ℕ) → IsBytes s → get_or s j 0 < 256
byte-below [] j b = omega arith
byte-below (x ∷ s) zero b = b.0
byte-below (x ∷ s) (suc j) b = byte-below s j b.1

pub bytes-little_endian : (k n : ℕ) → IsBytes (little_endian k n)
bytes-little_endian k n = bytes-map (λ j. n / 256 ^ j % 256) (range_with_len 0 k) (λ j. omega arith)

pub length-little_endian : (k n : ℕ) → length (little_endian k n) ≡ k
length-little_endian k n = length-map-range_with_len (λ j. n / 256 ^ j % 256) 0 k

pub numeral-str : (n : ℕ) → IsString (numeral n)
unfolding numeral
numeral-str n = (length-little_endian 16 n, bytes-little_endian 16 n)

-- pieces of any width w: what stands at a piece, and what a write to one piece leaves
module _ (w : ℕ) where
  abbrev piece : List ℕ → ℕ → List ℕ
  piece bytes at = take w (drop at bytes)

  abbrev put : List ℕ → ℕ → List ℕ → List ℕ
  put bytes at s = take at bytes ++ (s ++ drop (at + w) bytes)

  -- a piece that lies in the front of a list
  pub piece-front : (front rest : List ℕ) (at : ℕ) → at + w ≤ length front → piece (front ++ rest) at ≡ piece front at
  piece-front front rest at h = same_lists _ _ (search (rules, places)) (λ j d lt. grind (arith, places))

  piece-put-same : (bytes : List ℕ) (at : ℕ) (s : List ℕ) → at + w ≤ length bytes → length s ≡ w → piece (put bytes at s) at ≡ s
  piece-put-same bytes at s h e = search (rules, drop_at, take_at)

  piece-put-other : (bytes : List ℕ) (at k : ℕ) (s : List ℕ) → at + w ≤ length bytes → length s ≡ w → (k < at + w → k + w ≤ at) → piece (put bytes at s) k ≡ piece bytes k
  piece-put-other bytes at k s h e apart = same_lists _ _ (search (rules, places)) (λ j d lt. grind (arith, places))

pub length-string_at : (bytes : List ℕ) (i : ℕ) → 16 * i + 16 ≤ length bytes → length (string_at bytes i) ≡ 16
length-string_at bytes i h = search (rules, places)

pub string_at-str : (bytes : List ℕ) (i : ℕ) → 16 * i + 16 ≤ length bytes → IsBytes bytes → IsString (string_at bytes i)
string_at-str bytes i h b = (length-string_at bytes i h, All-take (λ x. x < 256) 16 (drop (16 * i) bytes) (All-drop (λ x. x < 256) (16 * i) bytes b))

pub length-put_string : (bytes : List ℕ) (i : ℕ) (s : List ℕ) → 16 * i + 16 ≤ length bytes → length s ≡ 16 → length (put_string bytes i s) ≡ length bytes
length-put_string bytes i s h e = search (rules, places)

pub at-put-same : (bytes : List ℕ) (i : ℕ) (s : List ℕ) → 16 * i + 16 ≤ length bytes → length s ≡ 16 → string_at (put_string bytes i s) i ≡ s
at-put-same bytes i s h e = piece-put-same 16 bytes (16 * i) s h e

pub at-put-other : (bytes : List ℕ) (i k : ℕ) (s : List ℕ) → 16 * i + 16 ≤ length bytes → length s ≡ 16 → k ≢ i → string_at (put_string bytes i s) k ≡ string_at bytes k
at-put-other bytes i k s h e ne = piece-put-other 16 bytes (16 * i) (16 * k) s h e (λ lt. omega arith)

-- a number below 256 ^ k is known by its k bytes
pub little_endian-injective : (k m n : ℕ) → little_endian k m ≡ little_endian k n → m % 256 ^ k ≡ n % 256 ^ k
little_endian-injective zero m n e = mod-one m ∙ sym (mod-one n)
little_endian-injective (suc k) m n e =
    let more : (x : ℕ) → little_endian (suc k) x ≡ little_endian k x ++ (x / 256 ^ k % 256) ∷ [] = λ x. ap (λ j. little_endian j x) (sym (add-one k)) ∙ map-range_with_len_more (λ j. x / 256 ^ j % 256) 0 k k (zero-add k) in
    let parts = same_from_push (little_endian k m) (little_endian k n) _ _ (sym (more m) ∙ e ∙ more n) in
    let low = little_endian-injective k m n parts.0 in
    let split : (x : ℕ) → x % 256 ^ suc k ≡ (x / 256 ^ k % 256) * 256 ^ k + x % 256 ^ k = λ x. ap (λ p. x % p) (pow-succ' 256 k) ∙ mod-mul x (omega arith) (one-le-pow k 256 (omega arith)) in
    split m ∙ (λ i. parts.1 i * 256 ^ k + low i) ∙ sym (split n)

pub numeral-injective : (m n : ℕ) → m < 2 ^ 128 → n < 2 ^ 128 → numeral m ≡ numeral n → m ≡ n
unfolding numeral
numeral-injective m n hm hn e = sym (mod-eq_of_lt hm) ∙ little_endian-injective 16 m n e ∙ mod-eq_of_lt hn

-- chunk number i of a list that is cut into k chunks of w
pub chunk_at : (w k i : ℕ) (xs : List ℕ) → i < k → get_or (first_chunks w k xs) i [] ≡ take w (drop (w * i) xs)
chunk_at w zero i xs h = absurd (omega arith)
chunk_at w (suc k) zero xs h = ap (λ n. take w (drop n xs)) (sym (mul-zero w))
chunk_at w (suc k) (suc i) xs h =
    chunk_at w k i (drop w xs) (le_of_suc-le-suc h) ∙ ap (take w) (drop-drop (w * i) w xs ∙ ap (λ n. drop n xs) (omega (arith, mul-suc w i)))

-- a row that is filled by f below i, and at i
pub filled_more : (f : ℕ → ℕ) (xs : List ℕ) (i x : ℕ) → i < length xs → x ≡ f i → ((k : ℕ) → k < i → get_or xs k 0 ≡ f k) → (k : ℕ) → k < i + 1 → get_or (set xs i x) k 0 ≡ f k
filled_more f xs i x h is below k l = ap (λ y. get_or (set xs i y) k 0) is ∙ fill_by_more f xs i 0 h below k l

-- a list that is edited place by place: f says what is new, and from place j on it is as it was
abbrev pub Edited : (ℕ → ℕ) → List ℕ → List ℕ → ℕ → Type 0
Edited f old new j = (length new ≡ length old) × ((k : ℕ) → k < j → get_or new k 0 ≡ f k) × ((k : ℕ) → j ≤ k → get_or new k 0 ≡ get_or old k 0)

pub edited-all : (f : ℕ → ℕ) (old new : List ℕ) (n j : ℕ) → length old ≡ n → n ≤ j → Edited f old new j → new ≡ map f (range_with_len 0 n)
edited-all f old new n j e h s = fill_by_all f new n 0 (s.0 ∙ e) (λ k g. s.1 k (omega arith))

-- an array of 16 bytes is a string
pub str-from : (s : List ℕ) → length s ≡ 16 → ((i : ℕ) → get_or s i 0 < 256) → IsString s
str-from s long small = (long, All-from_get_or (λ b. b < 256) s 0 (λ i h. small i))

-- each string of a row of zeros is the zero string
pub string_at-zeros : (n i : ℕ) → 16 * i + 16 ≤ n → string_at (replicate n 0) i ≡ zero_string
string_at-zeros n i h = ap (take 16) (drop-replicate (16 * i) n 0) ∙ take-replicate 16 (n - 16 * i) 0 (omega arith)

-- the first bytes p, and a part that is written after them
pub part-more : (b b' p part : List ℕ) (at e : ℕ) → take (at + length part) b' ≡ take at b ++ part → take at b ≡ p → at + length part ≡ e → take e b' ≡ p ++ part
part-more b b' p part at e is before end = ap (λ k. take k b') (sym end) ∙ is ∙ ap (λ q. q ++ part) before

-- what `put` leaves
abbrev pub Put : List ℕ → List ℕ → ℕ → List ℕ → Type 0
Put b b' at part = (take (at + length part) b' ≡ take at b ++ part) × (drop (at + length part) b' ≡ drop (at + length part) b)

-- parts written one after another: b holds what p says at its front, and what b₀ held past that
abbrev pub Written : List ℕ → List ℕ → List ℕ → Type 0
Written b₀ b p = (b ≡ p ++ drop (length p) b₀) × (length p ≤ length b₀)

pub written-more : (b₀ b b' p part : List ℕ) (at : ℕ) → Written b₀ b p → length p ≡ at → at + length part ≤ length b₀ → take (at + length part) b' ≡ take at b ++ part → drop (at + length part) b' ≡ drop (at + length part) b → Written b₀ b' (p ++ part)
written-more b₀ b b' p part at w here room front back =
    let n = length part in
    let long = length-append p part in
    let rest : drop at b ≡ drop (length p) b₀ = ap (drop at) w.0 ∙ drop_at p (drop (length p) b₀) at here in
    let tail : drop (at + n) b ≡ drop (length (p ++ part)) b₀ =
    sym (drop-drop n at b) ∙ ap (drop n) rest ∙ drop-drop n (length p) b₀ ∙ ap (λ k. drop k b₀) (sym long) in (
      sym (take-append-drop (at + n) b') ∙ (λ i. part-more b b' p part at (at + n) front (ap (take at) w.0 ∙ take_at p (drop (length p) b₀) at here) refl i ++ (back ∙ tail) i),
      omega arith,
    )
