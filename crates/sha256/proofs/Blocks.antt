-- Hash values over the blocks of a message, and of a message in two parts.
use Rattle.std.proofs.Common.{◌≡◌, ℕ, zero, suc, ◌+◌, ◌-◌, ◌*◌, ◌/◌, ◌<◌, ◌≤◌, List, [], ◌++◌, length, get_or, take, drop, sym, refl, ap, ◌∙◌, add-zero, add-suc, add-one, arith}
use Rattle.std.proofs.lemmas.List.{length-append, length-drop, drop-append-le, drop-drop}
use Rattle.std.specs.Simd.{first_chunks}
use Rattle.strings.proofs.Laws.{chunk_at, piece-front}
use Rattle.sha256.specs.declared.state.State.{State}
use Rattle.sha256.specs.Compress.{compress}
use Rattle.sha256.specs.Constants.{initial}
use Rattle.sha256.specs.Digest.{block_at, hashed, padding, padded}

pub hashed-none : (s : State) (bytes : List ℕ) → hashed 0 s bytes ≡ s
unfolding hashed
hashed-none s bytes = refl

hashed-more : (n : ℕ) (start s r : State) (bytes : List ℕ) → s ≡ hashed n start bytes → r ≡ compress s (block_at bytes n) → r ≡ hashed (n + 1) start bytes
unfolding hashed
hashed-more n start s r bytes before is = rw (add-one n) (is ∙ ap (λ t. compress t (block_at bytes n)) before)

-- the same, with the block as a chunk of the bytes
pub hashed-chunk : (n k : ℕ) (start s r : State) (bytes : List ℕ) (chunks : List (List ℕ)) → s ≡ hashed n start bytes → n < k → chunks ≡ first_chunks 64 k bytes → r ≡ compress s (get_or chunks n []) → r ≡ hashed (n + 1) start bytes
hashed-chunk n k start s r bytes chunks before h is e =
    hashed-more n start s r bytes before (e ∙ ap (compress s) (ap (λ l. get_or l n []) is ∙ chunk_at 64 k n bytes h))

-- what follows the first n blocks does not matter to them
hashed-front : (n : ℕ) (s : State) (xs ys : List ℕ) → 64 * n ≤ length xs → hashed n s (xs ++ ys) ≡ hashed n s xs
unfolding hashed
hashed-front zero s xs ys h = refl
hashed-front (suc n) s xs ys h =
    let before = hashed-front n s xs ys (omega arith) in
    let block = piece-front 64 xs ys (64 * n) (omega arith) in
    λ i. compress (before i) (block i)

-- n blocks, then k more
hashed-join : (n k : ℕ) (s : State) (bytes : List ℕ) → hashed k (hashed n s bytes) (drop (64 * n) bytes) ≡ hashed (n + k) s bytes
unfolding hashed
hashed-join n zero s bytes = ap (λ m. hashed m s bytes) (sym (add-zero n))
hashed-join n (suc k) s bytes =
    let before = hashed-join n k s bytes in
    let places : 64 * n + 64 * k ≡ 64 * (n + k) = omega arith in
    let block : block_at (drop (64 * n) bytes) k ≡ block_at bytes (n + k) = ap (take 64) (drop-drop (64 * k) (64 * n) bytes ∙ ap (λ m. drop m bytes) places) in
    (λ i. compress (before i) (block i)) ∙ ap (λ m. hashed m s bytes) (sym (add-suc n k))

-- the whole blocks of the message m first, then its rest with the padding
pub hashed-padded : (m tail : List ℕ) → tail ≡ drop (64 * (length m / 64)) m ++ padding (length m) → hashed (length tail / 64) (hashed (length m / 64) initial m) tail ≡ hashed (length (padded m) / 64) initial (padded m)
hashed-padded m tail is =
    let p = padding (length m) in
    let q = length m / 64 in
    let front = sym (hashed-front q initial m p (omega arith)) in
    let rest : tail ≡ drop (64 * q) (m ++ p) = is ∙ sym (drop-append-le (64 * q) m p (omega arith)) in
    let long : length tail ≡ length (m ++ p) - 64 * q = ap length rest ∙ length-drop (64 * q) (m ++ p) in
    let whole : length (m ++ p) ≡ length m + length p = length-append m p in
    let count : q + length tail / 64 ≡ length (m ++ p) / 64 = omega arith in
    (λ i. hashed (length tail / 64) (front i) (rest i))
    ∙ hashed-join q (length tail / 64) initial (m ++ p)
    ∙ ap (λ k. hashed k initial (m ++ p)) count
