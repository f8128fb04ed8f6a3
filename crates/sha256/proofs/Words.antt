-- The message schedule, word by word.
use Rattle.std.proofs.lemmas.Grind.{common_steps}
use Rattle.std.proofs.Common.{◌≡◌, ℕ, ◌+◌, ◌-◌, ◌*◌, ◌^◌, ◌<◌, ◌≤◌, List, [], ◌∷◌, ◌++◌, map, length, get_or, take, drop, set, sym, refl, ap, ◌∙◌, add-one, arith}
use Rattle.std.specs.List.{range_with_len}
use Rattle.std.proofs.lemmas.List.FromFn.{fill_by_all}
use Rattle.std.proofs.lemmas.List.{length-take-le, get_or-take, get_or-drop, take_more_set}
use Rattle.std.specs.Simd.{first_chunks}
use Rattle.strings.proofs.Laws.{chunk_at}
use Rattle.sha256.specs.Compress.{word_at, next_word, longer, extended}

-- a word is made of the four bytes of its chunk
pub word-chunk : (block : List ℕ) (t k : ℕ) (chunks : List (List ℕ)) → t < k → chunks ≡ first_chunks 4 k block → (let w = get_or chunks t [] in get_or w 0 0 * 2 ^ 24 + get_or w 1 0 * 2 ^ 16 + get_or w 2 0 * 2 ^ 8 + get_or w 3 0) ≡ word_at block t
word-chunk block t k chunks h is =
    let w = get_or chunks t [] in
    let chunk : w ≡ take 4 (drop (4 * t) block) = ap (λ l. get_or l t []) is ∙ chunk_at 4 k t block h in
    let at : (j m : ℕ) → j < 4 → 4 * t + j ≡ m → get_or w j 0 ≡ get_or block m 0 = λ j m l e. ap (λ x. get_or x j 0) chunk ∙ get_or-take 4 (drop (4 * t) block) j 0 l ∙ get_or-drop (4 * t) block j 0 ∙ ap (λ n. get_or block n 0) e in
    let b0 = at 0 (4 * t) (omega arith) (omega arith) in
    let b1 = at 1 (4 * t + 1) (omega arith) (omega arith) in
    let b2 = at 2 (4 * t + 2) (omega arith) (omega arith) in
    let b3 = at 3 (4 * t + 3) (omega arith) (omega arith) in
    λ i. b0 i * 2 ^ 24 + b1 i * 2 ^ 16 + b2 i * 2 ^ 8 + b3 i

-- a row whose first n places are filled by f
pub front-filled : (f : ℕ → ℕ) (xs : List ℕ) (n : ℕ) → n ≤ length xs → ((k : ℕ) → k < n → get_or xs k 0 ≡ f k) → take n xs ≡ map f (range_with_len 0 n)
front-filled f xs n h g = fill_by_all f (take n xs) n 0 (length-take-le n xs h) (λ k l. get_or-take n xs k 0 l ∙ g k l)

pub extended_none : (w : List ℕ) → extended 0 w ≡ w
unfolding extended
extended_none w = refl

extended-more : (n : ℕ) (w : List ℕ) → extended (n + 1) w ≡ longer (extended n w) (16 + n)
unfolding extended
extended-more n w = rw (add-one n)

-- the next word reads only words before it
next-take : (w : List ℕ) (t : ℕ) → 16 ≤ t → next_word w t ≡ next_word (take t w) t
next-take w t h = grind (arith, common_steps)

-- the schedule w of the block's words b, filled below t, is filled below t + 1
pub extended-step : (w b : List ℕ) (t x : ℕ) → 16 ≤ t → t < length w → take t w ≡ extended (t - 16) b → x ≡ next_word w t → take (t + 1) (set w t x) ≡ extended (t + 1 - 16) b
extended-step w b t x h l e is =
    let n = t - 16 in
    let at : t ≡ 16 + n = omega arith in
    let next : x ≡ next_word (extended n b) (16 + n) = is ∙ next-take w t h ∙ (λ i. next_word (e i) (at i)) in
    let more : n + 1 ≡ t + 1 - 16 = omega arith in
    take_more_set w t x l
    ∙ (λ i. e i ++ next i ∷ [])
    ∙ sym (extended-more n b)
    ∙ ap (λ k. extended k b) more
