-- What a buffer holds after parts are written into it.
use Rattle.std.proofs.lemmas.Grind.{common_steps}
use Rattle.std.proofs.Common.{◌≡◌, ℕ, ◌+◌, ◌-◌, ◌*◌, ◌<◌, ◌≤◌, List, [], ◌∷◌, ◌++◌, length, get_or, take, drop, set, replicate, sym, ap, ◌∙◌, arith}
use Rattle.std.specs.List.{flat_map}
use Rattle.std.proofs.Math.Seq.{take-add}
use Rattle.std.proofs.lemmas.List.{append_assoc, take_more_set, drop-drop, drop-set-lt, drop-replicate, take-replicate}

-- pieces of 4 bytes, one for each element of ws
pub pieces_more : (f : ℕ → List ℕ) (ws b b' part : List ℕ) (i : ℕ) → i < length ws → take (4 * i + length part) b' ≡ take (4 * i) b ++ part → take (4 * i) b ≡ flat_map f (take i ws) → part ≡ f (get_or ws i 0) → length part ≡ 4 → take (4 * (i + 1)) b' ≡ flat_map f (take (i + 1) ws)
pieces_more f ws b b' part i h is before piece four = grind (arith, common_steps)

-- a buffer of zeros with the part p written at its front (b), then the byte x after it, and, from at on, the part q (c)
pub padded-buffer : (w x z at : ℕ) (b c p q : List ℕ) → take (length p) b ≡ p → drop (length p) b ≡ drop (length p) (replicate w 0) → length p < length b → at ≡ length p + 1 + z → at ≤ w → take (at + length q) c ≡ take at (set b (length p) x) ++ q → take (at + length q) c ≡ p ++ (x ∷ (replicate z 0 ++ q))
padded-buffer w x z at b c p q front back room is fits end =
    let n = length p in
    let head : take (n + 1) (set b n x) ≡ p ++ x ∷ [] = take_more_set b n x room ∙ ap (λ r. r ++ x ∷ []) front in
    let one : n < n + 1 = omega arith in
    let rest : drop (n + 1) (set b n x) ≡ replicate (w - n - 1) 0 = drop-set-lt (n + 1) b n x one ∙ sym (drop-drop 1 n b) ∙ ap (drop 1) (back ∙ drop-replicate n w 0) ∙ drop-replicate 1 (w - n) 0 in
    let zs : take z (drop (n + 1) (set b n x)) ≡ replicate z 0 = ap (take z) rest ∙ take-replicate z (w - n - 1) 0 (omega arith) in
    let whole : take at (set b n x) ≡ (p ++ x ∷ []) ++ replicate z 0 = ap (λ k. take k (set b n x)) is ∙ take-add (n + 1) z (set b n x) ∙ (λ i. head i ++ zs i) in
    end
    ∙ ap (λ r. r ++ q) whole
    ∙ append_assoc (p ++ x ∷ []) (replicate z 0) q
    ∙ append_assoc p (x ∷ []) (replicate z 0 ++ q)
