use Rattle.std.proofs.Common.{◌≡◌, ℕ, ◌+◌, ◌-◌, ◌/◌, ◌^◌, ◌≤◌, List, [], ◌∷◌, map, length, refl, ap, ◌∙◌, arith, rules}
use Rattle.std.specs.List.{range_with_len, sum_by}
use Rattle.std.proofs.lemmas.List.FromFn.{length-range_with_len}
use Rattle.std.proofs.lemmas.Iterator.{YieldsList-from_range, YieldsList-from_map}
use Rattle.std.proofs.lemmas.Iterator.Adapters.{fits_from_length, at_most_from_yields_List}
use Rattle.std.proofs.lemmas.Iterator.Consumers.{sum_by_from_yields_List}
use Rattle.std.proofs.lemmas.List.Sums.{sum_by-cons}
use Rattle.std.proofs.Math.Nat.{div-le_self}
use Rattle.codes.specs.Codes.{bits, checksum, cut}
use Rattle.codes.proofs.winternitz.Winternitz.checksum.Goals as goal

-- the checksum of digits as a sum
checksum-sum : (w : ℕ) (f : ℕ → ℕ) (js : List ℕ) → sum_by (λ j. 2 ^ w - f j) js ≡ checksum w (map f js)
unfolding checksum
checksum-sum w f [] = refl
checksum-sum w f (j ∷ js) = sum_by-cons (λ k. 2 ^ w - f k) j js ∙ ap (λ t. 2 ^ w - f j + t) (checksum-sum w f js)

pub sum-requires-clause-fits : goal.sum-requires-clause-fits
sum-requires-clause-fits g c =
    let n = 128 / c.WIDTH.result in
    let few : length (range_with_len 0 n) ≤ 128 = omega (arith, length-range_with_len 0 n, div-le_self 128 c.WIDTH.result) in
    fits_from_length _ _ 128 (2 ^ 16) (at_most_from_yields_List (YieldsList-from_range 0 n n c.map.ensures.source (omega arith)) few) c.map.ensures.closure (omega arith) (λ x r q k. search rules)

pub returns : goal.returns
unfolding cut
returns g c =
    let w = g.W.DigitWidth.WIDTH in
    let m = c.args.stamp.now in
    let n = 128 / c.WIDTH.result in
    sum_by_from_yields_List (λ j. 2 ^ w - bits w m j) (range_with_len 0 n) c.map.result c.sum.result c.sum.ensures.ran (YieldsList-from_map _ (λ j. 2 ^ w - bits w m j) (YieldsList-from_range 0 n n c.map.ensures.source (omega arith)) c.map.ensures.closure (λ x r q k. search rules))
    ∙ checksum-sum w (bits w m) (range_with_len 0 n)
    ∙ ap (λ t. checksum w (map (bits w m) (range_with_len 0 (128 / t)))) c.WIDTH.ensures
