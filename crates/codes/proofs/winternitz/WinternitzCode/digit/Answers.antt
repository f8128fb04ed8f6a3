use Rattle.std.proofs.Common.{◌-◌, ◌*◌, ◌/◌, ◌^◌, ◌<◌, ◌≤◌, sym, ap, ◌∙◌, arith}
use lib.Bits.{bit_and}
use Rattle.std.proofs.lemmas.Nat.{and_mask}
use Rattle.codes.specs.Codes.{bits, checksum, cut}
use Rattle.codes.specs.Laws.{winternitz-front, winternitz-end, winternitz-past}
use Rattle.codes.proofs.winternitz.WinternitzCode.digit.Goals as goal

pub returns-then-place-front : goal.returns-then-place-front
returns-then-place-front g c =
    let w = g.W.DigitWidth.WIDTH in
    c.read_bits.ensures
    ∙ ap (λ t. bits t c.args.stamp.now c.args.place) c.WIDTH.ensures
    ∙ sym (winternitz-front w g.W.DigitWidth.ENDS c.args.stamp.now c.args.place (rw c.WIDTH-front.ensures at c.if-place-front.true))

pub returns-then-end-ENDS : goal.returns-then-end-ENDS
returns-then-end-ENDS g c =
    let front = ap (λ t. 128 / t) c.WIDTH-front.ensures in
    c.TOP.ensures
    ∙ sym (winternitz-past g.W.DigitWidth.WIDTH g.W.DigitWidth.ENDS c.args.stamp.now c.args.place (omega (arith, front, c.ENDS.ensures, c.if-place-front.false, c.if-end-ENDS.true)))

pub returns : goal.returns
returns g c =
    let w = g.W.DigitWidth.WIDTH in
    let n = g.W.DigitWidth.ENDS in
    let m = c.args.stamp.now in
    let k = c.args.place in
    let front = ap (λ t. 128 / t) c.WIDTH-front.ensures in
    let past : 128 / w ≤ k = omega (arith, front, c.if-place-front.false) in
    let left : k - 128 / w < n = omega (arith, front, c.ENDS.ensures, c.if-end-ENDS.false) in
    (λ i. bit_and (c.checksum.ensures i / 2 ^ (c.WIDTH-2.ensures i * (c.ENDS-2.ensures i - 1 - (k - front i)))) ((c.from.ensures ∙ c.TOP-2.ensures) i))
    ∙ and_mask (checksum w (cut w m) / 2 ^ (w * (n - 1 - (k - 128 / w)))) w
    ∙ sym (winternitz-end w n m k past left)
