use Rattle.std.proofs.Common.{◌-◌, ◌*◌, ◌/◌, ◌%◌, ◌^◌, get_or, ap, ◌∙◌, arith}
use lib.Bits.{bit_and}
use Rattle.std.proofs.lemmas.Nat.{one_shl, and_mask}
use Rattle.codes.specs.Laws.{in-stamp}
use Rattle.codes.proofs.bits.read_bits.Goals as goal

pub overflow_sub-result-2 : goal.overflow_sub-result-2
overflow_sub-result-2 c = omega (arith, (in-stamp c.args.width c.args.j c.requires.0 c.requires.1).1)

pub returns : goal.returns
returns c =
    let w = c.args.width in
    let at = w * c.args.j in
    let moved = get_or c.args.stamp.now (at / 8) 0 / 2 ^ (8 - w - at % 8) in
    ap (λ t. bit_and moved (t - 1)) (one_shl w 8 c.requires.0.1) ∙ and_mask moved w
