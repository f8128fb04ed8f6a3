use Rattle.std.proofs.Common.{sym, ap, ◌∙◌, arith}
use Rattle.std.proofs.lemmas.List.{ext_get_or}
use Rattle.strings.specs.Strings.{xor}
use Rattle.strings.proofs.Laws.{length-xor, get_or-xor, xor-back}
use Rattle.strings.proofs.xor.Goals as goal

pub returns : goal.returns
returns g c =
    let s = c.args.string.now in
    let m = c.args.mask.now in
    let long = length-xor s m in
    let is = ext_get_or 0 c.loop-j.out (xor s m) (omega arith) (λ k h. c.loop-j.invariant.1 k (omega arith) ∙ sym (get_or-xor s m k (omega arith) (omega arith))) in
    record { value = is; back = ap (λ u. xor u m) is ∙ xor-back s m }
