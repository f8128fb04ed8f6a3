use Rattle.std.proofs.Common.{◌≤◌, arith, pow_mono}
use Rattle.std.proofs.lemmas.Grind.{common_steps}
use Rattle.records.proofs.release.parts_of.Goals as goal

pub returns : goal.returns
returns g c =
    let more = λ (high : 16 ≤ c.args.height). pow_mono high in
    grind (arith, common_steps)
