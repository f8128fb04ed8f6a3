use Rattle.std.proofs.Common.{rules}
use Rattle.std.proofs.lemmas.Grind.{merely}
use Rattle.verifier.specs.Conditions.{Opening}
use Rattle.verifier.proofs.opening.open.Goals as goal

pub invariant_of-result-clause-opened : goal.invariant_of-result-clause-opened
invariant_of-result-clause-opened g c =
    let by : Opening = record { hash = g.H.ChainHash.NUMBER; code = g.C.Code.NUMBER; levels = g.C.Code.LEVELS } in
    merely (by, search rules)
