use Rattle.std.proofs.Common.{rules}
use Rattle.orders.specs.Reading.{untried, again, answered, given_up}
use Rattle.orders.proofs.reading.read_some.Goals as goal

pub tries-init : goal.tries-init
tries-init g c = (search rules, untried)

pub returns-in-Ok-clause-within : goal.returns-in-Ok-clause-within
returns-in-Ok-clause-within g c = g.met.S.Source.within _ _ _ _ c.in-Ok.ensures

pub returns-in-Ok-clause-tried : goal.returns-in-Ok-clause-tried
returns-in-Ok-clause-tried g c = answered c.tries.invariant.1 (search rules) c.in-Ok.ensures tt

pub returns-then-ne-clause-tried : goal.returns-then-ne-clause-tried
returns-then-ne-clause-tried g c = answered c.tries.invariant.1 (search rules) c.in-Err.ensures (search rules)

pub tries-preserved : goal.tries-preserved
tries-preserved g c = (search rules, again c.tries.invariant.1 c.in-Err.ensures (search rules))

pub returns-clause-tried : goal.returns-clause-tried
returns-clause-tried g c = given_up (search rules) (search rules)
