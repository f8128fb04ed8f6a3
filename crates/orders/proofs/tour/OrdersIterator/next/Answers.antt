use Rattle.std.proofs.Common.{true-eqb, ap, length, arith}
use Rattle.orders.specs.Views.{answer_under}
use Rattle.orders.proofs.Listed.{none-left, next-first}
use Rattle.orders.proofs.tour.OrdersIterator.next.Goals as goal

pub returns-then-is_empty-clause-steps : goal.returns-then-is_empty-clause-steps
returns-then-is_empty-clause-steps c =
    let verify = answer_under c.args.self.now.scheme c.args.self.now.key in
    let nothing = none-left verify c.args.self.now.given c.args.self.now.rest.now (true-eqb _ 0 c.if-is_empty.ensures) in
    (nothing, nothing)

pub returns-clause-steps : goal.returns-clause-steps
returns-clause-steps c = next-first c.args.self.now.given _ _ _ c.first-outcome.ensures.first

pub returns-clause-goes : goal.returns-clause-goes
returns-clause-goes c =
    let e = next-first c.args.self.now.given _ _ _ c.first-outcome.ensures.first in
    record { on = λ _. (tt, tt, omega (arith, ap length e)); keeps = tt; rests = λ _. tt }
