use Rattle.std.proofs.Common.{refl, ap, ◌∙◌}
use Rattle.orders.specs.Outcomes.{first_record, after_record}
use Rattle.orders.specs.Views.{answer_under}
use Rattle.orders.proofs.Listed.{short-first, order-first}
use Rattle.orders.proofs.tour.Orders.first.Goals as goal

pub returns-in_default-clause-first : goal.returns-in_default-clause-first
returns-in_default-clause-first c =
    let verify = answer_under c.args.self.now.scheme c.args.self.now.key in
    short-first verify c.args.self.now.rest.now c.requires c.in_default.ensures.cases

pub returns-clause-first : goal.returns-clause-first
returns-clause-first c =
    let verify = answer_under c.args.self.now.scheme c.args.self.now.key in
    let parts = c.in-Some.ensures.cases in
    order-first verify c.args.self.now.rest.now _ _ _ (c.in-Some.ensures.variant.0 refl) parts.0 (c.split_record.ensures.first ∙ ap first_record parts.1)
    (c.split_record.ensures.rest ∙ ap after_record parts.1) _ c.run-outcome.ensures
