use Rattle.std.specs.Fmt.{HasWritten, IsPlainFormatter}
use Rattle.orders.specs.Texts.{order_lines}
use Rattle.orders.proofs.report.write_orders.Given as goal

abbrev pub invariant-loop-order : goal.invariant-loop-order
invariant-loop-order g l =
    (goal.iterator-loop-order g).can_next l.order-iterator
    × (goal.iterator-loop-order g).is_finite l.order-iterator
    × (IsPlainFormatter l.initial.f → HasWritten g.W.Write.write_str_gives l.initial.f (order_lines l.yielded) l.f)
