use Rattle.std.proofs.Common.{◌≡◌, length}
use Rattle.orders.specs.Reading.{Interrupted}
use Rattle.orders.proofs.reading.read_some.Given as goal

abbrev pub invariant-tries : goal.invariant-tries
invariant-tries g l =
    (length l.room ≡ length l.initial.room)
    × Interrupted g.S.Source.gives l.initial.input l.counter l.input
