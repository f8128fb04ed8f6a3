use Rattle.std.proofs.Common.{◌-◌, ◌≤◌, length, take}
use Rattle.orders.specs.Reading.{Gave}
use Rattle.orders.proofs.reading.fill.Given as goal

abbrev pub invariant-loop-filled : goal.invariant-loop-filled
invariant-loop-filled g l =
    (l.filled ≤ length l.room) × Gave g.S.Source.gives l.initial.input (take l.filled l.room) l.input

abbrev pub decreases-loop-filled : goal.decreases-loop-filled
decreases-loop-filled g l = length l.initial.room - l.filled
