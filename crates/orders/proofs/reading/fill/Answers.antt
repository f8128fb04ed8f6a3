use Rattle.std.proofs.Common.{◌<◌, rules, arith, inl, inr, Ok, Err, length, take, drop, subst, length-take-le}
use Rattle.orders.specs.Reading.{Tried, Stopped, nothing}
use Rattle.orders.proofs.Filled.{more-given, stopped}
use Rattle.orders.proofs.reading.fill.Goals as goal

pub loop-filled-init : goal.loop-filled-init
loop-filled-init g c = (search rules, nothing)

pub loop-filled-preserved : goal.loop-filled-preserved
loop-filled-preserved g c =
    let read = c.in_ok-read.ensures in
    (read.within, more-given _ _ _ c.read_after.ensures.front c.loop-filled.invariant.1 _ read.tried (omega (arith, c.if-read-eq0.false)))

pub returns-then-read-eq0-clause-read : goal.returns-then-read-eq0-clause-read
returns-then-read-eq0-clause-read g c =
    let none = subst (λ n. Tried g.S.Source.gives c.loop-filled.input (Ok n) (drop c.loop-filled.filled c.read_after.new.room) c.read_after.new.input) c.if-read-eq0.true c.in_ok-read.ensures.tried in
    let less : c.loop-filled.filled < length c.read_after.new.room = search rules in
    inr (omega (arith, less, length-take-le c.loop-filled.filled c.read_after.new.room (omega (arith, less))), stopped _ _ _ c.read_after.ensures.front c.loop-filled.invariant.1 less none)

pub returns-in_err-read-clause-failed : goal.returns-in_err-read-clause-failed
returns-in_err-read-clause-failed g c =
    let before = c.loop-filled.invariant in
    let less : c.loop-filled.filled < length c.read_after.new.room = search rules in
    let fewer : length (take c.loop-filled.filled c.read_after.new.room) < length c.args.room.now =
    omega (arith, less, length-take-le c.loop-filled.filled c.read_after.new.room (omega (arith, less))) in
    let last : Stopped g.S.Source.gives c.args.input.now (take c.loop-filled.filled c.read_after.new.room) (Err c.in_err-read.field-0.0) c.read_after.new.input =
    stopped _ _ _ c.read_after.ensures.front before.1 less c.in_err-read.ensures.tried in
    search rules

pub returns-clause-read : goal.returns-clause-read
returns-clause-read g c =
    let before = c.loop-filled.invariant in
    inl (omega (arith, before.0, c.loop-filled-test.false, length-take-le c.loop-filled.filled c.loop-filled.room before.0), before.1)
