use Rattle.std.proofs.Common.{◌≡◌, ◌<◌, length, take, subst, arith, rules}
use Rattle.orders.specs.Conditions.{RefusesByLists}
use Rattle.orders.specs.Reading.{ReadUpTo}
use Rattle.orders.specs.Reports.{Reports, most_read}
use Rattle.orders.specs.Views.{reported}
use Rattle.orders.proofs.Filled.{Takes, up-to-takes, failed-consumes, said-first, left-unread}
use Rattle.orders.proofs.checking.check.Given.{Over}
use Rattle.orders.proofs.checking.check.Goals.{After-report_of}
use Rattle.orders.proofs.checking.check.Goals as goal

read-up-to : (g : Over) (c : After-report_of g) → ReadUpTo g.S.Source.gives most_read c.args.input.now (take c.in_ok-filled.filled c.fill.new.room) c.fill.new.input
read-up-to g c =
    let size : length c.as_mut_slice.result.now ≡ most_read = search rules in
    subst (λ most. ReadUpTo g.S.Source.gives most c.args.input.now (take c.in_ok-filled.filled c.fill.new.room) c.fill.new.input) size c.in_ok-filled.ensures.read

took : (g : Over) (c : After-report_of g) → Takes most_read (g.S.Source.remaining c.args.input.now) (g.S.Source.remaining c.fill.new.input) (take c.in_ok-filled.filled c.fill.new.room)
took g c = up-to-takes g.S.Source.gives g.S.Source.remaining g.met.S.Source.bytes most_read _ _ _ (read-up-to g c)

pub returns-clause-read : goal.returns-clause-read
returns-clause-read g c =
    (take c.in_ok-filled.filled c.fill.new.room, read-up-to g c, c.report_of.ensures.report, c.report_of.ensures.refused)

pub returns-clause-report : goal.returns-clause-report
returns-clause-report g c =
    said-first most_read _ _ _ (λ bytes. Reports bytes (reported c.report_of.result)) (took g c) c.report_of.ensures.report

pub returns-clause-refused : goal.returns-clause-refused
returns-clause-refused g c =
    said-first most_read _ _ _ (λ bytes. RefusesByLists bytes (reported c.report_of.result)) (took g c) c.report_of.ensures.refused

pub returns-clause-unread : goal.returns-clause-unread
returns-clause-unread g c = left-unread most_read _ _ _ (took g c)

pub returns-in_err-filled-clause-failed : goal.returns-in_err-filled-clause-failed
returns-in_err-filled-clause-failed g c =
    let size : length c.as_mut_slice.result.now ≡ most_read = search rules in
    let failed = c.in_err-filled.ensures.failed in
    let fewer : length failed.0 < most_read = omega (arith, failed.1, size) in
    let taken = failed-consumes g.S.Source.gives g.S.Source.remaining g.met.S.Source.bytes _ _ _ _ failed.2 in
    let last = failed.2 in
    search rules
