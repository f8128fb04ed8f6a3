use Rattle.std.proofs.Common.{rules}
use Rattle.orders.specs.Reports.{Reports}
use Rattle.orders.specs.Views.{reported}
use Rattle.orders.proofs.Refusing.{refuses-by-lists}
use Rattle.orders.proofs.Reported.{reports-only}
use Rattle.orders.proofs.checking.report_of.Goals as goal

pub returns-in-Ok : goal.returns-in-Ok
returns-in-Ok c =
    let report : Reports c.args.input.now (reported c.check_by.result) = search rules in
    record {
      report = report;
      only = λ other is. reports-only c.args.input.now (reported c.check_by.result) other report is;
      refused = refuses-by-lists c.args.input.now (reported c.check_by.result) report;
    }

pub returns-in-Err : goal.returns-in-Err
returns-in-Err c =
    let report : Reports c.args.input.now (reported c.unknown.result) = search rules in
    record {
      report = report;
      only = λ other is. reports-only c.args.input.now (reported c.unknown.result) other report is;
      refused = refuses-by-lists c.args.input.now (reported c.unknown.result) report;
    }
