use Rattle.std.proofs.Common.{sym, ap, ◌∙◌, append-nil, rules, ◌++◌, Ok}
use Rattle.std.proofs.Output.{has_written_of_eq, has_written_append}
use Rattle.orders.specs.Texts.{counted_from, report_text, line, key_text, order_lines}
use Rattle.orders.specs.Views.{reported}
use Rattle.orders.proofs.report.ReportDisplay.fmt.Goals as goal

pub returns-in-Refused-clause-writes : goal.returns-in-Refused-clause-writes
unfolding counted_from
returns-in-Refused-clause-writes g c = λ plain ok.
    has_written_of_eq _ _ _ _ _ (sym (append-nil _) ∙ ap (λ r. report_text (reported r)) (sym c.in-Refused.is)) (c.writeln.ensures.writes plain ok)

pub returns-in_ok-writeln-in-Opened-clause-writes : goal.returns-in_ok-writeln-in-Opened-clause-writes
returns-in_ok-writeln-in-Opened-clause-writes g c = λ plain ok.
    let first = c.in_ok-writeln-in-Opened.ensures.writes plain (search rules) in
    has_written_of_eq _ _ _ _ _ ((λ i. line (key_text (Ok (c.summary-summary.ensures i))) ++ order_lines (c.orders.ensures i)) ∙ ap (λ r. report_text (reported r)) (sym c.in-Opened.is)) (has_written_append _ _ _ _ _ _ first (c.write_orders.ensures first.plain ok))
