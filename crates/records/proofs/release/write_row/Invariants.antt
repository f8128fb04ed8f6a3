use Rattle.records.proofs.ReleaseRecord.{RowWritten}
use Rattle.records.proofs.release.write_row.Given as goal

abbrev pub invariant-loop-place : goal.invariant-loop-place
invariant-loop-place g l = RowWritten (g.R.ReleaseRow.strings l.row) l.initial.out l.out l.place
