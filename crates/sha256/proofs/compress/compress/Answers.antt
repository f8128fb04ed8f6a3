use Rattle.std.proofs.Common.{ap, ◌∙◌}
use Rattle.sha256.specs.Compress.{rounds, added, compress}
use Rattle.sha256.proofs.compress.compress.Goals as goal

pub returns : goal.returns
unfolding compress
returns c =
    let s = c.args.s in
    c.added.ensures ∙ ap (added s) (c.rounds.ensures ∙ ap (rounds 64 0 s) c.message_schedule-schedule.ensures)
