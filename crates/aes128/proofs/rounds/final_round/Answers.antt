use Rattle.std.proofs.Common.{ap, ◌∙◌}
use Rattle.strings.specs.Strings.{xor}
use Rattle.aes128.specs.State.{shift_rows, final_round}
use Rattle.aes128.proofs.rounds.final_round.Goals as goal

pub returns : goal.returns
unfolding final_round
returns c =
    c.xor.ensures.value
    ∙ ap (λ s. xor s c.args.round_key.now) (c.shift_rows.ensures ∙ ap shift_rows c.sub_bytes.ensures)
