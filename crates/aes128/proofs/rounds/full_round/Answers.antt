use Rattle.std.proofs.Common.{◌≡◌, refl, ap, ◌∙◌}
use Rattle.strings.specs.Strings.{xor}
use Rattle.aes128.specs.State.{sub_bytes, shift_rows, mix_columns, full_round}
use Rattle.aes128.proofs.rounds.full_round.Goals as goal

pub returns : goal.returns
unfolding full_round
returns c =
    let state = c.args.state.now in
    let either : sub_bytes (shift_rows state) ≡ shift_rows (sub_bytes state) = refl in
    c.xor.ensures.value
    ∙ ap (λ s. xor s c.args.round_key.now) (c.mix_columns.ensures ∙ ap (λ s. mix_columns (sub_bytes s)) c.shift_rows.ensures ∙ ap mix_columns either)
