use Rattle.std.proofs.Common.{◌≡◌, length, sym, ◌∙◌, arith, rules}
use Rattle.std.proofs.lemmas.List.{length-set}
use Rattle.sha256.specs.Compress.{words}
use Rattle.sha256.proofs.Words.{extended_none, extended-step}
use Rattle.sha256.proofs.schedule.message_schedule.Goals as goal

pub loop-t-init : goal.loop-t-init
loop-t-init c =
    let long : length c.block_words-w.result ≡ 64 = search rules in
    (long, c.block_words-w.ensures ∙ sym (extended_none (words c.args.block.now)))

pub loop-t-preserved : goal.loop-t-preserved
loop-t-preserved c = (
  length-set c.loop-t.w c.loop-t.t _ ∙ c.loop-t.invariant.0,
  extended-step c.loop-t.w (words c.args.block.now) c.loop-t.t c.next_word.result c.loop-t.auto.t (omega arith) c.loop-t.invariant.1 c.next_word.ensures,
)
