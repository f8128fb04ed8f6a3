use Rattle.std.proofs.Common.{◌/◌, length, ◌∙◌, arith}
use Rattle.std.proofs.lemmas.List.{length-set}
use Rattle.sha256.specs.Compress.{word_at}
use Rattle.strings.proofs.Laws.{filled_more}
use Rattle.sha256.proofs.Words.{front-filled, word-chunk}
use Rattle.sha256.proofs.schedule.block_words.Goals as goal

pub loop-t-preserved : goal.loop-t-preserved
loop-t-preserved c =
    let block = c.args.block.now in
    let word = word-chunk block c.loop-t.t (length block / 4) _ (omega (arith, c.as_chunks.ensures.front_len)) c.as_chunks.ensures.front in (
      length-set c.loop-t.w c.loop-t.t _ ∙ c.loop-t.invariant.0,
      filled_more (word_at block) c.loop-t.w c.loop-t.t c.from_be_bytes.result (omega (arith, c.as_chunks.ensures.front_len)) (c.from_be_bytes.ensures ∙ word) c.loop-t.invariant.1,
    )

pub returns : goal.returns
returns c = front-filled (word_at c.args.block.now) c.loop-t.w 16 (omega arith) (λ k h. c.loop-t.invariant.1 k (omega (arith, c.as_chunks.ensures.front_len)))
