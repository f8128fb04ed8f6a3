use Rattle.std.proofs.Common.{◌/◌, length, arith, rules}
use Rattle.sha256.proofs.Blocks.{hashed-none, hashed-chunk}
use Rattle.sha256.proofs.digest.hash_blocks.Goals as goal

pub loop-block-init : goal.loop-block-init
loop-block-init c = search (rules, hashed-none)

pub loop-block-preserved : goal.loop-block-preserved
loop-block-preserved c =
    let bytes = c.args.bytes.now in
    hashed-chunk c.loop-block.block-index (length bytes / 64) c.args.start c.loop-block.s _ bytes _ c.loop-block.invariant (omega (arith, c.as_chunks.ensures.front_len)) c.as_chunks.ensures.front c.compress-s.ensures
