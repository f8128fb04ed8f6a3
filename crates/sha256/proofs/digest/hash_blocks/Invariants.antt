use Rattle.std.proofs.Common.{◌≡◌}
use Rattle.sha256.specs.Digest.{hashed}
use Rattle.sha256.proofs.digest.hash_blocks.Given as goal

abbrev pub invariant-loop-block : goal.invariant-loop-block
invariant-loop-block l = l.s ≡ hashed l.block-index l.fn.start l.fn.bytes
