use Rattle.std.proofs.Common.{arith}
use Rattle.strings.proofs.Laws.{edited-all}
use Rattle.hashes.specs.Practice.{pair_byte}
use Rattle.hashes.proofs.practice.PracticeTreeHash.pair.Goals as goal

pub returns : goal.returns
returns c = edited-all (pair_byte c.args.key.now c.args.left.now c.args.right.now) c.args.left.now c.loop-j.out 16 _ c.told-left (omega arith) c.loop-j.invariant
