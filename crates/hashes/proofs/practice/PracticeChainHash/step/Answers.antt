use Rattle.std.proofs.Common.{arith}
use Rattle.strings.proofs.Laws.{edited-all}
use Rattle.hashes.specs.Practice.{step_byte}
use Rattle.hashes.proofs.practice.PracticeChainHash.step.Goals as goal

pub returns : goal.returns
returns c = edited-all (step_byte c.args.key.now c.args.string.now) c.args.string.now c.loop-j.out 16 _ c.told-string (omega arith) c.loop-j.invariant
