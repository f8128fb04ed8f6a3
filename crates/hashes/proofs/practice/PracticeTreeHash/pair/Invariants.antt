use Rattle.strings.proofs.Laws.{Edited}
use Rattle.hashes.specs.Practice.{pair_byte}
use Rattle.hashes.proofs.practice.PracticeTreeHash.pair.Given as goal

abbrev pub invariant-loop-j : goal.invariant-loop-j
invariant-loop-j l = Edited (pair_byte l.key l.left l.right) l.left l.out l.j
