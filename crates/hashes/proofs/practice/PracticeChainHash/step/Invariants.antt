use Rattle.strings.proofs.Laws.{Edited}
use Rattle.hashes.specs.Practice.{step_byte}
use Rattle.hashes.proofs.practice.PracticeChainHash.step.Given as goal

abbrev pub invariant-loop-j : goal.invariant-loop-j
invariant-loop-j l = Edited (step_byte l.key l.string) l.string l.out l.j
