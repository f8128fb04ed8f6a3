use Rattle.std.proofs.Common.{get_or}
use lib.Bits.{bit_xor}
use Rattle.strings.proofs.Laws.{Edited}
use Rattle.strings.proofs.xor.Given as goal

abbrev pub invariant-loop-j : goal.invariant-loop-j
invariant-loop-j g l = Edited (λ k. bit_xor (get_or l.string k 0) (get_or l.mask k 0)) l.string l.out l.j
