use Rattle.std.proofs.Common.{◌≡◌}
use Rattle.tree.specs.Nodes.{raise}
use Rattle.bench_calls.proofs.join_on.Given as goal

abbrev pub invariant-loop : goal.invariant-loop
invariant-loop g l = l.last ≡ raise (λ s. g.H.TreeHash.pairs l.key s l.right) l.counter l.left
