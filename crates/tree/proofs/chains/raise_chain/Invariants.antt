use Rattle.std.proofs.Common.{◌≡◌}
use Rattle.tree.specs.Nodes.{raise}
use Rattle.tree.proofs.chains.raise_chain.Given as goal

abbrev pub invariant-loop : goal.invariant-loop
invariant-loop g l = l.raised ≡ raise (g.H.ChainHash.steps l.key) l.counter l.string
