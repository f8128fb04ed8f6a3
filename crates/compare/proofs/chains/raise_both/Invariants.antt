use Rattle.std.proofs.Common.{◌≡◌, ◌-◌}
use Rattle.tree.specs.Nodes.{raise}
use Rattle.compare.specs.Search.{last_from, step_find}
use Rattle.compare.proofs.chains.raise_both.Given as goal

abbrev pub invariant-loop-height : goal.invariant-loop-height
invariant-loop-height g l =
    (l.sides.ours ≡ raise (g.H.ChainHash.steps l.key) (l.height - l.from) l.start.ours)
    × (l.sides.theirs ≡ raise (g.H.ChainHash.steps l.key) (l.height - l.from) l.start.theirs)
    × (l.find ≡ last_from (λ e. step_find (g.H.ChainHash.steps l.key) l.chain e (raise (g.H.ChainHash.steps l.key) (e - l.from) l.start.ours) (raise (g.H.ChainHash.steps l.key) (e - l.from) l.start.theirs)) l.from (l.height - l.from))
