use Rattle.std.proofs.Common.{sym, ap, ◌∙◌}
use Rattle.tree.proofs.Laws.{raise-none, raise-more}
use Rattle.tree.proofs.chains.raise_chain.Goals as goal

pub loop-init : goal.loop-init
loop-init g c = sym (raise-none _ _)

pub loop-preserved : goal.loop-preserved
loop-preserved g c =
    let step = g.H.ChainHash.steps c.args.key.now in
    c.step-raised.ensures ∙ ap step c.loop.invariant ∙ raise-more step c.loop.counter c.args.string.now
