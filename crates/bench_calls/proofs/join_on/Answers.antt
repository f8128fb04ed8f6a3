use Rattle.std.proofs.Common.{ℕ, List, sym, ap, ◌∙◌}
use Rattle.tree.proofs.Laws.{raise-none, raise-more}
use Rattle.bench_calls.proofs.join_on.Goals as goal

pub loop-init : goal.loop-init
loop-init g c = sym (raise-none _ _)

pub loop-preserved : goal.loop-preserved
loop-preserved g c =
    let join : List ℕ → List ℕ = λ s. g.H.TreeHash.pairs c.args.key.now s c.args.right.now in
    c.pair-last.ensures ∙ ap join c.loop.invariant ∙ raise-more join c.loop.counter c.args.left.now
