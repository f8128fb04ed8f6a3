use Rattle.std.proofs.Common.{ap, ◌∙◌}
use Rattle.rules.specs.Rules.{grow_state}
use Rattle.rules.specs.States.{Making}
use Rattle.signer.specs.Views.{making_of}
use Rattle.tree.specs.Meaning.{hash_by, code_of}
use Rattle.bench_calls.proofs.Grows.{grows_none, grows-more}
use Rattle.bench_calls.proofs.lives.grow_on.Goals as goal

pub loop-init : goal.loop-init
loop-init g c = grows_none _ _ _

pub loop-preserved : goal.loop-preserved
loop-preserved g c =
    let once : Making → Making = grow_state (hash_by g.H.ChainHash g.H.TreeHash) (code_of g.C.Code) in
    c.grow.ensures.state ∙ ap once c.loop.invariant ∙ grows-more _ _ c.loop.counter (making_of c.args.maker.now)
