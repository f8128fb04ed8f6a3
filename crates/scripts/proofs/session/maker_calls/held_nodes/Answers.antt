use Rattle.std.proofs.Common.{◌≡◌, ◌<◌, ◌≤◌, length, length-set, replicate, None, refl, sym, ap, ◌∙◌, arith}
use Rattle.std.proofs.lemmas.List.{take_all}
use Rattle.std.specs.List.{flat_map}
use Rattle.growth.specs.Grown.{held_levels}
use Rattle.signer.specs.Views.{making_of}
use Rattle.scripts.specs.Replies.{held_in, held_below}
use Rattle.scripts.proofs.Nodes.{nodes-none, nodes-more}
use Rattle.scripts.proofs.session.maker_calls.held_nodes.Goals as goal

pub loop-level-init : goal.loop-level-init
loop-level-init g c = (refl, nodes-none (making_of c.args.maker.now) (replicate held_levels None))

pub loop-level-preserved : goal.loop-level-preserved
loop-level-preserved g c =
    let short : c.loop-level.level < length c.loop-level.nodes = omega (arith, c.loop-level.invariant.0) in (
      length-set c.loop-level.nodes c.loop-level.level c.held_node.result ∙ c.loop-level.invariant.0,
      nodes-more (making_of c.args.maker.now) c.loop-level.level c.loop-level.nodes c.held_node.result short c.loop-level.invariant.1 c.held_node.ensures,
    )

pub returns : goal.returns
returns g c =
    let n = c.loop-level.level in
    let nodes = c.loop-level.nodes in
    let long : length nodes ≤ n = omega (arith, c.loop-level.invariant.0) in
    let last : n ≡ held_levels = omega arith in
    sym (ap (flat_map held_in) (take_all n nodes long)) ∙ (c.loop-level.invariant.1 ∙ ap (held_below (making_of c.args.maker.now)) last)
