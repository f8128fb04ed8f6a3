use Rattle.std.proofs.Common.{sym, ◌∙◌, arith}
use Rattle.tree.specs.Meaning.{hash_by, code_of}
use Rattle.tree.specs.Nodes.{parent_at}
use Rattle.growth.proofs.Trees.{node-up}
use Rattle.growth.proofs.origin.Tree.+grow_node.Goals as goal

pub returns : goal.returns
returns g t c =
    let hash = hash_by g.H.ChainHash g.H.TreeHash in
    let code = code_of g.C.Code in
    let o = c.args.self.now.origin.now in
    c.parent.ensures
    ∙ (λ i. parent_at hash (c.parameters.ensures.value i) c.args.level (c.grow_node-left.ensures i) (c.grow_node-right.ensures i))
    ∙ sym (node-up hash code o c.args.level c.args.position (omega arith))
