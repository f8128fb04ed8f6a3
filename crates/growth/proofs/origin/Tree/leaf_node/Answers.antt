use Rattle.std.proofs.Common.{ℕ, ◌+◌, ◌*◌, ◌^◌, List, ◌∙◌, zero-mul, arith, pow_mono}
use Rattle.strings.specs.Strings.{string_at}
use Rattle.tree.specs.Meaning.{hash_by, code_of}
use Rattle.tree.specs.Nodes.{node, parent_at}
use Rattle.tree.proofs.Laws.{node-moved}
use Rattle.growth.specs.Grown.{leaf_string, parameters}
use Rattle.growth.proofs.Trees.{leaf-is}
use Rattle.growth.proofs.origin.Tree.leaf_node.Goals as goal

pub returns : goal.returns
returns g c =
    let hash = hash_by g.H.ChainHash g.H.TreeHash in
    let code = code_of g.C.Code in
    let o = c.args.self.now.origin.now in
    let held : ℕ → List ℕ = string_at c.fill_leaf.new.row in
    c.fold.ensures
    ∙ (λ i. node (parent_at hash (c.parameters-parameters.ensures.value i)) held o.height (c.LEVELS.ensures i) 0)
    ∙ node-moved (parent_at hash (parameters o)) held (leaf_string hash code o c.args.leaf) o.height code.levels 0 0 (λ k lt. c.fill_leaf.ensures (0 * 2 ^ code.levels + k) (omega (arith, zero-mul (2 ^ code.levels), pow_mono g.met.C.Code.level_range.1)))
    ∙ leaf-is hash code o c.args.leaf
