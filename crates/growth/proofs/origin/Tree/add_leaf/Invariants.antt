use Rattle.std.proofs.Common.{◌≡◌, ◌-◌, ◌≤◌, length}
use Rattle.tree.specs.Meaning.{hash_by, code_of}
use Rattle.tree.specs.Nodes.{parent_at}
use Rattle.growth.specs.Grown.{parameters, Holds, carry, with_leaf, nodes_size}
use Rattle.growth.proofs.Carries.{Comes}
use Rattle.growth.proofs.Trees.{Fills}
use Rattle.growth.proofs.origin.Tree.add_leaf.Given as goal

-- the new leaf and what is joined to it so far fill subtrees up to `level`: where the row held what it should, their node
-- comes in there; and what is left to join gives the same
abbrev pub invariant-loop-position : goal.invariant-loop-position
invariant-loop-position g l =
    let hash = hash_by g.H.ChainHash g.H.TreeHash in
    let code = code_of g.C.Code in
    let o = l.self.origin.now in
    (l.level ≤ o.height)
    × Fills l.grown l.position (o.height - l.level)
    × (length l.node ≡ 16)
    × (length l.nodes ≡ nodes_size)
    × (Holds hash code o l.grown l.initial.nodes → Comes hash code o l.grown l.level l.position l.node l.nodes)
    × (carry (parent_at hash (parameters o)) l.level l.position l.node l.nodes ≡ with_leaf hash code o l.grown l.initial.nodes)

abbrev pub decreases-loop-position : goal.decreases-loop-position
decreases-loop-position g l = l.position
