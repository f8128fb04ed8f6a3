use Rattle.std.proofs.Common.{◌≡◌, ℕ, ◌≤◌, List}
use Rattle.tree.specs.Meaning.{hash_by}
use Rattle.tree.specs.Nodes.{parent_at, climb}
use Rattle.tree.specs.Rows.{sibling_in}
use Rattle.tree.specs.Views.{parameters_of}
use Rattle.tree.proofs.parameters.Parameters.climb_path.Given as goal

-- what is left of the way leads to the same root
abbrev pub invariant-loop-level : goal.invariant-loop-level
invariant-loop-level g l =
    let parent : ℕ → List ℕ → List ℕ → List ℕ = parent_at (hash_by g.H.ChainHash g.H.TreeHash) (parameters_of l.self) in
    let sibling : ℕ → List ℕ = sibling_in g.C.Code.COUNT l.self.height l.row in
    (l.level ≤ l.self.height)
    × (climb parent sibling l.level l.position l.node ≡ climb parent sibling l.self.height l.leaf l.start)
