use Rattle.std.proofs.Common.{◌≡◌, ℕ, ◌+◌, ◌-◌, ◌^◌, ◌<◌, ◌≤◌}
use Rattle.strings.specs.Strings.{string_at}
use Rattle.tree.specs.Meaning.{hash_by}
use Rattle.tree.specs.Nodes.{parent_at, node}
use Rattle.tree.specs.Views.{parameters_of}
use Rattle.tree.proofs.parameters.Parameters.fold.Given as goal

abbrev pub invariant-loop-depth : goal.invariant-loop-depth
invariant-loop-depth g l =
    (l.depth ≤ l.levels)
    × ((k : ℕ) → k < 2 ^ l.depth → string_at l.row k ≡ node (parent_at (hash_by g.H.ChainHash g.H.TreeHash) (parameters_of l.self)) (string_at l.initial.row) (l.level + l.depth) (l.levels - l.depth) k)
