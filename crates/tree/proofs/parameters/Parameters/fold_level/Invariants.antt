use Rattle.std.proofs.Common.{◌≡◌, ℕ, ◌+◌, ◌*◌, ◌<◌, ◌≤◌}
use Rattle.strings.specs.Strings.{string_at}
use Rattle.tree.specs.Meaning.{hash_by}
use Rattle.tree.specs.Nodes.{parent_at}
use Rattle.tree.specs.Views.{parameters_of}
use Rattle.tree.proofs.parameters.Parameters.fold_level.Given as goal

abbrev pub invariant-loop-place : goal.invariant-loop-place
invariant-loop-place g l =
    ((k : ℕ) → k < l.place → string_at l.row k ≡ parent_at (hash_by g.H.ChainHash g.H.TreeHash) (parameters_of l.self) l.level (string_at l.initial.row (2 * k)) (string_at l.initial.row (2 * k + 1)))
    × ((k : ℕ) → l.place ≤ k → string_at l.row k ≡ string_at l.initial.row k)
