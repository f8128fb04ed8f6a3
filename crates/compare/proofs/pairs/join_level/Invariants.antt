use Rattle.std.proofs.Common.{◌≡◌, ◌+◌, ◌*◌}
use Rattle.strings.specs.Strings.{string_at}
use Rattle.tree.specs.Meaning.{hash_by}
use Rattle.tree.specs.Nodes.{parent_at}
use Rattle.tree.specs.Views.{parameters_of}
use Rattle.compare.specs.Search.{first_from, child_find}
use Rattle.compare.proofs.Joined.{Joined}
use Rattle.compare.proofs.pairs.join_level.Given as goal

abbrev pub invariant-loop-place : goal.invariant-loop-place
invariant-loop-place g l =
    let hash = hash_by g.H.ChainHash g.H.TreeHash in
    let p = parameters_of l.parameters in
    Joined (parent_at hash p l.level) (string_at l.initial.ours) (string_at l.ours) l.place
    × Joined (parent_at hash p l.level) (string_at l.initial.theirs) (string_at l.theirs) l.place
    × (l.found ≡ first_from (λ q. child_find hash p l.level (l.first + q) (string_at l.initial.ours (2 * q)) (string_at l.initial.ours (2 * q + 1)) (string_at l.initial.theirs (2 * q)) (string_at l.initial.theirs (2 * q + 1))) 0 l.place)
