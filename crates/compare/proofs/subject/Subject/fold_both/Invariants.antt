use Rattle.std.proofs.Common.{◌≡◌, ◌-◌, ◌≤◌, length}
use Rattle.strings.specs.Strings.{string_at}
use Rattle.tree.specs.Meaning.{hash_by}
use Rattle.tree.specs.Nodes.{parent_at}
use Rattle.tree.specs.Rows.{work_size}
use Rattle.growth.specs.Grown.{parameters}
use Rattle.compare.specs.Search.{first_from, depth_search}
use Rattle.compare.proofs.Joined.{Level}
use Rattle.compare.proofs.subject.Subject.fold_both.Given as goal

abbrev pub invariant-loop-depth : goal.invariant-loop-depth
invariant-loop-depth g l =
    let o = l.self.tree.origin.now in
    let hash = hash_by g.H.ChainHash g.H.TreeHash in
    let parent = parent_at hash (parameters o) in
    let levels = g.C.Code.LEVELS in
    (l.depth ≤ levels)
    × (length l.ours ≡ work_size)
    × (length l.theirs ≡ work_size)
    × Level parent o.height levels (string_at l.initial.ours) l.depth (string_at l.ours)
    × Level parent o.height levels (string_at l.initial.theirs) l.depth (string_at l.theirs)
    × (l.found ≡ first_from (depth_search hash (parameters o) l.self.leaf levels (string_at l.initial.ours) (string_at l.initial.theirs)) l.depth (levels - l.depth))

abbrev pub decreases-loop-depth : goal.decreases-loop-depth
decreases-loop-depth g l = l.depth
