use Rattle.std.proofs.Common.{◌≡◌, ◌-◌, ◌/◌, ◌^◌, ◌≤◌}
use Rattle.tree.specs.Meaning.{hash_by, code_of}
use Rattle.compare.specs.Search.{first_from, level_search}
use Rattle.compare.specs.Sides.{our_node, their_node}
use Rattle.compare.specs.Views.{traced_of}
use Rattle.compare.proofs.subject.Subject.climb_to_root.Given as goal

abbrev pub invariant-loop-level : goal.invariant-loop-level
invariant-loop-level g l =
    let hash = hash_by g.H.ChainHash g.H.TreeHash in
    let code = code_of g.C.Code in
    let t = traced_of l.self in
    let h = t.origin.height in
    (l.level ≤ h)
    × (l.position ≡ t.leaf / 2 ^ (h - l.level))
    × (l.sides.ours ≡ our_node hash code t l.level l.position)
    × (l.sides.theirs ≡ their_node hash code t l.level l.position)
    × (l.find ≡ first_from (level_search hash code t) l.level (h - l.level))
