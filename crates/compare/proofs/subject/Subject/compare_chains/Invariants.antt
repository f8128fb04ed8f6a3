use Rattle.std.proofs.Common.{◌≡◌, ℕ, ◌<◌, length}
use Rattle.strings.specs.Strings.{string_at}
use Rattle.tree.specs.Meaning.{hash_by, code_of}
use Rattle.tree.specs.Nodes.{one_time}
use Rattle.tree.specs.Rows.{most_places, work_size}
use Rattle.growth.specs.Grown.{secret}
use Rattle.compare.specs.Search.{first_from, height_search, unrevealed_find_at}
use Rattle.compare.specs.Views.{traced_of}
use Rattle.compare.proofs.subject.Subject.compare_chains.Given as goal

-- so far the rows are those of a leaf with k chains, and the finds are those of its first k chains
abbrev pub invariant-loop-place : goal.invariant-loop-place
invariant-loop-place g l =
    let hash = hash_by g.H.ChainHash g.H.TreeHash in
    let code = code_of g.C.Code in
    let t = traced_of l.self in
    let step = hash.step t.origin.hash_key in
    (length l.ours ≡ work_size)
    × (length l.theirs ≡ work_size)
    × ((i : ℕ) → i < most_places → string_at l.ours i ≡ one_time step l.place code.top (λ j. 0) (secret hash t.origin t.leaf) i)
    × ((i : ℕ) → i < most_places → string_at l.theirs i ≡ one_time step l.place code.top (code.digit t.stamp) (string_at t.row) i)
    × (l.broken ≡ first_from (height_search hash code t) 0 l.place)
    × (l.unrevealed ≡ first_from (unrevealed_find_at hash code t) 0 l.place)
