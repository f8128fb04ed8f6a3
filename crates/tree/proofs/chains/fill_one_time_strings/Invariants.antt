use Rattle.std.proofs.Common.{◌≡◌, ℕ, ◌<◌, length}
use Rattle.strings.specs.Strings.{string_at}
use Rattle.tree.specs.Nodes.{one_time}
use Rattle.tree.specs.Rows.{most_places, work_size}
use Rattle.tree.proofs.chains.fill_one_time_strings.Given as goal

-- so far the row is that of a leaf with k chains
abbrev pub invariant-loop-chain : goal.invariant-loop-chain
invariant-loop-chain g l =
    (length l.row ≡ work_size)
    × ((i : ℕ) → i < most_places → string_at l.row i ≡ one_time (g.H.ChainHash.steps l.key) l.chain g.C.Code.TOP (g.C.Code.digits l.stamp) (string_at l.shown) i)
