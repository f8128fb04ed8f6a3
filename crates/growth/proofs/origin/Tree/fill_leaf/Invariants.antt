use Rattle.std.proofs.Common.{◌≡◌, ℕ, ◌<◌, length}
use Rattle.strings.specs.Strings.{string_at}
use Rattle.tree.specs.Meaning.{hash_by}
use Rattle.tree.specs.Nodes.{one_time}
use Rattle.tree.specs.Rows.{most_places, work_size}
use Rattle.growth.specs.Grown.{secret}
use Rattle.growth.proofs.origin.Tree.fill_leaf.Given as goal

-- so far the row is that of a leaf with k chains
abbrev pub invariant-loop-chain : goal.invariant-loop-chain
invariant-loop-chain g l =
    (length l.row ≡ work_size)
    × ((i : ℕ) → i < most_places → string_at l.row i ≡ one_time (g.H.ChainHash.steps l.self.origin.now.hash_key) l.chain g.C.Code.TOP (λ j. 0) (secret (hash_by g.H.ChainHash g.H.TreeHash) l.self.origin.now l.leaf) i)
