-- The root that a leaf number, a stamp and a row of strings lead to.
use Rattle.std.specs.Prelude.{ℕ, List}
use Rattle.tree.specs.Meaning.{Hash, Code}
use Rattle.tree.specs.Nodes.{Parameters, parent_at, node, climb, one_time}
use Rattle.tree.specs.Rows.{chain_in, sibling_in}

-- the leaf's node: its chains, shown at the heights of the stamp's digits, are raised to the top
-- digit, and the one-time strings folded (an L-tree)
abbrev pub rebuilt_leaf : Hash → Code → Parameters → List ℕ → List ℕ → List ℕ
rebuilt_leaf hash code p stamp row =
    node (parent_at hash p)
    (one_time (hash.step p.hash_key) code.count code.top (code.digit stamp) (chain_in row))
    p.height code.levels 0

-- the root of leaf number i, from its row of strings for this stamp
abbrev pub rebuilt : Hash → Code → Parameters → ℕ → List ℕ → List ℕ → List ℕ
rebuilt hash code p i stamp row =
    climb (parent_at hash p) (sibling_in code.count p.height row) p.height i
    (rebuilt_leaf hash code p stamp row)
