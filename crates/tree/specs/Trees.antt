-- The tree over secrets, one for each leaf and chain.
use Rattle.std.specs.Prelude.{ℕ, ◌+◌, ◌-◌, ◌/◌, ◌%◌, ◌^◌, List}
use Rattle.tree.specs.Meaning.{Hash, Code}
use Rattle.tree.specs.Nodes.{Parameters, raise, parent_at, node, one_time}

-- the secret of each leaf and chain: the string at height 0 of the chain
abbrev pub Secrets : Type 0
Secrets = ℕ → ℕ → List ℕ

-- the string of leaf i's chain k at height e
abbrev pub chain_over : Hash → Parameters → Secrets → ℕ → ℕ → ℕ → List ℕ
chain_over hash p secrets i k e = raise (hash.step p.hash_key) e (secrets i k)

-- the one-time string of leaf i at place k: its chain k at the top digit, or the zero string past
-- the last chain
abbrev pub one_time_over : Hash → Code → Parameters → Secrets → ℕ → ℕ → List ℕ
one_time_over hash code p secrets i k =
    one_time (hash.step p.hash_key) code.count code.top (λ j. 0) (secrets i) k

-- the string at position b of the bottom level: leaf b / 2 ^ levels, place b % 2 ^ levels
abbrev pub bottom_over : Hash → Code → Parameters → Secrets → ℕ → List ℕ
bottom_over hash code p secrets b =
    one_time_over hash code p secrets (b / 2 ^ code.levels) (b % 2 ^ code.levels)

-- the node at level a, position b
abbrev pub node_over : Hash → Code → Parameters → Secrets → ℕ → ℕ → List ℕ
node_over hash code p secrets a b =
    node (parent_at hash p) (bottom_over hash code p secrets) a (p.height + code.levels - a) b
