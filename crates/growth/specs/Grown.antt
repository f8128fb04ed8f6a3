-- The tree that a seed, a hash key and masks give, and what of it is held while it is grown.
use Rattle.std.specs.Prelude.{◌≡◌, ℕ, zero, suc, ◌-◌, ◌*◌, ◌/◌, ◌%◌, ◌^◌, ◌<◌, Bool}
use Rattle.std.specs.Prelude.{if◌then◌else◌, ◌&&◌, List, ◌==◌, nat_le}
use Rattle.strings.specs.Strings.{numeral, zero_string, string_at, put_string}
use Rattle.tree.specs.Meaning.{Hash, Code}
use Rattle.tree.specs.Nodes.{Parameters, parent_at}
use Rattle.tree.specs.Trees.{chain_over, one_time_over, bottom_over, node_over}
use Rattle.growth.specs.declared.origin.Origin.{Origin}

-- the bytes of the masks of a key: a left and a right one for each of 16 levels, as many as there
-- are at most
abbrev pub masks_size : ℕ
masks_size = 512

-- the parameters of the tree, apart from its seed
abbrev pub parameters : Origin → Parameters
parameters o = record { hash_key = o.hash_key; masks = o.masks; height = o.height }

-- the secret of leaf i and chain k: how it comes from the seed is known here alone
abbrev pub secret : Hash → Origin → ℕ → ℕ → List ℕ
secret hash o i k = hash.pair o.seed (numeral i) (numeral k)

-- the string of leaf i's chain k at height e
abbrev pub chain_string : Hash → Origin → ℕ → ℕ → ℕ → List ℕ
chain_string hash o = chain_over hash (parameters o) (secret hash o)

-- the one-time string of leaf i at place k
abbrev pub leaf_string : Hash → Code → Origin → ℕ → ℕ → List ℕ
leaf_string hash code o = one_time_over hash code (parameters o) (secret hash o)

-- the string at position b of the bottom level
abbrev pub bottom : Hash → Code → Origin → ℕ → List ℕ
bottom hash code o = bottom_over hash code (parameters o) (secret hash o)

-- the node at level a, position b
abbrev pub node_at : Hash → Code → Origin → ℕ → ℕ → List ℕ
node_at hash code o = node_over hash code (parameters o) (secret hash o)

-- how many levels a tree has from its root to its leaves, at most
abbrev pub held_levels : ℕ
held_levels = 9

-- the bytes of the nodes that are held while a tree is grown: a string for each of these levels
abbrev pub nodes_size : ℕ
nodes_size = 16 * held_levels

-- how many subtrees of 2 ^ j leaves g leaves fill
abbrev pub filled : ℕ → ℕ → ℕ
filled g j = g / 2 ^ j

-- of g leaves, the largest complete subtrees are one of 2 ^ j leaves for each bit j of g
abbrev pub is_held : ℕ → ℕ → ℕ → Bool
is_held h g a = nat_le a h && filled g (h - a) % 2 == 1

-- what is held at level a after g leaves: the last node that g leaves fill, where it is over one of
-- the largest complete subtrees, and else the zero string
abbrev pub held_at : Hash → Code → Origin → ℕ → ℕ → List ℕ
held_at hash code o g a =
    if is_held o.height g a then node_at hash code o a (filled g (o.height - a) - 1)
    else zero_string

-- all levels hold what they should after g leaves, and nothing else (the treehash stack); string a
-- of the row of nodes is for level a
abbrev pub Holds : Hash → Code → Origin → ℕ → List ℕ → Type 0
Holds hash code o g nodes =
    (a : ℕ) → a < held_levels → string_at nodes a ≡ held_at hash code o g a

-- node s comes in at level a, position b: where b is odd it joins what is held there and goes on
-- above; else it is held there
unfoldable pub carry : (ℕ → List ℕ → List ℕ → List ℕ) → ℕ → ℕ → List ℕ → List ℕ → List ℕ
carry parent zero b s nodes = put_string nodes 0 s
carry parent (suc a) b s nodes =
    if b % 2 == 1
    then carry parent a (b / 2) (parent a (string_at nodes (suc a)) s)
    (put_string nodes (suc a) zero_string)
    else put_string nodes (suc a) s

-- the row of nodes with leaf number g added
abbrev pub with_leaf : Hash → Code → Origin → ℕ → List ℕ → List ℕ
with_leaf hash code o g nodes =
    carry (parent_at hash (parameters o)) o.height g (node_at hash code o o.height g) nodes
