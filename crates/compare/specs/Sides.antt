-- The two sides of a comparison at one leaf: what the signer's seed gives, and what a release
-- record gives.
use Rattle.std.specs.Prelude.{ℕ, zero, suc, ◌+◌, ◌-◌, ◌*◌, ◌/◌, ◌%◌, ◌^◌, if◌then◌else◌, List}
use Rattle.std.specs.Prelude.{Some, None, Option, ◌==◌, nat_le}
use Rattle.strings.specs.Strings.{xor, string_at}
use Rattle.tree.specs.Meaning.{Hash, Code}
use Rattle.tree.specs.Rows.{chain_in, sibling_in}
use Rattle.tree.specs.Nodes.{raise, node, one_time, parent_at}
use Rattle.growth.specs.Grown.{chain_string, parameters, node_at}
use Rattle.growth.specs.declared.origin.Origin.{Origin}

-- what is compared: a record's leaf number and its row of strings, for a stamp; on the signer's
-- side what the tree is grown from, and the leaf's row of the ledger
pub record Traced : Type 0 where
  pub origin : Origin
  pub entered : Option (List ℕ)
  pub stamp : List ℕ
  pub leaf : ℕ
  pub row : List ℕ

-- what a record gives for the node at position b, d levels above the leaves: on the way up from
-- leaf i it is the parent of what the record gives below it; beside that way it is the record's
-- sibling of that level
unfoldable pub given : (ℕ → List ℕ → List ℕ → List ℕ) → (ℕ → List ℕ) → List ℕ → ℕ → ℕ → ℕ → ℕ →
    List ℕ
given parent sibling leaf h i zero b = if b == i then leaf else sibling h
given parent sibling leaf h i (suc d) b =
    if b == i / 2 ^ suc d
    then parent (h - suc d) (given parent sibling leaf h i d (2 * b))
    (given parent sibling leaf h i d (2 * b + 1))
    else sibling (h - suc d)

-- the least height of a chain that a row of the ledger has revealed: the digit of the stamp in it,
-- or the top digit alone
abbrev pub revealed_height : Code → Option (List ℕ) → ℕ → ℕ
revealed_height code (Some stamp) k = code.digit stamp k
revealed_height code None k = code.top

module _ (hash : Hash) (code : Code) (t : Traced) where
  -- the string of chain k at height e, on the signer's side
  abbrev pub our_chain : ℕ → ℕ → List ℕ
  our_chain k e = chain_string hash t.origin t.leaf k e

  -- the same on the record's side, where a chain begins at the stamp's digit
  abbrev pub their_chain : ℕ → ℕ → List ℕ
  their_chain k e =
      raise (hash.step t.origin.hash_key) (e - code.digit t.stamp k) (chain_in t.row k)

  -- the node at level a, position b, on the signer's side
  abbrev pub our_node : ℕ → ℕ → List ℕ
  our_node a b = node_at hash code t.origin a b

  -- the record's one-time string at place k of its leaf
  abbrev pub their_one_time : ℕ → List ℕ
  their_one_time k =
      one_time (hash.step t.origin.hash_key) code.count code.top (code.digit t.stamp)
      (chain_in t.row) k

  -- the record's one-time string at position p of the bottom level
  abbrev pub their_bottom : ℕ → List ℕ
  their_bottom p = their_one_time (p % 2 ^ code.levels)

  -- the node of the record's leaf: the root of its L-tree
  abbrev pub their_leaf : List ℕ
  their_leaf =
      node (parent_at hash (parameters t.origin)) their_bottom t.origin.height code.levels t.leaf

  -- the record's sibling at level a, on the leaf's authentication path
  abbrev pub their_sibling : ℕ → List ℕ
  their_sibling a = sibling_in code.count t.origin.height t.row a

  -- the node at level a, position b, on the record's side, for nodes above or within its leaf and
  -- the siblings on the way
  abbrev pub their_node : ℕ → ℕ → List ℕ
  their_node a b =
      if nat_le a t.origin.height
      then given (parent_at hash (parameters t.origin)) their_sibling their_leaf t.origin.height
      t.leaf (t.origin.height - a) b
      else node (parent_at hash (parameters t.origin)) their_bottom a
      (t.origin.height + code.levels - a) b

  -- the left input of pair at level a, position b, of a side: the left child under the left mask of
  -- level a
  abbrev pub left_input : (ℕ → ℕ → List ℕ) → ℕ → ℕ → List ℕ
  left_input side a b = xor (side (a + 1) (2 * b)) (string_at t.origin.masks (2 * a))

  -- the right input, of the right child under the right mask
  abbrev pub right_input : (ℕ → ℕ → List ℕ) → ℕ → ℕ → List ℕ
  right_input side a b = xor (side (a + 1) (2 * b + 1)) (string_at t.origin.masks (2 * a + 1))
