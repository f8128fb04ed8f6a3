-- A search that finds what trace is to find.
use Rattle.std.specs.Prelude.{ℕ, zero, suc, ◌+◌, ◌-◌, ◌*◌, ◌/◌, ◌^◌, not, ◌&&◌, List, ◌++◌}
use Rattle.std.specs.Prelude.{Some, None, Option, nat_lt}
use Rattle.std.specs.Option.{option_or}
use Rattle.std.specs.Bool.{then_some}
use Rattle.std.specs.Str.{bytes_eq}
use Rattle.strings.specs.Strings.{xor, string_at, zero_string}
use Rattle.tree.specs.Meaning.{Hash, Code}
use Rattle.tree.specs.Nodes.{Parameters, parent_at, node}
use Rattle.growth.specs.Grown.{parameters}
use Rattle.compare.specs.Sides.{Traced, our_chain, their_chain, our_node, their_node}
use Rattle.compare.specs.Sides.{revealed_height}
use Rattle.compare.specs.declared.verdict.Find.{Find}
use Rattle.compare.specs.declared.verdict.Verdict.{Verdict}
use Rattle.compare.specs.declared.verdict.Verdict.TheVariants.{Ours, Node, Chain, Unrevealed}

-- the first find at n places from a on
unfoldable pub first_from : (ℕ → Option Find) → ℕ → ℕ → Option Find
first_from find a zero = None
first_from find a (suc n) = option_or (find a) (first_from find (suc a) n)

-- the last find at n places from a on
unfoldable pub last_from : (ℕ → Option Find) → ℕ → ℕ → Option Find
last_from find a zero = None
last_from find a (suc n) = option_or (find (a + n)) (last_from find a n)

-- two inputs of pair at level a, position b: different, with one value
abbrev pub pair_find : (List ℕ → List ℕ → List ℕ) → ℕ → ℕ → List ℕ → List ℕ → List ℕ → List ℕ →
    Option Find
pair_find pair a b l r l' r' =
    then_some (bytes_eq (pair l r) (pair l' r') && not (bytes_eq l l' && bytes_eq r r'))
    (record { first = a; second = b; report = l ++ (r ++ (l' ++ r')) })

-- the same of two pairs of children, under the masks of level a
abbrev pub child_find : Hash → Parameters → ℕ → ℕ → List ℕ → List ℕ → List ℕ → List ℕ → Option Find
child_find hash p a b l r l' r' =
    let left = string_at p.masks (2 * a) in
    let right = string_at p.masks (2 * a + 1) in
    pair_find (hash.pair p.hash_key) a b (xor l left) (xor r right) (xor l' left) (xor r' right)

-- over two rows of l levels of one-time strings of leaf i: the first find c levels below the leaf's
-- node
abbrev pub depth_search : Hash → Parameters → ℕ → ℕ → (ℕ → List ℕ) → (ℕ → List ℕ) → ℕ → Option Find
depth_search hash p i l ours theirs c =
    let below = p.height + c + 1 in
    let our = node (parent_at hash p) ours below (l - (c + 1)) in
    let their = node (parent_at hash p) theirs below (l - (c + 1)) in
    first_from
    (λ q.
    child_find hash p (p.height + c) (i * 2 ^ c + q)
    (our (2 * q)) (our (2 * q + 1)) (their (2 * q)) (their (2 * q + 1)))
    0 (2 ^ c)

-- two strings of chain k at height e: different, with one step
abbrev pub step_find : (List ℕ → List ℕ) → ℕ → ℕ → List ℕ → List ℕ → Option Find
step_find step k e s s' =
    then_some (bytes_eq (step s) (step s') && not (bytes_eq s s'))
    (record { first = k; second = e; report = s ++ (s' ++ (zero_string ++ zero_string)) })

-- the string s of chain k, whose digit is below the revealed height
abbrev pub unrevealed_find : ℕ → ℕ → ℕ → List ℕ → Option Find
unrevealed_find k digit revealed s =
    let report = s ++ (zero_string ++ (zero_string ++ zero_string)) in
    then_some (nat_lt digit revealed) (record { first = k; second = digit; report = report })

-- the first kind of find that there is
abbrev pub chosen : Option Find → Option Find → Option Find → Verdict
chosen (Some f) chain string = Node f
chosen None (Some f) string = Chain f
chosen None None (Some f) = Unrevealed f
chosen None None None = Ours

module _ (hash : Hash) (code : Code) (t : Traced) where
  -- the find at the node of level a, position b: its children on both sides
  abbrev pub node_find_at : ℕ → ℕ → Option Find
  node_find_at a b =
      child_find hash (parameters t.origin) a b
      (our_node hash code t (a + 1) (2 * b)) (our_node hash code t (a + 1) (2 * b + 1))
      (their_node hash code t (a + 1) (2 * b)) (their_node hash code t (a + 1) (2 * b + 1))

  -- of level a, how many places stand above the leaf or within it
  abbrev pub width : ℕ → ℕ
  width a = 2 ^ (a - t.origin.height)

  -- of level a, the first of these places
  abbrev pub first_place : ℕ → ℕ
  first_place a = t.leaf / 2 ^ (t.origin.height - a) * width a

  -- the first find at these places of level a
  abbrev pub level_search : ℕ → Option Find
  level_search a = first_from (node_find_at a) (first_place a) (width a)

  -- the first find of all levels, from the root down
  abbrev pub node_search : Option Find
  node_search = first_from level_search 0 (t.origin.height + code.levels)

  -- the find at chain k, height e
  abbrev pub chain_find_at : ℕ → ℕ → Option Find
  chain_find_at k e =
      step_find (hash.step t.origin.hash_key) k e
      (our_chain hash code t k e) (their_chain hash code t k e)

  -- of chain k, from the stamp's digit on, the find at the greatest height that has one
  abbrev pub height_search : ℕ → Option Find
  height_search k =
      last_from (chain_find_at k) (code.digit t.stamp k) (code.top - code.digit t.stamp k)

  -- the find of the first chain that has one
  abbrev pub chain_search : Option Find
  chain_search = first_from height_search 0 code.count

  -- the find of chain k's string at the stamp's digit, where that was not revealed
  abbrev pub unrevealed_find_at : ℕ → Option Find
  unrevealed_find_at k =
      unrevealed_find k (code.digit t.stamp k) (revealed_height code t.entered k)
      (our_chain hash code t k (code.digit t.stamp k))

  -- the find of the first chain that has such a string
  abbrev pub unrevealed_search : Option Find
  unrevealed_search = first_from unrevealed_find_at 0 code.count

  -- what trace finds
  unfoldable pub found : Verdict
  found = chosen node_search chain_search unrevealed_search
