-- Hash chains, the nodes of a Merkle tree, and the way from a leaf to the root.
use Rattle.std.specs.Prelude.{ℕ, zero, suc, ◌+◌, ◌-◌, ◌*◌, ◌/◌, ◌%◌, if◌then◌else◌, List}
use Rattle.std.specs.Prelude.{◌==◌, nat_lt}
use Rattle.strings.specs.Strings.{xor, string_at, zero_string}
use Rattle.tree.specs.Meaning.{Hash}

-- the greatest height of a key's tree: it has 256 leaves then
abbrev pub tallest : ℕ
tallest = 8

-- the parameters of a tree, which hold no secret
pub record Parameters : Type 0 where
  -- the key, 16 bytes, under which chains step and nodes join
  pub hash_key : List ℕ
  -- a row of strings (bitmasks): strings 2a and 2a + 1 are the left and right mask of level a
  pub masks : List ℕ
  -- the tree has 2 ^ height leaves
  pub height : ℕ

-- step, applied e times: e steps up a hash chain
unfoldable pub raise : (List ℕ → List ℕ) → ℕ → List ℕ → List ℕ
raise step zero s = s
raise step (suc e) s = step (raise step e s)

-- the parent at level a of two children: the pair of both, masked by the left and right mask of
-- level a
abbrev pub join : (List ℕ → List ℕ → List ℕ) → List ℕ → ℕ → List ℕ → List ℕ → List ℕ
join pair masks a left right =
    pair (xor left (string_at masks (2 * a))) (xor right (string_at masks (2 * a + 1)))

-- the parent at level a of two children, under the parameters of a tree
abbrev pub parent_at : Hash → Parameters → ℕ → List ℕ → List ℕ → List ℕ
parent_at hash p = join (hash.pair p.hash_key) p.masks

-- the node at level a, position b, over bottom strings that lie d levels below it;
-- parent a left right is the parent at level a
unfoldable pub node : (ℕ → List ℕ → List ℕ → List ℕ) → (ℕ → List ℕ) → ℕ → ℕ → ℕ → List ℕ
node parent bottom a zero b = bottom b
node parent bottom a (suc d) b =
    parent a (node parent bottom (suc a) d (2 * b)) (node parent bottom (suc a) d (2 * b + 1))

-- the parent at level a of the node s at position b, and its sibling: left of it where b is odd
abbrev pub above : (ℕ → List ℕ → List ℕ → List ℕ) → ℕ → ℕ → List ℕ → List ℕ → List ℕ
above parent a b s sibling = if b % 2 == 0 then parent a s sibling else parent a sibling s

-- from the node s at level a, position b up to the root; sibling c is the sibling at level c, on
-- the authentication path
unfoldable pub climb : (ℕ → List ℕ → List ℕ → List ℕ) → (ℕ → List ℕ) → ℕ → ℕ → List ℕ → List ℕ
climb parent sibling zero b s = s
climb parent sibling (suc a) b s =
    climb parent sibling a (b / 2) (above parent a b s (sibling (suc a)))

-- the one-time string at place k of a leaf with `count` chains, of which `shown` gives the string
-- at the height of `digit`: raised to the top digit, and zero past the last chain
abbrev pub one_time : (List ℕ → List ℕ) → ℕ → ℕ → (ℕ → ℕ) → (ℕ → List ℕ) → ℕ → List ℕ
one_time step count top digit shown k =
    if nat_lt k count then raise step (top - digit k) (shown k) else zero_string
