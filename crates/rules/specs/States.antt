-- What a maker and a signer hold, as values.
use Rattle.std.specs.Prelude.{◌≡◌, ℕ, ◌≤◌, Bool, true, false, List, length, Some, None, Option}
use Rattle.strings.specs.Strings.{IsBytes, IsString}
use Rattle.tree.specs.Nodes.{tallest}
use Rattle.growth.specs.Grown.{masks_size}
use Rattle.growth.specs.declared.origin.Origin.{Origin}

-- what begin may be given: a planned height, strings as seed and hash key, and the bitmasks, a left
-- and a right one for each of 16 levels
pub record Begun (o : Origin) : Type 0 where
  pub tall : (1 ≤ o.height) × (o.height ≤ tallest)
  pub seeded : IsString o.seed
  pub keyed : IsString o.hash_key
  pub masked : (length o.masks ≡ masks_size) × IsBytes o.masks

-- a key that is being grown: what it is grown from, how many leaves are in, and the row of nodes
-- that are held (the treehash stack)
pub record Making : Type 0 where
  pub origin : Origin
  pub grown : ℕ
  pub nodes : List ℕ

-- a key in service: what it was grown from, its root, the next leaf to be spent, and a row of the
-- ledger for each leaf
pub record Signing : Type 0 where
  pub origin : Origin
  pub root : List ℕ
  pub next : ℕ
  pub rows : List (Option (List ℕ))

-- how many rows a ledger has: one for each leaf of the tallest tree
abbrev pub ledger_rows : ℕ
ledger_rows = 256

-- whether a row of a ledger holds no stamp
abbrev pub empty_row : Option (List ℕ) → Bool
empty_row None = true
empty_row (Some stamp) = false
