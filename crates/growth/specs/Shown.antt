-- What a release of a leaf shows.
use Rattle.std.specs.Prelude.{ℕ, ◌+◌, ◌-◌, ◌/◌, ◌%◌, ◌^◌, if◌then◌else◌, List, ◌==◌, nat_lt}
use Rattle.tree.specs.Meaning.{Hash, Code}
use Rattle.tree.specs.Rows.{row_from, sibling_level}
use Rattle.growth.specs.Grown.{chain_string, node_at}
use Rattle.growth.specs.declared.origin.Origin.{Origin}

-- the other child of the same parent
abbrev pub sibling_of : ℕ → ℕ
sibling_of b = if b % 2 == 0 then b + 1 else b - 1

-- the sibling at level a of the node there on the way up from leaf i (its authentication path)
abbrev pub path_sibling : Hash → Code → Origin → ℕ → ℕ → List ℕ
path_sibling hash code o i a = node_at hash code o a (sibling_of (i / 2 ^ (o.height - a)))

-- string k of a release of leaf i: for each chain its string at the height of the stamp's digit,
-- and then the siblings on the way up, from level h up to level 1
abbrev pub shown_string : Hash → Code → Origin → ℕ → List ℕ → ℕ → List ℕ
shown_string hash code o i stamp k =
    if nat_lt k code.count then chain_string hash o i k (code.digit stamp k)
    else path_sibling hash code o i (sibling_level code.count o.height k)

-- all strings of a release of leaf i
unfoldable pub shown_row : Hash → Code → Origin → ℕ → List ℕ → List ℕ
shown_row hash code o i stamp =
    row_from (shown_string hash code o i stamp) (code.count + o.height)
