-- The row of strings of a release: one of each chain, and then the siblings of the authentication
-- path, from level h up to level 1.
use Rattle.std.specs.Prelude.{ℕ, ◌+◌, ◌-◌, List}
use Rattle.std.specs.List.{range_with_len, flat_map}
use Rattle.strings.specs.Strings.{string_at}

-- the row of n strings, string k of which is f k
abbrev pub row_from : (ℕ → List ℕ) → ℕ → List ℕ
row_from f n = flat_map f (range_with_len 0 n)

-- the string of chain k
abbrev pub chain_in : List ℕ → ℕ → List ℕ
chain_in row k = string_at row k

-- the place of the sibling at level a, after `count` chains, in a tree of height h
abbrev pub sibling_place : ℕ → ℕ → ℕ → ℕ
sibling_place count h a = count + (h - a)

-- the sibling at level a
abbrev pub sibling_in : ℕ → ℕ → List ℕ → ℕ → List ℕ
sibling_in count h row a = string_at row (sibling_place count h a)

-- the level of the sibling at place k
abbrev pub sibling_level : ℕ → ℕ → ℕ → ℕ
sibling_level count h k = h - (k - count)

-- as many places as a leaf has at most: 2 ^ 8
abbrev pub most_places : ℕ
most_places = 256

-- the bytes of a work buffer: a string for each place of a leaf
abbrev pub work_size : ℕ
work_size = 4096
