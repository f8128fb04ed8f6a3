-- The two records as bytes: what writing one yields, and where its parts lie.
use Rattle.std.specs.Prelude.{ℕ, zero, suc, ◌+◌, ◌-◌, ◌*◌, List, ◌∷◌, ◌++◌, length, take, drop}
use Rattle.std.specs.Prelude.{slice_index}
use Rattle.strings.specs.Strings.{little_endian}
use Rattle.records.specs.Kinds.{kind_number}
use Rattle.records.specs.declared.kind.RecordKind.{RecordKind}
use Rattle.records.specs.declared.kind.RecordKind.TheVariants as kind

-- how many bytes stand before the body of a record: those of its length and its kind
abbrev pub body_start : ℕ
body_start = 6

-- how many stand before the hash key of a key record: those before the body, and four of a byte
-- each
abbrev pub hash_key_start : ℕ
hash_key_start = body_start + 4

-- how many stand before the masks of a key record: those before the hash key, and the hash key
abbrev pub masks_start : ℕ
masks_start = hash_key_start + 16

-- how many stand before the row of a release record: those before the body, and the leaf number
abbrev pub row_start : ℕ
row_start = body_start + 2

-- a record: its whole length in 4 bytes, its kind in 2 bytes, then its body
abbrev pub framed : RecordKind → List ℕ → List ℕ
framed kind body =
    little_endian 4 (body_start + length body) ++ (little_endian 2 (kind_number kind) ++ body)

-- a key record: hash number, code number, height and a spare 0 in a byte each; hash key, masks,
-- root
abbrev pub key_bytes : ℕ → ℕ → ℕ → List ℕ → List ℕ → List ℕ → List ℕ
key_bytes hash code height hash_key masks root =
    framed kind.Key (hash ∷ (code ∷ (height ∷ (0 ∷ (hash_key ++ (masks ++ root))))))

-- a release record: leaf number in 2 bytes; a string for each chain, then the siblings
abbrev pub release_bytes : ℕ → List ℕ → List ℕ
release_bytes leaf row = framed kind.Release (little_endian 2 leaf ++ row)

-- the number in n bytes from place i on, little-endian
abbrev pub field : List ℕ → ℕ → ℕ → ℕ
field bytes i zero = 0
field bytes i (suc n) = slice_index bytes i + 256 * field bytes (suc i) n

-- as few bytes as any record may have: those of a key record up to its hash key
abbrev pub shortest_record : ℕ
shortest_record = hash_key_start

-- how many bytes of a key record are not its masks: those before them, and the root
abbrev pub beside_masks : ℕ
beside_masks = masks_start + 16

-- the whole length of a key record of height h, under a code with these levels: two masks for each
-- level of the tree and of the tree inside a leaf
abbrev pub key_length : ℕ → ℕ → ℕ
key_length h levels = beside_masks + 32 * (h + levels)

-- the whole length of a release record with `count` chains, under a key of height h
abbrev pub release_length : ℕ → ℕ → ℕ
release_length count h = row_start + 16 * (count + h)

-- as many bytes as a release record has at most: 256 chains and 8 siblings
abbrev pub longest_release : ℕ
longest_release = 4232

-- the length that a record names, in its bytes 0 to 3 (the length field)
abbrev pub named_length : List ℕ → ℕ
named_length bytes = field bytes 0 4

-- the number of its kind, in bytes 4 and 5
abbrev pub named_kind : List ℕ → ℕ
named_kind bytes = field bytes 4 2

-- the parts of a key record: its hash number
abbrev pub hash_number_of : List ℕ → ℕ
hash_number_of bytes = slice_index bytes body_start

-- its code number
abbrev pub code_number_of : List ℕ → ℕ
code_number_of bytes = slice_index bytes (body_start + 1)

-- its height
abbrev pub height_of : List ℕ → ℕ
height_of bytes = slice_index bytes (body_start + 2)

-- its spare byte
abbrev pub spare_of : List ℕ → ℕ
spare_of bytes = slice_index bytes (body_start + 3)

-- its hash key
abbrev pub hash_key_of : List ℕ → List ℕ
hash_key_of bytes = take 16 (drop hash_key_start bytes)

-- its masks (bitmasks), which stand between the hash key and the root
abbrev pub masks_of : List ℕ → List ℕ
masks_of bytes = take (length bytes - beside_masks) (drop masks_start bytes)

-- its root, the last 16 bytes
abbrev pub root_of : List ℕ → List ℕ
root_of bytes = take 16 (drop (length bytes - 16) bytes)

-- the parts of a release record: its leaf number
abbrev pub leaf_of : List ℕ → ℕ
leaf_of bytes = field bytes body_start 2

-- its row of strings
abbrev pub row_of : List ℕ → List ℕ
row_of bytes = drop row_start bytes
