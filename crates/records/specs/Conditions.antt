-- The refusals of reading: the condition of each, and the lists in their order.
use Rattle.std.specs.Prelude.{ℕ, ◌^◌, ◌<◌, ◌≤◌, ◌≢◌, ◌⊎◌, List, [], ◌∷◌, ◌++◌, length}
use Rattle.tree.specs.Nodes.{tallest}
use Rattle.records.specs.Causes.{Cause, cause}
use Rattle.records.specs.Kinds.{kind_number}
use Rattle.records.specs.Records.{named_length, named_kind, shortest_record, key_length}
use Rattle.records.specs.Records.{release_length, hash_number_of, code_number_of, height_of}
use Rattle.records.specs.Records.{spare_of, leaf_of}
use Rattle.records.specs.declared.kind.RecordKind.{RecordKind}
use Rattle.records.specs.declared.kind.RecordKind.TheVariants as kind

-- 6: fewer than 10 bytes, or a length field that differs from the number of bytes
abbrev pub WrongLength : List ℕ → Type 0
WrongLength bytes = (length bytes < shortest_record) ⊎ (named_length bytes ≢ length bytes)

-- 7: another kind of record than this one
abbrev pub WrongKind : RecordKind → List ℕ → Type 0
WrongKind kind bytes = named_kind bytes ≢ kind_number kind

-- 8, of a key record: another hash or code number than these
abbrev pub WrongNumbers : ℕ → ℕ → List ℕ → Type 0
WrongNumbers hash code bytes = (hash_number_of bytes ≢ hash) ⊎ (code_number_of bytes ≢ code)

-- 9: a height outside 1 to 8, or a spare byte other than 0
abbrev pub WrongHeight : List ℕ → Type 0
WrongHeight bytes = (height_of bytes < 1) ⊎ ((tallest < height_of bytes) ⊎ (spare_of bytes ≢ 0))

-- 10, of a key record: another byte count than one of its height has
abbrev pub WrongKeyLength : ℕ → List ℕ → Type 0
WrongKeyLength levels bytes = length bytes ≢ key_length (height_of bytes) levels

-- 10, of a release record: another byte count than one has under a key of height h
abbrev pub WrongReleaseLength : ℕ → ℕ → List ℕ → Type 0
WrongReleaseLength count h bytes = length bytes ≢ release_length count h

-- 11: a leaf number of 2 ^ h or more
abbrev pub NoSuchLeaf : ℕ → List ℕ → Type 0
NoSuchLeaf h bytes = 2 ^ h ≤ leaf_of bytes

-- what a record of this kind begins with
abbrev pub header_causes : RecordKind → List ℕ → List Cause
header_causes kind bytes = cause 6 (WrongLength bytes) ∷ (cause 7 (WrongKind kind bytes) ∷ [])

-- reading a key record, as open does
abbrev pub open_causes : ℕ → ℕ → ℕ → List ℕ → List Cause
open_causes hash code levels bytes =
    header_causes kind.Key bytes
    ++ (cause 8 (WrongNumbers hash code bytes)
    ∷ (cause 9 (WrongHeight bytes) ∷ (cause 10 (WrongKeyLength levels bytes) ∷ [])))

-- the leaf number and the strings of a release record with `count` chains, under a key of height h
abbrev pub parts_causes : ℕ → ℕ → List ℕ → List Cause
parts_causes count h bytes =
    cause 10 (WrongReleaseLength count h bytes) ∷ (cause 11 (NoSuchLeaf h bytes) ∷ [])

-- a release record under a key of height h: as its own signer reads it
abbrev pub release_causes : ℕ → ℕ → List ℕ → List Cause
release_causes count h bytes = header_causes kind.Release bytes ++ parts_causes count h bytes
