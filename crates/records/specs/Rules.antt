-- What reading a record answers, on all bytes: the first refusal that meets them, in this order, or
-- the value.
use Rattle.std.specs.Prelude.{ℕ, ◌^◌, Bool, if◌then◌else◌, not, ◌||◌, List, length, drop, Ok, Err}
use Rattle.std.specs.Prelude.{Result, ◌==◌, nat_le, nat_lt}
use Rattle.tree.specs.Nodes.{tallest}
use Rattle.records.specs.Keys.{Key, Release}
use Rattle.records.specs.Kinds.{kind_number}
use Rattle.records.specs.Records.{body_start, named_length, named_kind, shortest_record}
use Rattle.records.specs.Records.{key_length, release_length, hash_number_of, code_number_of}
use Rattle.records.specs.Records.{height_of, spare_of, leaf_of, row_of}
use Rattle.records.specs.declared.kind.RecordKind.{RecordKind}
use Rattle.records.specs.declared.kind.RecordKind.TheVariants as kind
use Rattle.records.specs.declared.refusal.Refusal.{Refusal}
use Rattle.records.specs.declared.refusal.Refusal.TheVariants.{Length, Kind, Parameters, Height}
use Rattle.records.specs.declared.refusal.Refusal.TheVariants.{Layout, Leaf}

-- where the test holds the answer is this refusal, else what follows
abbrev pub refuse : {A : Type 0} → Bool → Refusal → Result A Refusal → Result A Refusal
refuse test refusal rest = if test then Err refusal else rest

-- an answer, with its value seen through f
abbrev pub seen : {A B E : Type 0} → (A → B) → Result A E → Result B E
seen f (Ok x) = Ok (f x)
seen f (Err e) = Err e

-- what follows an answer that is no error
abbrev pub after : {A B E : Type 0} → Result A E → (A → Result B E) → Result B E
after (Ok x) next = next x
after (Err e) next = Err e

-- fewer than 10 bytes, or a length field that differs from the number of bytes
abbrev pub has_bad_length : List ℕ → Bool
has_bad_length bytes =
    nat_lt (length bytes) shortest_record || not (named_length bytes == length bytes)

-- another kind than this one
abbrev pub has_bad_kind : RecordKind → List ℕ → Bool
has_bad_kind kind bytes = not (named_kind bytes == kind_number kind)

-- the body of a record of this kind
abbrev pub header_rule : RecordKind → List ℕ → Result (List ℕ) Refusal
header_rule kind bytes =
    refuse (has_bad_length bytes) Length
    (refuse (has_bad_kind kind bytes) Kind (Ok (drop body_start bytes)))

-- another hash or code number in a key record than these
abbrev pub is_foreign : ℕ → ℕ → List ℕ → Bool
is_foreign hash code bytes =
    not (hash_number_of bytes == hash) || not (code_number_of bytes == code)

-- a height outside 1 to 8, or a spare byte other than 0
abbrev pub has_bad_height : List ℕ → Bool
has_bad_height bytes =
    nat_lt (height_of bytes) 1 || (nat_lt tallest (height_of bytes) || not (spare_of bytes == 0))

-- a key record, read by a verifier with these hash and code numbers and levels: the key
abbrev pub open_rule : ℕ → ℕ → ℕ → List ℕ → Result Key Refusal
open_rule hash code levels bytes =
    after (header_rule kind.Key bytes)
    (λ body.
    refuse (is_foreign hash code bytes) Parameters
    (refuse (has_bad_height bytes) Height
    (refuse (not (length bytes == key_length (height_of bytes) levels)) Layout
    (Ok (record { bytes = bytes; height = height_of bytes })))))

-- the leaf number and the strings of a release record with `count` chains, under a key of height h
abbrev pub parts_rule : ℕ → ℕ → List ℕ → Result Release Refusal
parts_rule count h bytes =
    refuse (not (length bytes == release_length count h)) Layout
    (refuse (nat_le (2 ^ h) (leaf_of bytes)) Leaf
    (Ok (record { leaf = leaf_of bytes; row = row_of bytes })))

-- a release record under a key of height h: as its own signer reads it
abbrev pub release_rule : ℕ → ℕ → List ℕ → Result Release Refusal
release_rule count h bytes =
    after (header_rule kind.Release bytes) (λ body. parts_rule count h bytes)
