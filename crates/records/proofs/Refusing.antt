-- The rules of reading refuse by their lists.
use Rattle.std.proofs.Common.{◌≡◌, ℕ, ◌^◌, ◌≤◌, not, leb, eqb, List, length, drop, Decides, arith}
use Rattle.std.proofs.lemmas.Bool.Decides.{nat_tests, Decides-eqb, Decides-not, Decides-or, Decides-ltb}
use Rattle.records.specs.Causes.{Refuses}
use Rattle.records.specs.Conditions.{WrongLength, WrongKind, WrongNumbers, WrongHeight, WrongKeyLength, WrongReleaseLength, NoSuchLeaf, header_causes, open_causes, parts_causes, release_causes}
use Rattle.records.specs.Kinds.{kind_number}
use Rattle.records.specs.Records.{field, key_length, release_length, hash_number_of, code_number_of, height_of, spare_of, leaf_of}
use Rattle.records.specs.Rules.{has_bad_length, has_bad_kind, is_foreign, has_bad_height, header_rule, open_rule, parts_rule, release_rule}
use Rattle.records.specs.declared.kind.RecordKind.{RecordKind}
use Rattle.records.specs.declared.kind.RecordKind.TheVariants as kind
use Rattle.records.specs.declared.refusal.Refusal.TheVariants.{Length, Kind, Parameters, Height, Layout, Leaf}
use Rattle.records.proofs.Causing.{refuses-none, refuses-more, refuses-after}

differs : (x y : ℕ) → Decides (not (eqb x y)) (x ≡ y → ⊥)
differs x y = Decides-not (eqb x y) (Decides-eqb x y)

at-least : (x y : ℕ) → Decides (leb x y) (x ≤ y)
at-least x y = grind (arith, nat_tests)

pub header-refuses : (kind : RecordKind) (bytes : List ℕ) → Refuses (header_causes kind bytes) (header_rule kind bytes)
header-refuses kind bytes =
    refuses-more (has_bad_length bytes) (WrongLength bytes) Length _ _ (Decides-or _ _ (Decides-ltb (length bytes) 10) (differs (field bytes 0 4) (length bytes)))
    (refuses-more (has_bad_kind kind bytes) (WrongKind kind bytes) Kind _ _ (differs (field bytes 4 2) (kind_number kind)) (refuses-none (drop 6 bytes)))

pub open-refuses : (hash code levels : ℕ) (bytes : List ℕ) → Refuses (open_causes hash code levels bytes) (open_rule hash code levels bytes)
open-refuses hash code levels bytes =
    refuses-after _ _ (header_rule kind.Key bytes) _ (header-refuses kind.Key bytes)
    (λ body is.
    refuses-more (is_foreign hash code bytes) (WrongNumbers hash code bytes) Parameters _ _ (Decides-or _ _ (differs (hash_number_of bytes) hash) (differs (code_number_of bytes) code))
    (refuses-more (has_bad_height bytes) (WrongHeight bytes) Height _ _
    (Decides-or _ _ (Decides-ltb (height_of bytes) 1) (Decides-or _ _ (Decides-ltb 8 (height_of bytes)) (differs (spare_of bytes) 0)))
    (refuses-more _ (WrongKeyLength levels bytes) Layout _ _ (differs (length bytes) (key_length (height_of bytes) levels)) (refuses-none _))))

pub parts-refuses : (count h : ℕ) (bytes : List ℕ) → Refuses (parts_causes count h bytes) (parts_rule count h bytes)
parts-refuses count h bytes =
    refuses-more _ (WrongReleaseLength count h bytes) Layout _ _ (differs (length bytes) (release_length count h))
    (refuses-more _ (NoSuchLeaf h bytes) Leaf _ _ (at-least (2 ^ h) (leaf_of bytes)) (refuses-none _))

pub release-refuses : (count h : ℕ) (bytes : List ℕ) → Refuses (release_causes count h bytes) (release_rule count h bytes)
release-refuses count h bytes =
    refuses-after _ _ (header_rule kind.Release bytes) _ (header-refuses kind.Release bytes) (λ body is. parts-refuses count h bytes)
