-- Open refuses nothing on the key record of a signer.
use Rattle.std.proofs.Common.{◌≡◌, ℕ, ◌+◌, ◌*◌, ◌≤◌, List, length, take, Ok, arith}
use Rattle.std.proofs.lemmas.List.{length-take-le}
use Rattle.tree.specs.Meaning.{Hash, Code}
use Rattle.growth.specs.Grown.{masks_size}
use Rattle.records.specs.Reads.{KeyParts}
use Rattle.records.specs.Rules.{open_rule}
use Rattle.records.proofs.Facts.{open-from}
use Rattle.records.proofs.Reading.{written-opens}
use Rattle.rules.specs.Rules.{key_record, own_key}
use Rattle.rules.specs.States.{Signing}

module _ (hash : Hash) (code : Code) (s : Signing) where
  abbrev masks_of : List ℕ
  masks_of = take (32 * (s.origin.height + code.levels)) s.origin.masks

  -- the parts are as long as the layout says
  pub parts : (1 ≤ s.origin.height) × (s.origin.height ≤ 8) → code.levels ≤ 8 → length s.origin.hash_key ≡ 16 → length s.origin.masks ≡ masks_size → length s.root ≡ 16 → KeyParts code.levels s.origin.height s.origin.hash_key masks_of s.root
  parts tall few keyed masked rooted =
      record {
        tall = tall;
        keyed = keyed;
        masked = length-take-le (32 * (s.origin.height + code.levels)) s.origin.masks (omega arith);
        rooted = rooted;
      }

  -- open refuses nothing on the key record
  pub record-opens : (1 ≤ s.origin.height) × (s.origin.height ≤ 8) → code.levels ≤ 8 → length s.origin.hash_key ≡ 16 → length s.origin.masks ≡ masks_size → length s.root ≡ 16 → open_rule hash.number code.number code.levels (key_record hash code s) ≡ Ok (own_key hash code s)
  unfolding key_record
  record-opens tall few keyed masked rooted =
      open-from hash.number code.number code.levels (key_record hash code s)
      (written-opens hash.number code.number code.levels s.origin.height s.origin.hash_key masks_of s.root few (parts tall few keyed masked rooted))
