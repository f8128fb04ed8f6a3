-- What a maker and a signer hold, by their types.
use Rattle.std.proofs.Common.{◌≡◌, ℕ, ◌<◌, ◌≤◌, length, get_or}
use Rattle.std.proofs.ByRecursion.{All-from_get_or}
use Rattle.codes.specs.declared.Code as code_trait
use Rattle.hashes.specs.declared.ChainHash as chain_hash
use Rattle.hashes.specs.declared.TreeHash as tree_hash
use Rattle.growth.specs.declared.origin.Origin.{Origin}
use Rattle.growth.proofs.Strings.{Strings}
use Rattle.strings.proofs.Laws.{str-from}
use Rattle.tree.specs.Laws.{HashLaws}
use Rattle.tree.specs.Meaning.{Hash}
use Rattle.growth.specs.Grown.{masks_size}
use Rattle.rules.specs.States.{Begun}
use Rattle.signer.specs.declared.signer.Signer.{Signer}

-- arrays of bytes, as long as those of an origin, are strings
pub begun-from : (o : Origin) → (1 ≤ o.height) × (o.height ≤ 8) → length o.seed ≡ 16 → length o.hash_key ≡ 16 → length o.masks ≡ masks_size → ((i : ℕ) → (get_or o.seed i 0 < 256) × (get_or o.hash_key i 0 < 256) × (get_or o.masks i 0 < 256)) → Begun o
begun-from o tall seed key masks small =
    record {
      tall = tall;
      seeded = str-from o.seed seed (λ i. (small i).0);
      keyed = str-from o.hash_key key (λ i. (small i).1);
      masked = (masks, All-from_get_or (λ b. b < 256) o.masks 0 (λ i below. (small i).2));
    }

-- under a hash that gives strings
pub signer-strings : {H C : Type 0} {tree : tree_hash.Ghosts H} {chain : chain_hash.Ghosts H} {coded : code_trait.Ghosts C} (hash : Hash) (s : Signer H C tree chain coded) → HashLaws hash → Strings hash s.origin
signer-strings hash s laws =
    let b = begun-from s.origin s.tall s.seeded s.sized.0 s.sized.1 s.bytes in
    record { laws = laws; seeded = b.seeded; keyed = b.keyed; masked = b.masked }
