-- Bytes are read as a record exactly when writing that record yields them.
use Rattle.std.specs.Prelude.{◌≡◌, ℕ, ◌+◌, ◌*◌, ◌^◌, ◌<◌, ◌≤◌, List, length, Ok, Result}
use Rattle.tree.specs.Nodes.{tallest}
use Rattle.records.specs.Keys.{Key, Release}
use Rattle.records.specs.Records.{key_bytes, release_bytes, hash_key_of, masks_of, root_of}
use Rattle.records.specs.declared.refusal.Refusal.{Refusal}

-- a key of height h under a code with these levels
pub record KeyParts (levels h : ℕ) (hash_key masks root : List ℕ) : Type 0 where
  pub tall : (1 ≤ h) × (h ≤ tallest)
  pub keyed : length hash_key ≡ 16
  pub masked : length masks ≡ 32 * (h + levels)
  pub rooted : length root ≡ 16

-- the answer r reads `bytes` as a key exactly when writing that key yields them
pub record ReadsKeys (hash code levels : ℕ) (bytes : List ℕ) (r : Result Key Refusal) : Type 0
  where
    pub written : (key : Key) → r ≡ Ok key →
        KeyParts levels key.height (hash_key_of bytes) (masks_of bytes) (root_of bytes)
        × (bytes
        ≡ key_bytes hash code key.height (hash_key_of bytes) (masks_of bytes) (root_of bytes))
    pub read : (h : ℕ) (hash_key masks root : List ℕ) →
        KeyParts levels h hash_key masks root → bytes ≡ key_bytes hash code h hash_key masks root →
        (r ≡ Ok (record { bytes = bytes; height = h }))
        × (hash_key_of bytes ≡ hash_key) × (masks_of bytes ≡ masks) × (root_of bytes ≡ root)

-- a release under a key of height h and a code with `count` chains
pub record ReleaseParts (count h leaf : ℕ) (row : List ℕ) : Type 0 where
  pub numbered : leaf < 2 ^ h
  pub filled : length row ≡ 16 * (count + h)

-- the answer r reads `bytes` as a release exactly when writing that release yields them
pub record ReadsReleases (count h : ℕ) (bytes : List ℕ) (r : Result Release Refusal) : Type 0 where
  pub written : (leaf : ℕ) (row : List ℕ) → r ≡ Ok (record { leaf = leaf; row = row }) →
      ReleaseParts count h leaf row × (bytes ≡ release_bytes leaf row)
  pub read : (leaf : ℕ) (row : List ℕ) →
      ReleaseParts count h leaf row → bytes ≡ release_bytes leaf row →
      r ≡ Ok (record { leaf = leaf; row = row })
