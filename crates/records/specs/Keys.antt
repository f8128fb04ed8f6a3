-- A key record that was read, and a release, as values.
use Rattle.std.specs.Prelude.{ℕ, List}

-- a key record as it lies in the caller's bytes, and its height
pub record Key : Type 0 where
  pub bytes : List ℕ
  pub height : ℕ

-- the key with these bytes and this height
abbrev pub key_of_height : List ℕ → ℕ → Key
key_of_height bytes height = record { bytes = bytes; height = height }

-- what a release record holds: its leaf number, and a row with a string for each chain and then the
-- siblings of the leaf's authentication path
pub record Release : Type 0 where
  pub leaf : ℕ
  pub row : List ℕ
