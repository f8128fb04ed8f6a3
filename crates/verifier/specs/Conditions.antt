-- The refusals of the verifier's calls: the condition of each, and each call's list in its order.
use Rattle.std.specs.Prelude.{◌≡◌, ℕ, ◌≢◌, ◌⊎◌, List, [], ◌∷◌, ◌++◌, Ok}
use Rattle.tree.specs.Meaning.{Hash, Code}
use Rattle.records.specs.Causes.{Cause, cause}
use Rattle.records.specs.Conditions.{header_causes, parts_causes}
use Rattle.records.specs.Keys.{Key}
use Rattle.records.specs.Records.{root_of, leaf_of, row_of}
use Rattle.records.specs.Rules.{open_rule}
use Rattle.records.specs.declared.kind.RecordKind.TheVariants as kind
use Rattle.verifier.specs.Rules.{root_shown}

-- 12: a rebuilt root unlike the key's
abbrev pub WrongRoot : Hash → Code → Key → List ℕ → List ℕ → Type 0
WrongRoot hash code key stamp bytes =
    root_shown hash code key stamp (record { leaf = leaf_of bytes; row = row_of bytes })
    ≢ root_of key.bytes

-- the hash number, the code number and the number of levels that a key was opened with
pub record Opening : Type 0 where
  pub hash : ℕ
  pub code : ℕ
  pub levels : ℕ

-- a verifier with these numbers and levels opens the key
abbrev pub OpenedWith : Opening → Key → Type 0
OpenedWith by key = open_rule by.hash by.code by.levels key.bytes ≡ Ok key

-- 8, of a key that was opened: with another hash number, code number or number of levels
abbrev pub WrongOpening : ℕ → Code → Opening → Type 0
WrongOpening hash code by =
    (by.hash ≢ hash) ⊎ ((by.code ≢ code.number) ⊎ (by.levels ≢ code.levels))

-- reading a release record under a key that was opened with these numbers and levels
abbrev pub read_causes : ℕ → Code → Opening → Key → List ℕ → List Cause
read_causes hash code by key bytes =
    header_causes kind.Release bytes
    ++ (cause 8 (WrongOpening hash code by) ∷ parts_causes code.count key.height bytes)

-- verifying a release record under such a key
abbrev pub verify_causes : Hash → Code → Opening → Key → List ℕ → List ℕ → List Cause
verify_causes hash code by key stamp bytes =
    read_causes hash.number code by key bytes
    ++ (cause 12 (WrongRoot hash code key stamp bytes) ∷ [])
