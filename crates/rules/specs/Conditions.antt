-- The refusals of the signer's calls: the condition of each, and each call's list in its order.
use Rattle.std.specs.Prelude.{◌≡◌, ℕ, ◌^◌, ◌<◌, ◌≢◌, ◌⊎◌, List, [], ◌∷◌, ◌++◌, length}
use Rattle.tree.specs.Meaning.{Hash, Code}
use Rattle.tree.specs.Nodes.{tallest}
use Rattle.tree.specs.Rebuilt.{rebuilt}
use Rattle.growth.specs.Grown.{parameters}
use Rattle.records.specs.Causes.{Cause, cause}
use Rattle.records.specs.Conditions.{release_causes}
use Rattle.records.specs.Records.{leaf_of, row_of}
use Rattle.rules.specs.Rules.{key_size, release_size}
use Rattle.rules.specs.States.{Making, Signing}

-- 1: a plan's height outside 1 to 8
abbrev pub WrongPlan : ℕ → Type 0
WrongPlan height = (height < 1) ⊎ (tallest < height)

-- 2: all 2 ^ h leaves are in
abbrev pub AllGrown : Making → Type 0
AllGrown m = m.grown ≡ 2 ^ m.origin.height

-- 3: the next leaf is 2 ^ h
abbrev pub AllSpent : Signing → Type 0
AllSpent s = s.next ≡ 2 ^ s.origin.height

-- 4: the output is shorter than the record
abbrev pub NoRoom : List ℕ → ℕ → Type 0
NoRoom out size = length out < size

-- 5: a leaf number below the next leaf or above 2 ^ h
abbrev pub WrongSkip : Signing → ℕ → Type 0
WrongSkip s leaf = (leaf < s.next) ⊎ (2 ^ s.origin.height < leaf)

-- 12: the root rebuilt from a record, under the signer's own parameters, is unlike the signer's
-- root
abbrev pub WrongOwnRoot : Hash → Code → Signing → List ℕ → List ℕ → Type 0
WrongOwnRoot hash code s stamp bytes =
    rebuilt hash code (parameters s.origin) (leaf_of bytes) stamp (row_of bytes) ≢ s.root

-- the refusals of a plan
abbrev pub plan_causes : ℕ → List Cause
plan_causes height = cause 1 (WrongPlan height) ∷ []

-- those of grow
abbrev pub grow_causes : Making → List Cause
grow_causes m = cause 2 (AllGrown m) ∷ []

-- those of key
abbrev pub key_causes : Code → Signing → List ℕ → List Cause
key_causes code s out = cause 4 (NoRoom out (key_size code s)) ∷ []

-- those of sign
abbrev pub sign_causes : Code → Signing → List ℕ → List Cause
sign_causes code s out = cause 3 (AllSpent s) ∷ (cause 4 (NoRoom out (release_size code s)) ∷ [])

-- those of skip
abbrev pub skip_causes : Signing → ℕ → List Cause
skip_causes s leaf = cause 5 (WrongSkip s leaf) ∷ []

-- those of trace: 6, 7, 10 and 11 of a record that is read by its own signer, then 12
abbrev pub trace_causes : Hash → Code → Signing → List ℕ → List ℕ → List Cause
trace_causes hash code s stamp bytes =
    release_causes code.count s.origin.height bytes
    ++ (cause 12 (WrongOwnRoot hash code s stamp bytes) ∷ [])
