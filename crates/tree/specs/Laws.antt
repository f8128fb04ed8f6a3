-- The laws of hashes and codes, as values: what the traits ask of each impl.
use Rattle.std.specs.Prelude.{◌≡◌, ℕ, ◌^◌, ◌≤◌, List}
use Rattle.strings.specs.Strings.{IsString}
use Rattle.codes.specs.Codes.{Apart}
use Rattle.tree.specs.Meaning.{Hash, Code}

-- strings step and pair to strings
pub record HashLaws (hash : Hash) : Type 0 where
  pub gives : (k s : List ℕ) → IsString k → IsString s → IsString (hash.step k s)
  pub joins : (k l r : List ℕ) → IsString k → IsString l → IsString r → IsString (hash.pair k l r)

-- the ranges of a code; its digits at each place: none above the top digit, and that one past the
-- last; and the law of codes, that of two stamps each has a digit below the other's
pub record CodeLaws (code : Code) : Type 0 where
  pub count_range : (1 ≤ code.count) × (code.count ≤ 2 ^ code.levels)
  pub top_range : (1 ≤ code.top) × (code.top ≤ 15)
  pub level_range : (1 ≤ code.levels) × (code.levels ≤ 8)
  pub within : (m : List ℕ) (k : ℕ) → IsString m → code.digit m k ≤ code.top
  pub past : (m : List ℕ) (k : ℕ) → IsString m → code.count ≤ k → code.digit m k ≡ code.top
  pub apart : Apart code.digit

-- the laws of both
pub record Laws (hash : Hash) (code : Code) : Type 0 where
  pub of_hash : HashLaws hash
  pub of_code : CodeLaws code
