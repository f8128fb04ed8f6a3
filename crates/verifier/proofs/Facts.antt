-- What the rules of the verifier come to: an answer that is no refusal, and what then holds of the bytes.
use Rattle.std.proofs.Common.{◌≡◌, ℕ, ◌^◌, ◌<◌, true, not, List, length, drop, Ok, ap, arith}
use Rattle.std.proofs.lemmas.Bool.Decides.{nat_tests}
use Rattle.tree.specs.Meaning.{Code}
use Rattle.records.specs.Keys.{Key, Release}
use Rattle.records.specs.Records.{release_length, height_of, leaf_of, row_of}
use Rattle.records.specs.Rules.{refuse, after, header_rule, parts_rule, release_rule}
use Rattle.records.specs.declared.kind.RecordKind.TheVariants as kind
use Rattle.records.specs.declared.refusal.Refusal.TheVariants.{Parameters}
use Rattle.records.proofs.Facts.{Headed, Opens}
use Rattle.verifier.specs.Rules.{suits, read_rule}

pub suited-from : (hash code levels : ℕ) (key : Key) → Opens hash code levels key.bytes → height_of key.bytes ≡ key.height → suits hash code levels key ≡ true
suited-from hash code levels key o e = grind (arith, nat_tests)

pub suited-to : (hash code levels : ℕ) (key : Key) → suits hash code levels key ≡ true → Opens hash code levels key.bytes × (height_of key.bytes ≡ key.height)
suited-to hash code levels key p = grind (arith, nat_tests)

-- a release record under this key
pub record Releases (hash : ℕ) (code : Code) (key : Key) (bytes : List ℕ) : Type 0 where
  pub headed : Headed kind.Release bytes
  pub suiting : suits hash code.number code.levels key ≡ true
  pub laid : length bytes ≡ release_length code.count key.height
  pub below : leaf_of bytes < 2 ^ key.height

pub read-to : (hash : ℕ) (code : Code) (key : Key) (bytes : List ℕ) (shown : Release) → read_rule hash code key bytes ≡ Ok shown → Releases hash code key bytes × (shown ≡ record { leaf = leaf_of bytes; row = row_of bytes })
read-to hash code key bytes shown p = grind (arith, nat_tests)

-- what is read of a release record by its body, under a key that suits
pub read-parts : (hash : ℕ) (code : Code) (key : Key) (bytes body : List ℕ) → Ok body ≡ header_rule kind.Release bytes → true ≡ suits hash code.number code.levels key → (body ≡ drop 6 bytes) × (parts_rule code.count key.height bytes ≡ read_rule hash code key bytes)
read-parts hash code key bytes body p suits = grind (arith, nat_tests)

-- under a key that suits, a record is read as its own signer reads it
pub read-as-released : (hash : ℕ) (code : Code) (key : Key) (bytes : List ℕ) → suits hash code.number code.levels key ≡ true → read_rule hash code key bytes ≡ release_rule code.count key.height bytes
read-as-released hash code key bytes suits =
    ap (λ t. after (header_rule kind.Release bytes) (λ body. refuse (not t) Parameters (parts_rule code.count key.height bytes))) suits
