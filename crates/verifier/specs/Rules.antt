-- What verify answers, on all inputs: the first refusal that meets the input, in this order, or the
-- leaf number.
use Rattle.std.specs.Prelude.{ℕ, Bool, false, not, List, Ok, Err, Result, ◌==◌}
use Rattle.std.specs.Str.{bytes_eq}
use Rattle.tree.specs.Meaning.{Hash, Code}
use Rattle.tree.specs.Nodes.{Parameters}
use Rattle.tree.specs.Rebuilt.{rebuilt}
use Rattle.records.specs.Keys.{Key, Release}
use Rattle.records.specs.Records.{hash_key_of, masks_of, root_of}
use Rattle.records.specs.Rules.{refuse, after, header_rule, open_rule, parts_rule}
use Rattle.records.specs.declared.kind.RecordKind.TheVariants as kind
use Rattle.records.specs.declared.refusal.Refusal.{Refusal}
use Rattle.records.specs.declared.refusal.Refusal.TheVariants as refusal

-- whether an answer of open is a key of height h
abbrev pub of_height : Result Key Refusal → ℕ → Bool
of_height (Ok key) h = key.height == h
of_height (Err e) h = false

-- whether a verifier with these numbers and levels opens the key too
abbrev pub suits : ℕ → ℕ → ℕ → Key → Bool
suits hash code levels key = of_height (open_rule hash code levels key.bytes) key.height

-- a release record, read under an opened key: its leaf number and its row of strings
abbrev pub read_rule : ℕ → Code → Key → List ℕ → Result Release Refusal
read_rule hash code key bytes =
    after (header_rule kind.Release bytes)
    (λ body.
    refuse (not (suits hash code.number code.levels key)) refusal.Parameters
    (parts_rule code.count key.height bytes))

-- the parameters of the tree, as a key record holds them
abbrev pub parameters_in : Key → Parameters
parameters_in key =
    record {
      hash_key = hash_key_of key.bytes;
      masks = masks_of key.bytes;
      height = key.height;
    }

-- the root that a release leads to, under the parameters of a key: over its chains, the L-tree
-- inside the leaf and the authentication path
abbrev pub root_shown : Hash → Code → Key → List ℕ → Release → List ℕ
root_shown hash code key stamp release =
    rebuilt hash code (parameters_in key) release.leaf stamp release.row

-- verify, by a verifier with this hash and code, of a record under an opened key: the leaf number
abbrev pub verify_rule : Hash → Code → Key → List ℕ → List ℕ → Result ℕ Refusal
verify_rule hash code key stamp bytes =
    after (read_rule hash.number code key bytes)
    (λ release.
    refuse (not (bytes_eq (root_shown hash code key stamp release) (root_of key.bytes)))
    refusal.Root (Ok release.leaf))
