-- Verify accepts the record of each leaf that is made as sign makes it.
use Rattle.std.proofs.Common.{◌≡◌, ℕ, ◌+◌, ◌*◌, ◌^◌, ◌<◌, ◌≤◌, true, not, List, length, take, Ok, sym, refl, ap, ◌∙◌, arith}
use Rattle.std.specs.Str.{bytes_eq}
use Rattle.std.proofs.lemmas.Bool.{cond-false}
use Rattle.std.proofs.lemmas.Slice.Eq.{bytes_eq-Decides}
use Rattle.growth.specs.Shown.{shown_string, shown_row}
use Rattle.growth.specs.declared.origin.Origin.{Origin}
use Rattle.growth.proofs.Leads.{release-leads}
use Rattle.growth.proofs.Strings.{Strings, shown-str}
use Rattle.tree.proofs.Joining.{row-long}
use Rattle.tree.specs.Meaning.{Hash, Code}
use Rattle.tree.specs.Nodes.{Parameters}
use Rattle.tree.specs.Rebuilt.{rebuilt}
use Rattle.verifier.proofs.Facts.{read-as-released}
use Rattle.records.specs.Keys.{Release}
use Rattle.records.specs.Reads.{KeyParts}
use Rattle.records.specs.Records.{release_bytes, root_of}
use Rattle.verifier.specs.Rules.{suits, root_shown, verify_rule}
use Rattle.records.specs.Rules.{refuse}
use Rattle.records.specs.declared.refusal.Refusal.TheVariants.{Root}
use Rattle.records.proofs.Facts.{after-at}
use Rattle.verifier.proofs.Facts.{suited-from}
use Rattle.records.proofs.Reading.{written-opens, written-key, written-masks, written-root, written-reads}
use Rattle.rules.specs.Rules.{key_record, own_key, Rooted, Accepts}
use Rattle.rules.specs.States.{Signing}
use Rattle.rules.proofs.Opening.{parts, record-opens}

-- the parameters that a signer's key record has: the masks of its own levels alone
abbrev pub own_parameters : Hash → Code → Signing → Parameters
own_parameters hash code s = record { hash_key = s.origin.hash_key; masks = take (32 * (s.origin.height + code.levels)) s.origin.masks; height = s.origin.height }

pub row-filled : (hash : Hash) (code : Code) (o : Origin) (i : ℕ) (stamp : List ℕ) → Strings hash o → o.height ≤ 8 → code.levels ≤ 8 → length (shown_row hash code o i stamp) ≡ 16 * (code.count + o.height)
unfolding shown_row
row-filled hash code o i stamp all tall few =
    row-long (shown_string hash code o i stamp) (code.count + o.height) (λ k below. (shown-str hash code o all tall few i stamp k below).0)

module _ (hash : Hash) (code : Code) (s : Signing) (all : Strings hash s.origin) (tall : (1 ≤ s.origin.height) × (s.origin.height ≤ 8)) (few : code.levels ≤ 8) (long : length s.root ≡ 16) where
  abbrev laid : KeyParts code.levels s.origin.height s.origin.hash_key (take (32 * (s.origin.height + code.levels)) s.origin.masks) s.root
  laid = parts hash code s tall few all.keyed.0 all.masked.0 long

  pub key-suits : suits hash.number code.number code.levels (own_key hash code s) ≡ true
  unfolding key_record
  key-suits = suited-from hash.number code.number code.levels (own_key hash code s) (written-opens hash.number code.number code.levels s.origin.height _ _ _ few laid) refl

  pub key-shows : (stamp : List ℕ) (leaf : ℕ) (row : List ℕ) → root_shown hash code (own_key hash code s) stamp (record { leaf = leaf; row = row }) ≡ rebuilt hash code (own_parameters hash code s) leaf stamp row
  unfolding key_record
  key-shows stamp leaf row =
      let k = written-key hash.number code.number code.levels s.origin.height _ _ _ few laid in
      let m = written-masks hash.number code.number code.levels s.origin.height _ _ _ few laid in
      λ i. rebuilt hash code (record { hash_key = k i; masks = m i; height = s.origin.height }) leaf stamp row

  pub key-root : root_of (key_record hash code s) ≡ s.root
  unfolding key_record
  key-root = written-root hash.number code.number code.levels s.origin.height _ _ _ few laid

  pub verifying : (i : ℕ) (stamp : List ℕ) → code.count ≤ 256 → ((k : ℕ) → code.digit stamp k ≤ code.top) → Rooted hash code s → i < 2 ^ s.origin.height → verify_rule hash code (own_key hash code s) stamp (release_bytes i (shown_row hash code s.origin i stamp)) ≡ Ok i
  verifying i stamp many low rooted left =
      let row = shown_row hash code s.origin i stamp in
      let shown : Release = record { leaf = i; row = row } in
      let root = root_shown hash code (own_key hash code s) stamp shown in
      let same : root ≡ root_of (key_record hash code s) = key-shows stamp i row ∙ release-leads hash code s.origin all tall.1 few i stamp left low ∙ sym rooted ∙ sym key-root in
      after-at _ shown (λ release. refuse (not (bytes_eq (root_shown hash code (own_key hash code s) stamp release) (root_of (key_record hash code s)))) Root (Ok release.leaf))
      (read-as-released hash.number code (own_key hash code s) (release_bytes i row) key-suits
      ∙ written-reads code.count s.origin.height i row (omega (arith, tall.0)) many tall.1 (record { numbered = left; filled = row-filled hash code s.origin i stamp all tall.1 few }))
      ∙ cond-false (not (bytes_eq root (root_of (key_record hash code s)))) _ _ (ap not ((bytes_eq-Decides root (root_of (key_record hash code s))).1 same))

  pub accepting : (i : ℕ) (stamp : List ℕ) → code.count ≤ 256 → ((k : ℕ) → code.digit stamp k ≤ code.top) → Rooted hash code s → i < 2 ^ s.origin.height → Accepts hash code s stamp (release_bytes i (shown_row hash code s.origin i stamp)) i
  accepting i stamp many low rooted left =
      (own_key hash code s, record-opens hash code s tall few all.keyed.0 all.masked.0 long, verifying i stamp many low rooted left)
