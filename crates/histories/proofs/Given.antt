-- What a record holds that verify accepts under the key record of a signer.
use Rattle.std.proofs.Common.{◌≡◌, ℕ, ◌+◌, ◌-◌, ◌*◌, ◌^◌, ◌<◌, not, List, length, Ok, sym, ap, ◌∙◌, subst, arith}
use Rattle.std.specs.Str.{bytes_eq}
use Rattle.std.proofs.lemmas.Slice.Eq.{bytes_eq-Decides}
use Rattle.std.proofs.lemmas.Bool.{not-false}
use Rattle.growth.specs.Grown.{parameters, node_at}
use Rattle.growth.specs.declared.origin.Origin.{Origin}
use Rattle.growth.proofs.Strings.{node-str}
use Rattle.strings.specs.Strings.{IsBytes}
use Rattle.tree.specs.Meaning.{Hash, Code}
use Rattle.tree.specs.Rebuilt.{rebuilt}
use Rattle.records.specs.Records.{release_bytes, root_of, row_of}
use Rattle.records.specs.Rules.{refuse}
use Rattle.verifier.specs.Rules.{read_rule, root_shown, verify_rule}
use Rattle.records.specs.declared.refusal.Refusal.TheVariants.{Root}
use Rattle.records.proofs.Facts.{ok_same, passes, after-ok}
use Rattle.records.proofs.Reading.{reads-releases}
use Rattle.verifier.proofs.Facts.{read-as-released}
use Rattle.histories.specs.Histories.{History, Issued}
use Rattle.rules.specs.Rules.{key_record, own_key, Accepts}
use Rattle.rules.specs.States.{Signing}
use Rattle.rules.proofs.Accepting.{key-suits, key-root, accepting}
use Rattle.tree.specs.Laws.{Laws}
use Rattle.rules.proofs.Laws.{strings, few-chains}
use Rattle.rules.proofs.Opening.{record-opens}
use Rattle.rules.proofs.Own.{own-shows}
use Rattle.histories.proofs.Sound.{Sound}

-- its row of strings, for leaf i and this stamp, leads to the root of the signer's tree
pub record Given (hash : Hash) (code : Code) (s : Signing) (stamp bytes : List ℕ) (i : ℕ) : Type 0 where
  pub verified : verify_rule hash code (own_key hash code s) stamp bytes ≡ Ok i
  pub placed : i < 2 ^ s.origin.height
  pub filled : length (row_of bytes) ≡ 16 * (code.count + s.origin.height)
  pub written : bytes ≡ release_bytes i (row_of bytes)
  pub leads : rebuilt hash code (parameters s.origin) i stamp (row_of bytes) ≡ node_at hash code s.origin 0 0

module _ (hash : Hash) (code : Code) (laws : Laws hash code) (o : Origin) (w : History) (s : Signing) (x : Sound hash code o w s) where
  root-long : length s.root ≡ 16
  root-long =
      let tall = x.begun.tall.1 in
      let few = laws.of_code.level_range.1 in
      ap length x.rooted ∙ (node-str hash code s.origin (strings laws x.begun) (s.origin.height + code.levels - 0) 0 0 (omega arith)).0

  -- verify accepts what was issued
  pub accepted : (i : ℕ) (bytes stamp : List ℕ) → Issued w i bytes stamp → Accepts hash code s stamp bytes i
  accepted i bytes stamp y =
      let b = x.begun in
      let spent = x.issued i bytes stamp y in
      let below = spent.below in
      let within = x.within in
      subst (λ r. Accepts hash code s stamp r i) (sym spent.is)
      (accepting hash code s (strings laws b) b.tall laws.of_code.level_range.1 root-long i stamp (few-chains laws) (λ k. laws.of_code.within stamp k spent.string) x.rooted (omega arith))

  -- the signer's own key is what open reads
  pub own-verified : (i : ℕ) (stamp bytes : List ℕ) → Accepts hash code s stamp bytes i → verify_rule hash code (own_key hash code s) stamp bytes ≡ Ok i
  own-verified i stamp bytes a =
      let b = x.begun in
      ap (λ k. verify_rule hash code k stamp bytes) (ok_same (sym (record-opens hash code s b.tall laws.of_code.level_range.1 b.keyed.0 b.masked.0 root-long) ∙ a.1)) ∙ a.2

  pub given : (i : ℕ) (stamp bytes : List ℕ) → IsBytes bytes → Accepts hash code s stamp bytes i → Given hash code s stamp bytes i
  given i stamp bytes all a =
      let o' = s.origin in
      let strs = strings laws x.begun in
      let tall = x.begun.tall in
      let few = laws.of_code.level_range.1 in
      let own = own_key hash code s in
      let verified = own-verified i stamp bytes a in
      let reads = after-ok (read_rule hash.number code own bytes) (λ release. refuse (not (bytes_eq (root_shown hash code own stamp release) (root_of (key_record hash code s)))) Root (Ok release.leaf)) verified in
      let shown = reads.0 in
      let pass = passes (not (bytes_eq (root_shown hash code own stamp shown) (root_of (key_record hash code s)))) Root (Ok shown.leaf) reads.2 in
      let parts = (reads-releases code.count o'.height bytes (omega (arith, tall.0)) (few-chains laws) tall.1 all).written shown.leaf shown.row
      (sym (read-as-released hash.number code own bytes (key-suits hash code s strs tall few root-long)) ∙ reads.1) in
      let leaf : shown.leaf ≡ i = ok_same pass.1 in
      let row : shown.row ≡ row_of bytes = sym (ap row_of parts.1) in
      let same = (bytes_eq-Decides (root_shown hash code own stamp shown) (root_of (key_record hash code s))).0 (not-false _ pass.0) in
      record {
        verified = verified;
        placed = subst (λ k. k < 2 ^ o'.height) leaf parts.0.numbered;
        filled = sym (ap length row) ∙ parts.0.filled;
        written = parts.1 ∙ (λ j. release_bytes (leaf j) (row j));
        leads = (λ j. rebuilt hash code (parameters o') (sym leaf j) stamp (sym row j))
            ∙ sym (own-shows hash code s strs tall few root-long stamp shown.leaf shown.row)
            ∙ same
            ∙ key-root hash code s strs tall few root-long
            ∙ x.rooted;
      }
