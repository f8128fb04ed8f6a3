-- Under the signer's own key, verify reads as the signer does, and rebuilds under all of its masks.
use Rattle.std.proofs.Common.{◌≡◌, ℕ, zero, suc, ◌+◌, ◌*◌, ◌/◌, ◌%◌, ◌<◌, ◌≤◌, cond, not, eqb, List, length, take, Ok, Err, refl, ap, ◌∙◌, arith}
use Rattle.std.specs.Str.{bytes_eq}
use Rattle.std.proofs.lemmas.Bool.{cond-false, not_from_true}
use Rattle.growth.proofs.Leads.{node-under}
use Rattle.growth.proofs.Strings.{Strings, at_take}
use Rattle.strings.specs.Strings.{xor}
use Rattle.tree.specs.Meaning.{Hash, Code}
use Rattle.tree.specs.Nodes as nodes
use Rattle.tree.specs.Nodes.{parent_at, node, climb, one_time}
use Rattle.tree.specs.Rows.{chain_in, sibling_in}
use Rattle.growth.specs.Grown.{parameters}
use Rattle.records.specs.declared.kind.RecordKind.TheVariants as kind
use Rattle.tree.specs.Rebuilt.{rebuilt}
use Rattle.records.specs.Rules.{header_rule, parts_rule, release_rule, refuse, after}
use Rattle.verifier.specs.Rules.{suits, root_shown, verify_rule}
use Rattle.records.specs.declared.refusal.Refusal.TheVariants.{Parameters, Root}
use Rattle.rules.specs.Rules.{own_key}
use Rattle.rules.specs.States.{Signing}
use Rattle.rules.proofs.Accepting.{key-suits, key-shows, key-root}

-- the way up depends on the parents at its own levels alone
climb-under : (p q : ℕ → List ℕ → List ℕ → List ℕ) (sibling : ℕ → List ℕ) (n : ℕ) → ((c : ℕ) (l r : List ℕ) → c < n → p c l r ≡ q c l r) → (a b : ℕ) (s : List ℕ) → a ≤ n → climb p sibling a b s ≡ climb q sibling a b s
unfolding climb
climb-under p q sibling n same zero b s h = refl
climb-under p q sibling n same (suc a) b s h =
    let t = sibling (suc a) in
    let lt : a < n = omega arith in
    climb-under p q sibling n same a (b / 2) _ (omega arith) ∙ (λ i. climb q sibling a (b / 2) (cond (eqb (b % 2) 0) (same a s t lt i) (same a t s lt i)))

-- and so does the root that a record leads to: masks past its levels are not used
rebuilt-under : (hash : Hash) (code : Code) (given : nodes.Parameters) (i : ℕ) (stamp row : List ℕ) → 32 * (given.height + code.levels) ≤ length given.masks → rebuilt hash code (record { hash_key = given.hash_key; masks = take (32 * (given.height + code.levels)) given.masks; height = given.height }) i stamp row ≡ rebuilt hash code given i stamp row
rebuilt-under hash code given i stamp row long =
    let h = given.height in
    let key = given.hash_key in
    let masks = given.masks in
    let size = 32 * (h + code.levels) in
    let p = parent_at hash (record { hash_key = key; masks = take size masks; height = h }) in
    let q = parent_at hash given in
    let f = one_time (hash.step key) code.count code.top (code.digit stamp) (chain_in row) in
    let sibling : ℕ → List ℕ = sibling_in code.count h row in
    let same : (c : ℕ) (l r : List ℕ) → c < h + code.levels → p c l r ≡ q c l r =
    λ c l r lt.
    let left = at_take size masks (2 * c) long (omega arith) in
    let right = at_take size masks (2 * c + 1) long (omega arith) in
    λ j. hash.pair key (xor l (left j)) (xor r (right j)) in
    climb-under p q sibling (h + code.levels) same h i (node p f h code.levels 0) (omega arith)
    ∙ ap (climb q sibling h i) (node-under p q f (h + code.levels) same code.levels h 0 (omega arith))

module _ (hash : Hash) (code : Code) (s : Signing) (all : Strings hash s.origin) (tall : (1 ≤ s.origin.height) × (s.origin.height ≤ 8)) (few : code.levels ≤ 8) (long : length s.root ≡ 16) where
  -- the root that a record leads to under it
  pub own-shows : (stamp : List ℕ) (leaf : ℕ) (row : List ℕ) → root_shown hash code (own_key hash code s) stamp (record { leaf = leaf; row = row }) ≡ rebuilt hash code (parameters s.origin) leaf stamp row
  own-shows stamp leaf row =
      let o = s.origin in
      let masked = all.masked.0 in
      key-shows hash code s all tall few long stamp leaf row ∙ rebuilt-under hash code (parameters o) leaf stamp row (omega arith)

  pub own-reads : (stamp bytes : List ℕ) → verify_rule hash code (own_key hash code s) stamp bytes ≡ after (release_rule code.count s.origin.height bytes) (λ release. refuse (not (bytes_eq (rebuilt hash code (parameters s.origin) release.leaf stamp release.row) s.root)) Root (Ok release.leaf))
  own-reads stamp bytes =
      let root = key-root hash code s all tall few long in
      let parts = parts_rule code.count s.origin.height bytes in
      let reads = cond-false (not (suits hash.number code.number code.levels (own_key hash code s))) (Err Parameters) parts (not_from_true _ (key-suits hash code s all tall few long)) in
      λ i. after (after (header_rule kind.Release bytes) (λ body. reads i)) (λ release. refuse (not (bytes_eq (own-shows stamp release.leaf release.row i) (root i))) Root (Ok release.leaf))
