-- What a release of a leaf shows leads to the root of the tree.
use Rattle.std.proofs.Common.{◌≡◌, ℕ, zero, suc, ◌+◌, ◌-◌, ◌*◌, ◌/◌, ◌^◌, ◌<◌, ◌≤◌, cond, ltb, List, take, sym, refl, ap, ◌∙◌, ⊎_elim, add-one, arith, le-ltb, lt-ltb}
use native.Mathlib.Nat.{div-eq_of_lt}
use Rattle.std.proofs.lemmas.Nat.{shr-shr}
use Rattle.std.proofs.lemmas.Bool.{cases_lt, cond-true, cond-false}
use Rattle.strings.specs.Strings.{xor, string_at}
use Rattle.tree.specs.Meaning.{Hash, Code}
use Rattle.tree.specs.Nodes.{raise, node, above, climb, one_time, parent_at}
use Rattle.tree.specs.Rebuilt.{rebuilt}
use Rattle.tree.proofs.Laws.{node-moved, above-both, climb-root, climb-more, one-time-chain, one-time-past}
use Rattle.growth.specs.Grown.{secret, chain_string, leaf_string, bottom, parameters, node_at}
use Rattle.tree.specs.Rows.{sibling_place, sibling_in, sibling_level}
use Rattle.growth.specs.Shown.{sibling_of, path_sibling, shown_string, shown_row}
use Rattle.growth.specs.declared.origin.Origin.{Origin}
use Rattle.growth.proofs.Paths.{shr-none, sibling-is}
use Rattle.growth.proofs.Strings.{Strings, at_take, shown-str}
use Rattle.tree.proofs.Joining.{row_at}
use Rattle.growth.proofs.Trees.{leaf-is, node-up}

-- a chain raised in two parts
pub raise-add : (step : List ℕ → List ℕ) (a b : ℕ) (s : List ℕ) → raise step a (raise step b s) ≡ raise step (a + b) s
unfolding raise
raise-add step zero b s = ap (λ n. raise step n s) (omega arith)
raise-add step (suc a) b s = ap step (raise-add step a b s) ∙ ap (λ n. raise step n s) (let e : suc (a + b) ≡ suc a + b = omega arith in e)

module _ (hash : Hash) (code : Code) (o : Origin) (i : ℕ) (stamp row : List ℕ) where
  -- the shown strings raised to the top digit are the leaf's one-time strings
  leaf-shown : ((k : ℕ) → code.digit stamp k ≤ code.top) → ((k : ℕ) → k < code.count → string_at row k ≡ chain_string hash o i k (code.digit stamp k)) → (k : ℕ) → one_time (hash.step o.hash_key) code.count code.top (code.digit stamp) (string_at row) k ≡ leaf_string hash code o i k
  leaf-shown low shows k =
      let step = hash.step o.hash_key in
      let d = code.digit stamp k in
      let fits = low k in
      let all : (code.top - d) + d ≡ code.top - 0 = omega arith in
      ⊎_elim
      (λ (in-chains : k < code.count).
      one-time-chain step code.top (code.digit stamp) (string_at row) code.count k in-chains
      ∙ ap (raise step (code.top - d)) (shows k in-chains)
      ∙ raise-add step (code.top - d) d (secret hash o i k)
      ∙ ap (λ n. raise step n (secret hash o i k)) all
      ∙ sym (one-time-chain step code.top (λ j. 0) (secret hash o i) code.count k in-chains))
      (λ (past : code.count ≤ k).
      one-time-past step code.top (code.digit stamp) (string_at row) code.count k past
      ∙ sym (one-time-past step code.top (λ j. 0) (secret hash o i) code.count k past))
      (cases_lt k code.count)

  -- a node and its sibling have the node above them as their parent
  above-is : (a b : ℕ) → a < o.height → above (parent_at hash (parameters o)) a b (node_at hash code o (a + 1) b) (node_at hash code o (a + 1) (sibling_of b)) ≡ node_at hash code o a (b / 2)
  above-is a b h =
      let at = node_at hash code o (a + 1) in
      above-both (parent_at hash (parameters o)) at a b (at (sibling_of b)) (λ even. ap at (omega (arith, sibling-is b))) (λ odd. ap at (omega (arith, sibling-is b)))
      ∙ sym (node-up hash code o a (b / 2) (omega arith))

  -- the way up from a node on the leaf's path
  climbed : (sibling : ℕ → List ℕ) → ((c : ℕ) → 1 ≤ c → c ≤ o.height → sibling c ≡ node_at hash code o c (sibling_of (i / 2 ^ (o.height - c)))) → (a : ℕ) → a ≤ o.height → climb (parent_at hash (parameters o)) sibling a (i / 2 ^ (o.height - a)) (node_at hash code o a (i / 2 ^ (o.height - a))) ≡ node_at hash code o 0 (i / 2 ^ (o.height - 0))
  climbed sibling shows zero le = climb-root (parent_at hash (parameters o)) sibling (i / 2 ^ (o.height - 0)) (node_at hash code o 0 (i / 2 ^ (o.height - 0)))
  climbed sibling shows (suc a) le =
      let h = o.height in
      let parent = parent_at hash (parameters o) in
      let b = i / 2 ^ (h - (a + 1)) in
      let half : b / 2 ≡ i / 2 ^ (h - a) = shr-shr i (h - (a + 1)) 1 ∙ ap (λ e. i / 2 ^ e) (let s : (h - (a + 1)) + 1 ≡ h - a = omega arith in s) in
      ap (λ n. climb parent sibling n (i / 2 ^ (h - n)) (node_at hash code o n (i / 2 ^ (h - n)))) (sym (add-one a))
      ∙ climb-more parent sibling a b (node_at hash code o (a + 1) b)
      ∙ ap (λ s. climb parent sibling a (b / 2) (above parent a b (node_at hash code o (a + 1) b) s)) (shows (a + 1) (omega arith) (omega arith))
      ∙ ap (climb parent sibling a (b / 2)) (above-is a b (omega arith))
      ∙ ap (λ n. climb parent sibling a n (node_at hash code o a n)) half
      ∙ climbed sibling shows a (omega arith)

  -- a row that shows what a release of leaf i shows leads to the root
  pub leads : i < 2 ^ o.height → ((k : ℕ) → code.digit stamp k ≤ code.top) → ((k : ℕ) → k < code.count + o.height → string_at row k ≡ shown_string hash code o i stamp k) → rebuilt hash code (parameters o) i stamp row ≡ node_at hash code o 0 0
  leads lt low shows =
      let h = o.height in
      let count = code.count in
      let parent = parent_at hash (parameters o) in
      let sibling : ℕ → List ℕ = sibling_in count h row in
      let chains : (k : ℕ) → k < count → string_at row k ≡ chain_string hash o i k (code.digit stamp k) = λ k below. shows k (omega arith) ∙ cond-true (ltb k count) _ _ (lt-ltb k count below) in
      let siblings : (c : ℕ) → 1 ≤ c → c ≤ h → sibling c ≡ node_at hash code o c (sibling_of (i / 2 ^ (h - c))) =
      λ c some le.
      let level : sibling_level count h (sibling_place count h c) ≡ c = omega arith in
      shows (count + (h - c)) (omega arith)
      ∙ cond-false (ltb (count + (h - c)) count) _ _ (le-ltb (count + (h - c)) count (omega arith))
      ∙ ap (path_sibling hash code o i) level in
      let whole = shr-none i (h - h) (omega arith) in
      let leaf : node parent (one_time (hash.step o.hash_key) count code.top (code.digit stamp) (string_at row)) h code.levels 0 ≡ node_at hash code o h i =
      node-moved parent _ _ h code.levels 0 0 (λ k below. leaf-shown low chains (0 * 2 ^ code.levels + k)) ∙ leaf-is hash code o i in
      ap (climb parent sibling h i) leaf
      ∙ ap (λ b. climb parent sibling h b (node_at hash code o h b)) (sym whole)
      ∙ climbed sibling siblings h (omega arith)
      ∙ ap (node_at hash code o 0) (ap (λ e. i / 2 ^ e) (let s : h - 0 ≡ h = omega arith in s) ∙ div-eq_of_lt lt)

-- a node depends on the parents at its own levels alone
pub node-under : (p q : ℕ → List ℕ → List ℕ → List ℕ) (f : ℕ → List ℕ) (n : ℕ) → ((c : ℕ) (l r : List ℕ) → c < n → p c l r ≡ q c l r) → (d a b : ℕ) → a + d ≤ n → node p f a d b ≡ node q f a d b
unfolding node
node-under p q f n same zero a b h = refl
node-under p q f n same (suc d) a b h =
    (λ i. p a (node-under p q f n same d (suc a) (2 * b) (omega arith) i) (node-under p q f n same d (suc a) (2 * b + 1) (omega arith) i)) ∙ same a _ _ (omega arith)

-- a release leads to the root under the masks of the tree's own levels too
module _ (hash : Hash) (code : Code) (o : Origin) (all : Strings hash o) (tall : o.height ≤ 8) (few : code.levels ≤ 8) where
  abbrev size : ℕ
  size = 32 * (o.height + code.levels)

  abbrev cut : Origin
  cut = record { seed = o.seed; hash_key = o.hash_key; masks = take size o.masks; height = o.height }

  same_nodes : (a b : ℕ) → a ≤ o.height → node_at hash code o a b ≡ node_at hash code cut a b
  same_nodes a b le =
      let long = all.masked.0 in
      node-under (parent_at hash (parameters o)) (parent_at hash (parameters cut)) (bottom hash code o) (o.height + code.levels)
      (λ c l r lt.
      let left = at_take size o.masks (2 * c) (omega arith) (omega arith) in
      let right = at_take size o.masks (2 * c + 1) (omega arith) (omega arith) in
      λ i. hash.pair o.hash_key (xor l (sym left i)) (xor r (sym right i)))
      (o.height + code.levels - a) a b (omega arith)

  pub release-leads : (i : ℕ) (stamp : List ℕ) → i < 2 ^ o.height → ((k : ℕ) → code.digit stamp k ≤ code.top) → rebuilt hash code (parameters cut) i stamp (shown_row hash code o i stamp) ≡ node_at hash code o 0 0
  unfolding shown_row
  release-leads i stamp lt low =
      let shown = shown_string hash code o i stamp in
      let same : (k : ℕ) → shown k ≡ shown_string hash code cut i stamp k =
      λ k. ap (cond (ltb k code.count) (chain_string hash o i k (code.digit stamp k))) (same_nodes (sibling_level code.count o.height k) (sibling_of (i / 2 ^ (o.height - sibling_level code.count o.height k))) (omega arith)) in
      leads hash code cut i stamp (shown_row hash code o i stamp) lt low
      (λ k h. row_at shown (code.count + o.height) (λ j below. (shown-str hash code o all tall few i stamp j below).0) k h ∙ same k)
      ∙ sym (same_nodes 0 0 (omega arith))
