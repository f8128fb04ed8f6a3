-- What each side has along a chain, at the bottom of the leaf, beside the way up and in the whole row.
use Rattle.std.proofs.Common.{◌≡◌, ℕ, ◌+◌, ◌-◌, ◌*◌, ◌/◌, ◌^◌, ◌<◌, ◌≤◌, ltb, List, length, sym, ap, ◌∙◌, subst, ⊎_elim, arith, le-ltb, lt-ltb, rules}
use Rattle.std.proofs.lemmas.Bool.{cases_lt, cond-true, cond-false}
use Rattle.strings.specs.Strings.{string_at}
use Rattle.tree.specs.Meaning.{Hash, Code}
use Rattle.tree.specs.Nodes.{raise, node, one_time, parent_at}
use Rattle.tree.proofs.Laws.{raise-none, raise-more, node-bottom, one-time-chain}
use Rattle.growth.specs.Grown.{secret, leaf_string, parameters}
use Rattle.growth.specs.Shown.{sibling_of, path_sibling, shown_string, shown_row}
use Rattle.growth.proofs.Trees.{node-up}
use Rattle.growth.proofs.Strings.{shown-str}
use Rattle.tree.proofs.Joining.{row_at, row-long}
use Rattle.compare.specs.Sides.{Traced, our_chain, their_chain, our_node, their_node}
use Rattle.compare.proofs.Lawful.{Lawful}
use Rattle.compare.proofs.Near.{Near, sibling-other, below-near}
use Rattle.compare.proofs.Nodes.{our-inner, their-inner, their-beside, their-parent}
use Rattle.compare.proofs.Rows.{same_rows}

module _ (hash : Hash) (code : Code) (t : Traced) where
  abbrev h : ℕ
  h = t.origin.height

  abbrev l : ℕ
  l = code.levels

  abbrev digit : ℕ → ℕ
  digit k = code.digit t.stamp k

  abbrev step : List ℕ → List ℕ
  step = hash.step t.origin.hash_key

  -- both sides have one node at a place, or one string at a height of a chain
  abbrev pub SameNode : ℕ → ℕ → Type 0
  SameNode a b = our_node hash code t a b ≡ their_node hash code t a b

  abbrev pub SameChain : ℕ → ℕ → Type 0
  SameChain k e = our_chain hash code t k e ≡ their_chain hash code t k e

  -- a chain, one step up on each side
  pub our_step : (k e : ℕ) → step (our_chain hash code t k e) ≡ our_chain hash code t k (e + 1)
  our_step k e = raise-more step e (secret hash t.origin t.leaf k)

  pub their-step : (k e : ℕ) → digit k ≤ e → step (their_chain hash code t k e) ≡ their_chain hash code t k (e + 1)
  their-step k e le =
      let up : e - digit k + 1 ≡ e + 1 - digit k = omega arith in
      raise-more step (e - digit k) (string_at t.row k) ∙ ap (λ n. raise step n (string_at t.row k)) up

  -- the record's chain begins with its string
  pub their-first : (k : ℕ) → their_chain hash code t k (digit k) ≡ string_at t.row k
  their-first k =
      let none : digit k - digit k ≡ 0 = omega arith in
      ap (λ n. raise step n (string_at t.row k)) none ∙ raise-none step (string_at t.row k)

  -- the bottom strings of the leaf
  abbrev pub their_string : ℕ → List ℕ
  their_string = one_time step code.count code.top (code.digit t.stamp) (string_at t.row)

  bottom-is : (f : ℕ → List ℕ) (k : ℕ) → node (parent_at hash (parameters t.origin)) f (h + l) (l - l) k ≡ f k
  bottom-is f k =
      let none : l - l ≡ 0 = omega arith in
      ap (λ d. node (parent_at hash (parameters t.origin)) f (h + l) d k) none ∙ node-bottom (parent_at hash (parameters t.origin)) f (h + l) k

  pub our-bottom : (k : ℕ) → k < 2 ^ l → our_node hash code t (h + l) (t.leaf * 2 ^ l + k) ≡ leaf_string hash code t.origin t.leaf k
  our-bottom k lt = our-inner hash code t l k (omega arith) lt ∙ bottom-is (leaf_string hash code t.origin t.leaf) k

  pub their-bottom : (k : ℕ) → k < 2 ^ l → their_node hash code t (h + l) (t.leaf * 2 ^ l + k) ≡ their_string k
  their-bottom k lt = their-inner hash code t l k (omega arith) lt ∙ bottom-is their_string k

  -- at the place of a chain they are its tops
  pub our-top : (k : ℕ) → k < code.count → leaf_string hash code t.origin t.leaf k ≡ our_chain hash code t k code.top
  our-top k lt = search rules

  pub their-top : (k : ℕ) → k < code.count → their_string k ≡ their_chain hash code t k code.top
  their-top k lt = one-time-chain step code.top (code.digit t.stamp) (string_at t.row) code.count k lt

  -- beside the way up
  pub their-sibling : (e : ℕ) → e < h → their_node hash code t (h - e) (sibling_of (t.leaf / 2 ^ e)) ≡ string_at t.row (code.count + e)
  their-sibling e lt =
      let back : h - (h - e) ≡ e = omega arith in
      their-beside hash code t e (sibling_of (t.leaf / 2 ^ e)) (omega arith) (sibling-other (t.leaf / 2 ^ e))
      ∙ ap (λ n. string_at t.row (code.count + n)) back

  -- sides that have one node beside the way up, and at each place l levels below the leaf, have one below each node above those
  pub same-below : (l : ℕ) → l ≤ code.levels → ((e : ℕ) → e < h → our_node hash code t (h - e) (sibling_of (t.leaf / 2 ^ e)) ≡ string_at t.row (code.count + e)) → ((k : ℕ) → k < 2 ^ l → SameNode (h + l) (t.leaf * 2 ^ l + k)) → (a b : ℕ) → a < h + l → Near h t.leaf a b → SameNode (a + 1) (2 * b) × SameNode (a + 1) (2 * b + 1)
  same-below l within siblings level a b inner near =
      below-near h t.leaf l SameNode (λ e lt. siblings e lt ∙ sym (their-sibling e lt)) level
      (λ a b inner near left right.
      node-up hash code t.origin a b (omega arith) ∙ (λ i. parent_at hash (parameters t.origin) a (left i) (right i)) ∙ sym (their-parent hash code t a b (omega arith) near))
      a b inner near

  -- what a release of the leaf shows for the stamp
  abbrev shown : ℕ → List ℕ
  shown = shown_string hash code t.origin t.leaf t.stamp

  abbrev pub ShowsChains : Type 0
  ShowsChains = (k : ℕ) → k < code.count → string_at t.row k ≡ our_chain hash code t k (digit k)

  abbrev pub ShowsSiblings : Type 0
  ShowsSiblings = (e : ℕ) → e < h → string_at t.row (code.count + e) ≡ our_node hash code t (h - e) (sibling_of (t.leaf / 2 ^ e))

  shown-chain : (k : ℕ) → k < code.count → shown k ≡ our_chain hash code t k (digit k)
  shown-chain k lt = cond-true (ltb k code.count) _ _ (lt-ltb k code.count lt)

  shown-sibling : (e : ℕ) → e < h → shown (code.count + e) ≡ our_node hash code t (h - e) (sibling_of (t.leaf / 2 ^ e))
  shown-sibling e lt =
      let past : code.count + e - code.count ≡ e = omega arith in
      let back : h - (h - e) ≡ e = omega arith in
      cond-false (ltb (code.count + e) code.count) _ _ (le-ltb (code.count + e) code.count (omega arith))
      ∙ ap (λ n. path_sibling hash code t.origin t.leaf (h - n)) past
      ∙ ap (λ n. our_node hash code t (h - e) (sibling_of (t.leaf / 2 ^ n))) back

  -- the record's row is the release's row, or shows the same chains and siblings
  module _ (lawful : Lawful hash code t.origin) (tall : t.origin.height ≤ 8) where
    each : (k : ℕ) → k < code.count + h → length (shown k) ≡ 16
    each k lt = (shown-str hash code t.origin lawful.strings tall lawful.laws.of_code.level_range.1 t.leaf t.stamp k lt).0

    pub row_shows : t.row ≡ shown_row hash code t.origin t.leaf t.stamp → ShowsChains × ShowsSiblings
    unfolding shown_row
    row_shows is =
        let at : (k : ℕ) → k < code.count + h → string_at t.row k ≡ shown k = λ k lt. ap (λ r. string_at r k) is ∙ row_at shown (code.count + h) each k lt in
        (λ k lt. at k (omega arith) ∙ shown-chain k lt, λ e lt. at (code.count + e) (omega arith) ∙ shown-sibling e lt)

    pub shows-row : length t.row ≡ 16 * (code.count + h) → ShowsChains → ShowsSiblings → t.row ≡ shown_row hash code t.origin t.leaf t.stamp
    unfolding shown_row
    shows-row long chains siblings =
        let n = code.count + h in
        let at : (k : ℕ) → k < n → string_at t.row k ≡ shown k =
        λ k lt.
        ⊎_elim
        (λ (chain : k < code.count). chains k chain ∙ sym (shown-chain k chain))
        (λ (past : code.count ≤ k).
        let e = k - code.count in
        let place : code.count + e ≡ k = omega arith in
        subst (λ j. string_at t.row j ≡ shown j) place (siblings e (omega arith) ∙ sym (shown-sibling e (omega arith))))
        (cases_lt k code.count) in
        same_rows t.row (shown_row hash code t.origin t.leaf t.stamp) n long (row-long shown n each) (λ k lt. at k lt ∙ sym (row_at shown n each k lt))
