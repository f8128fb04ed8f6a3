-- Nothing is found of what the signer issued, and of nothing else that leads to the root.
use Rattle.std.proofs.Common.{◌≡◌, ℕ, zero, suc, ◌+◌, ◌-◌, ◌*◌, ◌/◌, ◌^◌, ◌<◌, ◌≤◌, List, length, Some, None, Option, sym, refl, ap, ◌∙◌, subst, ⊎_elim, add-one, arith}
use Rattle.std.proofs.lemmas.Bool.{cases_lt}
use Rattle.strings.specs.Strings.{IsString, xor, string_at}
use Rattle.strings.proofs.Laws.{xor-injective}
use Rattle.tree.specs.Meaning.{Hash, Code}
use Rattle.tree.specs.Rebuilt.{rebuilt}
use Rattle.tree.proofs.Laws.{one-time-past}
use Rattle.growth.specs.Grown.{parameters, secret, leaf_string, node_at}
use Rattle.growth.specs.Shown.{sibling_of, shown_row}
use Rattle.compare.specs.Sides.{Traced, our_chain, their_chain, our_node, their_node, left_input, right_input, revealed_height}
use Rattle.compare.specs.Found.{NoNode, NoChain, NoneFound, Found, ours}
use Rattle.compare.specs.declared.verdict.Verdict.TheVariants.{Ours}
use Rattle.compare.proofs.Lawful.{Lawful}
use Rattle.compare.proofs.Near.{Near, child, sibling-half, root-only, near-way, near_up, near-bottom}
use Rattle.compare.proofs.Nodes.{their-root}
use Rattle.compare.proofs.Rows.{same-unless, both-unless, another}
use Rattle.compare.proofs.Agreeing.{SameNode, SameChain, our_step, their-step, their-first, their_string, our-bottom, their-bottom, our-top, their-top, their-sibling, same-below, ShowsChains, ShowsSiblings, row_shows, shows-row}

module _ (hash : Hash) (code : Code) (t : Traced) where
  abbrev h : ℕ
  h = t.origin.height

  abbrev l : ℕ
  l = code.levels

  abbrev digit : ℕ → ℕ
  digit k = code.digit t.stamp k

  -- a place above the leaf or within it
  abbrev At : ℕ → ℕ → Type 0
  At a b = Near h t.leaf a b

  abbrev Same : ℕ → ℕ → Type 0
  Same a b = SameNode hash code t a b

  none_found : Found hash code t Ours → NoneFound hash code t
  none_found (ours none) = none

  -- where no node breaks, equal nodes have equal children; so both sides are equal from the root down
  child-same : NoNode hash code t → (a c : ℕ) → a < h + l → At a (c / 2) → Same a (c / 2) → Same (a + 1) c
  child-same none a c inner near equal =
      let b = c / 2 in
      let both = both-unless
      (left_input hash code t (our_node hash code t) a b) (left_input hash code t (their_node hash code t) a b)
      (right_input hash code t (our_node hash code t) a b) (right_input hash code t (their_node hash code t) a b)
      (λ differ. none a b (record { inner = inner; near = near; equal = equal; differ = differ })) in
      child (Same (a + 1)) c (xor-injective _ _ _ both.0) (xor-injective _ _ _ both.1)

  module _ (none : NoNode hash code t) (placed : t.leaf < 2 ^ h) (root : Same 0 0) where
    near_same : (a b : ℕ) → a ≤ h + l → At a b → Same a b
    near_same zero b le near = subst (Same 0) (sym (root-only h t.leaf placed b near)) root
    near_same (suc a) c le near =
        let up = near_up h t.leaf a c (subst (λ n. At n c) (sym (add-one a)) near) in
        subst (λ n. Same n c) (add-one a) (child-same none a c (omega arith) up (near_same a (c / 2) (omega arith) up))

    siblings-same : ShowsSiblings hash code t
    siblings-same e lt =
        let a = h - (e + 1) in
        let b = t.leaf / 2 ^ e in
        let level : h - e ≡ a + 1 = omega arith in
        let way = near_up h t.leaf a b (subst (λ n. At n b) level (near-way h t.leaf e (omega arith))) in
        let near = subst (At a) (sym (sibling-half b)) way in
        let same = child-same none a (sibling_of b) (omega arith) near (near_same a (sibling_of b / 2) (omega arith) near) in
        sym (subst (λ n. Same n (sibling_of b)) (sym level) same ∙ their-sibling hash code t e lt)

    tops-same : (k : ℕ) → k < code.count → k < 2 ^ l → SameChain hash code t k code.top
    tops-same k chain place =
        sym (our-top hash code t k chain)
        ∙ sym (our-bottom hash code t k place)
        ∙ near_same (h + l) (t.leaf * 2 ^ l + k) (omega arith) (near-bottom h t.leaf l k place)
        ∙ their-bottom hash code t k place
        ∙ their-top hash code t k chain

  -- where no chain breaks, equal tops are over equal strings
  chain_same : NoChain hash code t → (k : ℕ) → k < code.count → SameChain hash code t k code.top → (j e : ℕ) → e + j ≡ code.top → digit k ≤ e → SameChain hash code t k e
  chain_same none k chain top zero e at shown = subst (SameChain hash code t k) (let is : code.top ≡ e = omega arith in is) top
  chain_same none k chain top (suc j) e at shown =
      let over = chain_same none k chain top j (e + 1) (omega arith) (omega arith) in
      same-unless (our_chain hash code t k e) (their_chain hash code t k e)
      (λ differ. none k e (record { chain = chain; shown = shown; under = omega arith; differ = differ; equal = our_step hash code t k e ∙ over ∙ sym (their-step hash code t k e shown) }))

  module _ (lawful : Lawful hash code t.origin) (str : IsString t.stamp) (o : Option (List ℕ)) (none : (k : ℕ) → k < code.count → digit k < revealed_height code o k → ⊥) where
    -- where a row of the ledger has revealed each string of the stamp, no other stamp has been revealed: it has some digit above the stamp's
    stamp-is : (m : List ℕ) → IsString m → ((k : ℕ) → code.digit m k ≤ revealed_height code o k) → t.stamp ≡ m
    stamp-is m strm revealed =
        same-unless t.stamp m
        (λ isnt.
        let larger = lawful.laws.of_code.apart t.stamp m str strm isnt in
        let k = larger.0 in
        ⊎_elim
        (λ (lt : k < code.count). none k lt (omega (arith, revealed k, larger.1)))
        (λ (le : code.count ≤ k). omega (arith, lawful.laws.of_code.past t.stamp k str le, lawful.laws.of_code.past m k strm le, larger.1))
        (cases_lt k code.count))

  -- so the stamp is in that row
  entered-is : Lawful hash code t.origin → IsString t.stamp → (o : Option (List ℕ)) → ((m : List ℕ) → o ≡ Some m → IsString m) → ((k : ℕ) → k < code.count → digit k < revealed_height code o k → ⊥) → o ≡ Some t.stamp
  entered-is lawful str (Some m) strs none = ap Some (sym (stamp-is lawful str (Some m) none m (strs m refl) (λ k. omega arith)))
  entered-is lawful str None strs none =
      let other = another t.stamp in
      absurd (other.2 (stamp-is lawful str None none other.0 other.1 (λ k. lawful.laws.of_code.within other.0 k other.1)))

  -- where the row shows the signer's strings, both sides are equal: along the chains, and from the bottom up
  chain-shown : ShowsChains hash code t → (k j e : ℕ) → k < code.count → digit k + j ≡ e → SameChain hash code t k e
  chain-shown shows k zero e chain at =
      subst (SameChain hash code t k) (let is : digit k ≡ e = omega arith in is) (sym (shows k chain) ∙ sym (their-first hash code t k))
  chain-shown shows k (suc j) e chain at =
      let d = digit k + j in
      subst (SameChain hash code t k) (let up : d + 1 ≡ e = omega arith in up)
      (sym (our_step hash code t k d) ∙ ap (hash.step t.origin.hash_key) (chain-shown shows k j d chain refl) ∙ their-step hash code t k d (omega arith))

  module _ (low : (k : ℕ) → digit k ≤ code.top) (chains : ShowsChains hash code t) (siblings : ShowsSiblings hash code t) where
    string-shown : (k : ℕ) → leaf_string hash code t.origin t.leaf k ≡ their_string hash code t k
    string-shown k =
        let step = hash.step t.origin.hash_key in
        ⊎_elim
        (λ (chain : k < code.count).
        let fits = low k in
        our-top hash code t k chain ∙ chain-shown chains k (code.top - digit k) code.top chain (omega arith) ∙ sym (their-top hash code t k chain))
        (λ (past : code.count ≤ k).
        one-time-past step code.top (λ j. 0) (secret hash t.origin t.leaf) code.count k past
        ∙ sym (one-time-past step code.top (code.digit t.stamp) (string_at t.row) code.count k past))
        (cases_lt k code.count)

    no_node : NoNode hash code t
    no_node a b break =
        let under =
        same-below hash code t l (omega arith) (λ e lt. sym (siblings e lt)) (λ k lt. our-bottom hash code t k lt ∙ string-shown k ∙ sym (their-bottom hash code t k lt)) a b break.inner break.near in
        break.differ (ap (λ s. xor s (string_at t.origin.masks (2 * a))) under.0, ap (λ s. xor s (string_at t.origin.masks (2 * a + 1))) under.1)

    no-chain : NoChain hash code t
    no-chain k e break = let shown = break.shown in break.differ (chain-shown chains k (e - digit k) e break.chain (omega arith))

  module _ (lawful : Lawful hash code t.origin) (tall : t.origin.height ≤ 8) (str : IsString t.stamp) where
    -- where no node and no chain breaks, a row that leads to the root is the signer's own
    pub row-true : t.leaf < 2 ^ t.origin.height → length t.row ≡ 16 * (code.count + t.origin.height) → NoNode hash code t → NoChain hash code t → rebuilt hash code (parameters t.origin) t.leaf t.stamp t.row ≡ node_at hash code t.origin 0 0 → t.row ≡ shown_row hash code t.origin t.leaf t.stamp
    row-true placed long nodes breaks leads =
        let root = sym leads ∙ their-root hash code t placed in
        let chains : ShowsChains hash code t =
        λ k chain.
        let fits = lawful.laws.of_code.within t.stamp k str in
        let place : k < 2 ^ l = omega (arith, lawful.laws.of_code.count_range.1) in
        let top = tops-same nodes placed root k chain place in
        sym (their-first hash code t k) ∙ sym (chain_same breaks k chain top (code.top - digit k) (digit k) (omega arith) (omega arith)) in
        shows-row hash code t lawful tall long chains (siblings-same nodes placed root)

    -- where nothing at all is found of it, the signer issued it: the stamp is in the ledger too
    pub ours-true : t.leaf < 2 ^ t.origin.height → length t.row ≡ 16 * (code.count + t.origin.height) → ((m : List ℕ) → t.entered ≡ Some m → IsString m) → Found hash code t Ours → rebuilt hash code (parameters t.origin) t.leaf t.stamp t.row ≡ node_at hash code t.origin 0 0 → (t.entered ≡ Some t.stamp) × (t.row ≡ shown_row hash code t.origin t.leaf t.stamp)
    ours-true placed long strs found leads =
        let none = none_found found in
        (entered-is lawful str t.entered strs (λ k chain below. none.no_unrevealed k (record { chain = chain; below = below })), row-true placed long none.no_node none.no_chain leads)

    -- where the signer issued it, nothing is found
    pub true-ours : t.entered ≡ Some t.stamp → t.row ≡ shown_row hash code t.origin t.leaf t.stamp → Found hash code t Ours
    true-ours entered is =
        let shows = row_shows hash code t lawful tall is in
        let low : (k : ℕ) → digit k ≤ code.top = λ k. lawful.laws.of_code.within t.stamp k str in
        ours
        (record {
          no_node = no_node low shows.0 shows.1;
          no_chain = no-chain low shows.0 shows.1;
          no_unrevealed = λ k unrevealed. let same = ap (λ o. revealed_height code o k) entered in omega (arith, same, unrevealed.below);
        })
