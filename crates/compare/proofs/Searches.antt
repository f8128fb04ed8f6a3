-- The search finds what trace is to find, and nothing else.
use Rattle.std.proofs.Common.{◌≡◌, ℕ, zero, suc, ◌+◌, ◌-◌, ◌/◌, ◌^◌, ◌<◌, ◌≤◌, Bool, true, false, ◌⊎◌, Some, None, Decides, Option, sym, refl, ◌∙◌, subst, inl, inr, ⊎_elim, add-one, arith, MatchOption, rules}
use Rattle.std.specs.Option.{option_or}
use Rattle.std.specs.Bool.{then_some}
use Rattle.std.proofs.lemmas.Slice.Eq.{bytes_eq-Decides}
use Rattle.std.proofs.lemmas.Option.{MatchOption-at_some}
use Rattle.std.proofs.lemmas.Bool.{cases_lt, cases_order, false≢true}
use Rattle.std.proofs.lemmas.Bool.Decides.{Decides-and, Decides-not, Decides-ltb, Decides-like}
use Rattle.tree.specs.Meaning.{Hash, Code}
use Rattle.compare.specs.Sides.{Traced}
use Rattle.compare.specs.Search.{first_from, last_from, chosen, node_find_at, width, first_place, level_search, node_search, chain_find_at, height_search, chain_search, unrevealed_find_at, unrevealed_search, found}
use Rattle.compare.specs.Found.{NodeBreak, ChainBreak, UnrevealedChain, node_report, chain_report, unrevealed_report, Found, node_break, chain_break, unrevealed, ours}
use Rattle.compare.specs.declared.verdict.Find.{Find}
use Rattle.compare.specs.declared.verdict.Verdict.{Verdict}
use Rattle.compare.specs.declared.verdict.Verdict.TheVariants.{Node, Chain, Unrevealed}
use Rattle.compare.proofs.Firsts.{first_more}
use Rattle.growth.proofs.Trees.{node-up}
use Rattle.compare.proofs.Nodes.{their-parent}

-- the first of n places from a on of which Here holds: of each place before it Other holds
pub record First (Here Other : ℕ → Type 0) (a n : ℕ) : Type 0 where
  pub at : ℕ
  pub from : a ≤ at
  pub under : at < a + n
  pub here : Here at
  pub before : (j : ℕ) → a ≤ j → j < at → Other j

-- the last of them: of each place after it Other holds
pub record Last (Here Other : ℕ → Type 0) (a n : ℕ) : Type 0 where
  pub at : ℕ
  pub from : a ≤ at
  pub under : at < a + n
  pub here : Here at
  pub after : (j : ℕ) → at < j → j < a + n → Other j

-- where N k holds of a place k with no find, and Q k of the find at place k
module _ (N : ℕ → Type 0) (Q : ℕ → Find → Type 0) (a : ℕ) where
  -- N holds of all n places from a on
  abbrev pub Nowhere : ℕ → Type 0
  Nowhere n = (k : ℕ) → a ≤ k → k < a + n → N k

  -- what a search of n places from a on finds
  abbrev pub FirstOf : ℕ → Option Find → Type 0
  FirstOf n o = MatchOption o (Nowhere n) (λ x. First (λ k. Q k x) N a n)

  abbrev pub LastOf : ℕ → Option Find → Type 0
  LastOf n o = MatchOption o (Nowhere n) (λ x. Last (λ k. Q k x) N a n)

  nowhere-more : (n : ℕ) → Nowhere n → N (a + n) → Nowhere (n + 1)
  nowhere-more n none last k lo hi = search rules

  first_step : (n : ℕ) (o p : Option Find) → FirstOf n o → MatchOption p (N (a + n)) (Q (a + n)) → FirstOf (n + 1) (option_or o p)
  first_step n (Some x) p s c = record { at = s.at; from = s.from; under = omega arith; here = s.here; before = s.before }
  first_step n None (Some y) s c = record { at = a + n; from = omega arith; under = omega arith; here = c; before = s }
  first_step n None None s c = nowhere-more n s c

  last_step : (n : ℕ) (o p : Option Find) → LastOf n o → MatchOption p (N (a + n)) (Q (a + n)) → LastOf (n + 1) (option_or p o)
  last_step n o (Some y) s c = record { at = a + n; from = omega arith; under = omega arith; here = c; after = λ j lo hi. absurd (omega arith) }
  last_step n (Some x) None s c =
      record { at = s.at; from = s.from; under = omega arith; here = s.here; after = λ j lo hi. ⊎_elim (λ (lt : j < a + n). s.after j lo lt) (λ (le : a + n ≤ j). let e : a + n ≡ j = omega arith in subst N e c) (cases_lt j (a + n)) }
  last_step n None None s c = nowhere-more n s c

  pub first-cases : (f : ℕ → Option Find) (n : ℕ) → ((k : ℕ) → a ≤ k → k < a + n → MatchOption (f k) (N k) (Q k)) → FirstOf n (first_from f a n)
  unfolding first_from
  first-cases f zero each = λ k lo hi. absurd (omega arith)
  first-cases f (suc n) each =
      subst (λ m. FirstOf m (first_from f a m)) (add-one n)
      (subst (FirstOf (n + 1)) (sym (first_more f a n)) (first_step n (first_from f a n) (f (a + n)) (first-cases f n (λ k lo hi. each k lo (omega arith))) (each (a + n) (omega arith) (omega arith))))

  pub last-cases : (f : ℕ → Option Find) (n : ℕ) → ((k : ℕ) → a ≤ k → k < a + n → MatchOption (f k) (N k) (Q k)) → LastOf n (last_from f a n)
  unfolding last_from
  last-cases f zero each = λ k lo hi. absurd (omega arith)
  last-cases f (suc n) each =
      subst (λ m. LastOf m (last_from f a (suc n))) (add-one n) (last_step n (last_from f a n) (f (a + n)) (last-cases f n (λ k lo hi. each k lo (omega arith))) (each (a + n) (omega arith) (omega arith)))

-- the same, of the finds themselves
itself : (o : Option Find) → MatchOption o (o ≡ None) (λ x. o ≡ Some x)
itself None = refl
itself (Some x) = refl

module _ (f : ℕ → Option Find) (a n : ℕ) where
  pub first_found : (x : Find) → first_from f a n ≡ Some x → First (λ k. f k ≡ Some x) (λ k. f k ≡ None) a n
  first_found x e = MatchOption-at_some _ _ x e (first-cases (λ k. f k ≡ None) (λ k y. f k ≡ Some y) a f n (λ k lo hi. itself (f k)))

  pub last_found : (x : Find) → last_from f a n ≡ Some x → Last (λ k. f k ≡ Some x) (λ k. f k ≡ None) a n
  last_found x e = MatchOption-at_some _ _ x e (last-cases (λ k. f k ≡ None) (λ k y. f k ≡ Some y) a f n (λ k lo hi. itself (f k)))

-- facts about an option made weaker
cases-weaker : {P P' : Type 0} {Q Q' : Find → Type 0} (o : Option Find) → MatchOption o P Q → (P → P') → ((x : Find) → Q x → Q' x) → MatchOption o P' Q'
cases-weaker None c p q = p c
cases-weaker (Some x) c p q = q x c

-- a search of rows, one after another, for breaks; in a row Before says which of two comes first
module _ (Break : ℕ → ℕ → Type 0) (report : ℕ → ℕ → Find) (Before : ℕ → ℕ → Type 0) where
  -- the break of row a that x reports
  record InRow (a : ℕ) (x : Find) : Type 0 where
    place : ℕ
    breaks : Break a place
    is : x ≡ report a place
    least : (b : ℕ) → Break a b → Before place b

  -- the break of all rows that x reports
  record InRows (x : Find) : Type 0 where
    row : ℕ
    place : ℕ
    breaks : Break row place
    is : x ≡ report row place
    least : (a b : ℕ) → Break a b → (row < a) ⊎ ((row ≡ a) × Before place b)

  abbrev RowOf : ℕ → Option Find → Type 0
  RowOf a o = MatchOption o ((b : ℕ) → Break a b → ⊥) (InRow a)

  abbrev RowsOf : Option Find → Type 0
  RowsOf o = MatchOption o ((a b : ℕ) → Break a b → ⊥) InRows

  rows-found : (f : ℕ → Option Find) (n : ℕ) → ((a b : ℕ) → Break a b → a < n) → ((a : ℕ) → a < n → RowOf a (f a)) → RowsOf (first_from f 0 n)
  rows-found f n within each =
      cases-weaker (first_from f 0 n)
      (first-cases (λ a. (b : ℕ) → Break a b → ⊥) InRow 0 f n (λ a lo hi. each a (omega arith)))
      (λ none a b br. let lt = within a b br in none a (omega arith) (omega arith) b br)
      (λ x s.
      let r = s.at in
      let i = s.here in
      record {
        row = r;
        place = i.place;
        breaks = i.breaks;
        is = i.is;
        least =
            λ a b br.
            ⊎_elim
            (λ (e : r ≡ a). inr (e, i.least b (subst (λ n. Break n b) (sym e) br)))
            (⊎_elim (λ (lt : r < a). inl lt) (λ (lt : a < r). absurd (s.before a (omega arith) lt b br)))
            (cases_order r a);
      })

-- of a row whose breaks all stand among n places from p on, the first
row-first : (Break : ℕ → ℕ → Type 0) (report : ℕ → ℕ → Find) (a p n : ℕ) (f : ℕ → Option Find) → ((b : ℕ) → Break a b → (p ≤ b) × (b < p + n)) → ((b : ℕ) → p ≤ b → b < p + n → MatchOption (f b) (Break a b → ⊥) (λ x. Break a b × (x ≡ report a b))) → RowOf Break report ◌≤◌ a (first_from f p n)
row-first Break report a p n f within each =
    cases-weaker (first_from f p n)
    (first-cases (λ b. Break a b → ⊥) (λ b x. Break a b × (x ≡ report a b)) p f n each)
    (λ none b br. let r = within b br in none b r.0 r.1 br)
    (λ x s.
    record {
      place = s.at;
      breaks = s.here.0;
      is = s.here.1;
      least = λ b br. ⊎_elim (λ (less : b < s.at). absurd (s.before b (within b br).0 less br)) (λ (le : s.at ≤ b). le) (cases_lt b s.at);
    })

-- two pairs of which neither is after the other
same-pair : (a b a' b' : ℕ) → (a < a') ⊎ ((a ≡ a') × (b ≤ b')) → (a' < a) ⊎ ((a' ≡ a) × (b' ≤ b)) → (a ≡ a') × (b ≡ b')
same-pair a b a' b' (inl p) (inl q) = absurd (omega arith)
same-pair a b a' b' (inl p) (inr q) = absurd (omega arith)
same-pair a b a' b' (inr p) (inl q) = absurd (omega arith)
same-pair a b a' b' (inr p) (inr q) = (p.0, omega arith)

-- a find when a test is true
when-cases : {P : Type 0} (b : Bool) (x : Find) → Decides b P → MatchOption (then_some b x) (P → ⊥) (λ y. P × (y ≡ x))
when-cases true x d = (d.0 refl, refl)
when-cases false x d = λ p. false≢true (d.1 p)

module _ (hash : Hash) (code : Code) (t : Traced) where
  abbrev h : ℕ
  h = t.origin.height

  abbrev node_find : ℕ → ℕ → Find
  node_find a b = record { first = a; second = b; report = node_report hash code t a b }

  abbrev chain_find : ℕ → ℕ → Find
  chain_find k e = record { first = k; second = e; report = chain_report hash code t k e }

  abbrev unrevealed_find_of : ℕ → Find
  unrevealed_find_of k = record { first = k; second = code.digit t.stamp k; report = unrevealed_report hash code t k }

  -- at one place
  node-found : (a b : ℕ) → a < h + code.levels → b / 2 ^ (a - h) ≡ t.leaf / 2 ^ (h - a) → MatchOption (node_find_at hash code t a b) (NodeBreak hash code t a b → ⊥) (λ x. NodeBreak hash code t a b × (x ≡ node_find a b))
  node-found a b lt near =
      let our = node-up hash code t.origin a b lt in
      let their = their-parent hash code t a b lt near in
      when-cases _ (node_find a b)
      (Decides-like _ (λ p. record { inner = lt; near = near; equal = our ∙ p.0 ∙ sym their; differ = p.1 }) (λ n. (sym our ∙ n.equal ∙ their, n.differ))
      (Decides-and _ _ (bytes_eq-Decides _ _) (Decides-not _ (Decides-and _ _ (bytes_eq-Decides _ _) (bytes_eq-Decides _ _)))))

  chain-found : (k e : ℕ) → k < code.count → code.digit t.stamp k ≤ e → e < code.top → MatchOption (chain_find_at hash code t k e) (ChainBreak hash code t k e → ⊥) (λ x. ChainBreak hash code t k e × (x ≡ chain_find k e))
  chain-found k e lt shown under = search rules

  unrevealed_found : (k : ℕ) → k < code.count → MatchOption (unrevealed_find_at hash code t k) (UnrevealedChain code t k → ⊥) (λ x. UnrevealedChain code t k × (x ≡ unrevealed_find_of k))
  unrevealed_found k lt = when-cases _ (unrevealed_find_of k) (Decides-like _ (λ p. record { chain = lt; below = p }) (λ u. u.below) (Decides-ltb _ _))

  -- the places of a level that are searched are those above the leaf or within it
  pub near-from : (a b : ℕ) → first_place hash code t a ≤ b → b < first_place hash code t a + width hash code t a → b / 2 ^ (a - h) ≡ t.leaf / 2 ^ (h - a)
  near-from a b lo hi = search rules

  near-to : (a b : ℕ) → b / 2 ^ (a - h) ≡ t.leaf / 2 ^ (h - a) → (first_place hash code t a ≤ b) × (b < first_place hash code t a + width hash code t a)
  near-to a b near = search rules

  -- in one row, which is a level or a chain: the lowest position of a level, the greatest height of a chain
  in-level : (a : ℕ) → a < h + code.levels → RowOf (NodeBreak hash code t) node_find ◌≤◌ a (level_search hash code t a)
  in-level a lt = row-first (NodeBreak hash code t) node_find a _ _ (node_find_at hash code t a) (λ b n. near-to a b n.near) (λ b lo hi. node-found a b lt (near-from a b lo hi))

  in-chain : (k : ℕ) → k < code.count → RowOf (ChainBreak hash code t) chain_find (λ e e'. e' ≤ e) k (height_search hash code t k)
  in-chain k lt =
      let d = code.digit t.stamp k in
      cases-weaker (height_search hash code t k)
      (last-cases (λ e. ChainBreak hash code t k e → ⊥) (λ e x. ChainBreak hash code t k e × (x ≡ chain_find k e)) d (chain_find_at hash code t k) (code.top - d) (λ e lo hi. chain-found k e lt lo (omega arith)))
      (λ none e c. none e c.shown (omega arith) c)
      (λ x f.
      record {
        place = f.at;
        breaks = f.here.0;
        is = f.here.1;
        least = λ e c. ⊎_elim (λ (more : f.at < e). absurd (f.after e more (omega arith) c)) (λ (le : e ≤ f.at). le) (cases_lt f.at e);
      })

  -- in all rows
  abbrev NodesOf : Option Find → Type 0
  NodesOf = RowsOf (NodeBreak hash code t) node_find ◌≤◌

  abbrev ChainsOf : Option Find → Type 0
  ChainsOf = RowsOf (ChainBreak hash code t) chain_find (λ e e'. e' ≤ e)

  in-levels : NodesOf (node_search hash code t)
  in-levels = rows-found (NodeBreak hash code t) node_find ◌≤◌ (level_search hash code t) (h + code.levels) (λ a b n. n.inner) in-level

  in-chains : ChainsOf (chain_search hash code t)
  in-chains = rows-found (ChainBreak hash code t) chain_find (λ e e'. e' ≤ e) (height_search hash code t) code.count (λ k e c. c.chain) in-chain

  -- the lowest chain that is unrevealed: all are one row
  abbrev UnrevealedOf : Option Find → Type 0
  UnrevealedOf = RowOf (λ a. UnrevealedChain code t) (λ a. unrevealed_find_of) ◌≤◌ 0

  in-unrevealed : UnrevealedOf (unrevealed_search hash code t)
  in-unrevealed = row-first (λ a. UnrevealedChain code t) (λ a. unrevealed_find_of) 0 0 code.count (unrevealed_find_at hash code t) (λ k u. let lt = u.chain in (omega arith, omega arith)) (λ k lo hi. unrevealed_found k (omega arith))

  chosen-found : (o p q : Option Find) → NodesOf o → ChainsOf p → UnrevealedOf q → Found hash code t (chosen o p q)
  chosen-found (Some x) p q n c u =
      subst (λ y. Found hash code t (Node y)) (sym n.is) (node_break n.row n.place (record { breaks = n.breaks; least = n.least }))
  chosen-found None (Some x) q n c u =
      subst (λ y. Found hash code t (Chain y)) (sym c.is)
      (chain_break c.row c.place (record { no_node = n; breaks = c.breaks; least = c.least }))
  chosen-found None None (Some x) n c u =
      subst (λ y. Found hash code t (Unrevealed y)) (sym u.is)
      (unrevealed u.place (record { no_node = n; no_chain = c; shows = u.breaks; least = u.least }))
  chosen-found None None None n c u = ours (record { no_node = n; no_chain = c; no_unrevealed = u })

  -- what the search finds is what trace is to find
  pub found_first : Found hash code t (found hash code t)
  unfolding found
  found_first = chosen-found (node_search hash code t) (chain_search hash code t) (unrevealed_search hash code t) in-levels in-chains in-unrevealed

  -- two verdicts that are both to be found are one
  found-one : {v w : Verdict} → Found hash code t v → Found hash code t w → v ≡ w
  found-one (node_break a b f) (node_break a' b' f') =
      let e = same-pair a b a' b' (f.least a' b' f'.breaks) (f'.least a b f.breaks) in λ i. Node (node_find (e.0 i) (e.1 i))
  found-one (node_break a b f) (chain_break k e f') = absurd (f'.no_node a b f.breaks)
  found-one (node_break a b f) (unrevealed k f') = absurd (f'.no_node a b f.breaks)
  found-one (node_break a b f) (ours f') = absurd (f'.no_node a b f.breaks)
  found-one (chain_break k e f) (node_break a b f') = absurd (f.no_node a b f'.breaks)
  found-one (chain_break k e f) (chain_break k' e' f') =
      let p = same-pair k e' k' e (f.least k' e' f'.breaks) (f'.least k e f.breaks) in λ i. Chain (chain_find (p.0 i) (sym p.1 i))
  found-one (chain_break k e f) (unrevealed k' f') = absurd (f'.no_chain k e f.breaks)
  found-one (chain_break k e f) (ours f') = absurd (f'.no_chain k e f.breaks)
  found-one (unrevealed k f) (node_break a b f') = absurd (f.no_node a b f'.breaks)
  found-one (unrevealed k f) (chain_break k' e f') = absurd (f.no_chain k' e f'.breaks)
  found-one (unrevealed k f) (unrevealed k' f') =
      let p : k ≡ k' = omega (arith, f.least k' f'.shows, f'.least k f.shows) in λ i. Unrevealed (unrevealed_find_of (p i))
  found-one (unrevealed k f) (ours f') = absurd (f'.no_unrevealed k f.shows)
  found-one (ours f) (node_break a b f') = absurd (f.no_node a b f'.breaks)
  found-one (ours f) (chain_break k e f') = absurd (f.no_chain k e f'.breaks)
  found-one (ours f) (unrevealed k f') = absurd (f.no_unrevealed k f'.shows)
  found-one (ours f) (ours f') = refl

  -- so it is the search that finds it
  pub found-only : (v : Verdict) → Found hash code t v → v ≡ found hash code t
  found-only v f = found-one f found_first
