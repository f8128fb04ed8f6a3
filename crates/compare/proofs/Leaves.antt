-- The nodes within the leaf, over rows that hold its one-time strings on both sides.
use Rattle.std.proofs.Common.{◌≡◌, ℕ, ◌+◌, ◌-◌, ◌*◌, ◌/◌, ◌^◌, ◌<◌, ◌≤◌, List, Option, sym, ap, ◌∙◌, mul_assoc, arith, pow_mono}
use lib.Arith.{digits_lt}
use Rattle.std.proofs.lemmas.Nat.{pow-add}
use Rattle.std.proofs.lemmas.Grind.{pow_more}
use Rattle.std.specs.Option.{option_or}
use Rattle.tree.specs.Meaning.{Hash, Code}
use Rattle.tree.specs.Nodes.{node, parent_at}
use Rattle.tree.specs.Rows.{most_places}
use Rattle.tree.proofs.Laws.{node-moved}
use Rattle.growth.specs.Grown.{leaf_string, parameters}
use Rattle.growth.proofs.Paths.{shr-none}
use Rattle.compare.specs.Search.{first_from, child_find, depth_search, node_find_at, level_search, node_search}
use Rattle.compare.specs.Sides.{Traced, our_node, their_node, their_one_time}
use Rattle.compare.specs.declared.verdict.Find.{Find}
use Rattle.compare.proofs.Firsts.{first-moved, first-split}
use Rattle.compare.proofs.Nodes.{our-inner, their-inner}

-- a node of a leaf over strings that agree
same-node : (parent : ℕ → List ℕ → List ℕ → List ℕ) (f g : ℕ → List ℕ) (a c d q : ℕ) → ((k : ℕ) → k < 2 ^ (c + d) → f k ≡ g k) → q < 2 ^ c → node parent f a d q ≡ node parent g a d q
same-node parent f g a c d q same lt =
    node-moved parent f g a d q q (λ k below. same (q * 2 ^ d + k) (omega (arith, digits_lt {m = 2 ^ c} {c = 2 ^ d} lt below, pow-add 2 c d)))

module _ (hash : Hash) (code : Code) (t : Traced) where
  abbrev h : ℕ
  h = t.origin.height

  abbrev l : ℕ
  l = code.levels

  abbrev parent : ℕ → List ℕ → List ℕ → List ℕ
  parent = parent_at hash (parameters t.origin)

  -- of one side, whose strings a row holds: its node c levels below the leaf's, at level a and position n
  node-is : l ≤ 8 → (side : ℕ → ℕ → List ℕ) (strings row : ℕ → List ℕ) → ((c q : ℕ) → c ≤ l → q < 2 ^ c → side (h + c) (t.leaf * 2 ^ c + q) ≡ node parent strings (h + c) (l - c) q) → ((k : ℕ) → k < most_places → row k ≡ strings k) → (c q a n : ℕ) → c ≤ l → q < 2 ^ c → h + c ≡ a → t.leaf * 2 ^ c + q ≡ n → node parent row a (l - c) q ≡ side a n
  node-is few side strings row inner holds c q a n le lt level place =
      let all : c + (l - c) ≡ l = omega arith in
      let most = pow_mono {i = l} {j = 8} few in
      ap (λ b. node parent row b (l - c) q) (sym level)
      ∙ same-node parent row strings (h + c) c (l - c) q (λ k below. holds k (omega (arith, ap (λ m. 2 ^ m) all))) lt
      ∙ sym (inner c q le lt)
      ∙ (λ i. side (level i) (place i))

  module _ (ours theirs : ℕ → List ℕ) (few : l ≤ 8) (our-row : (k : ℕ) → k < most_places → ours k ≡ leaf_string hash code t.origin t.leaf k) (their-row : (k : ℕ) → k < most_places → theirs k ≡ their_one_time hash code t k) where
    abbrev depth : ℕ → Option Find
    depth = depth_search hash (parameters t.origin) t.leaf l ours theirs

    -- the leaf's own node
    pub leaf-nodes : (node parent ours h l 0 ≡ our_node hash code t h t.leaf) × (node parent theirs h l 0 ≡ their_node hash code t h t.leaf)
    leaf-nodes =
        let all : l ≡ l - 0 = omega arith in (
          ap (λ d. node parent ours h d 0) all ∙ node-is few (our_node hash code t) _ ours (our-inner hash code t) our-row 0 0 h t.leaf (omega arith) (omega arith) (omega arith) (omega arith),
          ap (λ d. node parent theirs h d 0) all ∙ node-is few (their_node hash code t) _ theirs (their-inner hash code t) their-row 0 0 h t.leaf (omega arith) (omega arith) (omega arith) (omega arith),
        )

    -- c levels below the leaf's node
    depth_is : (c : ℕ) → c < l → depth c ≡ level_search hash code t (h + c)
    depth_is c lt =
        let place : t.leaf / 2 ^ (h - (h + c)) * 2 ^ (h + c - h) ≡ t.leaf * 2 ^ c =
        λ i. shr-none t.leaf (h - (h + c)) (omega arith) i * 2 ^ (let e : h + c - h ≡ c = omega arith in e i) in
        let wide : 2 ^ (h + c - h) ≡ 2 ^ c = ap (λ n. 2 ^ n) (omega arith) in
        let level : h + (c + 1) ≡ h + c + 1 = omega arith in
        let twice = pow_more 2 c in
        let our = λ (q n : ℕ) (below : q < 2 ^ (c + 1)) (is : t.leaf * 2 ^ (c + 1) + q ≡ n). node-is few (our_node hash code t) _ ours (our-inner hash code t) our-row (c + 1) q (h + c + 1) n (omega arith) below level is in
        let their = λ (q n : ℕ) (below : q < 2 ^ (c + 1)) (is : t.leaf * 2 ^ (c + 1) + q ≡ n). node-is few (their_node hash code t) _ theirs (their-inner hash code t) their-row (c + 1) q (h + c + 1) n (omega arith) below level is in
        first-moved _ (node_find_at hash code t (h + c)) 0 (t.leaf * 2 ^ c) (2 ^ c)
        (λ p below.
        let b = t.leaf * 2 ^ c + p in
        let zero : 0 + p ≡ p = omega arith in
        let left : t.leaf * 2 ^ (c + 1) + 2 * p ≡ 2 * b = omega (arith, ap (λ n. t.leaf * n) twice, mul_assoc t.leaf (2 ^ c) 2) in
        let right : t.leaf * 2 ^ (c + 1) + (2 * p + 1) ≡ 2 * b + 1 = omega arith in
        ap
        (λ n.
        child_find hash (parameters t.origin) (h + c) (t.leaf * 2 ^ c + n)
        (node parent ours (h + c + 1) (l - (c + 1)) (2 * n)) (node parent ours (h + c + 1) (l - (c + 1)) (2 * n + 1))
        (node parent theirs (h + c + 1) (l - (c + 1)) (2 * n)) (node parent theirs (h + c + 1) (l - (c + 1)) (2 * n + 1)))
        zero
        ∙ (λ i.
        child_find hash (parameters t.origin) (h + c) b
        (our (2 * p) (2 * b) (omega arith) left i) (our (2 * p + 1) (2 * b + 1) (omega arith) right i)
        (their (2 * p) (2 * b) (omega arith) left i) (their (2 * p + 1) (2 * b + 1) (omega arith) right i)))
        ∙ (λ i. first_from (node_find_at hash code t (h + c)) (sym place i) (sym wide i))

    -- the nodes above the leaf and within it
    pub nodes-all : option_or (first_from (level_search hash code t) 0 h) (first_from depth 0 l) ≡ node_search hash code t
    nodes-all =
        ap (option_or (first_from (level_search hash code t) 0 h)) (first-moved depth (level_search hash code t) 0 h l (λ c lt. ap depth (let e : 0 + c ≡ c = omega arith in e) ∙ depth_is c lt))
        ∙ ap (λ a. option_or (first_from (level_search hash code t) 0 h) (first_from (level_search hash code t) a l)) (let e : h ≡ 0 + h = omega arith in e)
        ∙ sym (first-split (level_search hash code t) 0 h l)
