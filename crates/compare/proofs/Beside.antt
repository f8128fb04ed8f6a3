-- A node on the way up and its sibling, as the children of their parent.
use Rattle.std.proofs.Common.{◌≡◌, ℕ, ◌+◌, ◌-◌, ◌*◌, ◌/◌, ◌%◌, ◌^◌, ◌<◌, cond, eqb, List, sym, ap, ◌∙◌, arith}
use Rattle.std.proofs.lemmas.Bool.{cond_both, eqb-true, eqb-false}
use Rattle.std.specs.Option.{option_or}
use Rattle.tree.specs.Meaning.{Hash, Code}
use Rattle.growth.specs.Shown.{sibling_of}
use Rattle.growth.proofs.Paths.{sibling-is}
use Rattle.compare.specs.Search.{first_from, node_find_at, level_search}
use Rattle.compare.specs.Sides.{Traced}
use Rattle.compare.proofs.Firsts.{first-none, first_more}

-- of a level's nodes, the one at a position and its sibling are the left and the right child of one parent
module _ (node : ℕ → List ℕ) (position : ℕ) (at sibling : List ℕ) (here : at ≡ node position) (beside : sibling ≡ node (sibling_of position)) where
  pub left-child : cond (eqb (position % 2) 0) at sibling ≡ node (2 * (position / 2))
  left-child = cond_both (eqb (position % 2) 0) at sibling (λ s. s ≡ node (2 * (position / 2))) (λ e. here ∙ ap node (omega (arith, eqb-true _ _ e))) (λ e. beside ∙ ap node (omega (arith, sibling-is position, eqb-false _ _ e)))

  pub right_child : cond (eqb (position % 2) 0) sibling at ≡ node (2 * (position / 2) + 1)
  right_child = cond_both (eqb (position % 2) 0) sibling at (λ s. s ≡ node (2 * (position / 2) + 1)) (λ e. beside ∙ ap node (omega (arith, sibling-is position, eqb-true _ _ e))) (λ e. here ∙ ap node (omega (arith, eqb-false _ _ e)))

module _ (hash : Hash) (code : Code) (t : Traced) where
  -- above the leaf a level has one node on the way up
  pub level-one : (a : ℕ) → a < t.origin.height → node_find_at hash code t a (t.leaf / 2 ^ (t.origin.height - a)) ≡ level_search hash code t a
  level-one a lt =
      let b = t.leaf / 2 ^ (t.origin.height - a) in
      let one : 2 ^ (a - t.origin.height) ≡ 1 = ap (λ n. 2 ^ n) (let e : a - t.origin.height ≡ 0 = omega arith in e) in
      let place : b * 2 ^ (a - t.origin.height) ≡ b = ap (λ n. b * n) one ∙ omega arith in
      let last : b + 0 ≡ b = omega arith in
      sym
      ((λ i. first_from (node_find_at hash code t a) (place i) (one i))
      ∙ first_more (node_find_at hash code t a) b 0
      ∙ ap (λ r. option_or r (node_find_at hash code t a (b + 0))) (first-none (node_find_at hash code t a) b)
      ∙ ap (node_find_at hash code t a) last)
