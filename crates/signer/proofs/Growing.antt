-- The leaves of a key that are lacking.
use Rattle.std.proofs.Common.{◌≡◌, ℕ, suc, ◌+◌, ◌-◌, ◌<◌, List, sym, refl, ap, ◌∙◌, arith}
use Rattle.growth.specs.Grown.{with_leaf}
use Rattle.growth.specs.declared.origin.Origin.{Origin}
use Rattle.tree.specs.Meaning.{Hash, Code}
use Rattle.rules.specs.Rules.{leaves_more}
use Rattle.rules.specs.States.{Making}

module _ (hash : Hash) (code : Code) where
  pub leaves_none : (m : Making) → leaves_more hash code 0 m ≡ m
  unfolding leaves_more
  leaves_none m = refl

  pub leaves-turn : (o : Origin) (all g : ℕ) (nodes after : List ℕ) → g < all → after ≡ with_leaf hash code o g nodes → leaves_more hash code (all - (g + 1)) (record { origin = o; grown = g + 1; nodes = after }) ≡ leaves_more hash code (all - g) (record { origin = o; grown = g; nodes = nodes })
  unfolding leaves_more
  leaves-turn o all g nodes after lt is =
      let one : suc (all - (g + 1)) ≡ all - g = omega arith in
      ap (λ row. leaves_more hash code (all - (g + 1)) (record { origin = o; grown = g + 1; nodes = row })) is
      ∙ ap (λ n. leaves_more hash code n (record { origin = o; grown = g; nodes = nodes })) one

  pub leaves_all : (o : Origin) (all g g' : ℕ) (nodes nodes' : List ℕ) → g ≡ all → leaves_more hash code (all - g) (record { origin = o; grown = g; nodes = nodes }) ≡ leaves_more hash code (all - g') (record { origin = o; grown = g'; nodes = nodes' }) → nodes ≡ (leaves_more hash code (all - g') (record { origin = o; grown = g'; nodes = nodes' })).nodes
  leaves_all o all g g' nodes nodes' full same =
      let none : 0 ≡ all - g = omega arith in
      ap (λ m. m.nodes)
      (sym (leaves_none (record { origin = o; grown = g; nodes = nodes }))
      ∙ ap (λ n. leaves_more hash code n (record { origin = o; grown = g; nodes = nodes })) none
      ∙ same)
