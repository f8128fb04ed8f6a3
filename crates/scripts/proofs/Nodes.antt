-- The nodes that a maker holds, level by level.
use Rattle.std.proofs.Common.{◌≡◌, ℕ, ◌+◌, ◌<◌, List, [], ◌++◌, length, set, take, sym, ap, ◌∙◌, add-one, Option, refl}
use Rattle.std.proofs.lemmas.List.{flat_map_more, take_more_set}
use Rattle.std.specs.List.{flat_map}
use Rattle.rules.specs.Rules.{held_rule}
use Rattle.rules.specs.States.{Making}
use Rattle.scripts.specs.Replies.{held_in, held_one, held_below}
use Rattle.scripts.specs.declared.answer.Node.{Node}

pub nodes-none : (m : Making) (xs : List (Option Node)) → flat_map held_in (take 0 xs) ≡ held_below m 0
unfolding held_below
nodes-none m xs = refl

held_more : (m : Making) (n : ℕ) → held_below m n ++ held_one n (held_rule m n) ≡ held_below m (n + 1)
unfolding held_below
held_more m n = sym (ap (held_below m) (add-one n))

pub nodes-more : (m : Making) (n : ℕ) (xs : List (Option Node)) (x : Option Node) → n < length xs → flat_map held_in (take n xs) ≡ held_below m n → held_in x ≡ held_one n (held_rule m n) → flat_map held_in (take (n + 1) (set xs n x)) ≡ held_below m (n + 1)
nodes-more m n xs x lt inv is =
    ap (flat_map held_in) (take_more_set xs n x lt)
    ∙ (sym (flat_map_more held_in [] (take n xs) x) ∙ ((λ i. inv i ++ is i) ∙ held_more m n))
