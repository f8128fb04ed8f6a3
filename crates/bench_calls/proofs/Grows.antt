-- Calls of grow, counted.
use Rattle.std.proofs.Common.{◌≡◌, ℕ, ◌+◌, sym, refl, ap, add-one}
use Rattle.rules.specs.Rules.{grow_state}
use Rattle.rules.specs.States.{Making}
use Rattle.tree.specs.Meaning.{Hash, Code}
use Rattle.bench_calls.specs.Lives.{grows}

pub grows_none : (hash : Hash) (code : Code) (m : Making) → m ≡ grows hash code 0 m
unfolding grows
grows_none hash code m = refl

pub grows-more : (hash : Hash) (code : Code) (n : ℕ) (m : Making) → grow_state hash code (grows hash code n m) ≡ grows hash code (n + 1) m
unfolding grows
grows-more hash code n m = ap (λ k. grows hash code k m) (sym (add-one n))
