-- Which refusal a call answers: the first in the call's list whose condition holds.
use Rattle.std.specs.Prelude.{◌≡◌, ℕ, ◌⊎◌, ◌↔◌, List, [], ◌∷◌, IsOk, Ok, Err, Result}
use Rattle.records.specs.Refusals.{refusal_number}
use Rattle.records.specs.declared.refusal.Refusal.{Refusal}

-- a refusal by its number, and the condition for it
pub record Cause : Type 1 where
  pub number : ℕ
  pub condition : Type 0

-- a refusal of this number, for this condition
abbrev pub cause : ℕ → Type 0 → Cause
cause number condition = record { number = number; condition = condition }

-- of a list of refusals in their order: the condition of n holds, and none before it
abbrev pub First : List Cause → ℕ → Type 0
First [] n = ⊥
First (c ∷ cs) n = ((c.number ≡ n) × c.condition) ⊎ ((c.condition → ⊥) × First cs n)

-- none of the conditions holds
abbrev pub NoCause : List Cause → Type 0
NoCause [] = Unit {0}
NoCause (c ∷ cs) = (c.condition → ⊥) × NoCause cs

-- the answer is the refusal with number n
abbrev pub RefusedWith : {A : Type 0} → ℕ → Result A Refusal → Type 0
RefusedWith n (Ok x) = ⊥
RefusedWith n (Err e) = refusal_number e ≡ n

-- the answer r is the refusal with number n exactly when the condition of n holds and none before
-- it in the list does, and is no refusal exactly when none holds
pub record Refuses {A : Type 0} (causes : List Cause) (r : Result A Refusal) : Type 0 where
  pub refused : (n : ℕ) → RefusedWith n r ↔ First causes n
  pub answered : IsOk r ↔ NoCause causes
