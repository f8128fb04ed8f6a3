-- Beginning a key.
use Rattle.std.specs.Prelude.{◌≡◌, ◌↔◌, ℕ, IsOk, Some, None, Option, Ok, Err, Result}
use Rattle.records.specs.Causes.{NoCause, Refuses}
use Rattle.records.specs.declared.refusal.Refusal.{Refusal}
use Rattle.rules.specs.Conditions.{plan_causes}
use Rattle.rules.specs.Rules.{plan_rule}
use Rattle.signer.specs.Views.{height_of_plan}
use Rattle.schemes.specs.Names.{scheme_numbered, UnknownNumbers}
use Rattle.schemes.specs.declared.scheme.Scheme.{Scheme}
use Rattle.schemes.specs.declared.unknown.UnknownScheme as unknown
use Rattle.scripts.specs.declared.begin.NotBegun.{NotBegun}
use Rattle.scripts.specs.declared.begin.NotBegun.TheVariants.{Refused, UnknownScheme}
use Rattle.scripts.specs.declared.begin.Start.{Start}

-- a height, and a hash and a code
pub record Named : Type 0 where
  pub height : ℕ
  pub scheme : Scheme

-- what a start names
abbrev pub start_of : Start → Named
start_of s = record { height = height_of_plan s.plan; scheme = s.scheme }

-- a plan is asked for first, and then a hash and a code
abbrev pub planned : Result ℕ Refusal → Result Scheme unknown.UnknownScheme → Result Named NotBegun
planned (Err e) scheme = Err (Refused e)
planned (Ok height) (Err e) = Err UnknownScheme
planned (Ok height) (Ok scheme) = Ok (record { height = height; scheme = scheme })

-- begin: a height outside 1 to 8 is refused, and then a hash or code is not known
abbrev pub start_rule : ℕ → ℕ → ℕ → Result Named NotBegun
start_rule hash code height = planned (plan_rule height) (scheme_numbered hash code)

-- the answer of begin as far as refusals go: a scheme that is not known is none
abbrev pub refusal_in : Result Start NotBegun → Result (Option Start) Refusal
refusal_in (Ok start) = Ok (Some start)
refusal_in (Err (Refused e)) = Err e
refusal_in (Err UnknownScheme) = Ok None

-- begin refuses by the plan's list; where it refuses nothing, the scheme is not known or a key
-- begins
pub record StartRefuses (hash code height : ℕ) (r : Result Start NotBegun) : Type 0 where
  pub refused : Refuses (plan_causes height) (refusal_in r)
  pub unknown : (r ≡ Err UnknownScheme) ↔ (NoCause (plan_causes height) × UnknownNumbers hash code)
  pub begun : IsOk r ↔ (NoCause (plan_causes height) × (UnknownNumbers hash code → ⊥))
