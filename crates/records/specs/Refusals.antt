-- The number of each refusal, as programs print it.
use Rattle.std.specs.Prelude.{ℕ}
use Rattle.records.specs.declared.refusal.Refusal.{Refusal}
use Rattle.records.specs.declared.refusal.Refusal.TheVariants.{Plan, Grown, Spent, Output, Skip}
use Rattle.records.specs.declared.refusal.Refusal.TheVariants.{Length, Kind, Parameters, Height}
use Rattle.records.specs.declared.refusal.Refusal.TheVariants.{Layout, Leaf, Root}

-- the number of a refusal
abbrev pub refusal_number : Refusal → ℕ
refusal_number Plan = 1
refusal_number Grown = 2
refusal_number Spent = 3
refusal_number Output = 4
refusal_number Skip = 5
refusal_number Length = 6
refusal_number Kind = 7
refusal_number Parameters = 8
refusal_number Height = 9
refusal_number Layout = 10
refusal_number Leaf = 11
refusal_number Root = 12
