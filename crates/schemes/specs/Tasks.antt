-- What work leaves of what it writes to.
use Rattle.std.specs.Prelude.{◌≡◌}
use Rattle.std.specs.Borrow.{MutBor}

-- the same reference, and what it holds then
abbrev pub Wrote : {A : Type 0} → MutBor A → A → MutBor A → Type 0
Wrote before x after = (after.now ≡ x) × (after.ghost_name ≡ before.ghost_name)
