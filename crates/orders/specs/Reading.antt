-- Reads of a source, one after the other.
use Rattle.std.specs.Prelude.{◌≡◌, ◌≢◌, ℕ, ◌+◌, ◌-◌, ◌^◌, ◌<◌, ◌⊎◌, List, [], ◌++◌, length}
use Rattle.std.specs.Prelude.{take, IfErr, Ok, Err, Result}
use Rattle.std.specs.IoError.{error_kind}
use Rattle.std.specs.declared.io.Error.{Error}
use Rattle.std.specs.declared.io.ErrorKind.TheVariants as kind

-- what a read does: the source before it, its answer, the room and the source after it
abbrev pub Giving : Type 0 → Type 1
Giving S = S → Result ℕ Error → List ℕ → S → Type 0

-- how often a read is tried
abbrev pub most_tries : ℕ
most_tries = 2 ^ 64 - 1

-- n reads in a row were interrupted
pub data Interrupted {S : Type 0} (gives : Giving S) (before : S) : ℕ → S → Type 0 where
  untried : Interrupted gives before 0 before
  again : {n : ℕ} {between after : S} {e : Error} {room : List ℕ} →
      Interrupted gives before n between → gives between (Err e) room after →
      error_kind e ≡ kind.Interrupted → Interrupted gives before (n + 1) after

-- a read that is tried till it is not interrupted: its answer, the room and the source after it
pub data Tried {S : Type 0} (gives : Giving S) (before : S) :
    Result ℕ Error → List ℕ → S → Type 0 where
  -- the first answer that is no interruption
  answered : {n : ℕ} {between after : S} {r : Result ℕ Error} {room : List ℕ} →
      Interrupted gives before n between → n < most_tries → gives between r room after →
      IfErr r (λ e. error_kind e ≢ kind.Interrupted) → Tried gives before r room after
  -- every try was interrupted
  given_up : {after : S} {e : Error} {room : List ℕ} →
      Interrupted gives before most_tries after → error_kind e ≡ kind.TimedOut →
      Tried gives before (Err e) room after

-- reads one after the other gave these bytes, each some of them
pub data Gave {S : Type 0} (gives : Giving S) (before : S) : List ℕ → S → Type 0 where
  nothing : Gave gives before [] before
  more : {n : ℕ} {bytes room : List ℕ} {between after : S} →
      Gave gives before bytes between → Tried gives between (Ok n) room after → 0 < n →
      Gave gives before (bytes ++ take n room) after

-- reads gave these bytes, and the next, into a room that is not empty, answered this
pub record Stopped {S : Type 0} (gives : Giving S) (before : S) (bytes : List ℕ)
    (r : Result ℕ Error) (after : S) : Type 0 where
  pub between : S
  pub room : List ℕ
  pub given : Gave gives before bytes between
  pub roomy : 0 < length room
  pub last : Tried gives between r room after

-- reads gave `most` bytes, or fewer, and then the next found none
abbrev pub ReadUpTo : {S : Type 0} → Giving S → ℕ → S → List ℕ → S → Type 0
ReadUpTo gives most before bytes after =
    ((length bytes ≡ most) × Gave gives before bytes after)
    ⊎ ((length bytes < most) × Stopped gives before bytes (Ok 0) after)
