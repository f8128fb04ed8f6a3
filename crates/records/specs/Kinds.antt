-- The number of each kind of record, as its bytes hold it.
use Rattle.std.specs.Prelude.{ℕ}
use Rattle.records.specs.declared.kind.RecordKind.{RecordKind}
use Rattle.records.specs.declared.kind.RecordKind.TheVariants.{Key, Release}

-- the number of a kind
abbrev pub kind_number : RecordKind → ℕ
kind_number Key = 1
kind_number Release = 2
