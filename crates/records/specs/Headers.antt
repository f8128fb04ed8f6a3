-- What every record begins with, and what follows it.
use Rattle.std.specs.Prelude.{ℕ, if◌then◌else◌, List, length, drop, Some, None, Option, nat_lt}
use Rattle.records.specs.Records.{body_start, named_length, named_kind}

-- the length field and the kind, and the bytes after them
pub record Header : Type 0 where
  pub length : ℕ
  pub kind : ℕ
  pub body : List ℕ

-- the header of a record; none where there are fewer bytes than stand before a body
abbrev pub split_header : List ℕ → Option Header
split_header bytes =
    if nat_lt (length bytes) body_start then None
    else
    Some
    (record { length = named_length bytes; kind = named_kind bytes; body = drop body_start bytes })
