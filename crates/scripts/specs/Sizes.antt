-- How long lines, records and outputs may be, and how large the numbers of a line.
use Rattle.std.specs.Prelude.{ℕ}

-- the bytes of a line, at most
abbrev pub longest_line : ℕ
longest_line = 65536

-- the bytes of a record in a line, at most: half as many, since each takes two digits
abbrev pub longest_record : ℕ
longest_record = 32768

-- the bytes of an output, at most
abbrev pub most_room : ℕ
most_room = 65536

-- the largest number of one byte
abbrev pub largest_byte : ℕ
largest_byte = 255

-- the largest number that a call takes for a leaf: it has two bytes
abbrev pub largest_leaf : ℕ
largest_leaf = 65535
