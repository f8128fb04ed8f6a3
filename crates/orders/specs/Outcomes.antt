-- Orders one after the other: a stamp and a release record each.
use Rattle.std.specs.Prelude.{ℕ, zero, suc, ◌<◌, ◌≤◌, Bool, if◌then◌else◌, ◌&&◌, List, [], ◌∷◌}
use Rattle.std.specs.Prelude.{length, take, drop, Err, Result, ◌==◌, nat_le, nat_lt}
use Rattle.records.specs.Records.{named_length, shortest_record}
use Rattle.records.specs.declared.refusal.Refusal.{Refusal}
use Rattle.records.specs.declared.refusal.Refusal.TheVariants.{Length}

-- enough bytes are left for a record, the length field names enough, and all the bytes that it
-- names are there
abbrev pub whole : List ℕ → Bool
whole bytes =
    nat_le shortest_record (length bytes)
    && (nat_le shortest_record (named_length bytes) && nat_le (named_length bytes) (length bytes))

-- how long the first record is; where it is not whole, the rest is one record
abbrev pub record_length : List ℕ → ℕ
record_length bytes = if whole bytes then named_length bytes else length bytes

-- the first record in `bytes`
abbrev pub first_record : List ℕ → List ℕ
first_record bytes = take (record_length bytes) bytes

-- what follows it
abbrev pub after_record : List ℕ → List ℕ
after_record bytes = drop (record_length bytes) bytes

-- `Outcomes verify bytes answers`: the orders in `bytes` have these answers, where verify answers a
-- stamp and a record
pub data Outcomes (verify : List ℕ → List ℕ → Result ℕ Refusal) :
    List ℕ → List (Result ℕ Refusal) → Type 0 where
  -- no bytes, no order
  none : Outcomes verify [] []
  -- a stamp that is cut short is refused, and the last
  short : {bytes : List ℕ} → 0 < length bytes → length bytes < 16 →
      Outcomes verify bytes (Err Length ∷ [])
  -- a stamp, its record, and the orders after it
  order : {bytes : List ℕ} {answers : List (Result ℕ Refusal)} → 16 ≤ length bytes →
      Outcomes verify (after_record (drop 16 bytes)) answers →
      Outcomes verify bytes (verify (take 16 bytes) (first_record (drop 16 bytes)) ∷ answers)

-- the same as a list worked out, of `most` orders at most
unfoldable pub first_answers : (List ℕ → List ℕ → Result ℕ Refusal) → ℕ → List ℕ →
    List (Result ℕ Refusal)
first_answers verify zero bytes = []
first_answers verify (suc most) bytes =
    if length bytes == 0 then [] else
    if nat_lt (length bytes) 16 then Err Length ∷ [] else
    verify (take 16 bytes) (first_record (drop 16 bytes))
    ∷ first_answers verify most (after_record (drop 16 bytes))

-- the list that Outcomes relates to the bytes: an order has a byte at least
abbrev pub answers_to : (List ℕ → List ℕ → Result ℕ Refusal) → List ℕ → List (Result ℕ Refusal)
answers_to verify bytes = first_answers verify (length bytes) bytes
