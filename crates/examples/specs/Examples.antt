-- Worked examples: what is computed, and what it must be.
use Rattle.std.specs.Prelude.{◌≡◌, ℕ, List, [], ◌∷◌, ◌++◌, map, take, replicate, Ok, Err, Result}
use Rattle.std.specs.List.{range_with_len, flat_map, AllByRecursion}
use Rattle.strings.specs.Strings.{string_at, put_string}
use Rattle.codes.specs.Codes.{checksum, ending}
use Rattle.tree.specs.Known.{practice, lamport_diffie_code, winternitz2_code, winternitz4_code}
use Rattle.tree.specs.Meaning.{Code}
use Rattle.tree.specs.Nodes.{join}
use Rattle.growth.specs.Grown.{masks_size, secret}
use Rattle.records.specs.Records.{row_start, key_length, release_length, row_of}
use Rattle.records.specs.Refusals.{refusal_number}
use Rattle.records.specs.declared.refusal.Refusal.{Refusal}
use Rattle.compare.specs.Found.{report_size}
use Rattle.rules.specs.Rules.{release_size, sign_answer, sign_state, sign_output, skip_answer}
use Rattle.rules.specs.Rules.{skip_state, trace_answer, trace_report}
use Rattle.rules.specs.States.{Signing}
use Rattle.examples.specs.Setting.{string, origin, fresh}

-- numbers, or a refusal by its number
pub data Outcome : Type 0 where
  gives : List ℕ → Outcome
  refused : ℕ → Outcome

-- an example: an outcome that is computed by the definitions, and what it must be
pub record Example : Type 0 where
  pub computed : Outcome
  pub expected : Outcome

-- an example holds: the two outcomes are the same
abbrev pub IsRight : Example → Type 0
IsRight e = e.computed ≡ e.expected

-- the example of two outcomes
abbrev pub example : Outcome → Outcome → Example
example computed expected = record { computed = computed; expected = expected }

-- the strings with these bytes 0
abbrev pub strings : List ℕ → Outcome
strings bs = gives (flat_map string bs)

-- what a call answers: a number
abbrev pub answered : Result ℕ Refusal → Outcome
answered (Ok n) = gives (n ∷ [])
answered (Err e) = refused (refusal_number e)

-- two numbers
abbrev pub answered_two : Result (ℕ × ℕ) Refusal → Outcome
answered_two (Ok n) = gives (n.0 ∷ n.1 ∷ [])
answered_two (Err e) = refused (refusal_number e)

-- three numbers
abbrev pub answered_three : Result (ℕ × ℕ × ℕ) Refusal → Outcome
answered_three (Ok n) = gives (n.0 ∷ n.1 ∷ n.2 ∷ [])
answered_three (Err e) = refused (refusal_number e)

-- a step of the practice hash, under a hash key of zeros
abbrev pub stepped : ℕ → Outcome
stepped b = gives (practice.step (string 0) (string b))

-- a pair of it, under the same key
abbrev pub paired : ℕ → ℕ → Outcome
paired l r = gives (practice.pair (string 0) (string l) (string r))

-- masks that are zero but for these two at level 3
abbrev pub masks : ℕ → ℕ → List ℕ
masks l r = put_string (put_string (replicate masks_size 0) 6 (string l)) 7 (string r)

-- a collision of step and one of pair, a parent under masks, and a secret of a seed
abbrev pub hashing : List Example
hashing =
    example (stepped 6) (strings (3 ∷ []))
    ∷ example (stepped 7) (strings (3 ∷ []))
    ∷ example (paired 4 11) (strings (15 ∷ []))
    ∷ example (paired 5 10) (strings (15 ∷ []))
    ∷ example (gives (join (practice.pair (string 0)) (masks 1 2) 3 (string 5) (string 9)))
    (strings (15 ∷ []))
    ∷ example (gives (secret practice (origin 2) 2 3)) (strings (5 ∷ []))
    ∷ []

-- the digits of a stamp at n places from k on
abbrev pub digits_from : Code → ℕ → ℕ → List ℕ → Outcome
digits_from code k n stamp = gives (map (code.digit stamp) (range_with_len k n))

-- the checksum's digits under both Winternitz codes
abbrev pub coding : List Example
coding =
    example (digits_from winternitz2_code 64 5 (string 0)) (gives (1 ∷ 0 ∷ 0 ∷ 0 ∷ 0 ∷ []))
    ∷ example (digits_from winternitz2_code 64 5 (replicate 16 0xFF))
    (gives (0 ∷ 1 ∷ 0 ∷ 0 ∷ 0 ∷ []))
    ∷ example (digits_from winternitz2_code 64 5 (string 0x40)) (gives (0 ∷ 3 ∷ 3 ∷ 3 ∷ 3 ∷ []))
    ∷ example (digits_from winternitz4_code 32 3 (string 0)) (gives (2 ∷ 0 ∷ 0 ∷ []))
    ∷ example (digits_from winternitz4_code 32 3 (replicate 16 0xFF)) (gives (0 ∷ 2 ∷ 0 ∷ []))
    ∷ example (gives (checksum 2 (1 ∷ 2 ∷ 0 ∷ 3 ∷ 2 ∷ []) ∷ [])) (gives (12 ∷ []))
    ∷ example (gives (ending 2 3 12)) (gives (0 ∷ 3 ∷ 0 ∷ []))
    ∷ []

-- how long a key record and a release record are, at height h
abbrev pub lengths : Code → ℕ → Outcome
lengths code h = gives (key_length h code.levels ∷ release_length code.count h ∷ [])

-- the longest records that there are, and the shortest
abbrev pub measuring : List Example
measuring =
    example (lengths lamport_diffie_code 8) (gives (554 ∷ 4232 ∷ []))
    ∷ example (lengths winternitz4_code 1) (gives (266 ∷ 584 ∷ []))
    ∷ []

-- a new signer of height 1
abbrev pub new : Signing
new = fresh lamport_diffie_code 1

-- that signer after a skip to 2
abbrev pub once : Signing
once = skip_state new 2

-- and after another
abbrev pub twice : Signing
twice = skip_state once 2

-- an output as long as one release record
abbrev pub output : List ℕ
output = replicate (release_size lamport_diffie_code new) 0

-- a skip to the end and what is refused there
abbrev pub skipping : List Example
skipping =
    example (answered (skip_answer new 2)) (gives (2 ∷ []))
    ∷ example (answered (skip_answer once 2)) (gives (2 ∷ []))
    ∷ example (answered_two (sign_answer lamport_diffie_code twice output)) (refused 3)
    ∷ example (answered (skip_answer twice 1)) (refused 5)
    ∷ example (answered (skip_answer twice 3)) (refused 5)
    ∷ []

-- what the new signer writes for a stamp
abbrev pub written : List ℕ → List ℕ
written stamp = sign_output practice lamport_diffie_code new stamp output

-- that signer once it has signed the stamp of zeros
abbrev pub signed : Signing
signed = sign_state lamport_diffie_code new (string 0) output

-- a record with another string k of its row
abbrev pub changed : ℕ → ℕ → List ℕ → List ℕ
changed k b bytes = take row_start bytes ++ put_string (row_of bytes) k (string b)

-- string k of the record of the stamp of zeros
abbrev pub shown : ℕ → Outcome
shown k = gives (string_at (row_of (written (string 0))) k)

-- that record with one string changed
abbrev pub one_changed : List ℕ
one_changed = changed 6 7 (written (string 0))

-- and with two
abbrev pub two_changed : List ℕ
two_changed = changed 3 0 (changed 1 1 (written (string 0)))

-- what trace answers
abbrev pub verdict : List ℕ → List ℕ → Outcome
verdict stamp bytes = answered_three (trace_answer practice lamport_diffie_code signed stamp bytes)

-- the first n strings of its report
abbrev pub reported : ℕ → List ℕ → List ℕ → Outcome
reported n stamp bytes =
    let before = replicate report_size 0xFF in
    let report = trace_report practice lamport_diffie_code signed stamp bytes before in
    gives (flat_map (string_at report) (range_with_len 0 n))

-- strings that a record shows, each verdict, and two reports
abbrev pub tracing : List Example
tracing =
    example (shown 1) (strings (0 ∷ []))
    ∷ example (shown 3) (strings (1 ∷ []))
    ∷ example (shown 6) (strings (6 ∷ []))
    ∷ example (verdict (string 0) (written (string 0))) (gives (0 ∷ 0 ∷ 0 ∷ []))
    ∷ example (verdict (string 0) one_changed) (gives (2 ∷ 6 ∷ 0 ∷ []))
    ∷ example (reported 2 (string 0) one_changed) (strings (6 ∷ 7 ∷ []))
    ∷ example (verdict (string 0) two_changed) (gives (1 ∷ 7 ∷ 0 ∷ []))
    ∷ example (reported 4 (string 0) two_changed) (strings (0 ∷ 2 ∷ 1 ∷ 1 ∷ []))
    ∷ example (verdict (string 0x80) (written (string 0x80))) (gives (3 ∷ 1 ∷ 0 ∷ []))
    ∷ []

-- all examples
unfoldable pub examples : List Example
examples = hashing ++ (coding ++ (measuring ++ (skipping ++ tracing)))

-- they hold
abbrev pub Worked : Type 0
Worked = AllByRecursion IsRight examples
