-- What the calls of a maker and a signer answer and leave, on all inputs.
use Rattle.std.specs.Prelude.{◌≡◌, ℕ, zero, suc, ◌+◌, ◌-◌, ◌*◌, ◌^◌, Bool, if◌then◌else◌, ◌||◌}
use Rattle.std.specs.Prelude.{List, ◌++◌, length, take, drop, replicate, Some, None, Ok, Err}
use Rattle.std.specs.Prelude.{Option, Result, ◌==◌, nat_lt, slice_index_or, slice_set}
use Rattle.std.specs.Bool.{then_some}
use Rattle.strings.specs.Strings.{string_at}
use Rattle.tree.specs.Meaning.{Hash, Code}
use Rattle.tree.specs.Nodes.{tallest}
use Rattle.growth.specs.Grown.{nodes_size, node_at, filled, is_held, with_leaf}
use Rattle.growth.specs.Shown.{shown_row}
use Rattle.growth.specs.declared.origin.Origin.{Origin}
use Rattle.records.specs.Keys.{Key}
use Rattle.records.specs.Records.{key_length, key_bytes, release_length, release_bytes, row_of}
use Rattle.records.specs.Rules.{open_rule, after}
use Rattle.records.specs.declared.refusal.Refusal.{Refusal}
use Rattle.records.specs.declared.refusal.Refusal.TheVariants.{Plan, Grown, Spent, Output, Skip}
use Rattle.verifier.specs.Rules.{verify_rule}
use Rattle.compare.specs.Found.{Found, verdict_numbers, verdict_report}
use Rattle.compare.specs.Search.{found}
use Rattle.compare.specs.Sides.{Traced}
use Rattle.compare.specs.declared.verdict.Verdict.{Verdict}
use Rattle.rules.specs.States.{Making, Signing, ledger_rows}

-- a plan: the height, from 1 to 8
abbrev pub plan_rule : ℕ → Result ℕ Refusal
plan_rule height = if nat_lt height 1 || nat_lt tallest height then Err Plan else Ok height

-- the maker that begin gives: no leaf is in, and nothing is held
abbrev pub begin_state : Origin → Making
begin_state origin = record { origin = origin; grown = 0; nodes = replicate nodes_size 0 }

-- the maker with one leaf more, its next
abbrev pub leaf_more : Hash → Code → Making → Making
leaf_more hash code m =
    let nodes = with_leaf hash code m.origin m.grown m.nodes in
    record { origin = m.origin; grown = m.grown + 1; nodes = nodes }

-- grow refuses where all leaves are in; else it answers how many are in with the new one
abbrev pub grow_answer : Making → Result ℕ Refusal
grow_answer m = if m.grown == 2 ^ m.origin.height then Err Grown else Ok (m.grown + 1)

-- where grow refuses nothing changes; else the maker has one leaf more
abbrev pub grow_state : Hash → Code → Making → Making
grow_state hash code m = if m.grown == 2 ^ m.origin.height then m else leaf_more hash code m

-- held: the position of the node that is held at level a, and the node; none where no node of that
-- level is held
abbrev pub held_rule : Making → ℕ → Option (ℕ × List ℕ)
held_rule m a =
    then_some (is_held m.origin.height m.grown a)
    (filled m.grown (m.origin.height - a) - 1, string_at m.nodes a)

-- the maker with n leaves more
unfoldable pub leaves_more : Hash → Code → ℕ → Making → Making
leaves_more hash code zero m = m
leaves_more hash code (suc n) m = leaves_more hash code n (leaf_more hash code m)

-- the signer that finish gives: the leaves that lacked are grown, the node at level 0 is the root,
-- no leaf is spent, and the ledger is empty
abbrev pub finish_state : Hash → Code → Making → Signing
finish_state hash code m =
    let all = leaves_more hash code (2 ^ m.origin.height - m.grown) m in
    record {
      origin = m.origin;
      root = string_at all.nodes 0;
      next = 0;
      rows = replicate ledger_rows None;
    }

-- how long the key record of a signer is
abbrev pub key_size : Code → Signing → ℕ
key_size code s = key_length s.origin.height code.levels

-- the key record of a signer: of the masks it has those of the h + levels levels that the tree has
unfoldable pub key_record : Hash → Code → Signing → List ℕ
key_record hash code s =
    let o = s.origin in
    let masks = take (32 * (o.height + code.levels)) o.masks in
    key_bytes hash.number code.number o.height o.hash_key masks s.root

-- the signer's own key, as open reads its key record
abbrev pub own_key : Hash → Code → Signing → Key
own_key hash code s = record { bytes = key_record hash code s; height = s.origin.height }

-- key refuses an output that is shorter than the record; else it answers the record's length
abbrev pub key_answer : Code → Signing → List ℕ → Result ℕ Refusal
key_answer code s out =
    if nat_lt (length out) (key_size code s) then Err Output else Ok (key_size code s)

-- where key refuses the output stays; else it begins with the record, and the bytes past it stay
abbrev pub key_output : Hash → Code → Signing → List ℕ → List ℕ
key_output hash code s out =
    if nat_lt (length out) (key_size code s) then out
    else key_record hash code s ++ drop (key_size code s) out

-- how long a release record of a signer is
abbrev pub release_size : Code → Signing → ℕ
release_size code s = release_length code.count s.origin.height

-- the release record of leaf i for a stamp: a string of each chain at the height of the stamp's
-- digit, and the leaf's authentication path
unfoldable pub release_record : Hash → Code → Signing → ℕ → List ℕ → List ℕ
release_record hash code s i stamp = release_bytes i (shown_row hash code s.origin i stamp)

-- the signer's root is that of the tree it was grown from
abbrev pub Rooted : Hash → Code → Signing → Type 0
Rooted hash code s = s.root ≡ node_at hash code s.origin 0 0

-- verify accepts a record for a stamp, as leaf i: open refuses nothing on the signer's key record,
-- and under it verify refuses nothing on record and stamp, and answers i
abbrev pub Accepts : Hash → Code → Signing → List ℕ → List ℕ → ℕ → Type 0
Accepts hash code s stamp bytes i =
    (key : Key)
    × (open_rule hash.number code.number code.levels (key_record hash code s) ≡ Ok key)
    × (verify_rule hash code key stamp bytes ≡ Ok i)

-- whether all leaves are spent: the next leaf is 2 ^ h
abbrev pub all_spent : Signing → Bool
all_spent s = s.next == 2 ^ s.origin.height

-- whether an output is shorter than a release record
abbrev pub no_room : Code → Signing → List ℕ → Bool
no_room code s out = nat_lt (length out) (release_size code s)

-- sign refuses where all leaves are spent, and then an output that is shorter than the record; else
-- it answers the record's length and its leaf number
abbrev pub sign_answer : Code → Signing → List ℕ → Result (ℕ × ℕ) Refusal
sign_answer code s out =
    if all_spent s then Err Spent else
    if no_room code s out then Err Output else Ok (release_size code s, s.next)

-- the signer once the next leaf is spent on a stamp: the stamp is in that leaf's row of the ledger,
-- and the next leaf is one higher
abbrev pub leaf_spent : Signing → List ℕ → Signing
leaf_spent s stamp =
    record {
      origin = s.origin;
      root = s.root;
      next = s.next + 1;
      rows = slice_set s.rows s.next (Some stamp);
    }

-- where sign refuses nothing changes; else it spends the next leaf
abbrev pub sign_state : Code → Signing → List ℕ → List ℕ → Signing
sign_state code s stamp out = if all_spent s || no_room code s out then s else leaf_spent s stamp

-- where sign refuses the output stays; else it begins with the record of the next leaf, and the
-- bytes past it stay
abbrev pub sign_output : Hash → Code → Signing → List ℕ → List ℕ → List ℕ
sign_output hash code s stamp out =
    if all_spent s || no_room code s out then out
    else release_record hash code s s.next stamp ++ drop (release_size code s) out

-- whether skip refuses a leaf number: it is below the next leaf, or above 2 ^ h
abbrev pub bad_skip : Signing → ℕ → Bool
bad_skip s n = nat_lt n s.next || nat_lt (2 ^ s.origin.height) n

-- skip answers the leaf number that it was given, where it does not refuse it
abbrev pub skip_answer : Signing → ℕ → Result ℕ Refusal
skip_answer s n = if bad_skip s n then Err Skip else Ok n

-- where skip refuses nothing changes; else that number is the next leaf
abbrev pub skip_state : Signing → ℕ → Signing
skip_state s n =
    if bad_skip s n then s
    else record { origin = s.origin; root = s.root; next = n; rows = s.rows }

-- what trace compares: the strings of a record with leaf number i, for this stamp, and the leaf's
-- row of the ledger
abbrev pub traced_by : Signing → List ℕ → ℕ → List ℕ → Traced
traced_by s stamp i bytes =
    record {
      origin = s.origin;
      entered = slice_index_or s.rows i None;
      stamp = stamp;
      leaf = i;
      row = row_of bytes;
    }

-- trace refuses what verify refuses under the signer's own key; else it answers the numbers of what
-- it finds
abbrev pub trace_answer : Hash → Code → Signing → List ℕ → List ℕ → Result (ℕ × ℕ × ℕ) Refusal
trace_answer hash code s stamp bytes =
    after (verify_rule hash code (own_key hash code s) stamp bytes)
    (λ i. Ok (verdict_numbers i (found hash code (traced_by s stamp i bytes))))

-- the report after an answer of verify: a refusal leaves it, and leaf i fills it
abbrev pub report_after : Result ℕ Refusal → (ℕ → List ℕ) → List ℕ → List ℕ
report_after (Ok i) filled report = filled i
report_after (Err e) filled report = report

-- where trace refuses the report stays; else it is that of what trace finds
abbrev pub trace_report : Hash → Code → Signing → List ℕ → List ℕ → List ℕ → List ℕ
trace_report hash code s stamp bytes report =
    report_after (verify_rule hash code (own_key hash code s) stamp bytes)
    (λ i. verdict_report (found hash code (traced_by s stamp i bytes))) report

-- verify accepts the record as leaf i; the verdict v, and no other, is on what is to be found
-- first; the numbers and the report are those of v
pub record FindsFirst (hash : Hash) (code : Code) (s : Signing) (stamp bytes : List ℕ)
    (numbers : ℕ × ℕ × ℕ) (report : List ℕ) (i : ℕ) (v : Verdict) : Type 0 where
  pub verified : verify_rule hash code (own_key hash code s) stamp bytes ≡ Ok i
  pub first : Found hash code (traced_by s stamp i bytes) v
  pub only : (v' : Verdict) → Found hash code (traced_by s stamp i bytes) v' → v' ≡ v
  pub answers : numbers ≡ verdict_numbers i v
  pub reports : report ≡ verdict_report v

-- an answer of trace that is no refusal, and its report, are those of what is to be found first,
-- and of nothing else; a refusal is that of verify
abbrev pub Finds : Hash → Code → Signing → List ℕ → List ℕ → Result (ℕ × ℕ × ℕ) Refusal →
    List ℕ → Type 0
Finds hash code s stamp bytes (Ok numbers) report =
    (i : ℕ) × (v : Verdict) × FindsFirst hash code s stamp bytes numbers report i v
Finds hash code s stamp bytes (Err e) report =
    verify_rule hash code (own_key hash code s) stamp bytes ≡ Err e
