-- The examples of trace: the signer and its records are computed once, and then each trace over them.
use Rattle.std.proofs.Common.{◌≡◌, ℕ, zero, suc, ◌+◌, ◌-◌, ◌*◌, ◌/◌, ◌%◌, ◌^◌, ◌<◌, ◌≤◌, cond, eqb, ltb, List, [], ◌∷◌, map, get_or, set, replicate, Some, None, Ok, sym, refl, ap, ◌∙◌, subst, zero-add, arith, lit≤}
use Rattle.std.specs.List.{range_with_len, flat_map, AllByRecursion}
use Rattle.std.proofs.lemmas.List.FromFn.{get_or-map-range_with_len}
use Rattle.strings.specs.Strings.{numeral, string_at}
use Rattle.tree.specs.Nodes.{raise, node, climb}
use Rattle.growth.specs.Grown.{node_at, carry}
use Rattle.growth.specs.Shown.{sibling_of, shown_row}
use Rattle.records.specs.Records.{release_bytes, row_of}
use Rattle.verifier.specs.Rules.{verify_rule}
use Rattle.records.specs.Rules.{after}
use Rattle.compare.specs.Found.{verdict_numbers, verdict_report}
use Rattle.compare.specs.Search.{first_from, last_from, level_search, chain_search, unrevealed_search, chosen, found}
use Rattle.compare.specs.Sides.{Traced, our_node, their_node}
use Rattle.compare.specs.declared.verdict.Find.{Find}
use Rattle.compare.specs.declared.verdict.Verdict.{Verdict}
use Rattle.compare.specs.declared.verdict.Verdict.TheVariants.{Ours, Node, Chain, Unrevealed}
use Rattle.rules.specs.Rules.{leaves_more, key_record, release_record, sign_state, sign_output, own_key, traced_by, trace_answer, trace_report, report_after}
use Rattle.rules.specs.States.{Signing}
use Rattle.compare.proofs.Agreeing.{SameNode}
use Rattle.tree.specs.Known.{practice, lamport_diffie_code}
use Rattle.examples.specs.Setting.{string, origin}
use Rattle.examples.specs.Examples.{Outcome, gives, IsRight, answered_three, new, output, written, signed, changed, shown, one_changed, two_changed, verdict, reported, tracing}
use Rattle.examples.proofs.Agreed.{searched-below}

-- the new signer, with its root computed
begun : Signing
begun = record { origin = origin 1; root = string 0; next = 0; rows = replicate 256 None }

new_is : new ≡ begun
unfolding begun numeral raise node carry leaves_more
new_is = refl

-- the signer that signed
signer : Signing
signer = record { origin = origin 1; root = string 0; next = 1; rows = set (replicate 256 None) 0 (Some (string 0)) }

signed_is : signed ≡ signer
unfolding begun signer
signed_is = ap (λ s. sign_state lamport_diffie_code s (string 0) output) new_is

-- the record of the stamp of zeros: string k is k where the digit is 0, half of it where the digit is 1, and the sibling last
shown_string : ℕ → List ℕ
shown_string k = string (cond (ltb k 256) (cond (eqb (k % 2) 0) k (k / 2)) 128)

row : List ℕ
row = flat_map shown_string (range_with_len 0 257)

zeros : List ℕ
zeros = release_bytes 0 row

zeros-is : written (string 0) ≡ zeros
unfolding zeros row shown_string begun numeral raise node shown_row release_record
zeros-is = ap (λ s. sign_output practice lamport_diffie_code s (string 0) output) new_is

-- the record of the stamp whose first bit is 1: string 1 is another
high_is : written (string 0x80) ≡ changed 1 1 zeros
unfolding zeros row shown_string begun numeral raise node shown_row release_record
high_is = ap (λ s. sign_output practice lamport_diffie_code s (string 0x80) output) new_is

-- two rows that are computed alike are alike at each place
alike : (f g : ℕ → List ℕ) (n : ℕ) → map f (range_with_len 0 n) ≡ map g (range_with_len 0 n) → (k : ℕ) → k < n → f k ≡ g k
alike f g n same k h =
    sym (get_or-map-range_with_len f 0 n k k [] h (zero-add k)) ∙ ap (λ s. get_or s k []) same ∙ get_or-map-range_with_len g 0 n k k [] h (zero-add k)

-- the sibling of leaf 0
beside : node_at practice lamport_diffie_code (origin 1) 1 1 ≡ string 128
unfolding numeral raise node
beside = refl

-- what trace answers and reports of a record at leaf 0
record Traces (stamp bytes : List ℕ) (v : Verdict) : Type 0 where
  answers : trace_answer practice lamport_diffie_code signer stamp bytes ≡ Ok (verdict_numbers 0 v)
  reports : (report : List ℕ) → trace_report practice lamport_diffie_code signer stamp bytes report ≡ verdict_report v

-- a trace at leaf 0 from what is computed: what verify answers; that both sides agree l levels below the leaf's node; and
-- what is found further below and along the chains
module _ (stamp bytes : List ℕ) where
  abbrev subject : Traced
  subject = traced_by signer stamp 0 bytes

  abbrev Verified : Type 0
  Verified = verify_rule practice lamport_diffie_code (own_key practice lamport_diffie_code signer) stamp bytes ≡ Ok 0

  abbrev Agree : ℕ → Type 0
  Agree l = map (our_node practice lamport_diffie_code subject (1 + l)) (range_with_len 0 (2 ^ l)) ≡ map (their_node practice lamport_diffie_code subject (1 + l)) (range_with_len 0 (2 ^ l))

  abbrev Finds : ℕ → Verdict → Type 0
  Finds l v = chosen (first_from (level_search practice lamport_diffie_code subject) (1 + l) (8 - l)) (chain_search practice lamport_diffie_code subject) (unrevealed_search practice lamport_diffie_code subject) ≡ v

  module _ (l : ℕ) (within : l ≤ 8) (verified : Verified) (sibling : string_at (row_of bytes) 256 ≡ string 128) (agree : Agree l) where
    siblings : (e : ℕ) → e < 1 → our_node practice lamport_diffie_code subject (1 - e) (sibling_of (0 / 2 ^ e)) ≡ string_at (row_of bytes) (256 + e)
    unfolding signer
    siblings zero h = beside ∙ sym sibling
    siblings (suc e) h = absurd (omega arith)

    level : (k : ℕ) → k < 2 ^ l → SameNode practice lamport_diffie_code subject (1 + l) (0 * 2 ^ l + k)
    level k h =
        let place : k ≡ 0 * 2 ^ l + k = omega arith in
        subst (SameNode practice lamport_diffie_code subject (1 + l)) place
        (alike (our_node practice lamport_diffie_code subject (1 + l)) (their_node practice lamport_diffie_code subject (1 + l)) (2 ^ l) agree k h)

    found-is : (v : Verdict) → Finds l v → found practice lamport_diffie_code subject ≡ v
    unfolding signer found
    found-is v finds =
        ap (λ o. chosen o (chain_search practice lamport_diffie_code subject) (unrevealed_search practice lamport_diffie_code subject)) (searched-below practice lamport_diffie_code subject l within siblings level)
        ∙ finds

    trace-is : (v : Verdict) → Finds l v → Traces stamp bytes v
    trace-is v finds =
        let is = found-is v finds in
        record {
          answers = ap (λ r. after r (λ i. Ok (verdict_numbers i (found practice lamport_diffie_code (traced_by signer stamp i bytes))))) verified ∙ ap (λ w. Ok (verdict_numbers 0 w)) is;
          reports = λ report. ap (λ r. report_after r (λ i. verdict_report (found practice lamport_diffie_code (traced_by signer stamp i bytes))) report) verified ∙ ap verdict_report is;
        }

-- a find, with a report of four strings
find : ℕ → ℕ → List ℕ → Find
find first second bs = record { first = first; second = second; report = flat_map string bs }

ours : Traces (string 0) zeros Ours
unfolding signer zeros row shown_string numeral raise node climb key_record first_from last_from
ours = trace-is (string 0) zeros 8 (lit≤ tt) refl refl refl Ours refl

-- string 6 changed: the chains differ, and their tops do not
one : Traces (string 0) (changed 6 7 zeros) (Chain (find 6 0 (6 ∷ 7 ∷ 0 ∷ 0 ∷ [])))
unfolding signer zeros row shown_string find numeral raise node climb key_record first_from last_from
one = trace-is (string 0) (changed 6 7 zeros) 8 (lit≤ tt) refl refl refl (Chain (find 6 0 (6 ∷ 7 ∷ 0 ∷ 0 ∷ []))) refl

-- strings 1 and 3 changed: the nodes of level 7 do not differ, and those below them do
two : Traces (string 0) (changed 3 0 (changed 1 1 zeros)) (Node (find 7 0 (0 ∷ 2 ∷ 1 ∷ 1 ∷ [])))
unfolding signer zeros row shown_string find numeral raise node climb key_record first_from last_from
two = trace-is (string 0) (changed 3 0 (changed 1 1 zeros)) 6 (lit≤ tt) refl refl refl (Node (find 7 0 (0 ∷ 2 ∷ 1 ∷ 1 ∷ []))) refl

-- the record of another stamp: all agrees, and chain 1 was not revealed
other : Traces (string 0x80) (changed 1 1 zeros) (Unrevealed (find 1 0 (1 ∷ 0 ∷ 0 ∷ 0 ∷ [])))
unfolding signer zeros row shown_string find numeral raise node climb key_record first_from last_from
other = trace-is (string 0x80) (changed 1 1 zeros) 8 (lit≤ tt) refl refl refl (Unrevealed (find 1 0 (1 ∷ 0 ∷ 0 ∷ 0 ∷ []))) refl

-- the same, on the signer and a record of the examples
module _ {stamp bytes bytes' : List ℕ} {v : Verdict} (is : bytes ≡ bytes') (traces : Traces stamp bytes' v) where
  verdict-is : verdict stamp bytes ≡ answered_three (Ok (verdict_numbers 0 v))
  verdict-is = (λ i. answered_three (trace_answer practice lamport_diffie_code (signed_is i) stamp (is i))) ∙ ap answered_three traces.answers

  reported-is : (n : ℕ) → reported n stamp bytes ≡ gives (flat_map (string_at (verdict_report v)) (range_with_len 0 n))
  reported-is n =
      let report = replicate 64 0xFF in
      let first : List ℕ → Outcome = λ r. gives (flat_map (string_at r) (range_with_len 0 n)) in
      (λ i. first (trace_report practice lamport_diffie_code (signed_is i) stamp (is i) report)) ∙ ap first (traces.reports report)

one-is : one_changed ≡ changed 6 7 zeros
one-is = ap (changed 6 7) zeros-is

two_is : two_changed ≡ changed 3 0 (changed 1 1 zeros)
two_is = ap (λ r. changed 3 0 (changed 1 1 r)) zeros-is

shown-is : (k : ℕ) → shown k ≡ gives (string_at (row_of zeros) k)
shown-is k = ap (λ r. gives (string_at (row_of r) k)) zeros-is

pub tracing-right : AllByRecursion IsRight tracing
unfolding zeros row shown_string find
tracing-right = (shown-is 1, (shown-is 3, (shown-is 6, (verdict-is zeros-is ours, (verdict-is one-is one, (reported-is one-is one 2, (verdict-is two_is two, (reported-is two_is two 4, (verdict-is high_is other, tt)))))))))
