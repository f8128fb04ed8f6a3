-- What the calls on whole keys answer and leave: each lives a key's life from its source on, by the
-- rules of verifier and signer.
use Rattle.std.specs.Prelude.{ℕ, false, true, zero, suc, List, replicate, Some, None, Ok, Err}
use Rattle.std.specs.Prelude.{Option, Result}
use Rattle.tree.specs.Meaning.{Hash, Code}
use Rattle.tree.specs.Nodes.{raise}
use Rattle.growth.specs.declared.origin.Origin.{Origin}
use Rattle.records.specs.Records.{longest_release}
use Rattle.records.specs.Refusals.{refusal_number}
use Rattle.records.specs.Rules.{after, open_rule}
use Rattle.records.specs.declared.refusal.Refusal.{Refusal}
use Rattle.verifier.specs.Rules.{verify_rule}
use Rattle.rules.specs.Rules.{plan_rule, begin_state, grow_state, held_rule, finish_state}
use Rattle.rules.specs.Rules.{key_answer, key_output, sign_answer, sign_state, sign_output}
use Rattle.rules.specs.Rules.{skip_state, trace_answer, trace_report}
use Rattle.rules.specs.States.{Making, Signing}
use Rattle.schemes.specs.Names.{hash_named, code_named, scheme_numbered}
use Rattle.schemes.specs.declared.scheme.Scheme.{Scheme}
use Rattle.schemes.specs.declared.unknown.UnknownScheme.{UnknownScheme}
use Rattle.bench_calls.specs.declared.failure.Failure.{Failure}
use Rattle.bench_calls.specs.declared.failure.Failure.TheVariants.{Refused, Unknown}
use Rattle.bench_calls.specs.declared.reply.Reply.{Reply}
use Rattle.bench_calls.specs.declared.source.Source.{Source}

-- no numbers, no refusal, and hash and code are known
abbrev pub nothing : Reply
nothing = record { first = 0; second = 0; third = 0; refusal = 0; unknown_scheme = false }

-- the numbers of an answer; or a refusal's number alone; or alone that a hash or code is not known
abbrev pub reply_of : {A : Type 0} → (A → ℕ × ℕ × ℕ) → Result A Failure → Reply
reply_of numbers (Ok x) =
    record nothing { first = (numbers x).0; second = (numbers x).1; third = (numbers x).2 }
reply_of numbers (Err (Refused e)) = record nothing { refusal = refusal_number e }
reply_of numbers (Err Unknown) = record nothing { unknown_scheme = true }

-- a reply with one number, zeros after it
abbrev pub one_reply : Result ℕ Failure → Reply
one_reply = reply_of (λ n. (n, 0, 0))

-- with two numbers
abbrev pub two_reply : Result (ℕ × ℕ) Failure → Reply
two_reply = reply_of (λ x. (x.0, x.1, 0))

-- with three
abbrev pub three_reply : Result (ℕ × ℕ × ℕ) Failure → Reply
three_reply = reply_of (λ x. x)

-- what is left of a buffer: as it was, where there is an error
abbrev pub bytes_after : {A E : Type 0} → Result A E → List ℕ → (A → List ℕ) → List ℕ
bytes_after (Ok x) old new = new x
bytes_after (Err e) old new = old

-- an answer of verifier or signer; its refusal is a failure
abbrev pub answered : {A : Type 0} → Result A Refusal → Result A Failure
answered (Ok x) = Ok x
answered (Err e) = Err (Refused e)

-- an answer by a hash and a code, or that a number is not known
abbrev pub by_scheme : {A : Type 0} →
    Result Scheme UnknownScheme → (Hash → Code → Result A Refusal) → Result A Failure
by_scheme (Ok s) by = answered (by (hash_named s.hash) (code_named s.code))
by_scheme (Err e) by = Err Unknown

-- by the hash and the code with the numbers `hash` and `code`
abbrev pub numbered : {A : Type 0} →
    ℕ → ℕ → (Hash → Code → Result A Refusal) → Result A Failure
numbered hash code by = by_scheme (scheme_numbered hash code) by

-- what is left of a buffer by them: as it was, where a number is not known
abbrev pub numbered_output : ℕ → ℕ → List ℕ → (Hash → Code → List ℕ) → List ℕ
numbered_output hash code old by =
    bytes_after (scheme_numbered hash code) old (λ s. by (hash_named s.hash) (code_named s.code))

-- what holds by them, or where a number is not known
abbrev pub Numbered : Result Scheme UnknownScheme → Type 0 → (Hash → Code → Type 0) → Type 0
Numbered (Ok s) none by = by (hash_named s.hash) (code_named s.code)
Numbered (Err e) none by = none

-- what holds of the answer that a result by them stands for
abbrev pub HoldsOf : {A : Type 0} → (Result A Refusal → Type 0) → Result A Failure → Type 0
HoldsOf holds (Ok x) = holds (Ok x)
HoldsOf holds (Err (Refused e)) = holds (Err e)
HoldsOf holds (Err Unknown) = ⊥

-- what a source's tree is grown from
abbrev pub origin_from : Source → ℕ → Origin
origin_from source height =
    record {
      seed = source.seed;
      hash_key = source.hash_key;
      masks = source.masks;
      height = height;
    }

-- open, and verify under the opened key
abbrev pub verified : Hash → Code → List ℕ → List ℕ → List ℕ → Result ℕ Refusal
verified hash code key stamp bytes =
    after (open_rule hash.number code.number code.levels key)
    (λ opened. verify_rule hash code opened stamp bytes)

-- plan and begin
abbrev pub begun : Source → Result Making Refusal
begun source =
    after (plan_rule source.height) (λ height. Ok (begin_state (origin_from source height)))

-- n calls of grow
unfoldable pub grows : Hash → Code → ℕ → Making → Making
grows hash code zero m = m
grows hash code (suc n) m = grow_state hash code (grows hash code n m)

-- whether a node is held, 1 or 0, and its position, or 0
abbrev pub held_numbers : Option (ℕ × List ℕ) → ℕ × ℕ
held_numbers (Some x) = (1, x.0)
held_numbers None = (0, 0)

-- its string; a buffer stays where there is none
abbrev pub held_string : Option (ℕ × List ℕ) → List ℕ → List ℕ
held_string (Some x) old = x.1
held_string None old = old

-- begin, n calls of grow, and whether a node is held at a level, with its position
abbrev pub grown : Hash → Code → Source → ℕ → ℕ → Result (ℕ × ℕ) Refusal
grown hash code source n level =
    after (begun source) (λ m. Ok (held_numbers (held_rule (grows hash code n m) level)))

-- and that node's string
abbrev pub grown_node : Hash → Code → Source → ℕ → ℕ → List ℕ → List ℕ
grown_node hash code source n level node =
    bytes_after (begun source) node (λ m. held_string (held_rule (grows hash code n m) level) node)

-- begin and finish
abbrev pub finished : Hash → Code → Source → Result Signing Refusal
finished hash code source = after (begun source) (λ m. Ok (finish_state hash code m))

-- begin, finish, and key n times and once more: what the last call answers
abbrev pub keyed : Hash → Code → Source → ℕ → List ℕ → Result ℕ Refusal
keyed hash code source n out =
    after (finished hash code source)
    (λ s. key_answer code s (raise (key_output hash code s) n out))

-- and what it leaves of the output
abbrev pub keyed_output : Hash → Code → Source → ℕ → List ℕ → List ℕ
keyed_output hash code source n out =
    bytes_after (finished hash code source) out
    (λ s. key_output hash code s (raise (key_output hash code s) n out))

-- begin, finish and skip; where skip refuses, the next leaf stays
abbrev pub served : Hash → Code → Source → ℕ → Result Signing Refusal
served hash code source leaf = after (finished hash code source) (λ s. Ok (skip_state s leaf))

-- begin, finish, skip, and sign: the record's length, and the leaf
abbrev pub signed : Hash → Code → Source → ℕ → List ℕ → Result (ℕ × ℕ) Refusal
signed hash code source leaf out =
    after (served hash code source leaf) (λ s. sign_answer code s out)

-- and what it leaves of the output
abbrev pub signed_output : Hash → Code → Source → ℕ → List ℕ → List ℕ → List ℕ
signed_output hash code source leaf stamp out =
    bytes_after (served hash code source leaf) out (λ s. sign_output hash code s stamp out)

-- the state after the stamp `spent` is signed, into an output that is long enough for any record
abbrev pub with_spent : Code → Signing → List ℕ → Signing
with_spent code s spent = sign_state code s spent (replicate longest_release 0)

-- begin, finish, skip and sign, and trace another record, in service or out of it: the verdict and
-- its two numbers
abbrev pub traced : Hash → Code → Source → ℕ → List ℕ → List ℕ → List ℕ → Result (ℕ × ℕ × ℕ) Refusal
traced hash code source leaf spent stamp bytes =
    after (served hash code source leaf)
    (λ s. trace_answer hash code (with_spent code s spent) stamp bytes)

-- and what it leaves of the report
abbrev pub traced_report : Hash → Code → Source → ℕ → List ℕ → List ℕ → List ℕ → List ℕ → List ℕ
traced_report hash code source leaf spent stamp bytes report =
    bytes_after (served hash code source leaf) report
    (λ s. trace_report hash code (with_spent code s spent) stamp bytes report)
