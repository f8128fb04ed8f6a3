use Rattle.std.proofs.Common.{◌≡◌, ℕ, ◌+◌, ◌*◌, ◌%◌, ◌^◌, ◌<◌, ◌≤◌, List, Ok, Err, Result, refl, arith, rules, pow_mono}
use Rattle.std.proofs.lemmas.Nat.{one_shl}
use Rattle.strings.proofs.Laws.{str-from}
use Rattle.tree.specs.Meaning.{Hash, Code, hash_by, code_of}
use Rattle.records.specs.declared.refusal.Refusal.{Refusal}
use Rattle.records.specs.declared.refusal.Refusal.TheVariants.{Spent, Output}
use Rattle.records.specs.Causes.{Refuses}
use Rattle.rules.specs.Conditions.{sign_causes}
use Rattle.histories.specs.Histories.{serving, sign, Continues}
use Rattle.rules.specs.Rules.{release_record, Accepts, sign_answer, sign_state, sign_output}
use Rattle.rules.specs.States.{Signing}
use Rattle.growth.specs.Shown.{shown_row}
use Rattle.signer.specs.Views.{signing_of}
use Rattle.rules.proofs.Accepting.{accepting}
use Rattle.histories.proofs.Continuing.{sign-continues, lives-on}
use Rattle.rules.proofs.Refusing.{sign-refuses}
use Rattle.signer.proofs.Ledgers.{entered-fresh}
use Rattle.signer.proofs.Held.{signer-strings}
use Rattle.signer.proofs.signer.Signer.sign.Given as given
use Rattle.signer.proofs.signer.Signer.sign.Goals as goal
use Rattle.signer.proofs.signer.Signer.sign.Goals.{Start}

module _ (g : given.Over) (c : Start g) where
  abbrev hash : Hash
  hash = hash_by g.H.ChainHash g.H.TreeHash

  abbrev code : Code
  code = code_of g.C.Code

  abbrev s : Signing
  s = signing_of c.args.self.now

  abbrev stamp : List ℕ
  stamp = c.args.stamp.now

  abbrev out : List ℕ
  out = c.args.out.now

  -- as many leaves as the shift says
  leaves : (1 * 2 ^ s.origin.height) % 2 ^ 16 ≡ 2 ^ s.origin.height
  leaves = let tall = c.args.self.now.tall in one_shl s.origin.height 16 (omega arith)

  -- what is ensured of an answer, a signer and an output that are by the rules
  ends : {W : Type 0} (r : Result (ℕ × ℕ) Refusal) (s' : Signing) (after : List ℕ) → r ≡ sign_answer code s out → s' ≡ sign_state code s stamp out → after ≡ sign_output hash code s stamp out → W → record { answer : r ≡ sign_answer code s out; refuses : Refuses (sign_causes code s out) r; state : s' ≡ sign_state code s stamp out; output : after ≡ sign_output hash code s stamp out; accepts : s.next < 2 ^ s.origin.height → Accepts hash code s stamp (release_record hash code s s.next stamp) s.next; lived : Continues hash code (serving s) (sign stamp out r after) (serving s'); wiped : W }
  unfolding release_record
  ends r s' after answer state output wiped =
      let self = c.args.self.now in
      let str = str-from stamp c.told-stamp c.fits-stamp in
      let few : code.levels ≤ 8 = g.met.C.Code.level_range.1 in
      let many : code.count ≤ 256 = omega (arith, g.met.C.Code.count_range, pow_mono {i = code.levels} {j = 8} few) in
      let low : (k : ℕ) → code.digit stamp k ≤ code.top = λ k. g.met.C.Code.within stamp k str in
      let strings = signer-strings hash self (record { gives = g.met.H.ChainHash.gives; joins = g.met.H.TreeHash.joins }) in
      record {
        answer = answer;
        refuses = sign-refuses code s out r answer;
        state = state;
        output = output;
        accepts = accepting hash code s strings self.tall few self.sized.2 s.next stamp many low self.rooted;
        lived = sign-continues hash code s s' stamp out after r str answer state output;
        wiped = wiped;
      }

pub returns-then-leaf-self : goal.returns-then-leaf-self
returns-then-leaf-self g c =
    let at = (goal.at.returns-then-leaf-self g c).Start in
    let all = leaves g at in
    ends g at (Err Spent) (s g at) (out g at) (search rules) (search rules) (search rules) c.drop-guard.ensures

pub returns-then-out-size : goal.returns-then-out-size
returns-then-out-size g c =
    let at = (goal.at.returns-then-out-size g c).Start in
    let all = leaves g at in
    ends g at (Err Output) (s g at) (out g at) (search rules) (search rules) (search rules) c.drop-guard-then-out-size.ensures

pub returns : goal.returns
unfolding release_record shown_row
returns g c =
    let at = (goal.at.returns g c).Start in
    let all = leaves g at in
    ends g at (Ok (c.release_length-size.result, c.args.self.now.next)) _ _ (search rules) (search rules) (search rules) c.drop-guard-2.ensures

pub invariant_of-self-clause-lived : goal.invariant_of-self-clause-lived
invariant_of-self-clause-lived g c =
    let at = (goal.at.invariant_of-self-clause-lived g c).Start in
    let all = leaves g at in
    let before = s g at in
    let state : record { origin = before.origin; root = before.root; next = before.next + 1; rows = c.enter.new.self.rows } ≡ sign_state (code g at) before (stamp g at) (out g at) = search rules in
    let str = str-from (stamp g at) c.told-stamp c.fits-stamp in
    lives-on (hash g at) (code g at) _ _ _ (sign-continues (hash g at) (code g at) before _ (stamp g at) (out g at) _ _ str refl state refl) c.args.self.now.lived

pub invariant_of-self-clause-fresh : goal.invariant_of-self-clause-fresh
invariant_of-self-clause-fresh g c = entered-fresh c.args.self.now.ledger.rows c.enter.new.self.rows c.args.self.now.next c.args.stamp.now c.enter.ensures c.args.self.now.fresh
