use Rattle.std.proofs.Common.{◌≡◌, ℕ, ◌+◌, ◌-◌, ◌*◌, List, length, take, Ok, Err, Result, arith, rules}
use Rattle.std.proofs.lemmas.List.{length-take-le}
use Rattle.tree.specs.Meaning.{Hash, Code, hash_by, code_of}
use Rattle.records.specs.declared.refusal.Refusal.{Refusal}
use Rattle.records.specs.declared.refusal.Refusal.TheVariants.{Output}
use Rattle.records.specs.Rules.{open_rule}
use Rattle.records.specs.Causes.{Refuses}
use Rattle.rules.specs.Conditions.{key_causes}
use Rattle.histories.specs.Histories.{State, IsSigner, key, Continues}
use Rattle.rules.specs.Rules.{key_size, key_record, own_key, key_answer, key_output}
use Rattle.rules.specs.States.{Signing}
use Rattle.signer.specs.Views.{signing_of}
use Rattle.histories.proofs.Continuing.{key-continues}
use Rattle.rules.proofs.Refusing.{key-refuses}
use Rattle.rules.proofs.Opening.{record-opens}
use Rattle.signer.proofs.signer.Signer.key.Given as given
use Rattle.signer.proofs.signer.Signer.key.Goals as goal
use Rattle.signer.proofs.signer.Signer.key.Goals.{Start}

module _ (g : given.Over) (c : Start g) where
  abbrev hash : Hash
  hash = hash_by g.H.ChainHash g.H.TreeHash

  abbrev code : Code
  code = code_of g.C.Code

  abbrev s : Signing
  s = signing_of c.args.self.now

  abbrev out : List ℕ
  out = c.args.out.now

  -- what is ensured of an answer and an output that are by the rules
  ends : (r : Result ℕ Refusal) (after : List ℕ) → r ≡ key_answer code s out → after ≡ key_output hash code s out → record { answer : r ≡ key_answer code s out; refuses : Refuses (key_causes code s out) r; output : after ≡ key_output hash code s out; opens : open_rule hash.number code.number code.levels (key_record hash code s) ≡ Ok (own_key hash code s); lived : (x : State) → IsSigner x s → Continues hash code x (key out r after) x }
  ends r after answer output =
      let self = c.args.self.now in
      record {
        answer = answer;
        refuses = key-refuses code s out r answer;
        output = output;
        opens = record-opens hash code s self.tall g.met.C.Code.level_range.1 self.sized.0 self.sized.1 self.sized.2;
        lived = λ x holds. key-continues hash code x s holds out after r answer output;
      }

pub returns-then-out-size : goal.returns-then-out-size
returns-then-out-size g c =
    let at = (goal.at.returns-then-out-size g c).Start in
    ends g at (Err Output) (out g at) (search rules) (search rules)

pub returns : goal.returns
unfolding key_record
returns g c =
    let at = (goal.at.returns g c).Start in
    let masks = (s g at).origin.masks in
    let few = g.met.C.Code.level_range in
    let cut = c.key_length-size.result - 42 in
    let wide : cut ≡ 32 * ((s g at).origin.height + (code g at).levels) = omega arith in
    let end : 42 + length (take cut masks) ≡ key_size (code g at) (s g at) = omega (arith, length-take-le cut masks (omega arith)) in
    ends g at (Ok c.key_length-size.result) _ (search rules) (search rules)
