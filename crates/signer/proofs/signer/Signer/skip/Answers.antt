use Rattle.std.proofs.Common.{◌≡◌, Ok, Err, rules}
use Rattle.rules.specs.Rules.{skip_answer, skip_state}
use Rattle.histories.proofs.Continuing.{skip-continues, lives-on}
use Rattle.rules.proofs.Refusing.{skip-refuses}
use Rattle.tree.specs.Meaning.{hash_by, code_of}
use Rattle.records.specs.declared.refusal.Refusal.TheVariants.{Skip}
use Rattle.signer.specs.Views.{signing_of}
use Rattle.signer.proofs.signer.Signer.skip.Goals as goal

pub returns-then-leaf-self : goal.returns-then-leaf-self
returns-then-leaf-self g c =
    let s = signing_of c.args.self.now in
    let answer : Err Skip ≡ skip_answer s c.args.leaf = search rules in
    let state : s ≡ skip_state s c.args.leaf = search rules in
    record {
      answer = answer;
      refuses = skip-refuses s c.args.leaf (Err Skip) answer;
      state = state;
      lived = skip-continues (hash_by g.H.ChainHash g.H.TreeHash) (code_of g.C.Code) s s c.args.leaf (Err Skip) answer state;
    }

pub returns : goal.returns
returns g c =
    let s = signing_of c.args.self.now in
    let answer : Ok c.args.leaf ≡ skip_answer s c.args.leaf = search rules in
    let state : record { origin = s.origin; root = s.root; next = c.args.leaf; rows = s.rows } ≡ skip_state s c.args.leaf = search rules in
    record {
      answer = answer;
      refuses = skip-refuses s c.args.leaf (Ok c.args.leaf) answer;
      state = state;
      lived = skip-continues (hash_by g.H.ChainHash g.H.TreeHash) (code_of g.C.Code) s _ c.args.leaf (Ok c.args.leaf) answer state;
    }

pub invariant_of-self-clause-lived : goal.invariant_of-self-clause-lived
invariant_of-self-clause-lived g c =
    let hash = hash_by g.H.ChainHash g.H.TreeHash in
    let code = code_of g.C.Code in
    let s = signing_of c.args.self.now in
    let answer : Ok c.args.leaf ≡ skip_answer s c.args.leaf = search rules in
    let state : record { origin = s.origin; root = s.root; next = c.args.leaf; rows = s.rows } ≡ skip_state s c.args.leaf = search rules in
    lives-on hash code _ _ _ (skip-continues hash code s _ c.args.leaf (Ok c.args.leaf) answer state) c.args.self.now.lived
