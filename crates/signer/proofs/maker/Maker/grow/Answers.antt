use Rattle.std.proofs.Common.{◌≡◌, ◌+◌, Ok, Err, rules}
use Rattle.histories.specs.Histories.{growing, grow, Continues}
use Rattle.rules.specs.Rules.{grow_answer, grow_state}
use Rattle.rules.specs.States.{Making}
use Rattle.histories.proofs.Continuing.{grow-continues, lives-on}
use Rattle.rules.proofs.Refusing.{grow-refuses}
use Rattle.tree.specs.Meaning.{hash_by, code_of}
use Rattle.records.specs.declared.refusal.Refusal.TheVariants.{Grown}
use Rattle.signer.specs.Views.{making_of}
use Rattle.signer.proofs.maker.Maker.grow.Given as given
use Rattle.signer.proofs.maker.Maker.grow.Goals as goal
use Rattle.signer.proofs.maker.Maker.grow.Goals.{After-add_leaf}

pub returns-then-self : goal.returns-then-self
returns-then-self g c =
    let hash = hash_by g.H.ChainHash g.H.TreeHash in
    let code = code_of g.C.Code in
    let m = making_of c.args.self.now in
    let answer : Err Grown ≡ grow_answer m = search rules in
    let state : m ≡ grow_state hash code m = search rules in
    record {
      answer = answer;
      refuses = grow-refuses m (Err Grown) answer;
      state = state;
      lived = grow-continues hash code m m (Err Grown) answer state;
      wiped = c.drop-guard.ensures;
    }

module _ (g : given.Over) (c : After-add_leaf g) where
  abbrev before : Making
  before = making_of c.args.self.now

  abbrev later : Making
  later = record { origin = before.origin; grown = before.grown + 1; nodes = c.add_leaf.new.nodes }

  answers : Ok (before.grown + 1) ≡ grow_answer before
  answers = search rules

  leaves : later ≡ grow_state (hash_by g.H.ChainHash g.H.TreeHash) (code_of g.C.Code) before
  leaves = search rules

  continues : Continues (hash_by g.H.ChainHash g.H.TreeHash) (code_of g.C.Code) (growing before) (grow (Ok (before.grown + 1))) (growing later)
  continues = grow-continues (hash_by g.H.ChainHash g.H.TreeHash) (code_of g.C.Code) before later (Ok (before.grown + 1)) answers leaves

pub returns : goal.returns
returns g c =
    let at = (goal.at.returns g c).After-add_leaf in
    record {
      answer = answers g at;
      refuses = grow-refuses (before g at) (Ok ((before g at).grown + 1)) (answers g at);
      state = leaves g at;
      lived = continues g at;
      wiped = c.drop-guard-2.ensures;
    }

pub invariant_of-self-clause-lived : goal.invariant_of-self-clause-lived
invariant_of-self-clause-lived g c =
    let at = (goal.at.invariant_of-self-clause-lived g c).After-add_leaf in
    lives-on (hash_by g.H.ChainHash g.H.TreeHash) (code_of g.C.Code) _ _ _ (continues g at) c.args.self.now.lived
