use Rattle.std.proofs.Common.{refl}
use Rattle.histories.specs.Histories.{serving, retired, retire, HasLived}
use Rattle.histories.proofs.Continuing.{retire-continues, lives-on}
use Rattle.tree.specs.Meaning.{hash_by, code_of}
use Rattle.signer.specs.Views.{signing_of}
use Rattle.signer.proofs.signer.Signer.retire.Given as given
use Rattle.signer.proofs.signer.Signer.retire.Goals as goal
use Rattle.signer.proofs.signer.Signer.retire.Goals.{Start}

module _ (g : given.Over) (c : Start g) where
  behind : HasLived (hash_by g.H.ChainHash g.H.TreeHash) (code_of g.C.Code) (retired (signing_of c.args.self))
  behind =
      let s = signing_of c.args.self in
      let hash = hash_by g.H.ChainHash g.H.TreeHash in
      let code = code_of g.C.Code in
      lives-on hash code (serving s) (retired s) retire (retire-continues hash code s s refl) c.args.self.lived

pub returns : goal.returns
returns g c =
    let s = signing_of c.args.self in
    record {
      state = refl;
      lived = retire-continues (hash_by g.H.ChainHash g.H.TreeHash) (code_of g.C.Code) s s refl;
      behind = behind g (goal.at.returns g c).Start;
    }

pub invariant_of-result : goal.invariant_of-result
invariant_of-result g c = record { lived = behind g (goal.at.invariant_of-result g c).Start }
