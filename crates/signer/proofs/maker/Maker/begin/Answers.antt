use Rattle.std.proofs.Common.{◌≡◌, ℕ, ◌<◌, [], get_or, replicate, ap, rules}
use Rattle.growth.proofs.Trees.{holds-none}
use Rattle.growth.specs.Grown.{nodes_size}
use Rattle.growth.specs.declared.origin.Origin.{Origin}
use Rattle.histories.specs.Histories.{growing, Lived}
use Rattle.rules.specs.Rules.{begin_state}
use Rattle.rules.specs.States.{Making}
use Rattle.histories.proofs.Continuing.{begin-lives}
use Rattle.tree.specs.Meaning.{hash_by, code_of}
use Rattle.signer.specs.Views.{height_of_plan}
use Rattle.signer.proofs.Held.{begun-from}
use Rattle.signer.proofs.maker.Maker.begin.Given as given
use Rattle.signer.proofs.maker.Maker.begin.Goals as goal
use Rattle.signer.proofs.maker.Maker.begin.Goals.{After-height-height}

module _ (g : given.Over) (c : After-height-height g) where
  abbrev given_of : Origin
  given_of = record { seed = c.args.seed; hash_key = c.args.hash_key; masks = c.args.masks; height = height_of_plan c.args.plan }

  abbrev made : Making
  made = record { origin = record { seed = c.args.seed; hash_key = c.args.hash_key; masks = c.args.masks; height = c.height-height.result }; grown = 0; nodes = replicate nodes_size 0 }

  begun : made ≡ begin_state given_of
  begun = ap (λ h. begin_state (record { seed = c.args.seed; hash_key = c.args.hash_key; masks = c.args.masks; height = h })) c.height-height.ensures

  small : (i : ℕ) → (get_or c.args.seed i 0 < 256) × (get_or c.args.hash_key i 0 < 256) × (get_or c.args.masks i 0 < 256)
  small = search rules

  lives : Lived (hash_by g.H.ChainHash g.H.TreeHash) (code_of g.C.Code) given_of [] (growing made)
  lives = begin-lives (hash_by g.H.ChainHash g.H.TreeHash) (code_of g.C.Code) given_of made (begun-from given_of c.args.plan.tall (search rules) (search rules) (search rules) small) begun

pub returns : goal.returns
returns g c = let at = (goal.at.returns g c).After-height-height in record { state = begun g at; lived = lives g at }

pub invariant_of-result-clause-holds : goal.invariant_of-result-clause-holds
invariant_of-result-clause-holds g c =
    holds-none (hash_by g.H.ChainHash g.H.TreeHash) (code_of g.C.Code) (record { seed = c.args.seed; hash_key = c.args.hash_key; masks = c.args.masks; height = c.height-height.result })

pub invariant_of-result-clause-bytes : goal.invariant_of-result-clause-bytes
invariant_of-result-clause-bytes g c = small g (goal.at.invariant_of-result-clause-bytes g c).After-height-height

pub invariant_of-result-clause-lived : goal.invariant_of-result-clause-lived
invariant_of-result-clause-lived g c =
    let at = (goal.at.invariant_of-result-clause-lived g c).After-height-height in ∣ (given_of g at, [], lives g at) ∣₁
