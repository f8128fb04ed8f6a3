-- What the signer's types stand for.
use Rattle.std.specs.Prelude.{ℕ}
use Rattle.hashes.specs.declared.ChainHash as chain_hash
use Rattle.hashes.specs.declared.TreeHash as tree_hash
use Rattle.codes.specs.declared.Code as code_trait
use Rattle.rules.specs.States.{Making, Signing}
use Rattle.signer.specs.declared.maker.Maker.{Maker}
use Rattle.signer.specs.declared.plan.Plan.{Plan}
use Rattle.signer.specs.declared.retired.Retired.{Retired}
use Rattle.signer.specs.declared.signer.Signer.{Signer}

-- the height that is planned
abbrev pub height_of_plan : Plan → ℕ
height_of_plan p = p.height

module _ {H C : Type 0} {tree : tree_hash.Ghosts H} {chain : chain_hash.Ghosts H}
    {code : code_trait.Ghosts C} where
  -- what a maker holds
  abbrev pub making_of : Maker H C tree chain code → Making
  making_of m = record { origin = m.origin; grown = m.grown; nodes = m.nodes }

  -- what a signer holds
  abbrev pub signing_of : Signer H C tree chain code → Signing
  signing_of s = record { origin = s.origin; root = s.root; next = s.next; rows = s.ledger.rows }

  -- the signer that a retired one keeps
  abbrev pub retired_signer : Retired H C tree chain code → Signer H C tree chain code
  retired_signer r = r.signer

  -- what that signer holds
  abbrev pub signing_of_retired : Retired H C tree chain code → Signing
  signing_of_retired r = signing_of (retired_signer r)
