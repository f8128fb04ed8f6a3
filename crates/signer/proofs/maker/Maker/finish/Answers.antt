use Rattle.std.proofs.Common.{◌≡◌, ℕ, ◌^◌, ◌<◌, List, None, Option, replicate, ap, ◌∙◌, subst, arith, rules}
use Rattle.std.proofs.lemmas.Nat.{one_shl}
use Rattle.growth.specs.Grown.{node_at, Holds}
use Rattle.growth.specs.declared.origin.Origin.{Origin}
use Rattle.rules.specs.Rules.{finish_state}
use Rattle.rules.specs.States.{ledger_rows}
use Rattle.histories.proofs.Continuing.{finish-continues, lives-on}
use Rattle.growth.proofs.Trees.{holds-root}
use Rattle.strings.specs.Strings.{string_at}
use Rattle.tree.specs.Meaning.{Hash, Code, hash_by, code_of}
use Rattle.signer.specs.Views.{making_of}
use Rattle.signer.proofs.Ledgers.{empty-fresh}
use Rattle.signer.proofs.Growing.{leaves-turn, leaves_all}
use Rattle.signer.proofs.maker.Maker.finish.Given as given
use Rattle.signer.proofs.maker.Maker.finish.Goals as goal
use Rattle.signer.proofs.maker.Maker.finish.Goals.{After-string_at-root}

pub loop-leaf-preserved : goal.loop-leaf-preserved
loop-leaf-preserved g c =
    let hash = hash_by g.H.ChainHash g.H.TreeHash in
    let code = code_of g.C.Code in
    let o = c.args.self.origin in
    let tall = c.args.self.tall in
    let shift = one_shl o.height 16 (omega arith) in
    let more : c.loop-leaf.leaf < 2 ^ o.height = omega (arith, c.loop-leaf-test.true) in (
      omega arith,
      omega arith,
      leaves-turn hash code o (2 ^ o.height) c.loop-leaf.leaf c.loop-leaf.nodes c.add_leaf.new.nodes more c.add_leaf.ensures.after ∙ c.loop-leaf.invariant.2,
      λ held. c.add_leaf.ensures.held (c.loop-leaf.invariant.3 held),
    )

module _ (g : given.Over) (c : After-string_at-root g) where
  abbrev hash : Hash
  hash = hash_by g.H.ChainHash g.H.TreeHash

  abbrev code : Code
  code = code_of g.C.Code

  abbrev o : Origin
  o = c.args.self.origin

  -- all leaves are in
  all : c.loop-leaf.leaf ≡ 2 ^ o.height
  all =
      let tall = c.args.self.tall in
      let shift = one_shl o.height 16 (omega arith) in
      omega (arith, c.loop-leaf-test.false, c.loop-leaf.invariant.0)

  -- so the string at level 0 is the root
  root_is : c.string_at-root.result ≡ node_at hash code o 0 0
  root_is = c.string_at-root.ensures ∙ holds-root hash code o c.loop-leaf.nodes (subst (λ n. Holds hash code o n c.loop-leaf.nodes) all (c.loop-leaf.invariant.3 c.args.self.holds))

  -- and the signer that is made of it, with an empty ledger, is that of the rule
  made : (rows : List (Option (List ℕ))) → rows ≡ replicate ledger_rows None → record { origin = o; root = c.string_at-root.result; next = 0; rows = rows } ≡ finish_state hash code (making_of c.args.self)
  made rows none =
      let last = leaves_all hash code o (2 ^ o.height) c.loop-leaf.leaf c.args.self.grown c.loop-leaf.nodes c.args.self.nodes all c.loop-leaf.invariant.2 in
      λ i. record { origin = o; root = (c.string_at-root.ensures ∙ ap (λ l. string_at l 0) last) i; next = 0; rows = none i }

pub returns : goal.returns
returns g c =
    let at = (goal.at.returns g c).After-string_at-root in
    let state = made g at c.empty.result.rows c.empty.ensures in
    record {
      state = state;
      lived = finish-continues (hash g at) (code g at) (making_of c.args.self) _ state;
      rooted = root_is g at;
      wiped = c.drop-guard.ensures;
    }

pub invariant_of-result : goal.invariant_of-result
invariant_of-result g c =
    let at = (goal.at.invariant_of-result g c).After-string_at-root in
    let state = made g at c.empty.result.rows c.empty.ensures in
    record {
      tall = c.args.self.tall;
      within = search rules;
      rooted = root_is g at;
      sized = search rules;
      fresh = λ i le. empty-fresh _ ledger_rows i c.empty.ensures;
      seeded = search rules;
      bytes = c.args.self.bytes;
      lived = lives-on (hash g at) (code g at) _ _ _ (finish-continues (hash g at) (code g at) (making_of c.args.self) _ state) c.args.self.lived;
    }
