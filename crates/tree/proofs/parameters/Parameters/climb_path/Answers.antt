use Rattle.std.proofs.Common.{◌≡◌, ℕ, ◌+◌, ◌-◌, List, sym, ap, ◌∙◌, arith}
use Rattle.tree.specs.Meaning.{hash_by}
use Rattle.tree.specs.Nodes.{parent_at, above, climb}
use Rattle.tree.specs.Rows.{sibling_in}
use Rattle.tree.specs.Views.{parameters_of}
use Rattle.tree.proofs.Laws.{climb-turn, climb-root}
use Rattle.tree.proofs.parameters.Parameters.climb_path.Given as given
use Rattle.tree.proofs.parameters.Parameters.climb_path.Goals as goal
use Rattle.tree.proofs.parameters.Parameters.climb_path.Goals.{Start}

module _ (g : given.Over) (c : Start g) where
  abbrev parent : ℕ → List ℕ → List ℕ → List ℕ
  parent = parent_at (hash_by g.H.ChainHash g.H.TreeHash) (parameters_of c.args.self.now)

  abbrev sibling : ℕ → List ℕ
  sibling = sibling_in g.C.Code.COUNT c.args.self.now.height c.args.row.now

pub loop-level-preserved : goal.loop-level-preserved
loop-level-preserved g c =
    let at = (goal.at.loop-level-preserved g c).Start in
    let level = c.loop-level.level in
    let position = c.loop-level.position in
    let node = c.loop-level.node in
    let inv = c.loop-level.invariant in
    let some = c.loop-level-test.true in
    let up : level - 1 + 1 ≡ level = omega arith in
    let shown = c.sibling_in-sibling.ensures ∙ ap (sibling g at) up in (
      omega (arith, inv.0),
      climb-turn (parent g at) (sibling g at) (level - 1) level position node c.parent_above-node.result (omega arith)
          (c.parent_above-node.ensures ∙ ap (above (parent g at) (level - 1) position node) shown)
          ∙ inv.1,
    )

pub returns : goal.returns
returns g c =
    let at = (goal.at.returns g c).Start in
    let position = c.loop-level.position in
    let node = c.loop-level.node in
    let done : 0 ≡ c.loop-level.level = omega arith in
    sym (climb-root (parent g at) (sibling g at) position node)
    ∙ ap (λ a. climb (parent g at) (sibling g at) a position node) done
    ∙ c.loop-level.invariant.1
