use Rattle.std.proofs.Common.{ℕ, ◌+◌, ◌*◌, ◌^◌, List, ap, ◌∙◌, zero-mul, arith, pow_mono}
use Rattle.strings.specs.Strings.{string_at}
use Rattle.tree.specs.Meaning.{hash_by}
use Rattle.tree.specs.Nodes.{parent_at, node, climb, one_time}
use Rattle.tree.specs.Rows.{chain_in, sibling_in}
use Rattle.tree.specs.Views.{parameters_of}
use Rattle.tree.proofs.Laws.{node-moved}
use Rattle.tree.proofs.parameters.Parameters.rebuild_root.Goals as goal

pub returns : goal.returns
returns g c =
    let row = c.args.row.now in
    let h = c.args.self.now.height in
    let levels = g.C.Code.LEVELS in
    let parent : ℕ → List ℕ → List ℕ → List ℕ = parent_at (hash_by g.H.ChainHash g.H.TreeHash) (parameters_of c.args.self.now) in
    let bottom : ℕ → List ℕ = one_time (g.H.ChainHash.steps c.args.self.now.hash_key.now) g.C.Code.COUNT g.C.Code.TOP (g.C.Code.digits c.args.stamp.now) (chain_in row) in
    let held : ℕ → List ℕ = string_at c.fill_one_time_strings.new.row in
    c.climb_path.ensures
    ∙ ap (climb parent (sibling_in g.C.Code.COUNT h row) h c.args.leaf)
    (c.fold-start.ensures ∙ ap (λ n. node parent held h n 0) c.LEVELS.ensures ∙ node-moved parent held bottom h levels 0 0 (λ k lt. c.fill_one_time_strings.ensures.strings (0 * 2 ^ levels + k) (omega (arith, zero-mul (2 ^ levels), pow_mono g.met.C.Code.level_range.1))))
