use Rattle.std.proofs.Common.{◌+◌, ◌-◌, ◌^◌, arith}
use Rattle.std.proofs.lemmas.Nat.{one_shl}
use Rattle.strings.specs.Strings.{string_at}
use Rattle.tree.specs.Meaning.{hash_by}
use Rattle.tree.specs.Nodes.{parent_at}
use Rattle.tree.specs.Views.{parameters_of}
use Rattle.tree.proofs.Laws.{fold-none, fold_more, double-pow}
use Rattle.tree.proofs.parameters.Parameters.fold.Goals as goal

pub loop-depth-init : goal.loop-depth-init
loop-depth-init g c =
    (omega arith, λ k h. fold-none (parent_at (hash_by g.H.ChainHash g.H.TreeHash) (parameters_of c.args.self.now)) (string_at c.args.row.now) (c.args.level + c.args.levels) c.args.levels k)

pub fold_level-requires : goal.fold_level-requires
fold_level-requires g c =
    let depth = c.loop-depth.depth in
    record {
      masked = omega arith;
      within = omega (arith, one_shl (depth - 1) 64 (omega arith), double-pow (depth - 1) c.args.levels (omega arith));
    }

pub loop-depth-preserved : goal.loop-depth-preserved
loop-depth-preserved g c =
    let depth = c.loop-depth.depth in (
      omega arith,
      fold_more (parent_at (hash_by g.H.ChainHash g.H.TreeHash) (parameters_of c.args.self.now)) (string_at c.args.row.now)
          (string_at c.loop-depth.row) (string_at c.fold_level.new.row) (2 ^ (depth - 1)) (2 ^ depth)
          (c.args.level + (depth - 1)) (c.args.levels - depth) (c.args.level + depth) (c.args.levels - (depth - 1))
          (omega arith) (omega arith) (double-pow (depth - 1) depth (omega arith))
          c.loop-depth.invariant.1
          (λ k h. c.fold_level.ensures k (omega (arith, one_shl (depth - 1) 64 (omega arith)))),
    )
