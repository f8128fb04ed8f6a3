use Rattle.std.proofs.Common.{ℕ, ◌+◌, ◌*◌, List, Option, sym, refl, ◌∙◌, arith}
use Rattle.strings.specs.Strings.{string_at}
use Rattle.tree.specs.Meaning.{hash_by}
use Rattle.tree.specs.Nodes.{parent_at}
use Rattle.tree.specs.Views.{parameters_of}
use Rattle.compare.specs.Search.{child_find}
use Rattle.compare.specs.declared.verdict.Find.{Find}
use Rattle.compare.proofs.Firsts.{first-none, first-after}
use Rattle.compare.proofs.Joined.{joined-more}
use Rattle.compare.proofs.pairs.join_level.Goals as goal

pub loop-place-init : goal.loop-place-init
loop-place-init g c = (((λ k h. absurd (omega arith)), (λ k h. refl)), ((λ k h. absurd (omega arith)), (λ k h. refl)), sym (first-none _ 0))

pub loop-place-preserved : goal.loop-place-preserved
loop-place-preserved g c =
    let hash = hash_by g.H.ChainHash g.H.TreeHash in
    let by = parameters_of c.args.parameters.now in
    let level = c.args.level in
    let p = c.loop-place.place in
    let inv = c.loop-place.invariant in
    let ours : ℕ → List ℕ = string_at c.args.ours.now in
    let theirs : ℕ → List ℕ = string_at c.args.theirs.now in
    let at : ℕ → Option Find = λ n. child_find hash by level (c.args.first + n) (ours (2 * n)) (ours (2 * n + 1)) (theirs (2 * n)) (theirs (2 * n + 1)) in
    let our = c.children_at-our_children.ensures in
    let their = c.children_at-their_children.ensures in
    let above = c.join_both-above.ensures in (
      joined-more (parent_at hash by level) ours (string_at c.loop-place.ours) (string_at c.put_string.new.bytes) p inv.0
          (cc)
          c.put_string.ensures.others,
      joined-more (parent_at hash by level) theirs (string_at c.loop-place.theirs) (string_at c.put_string-in-loop-place.new.bytes) p inv.1
          (cc)
          c.put_string-in-loop-place.ensures.others,
      c.or-found.ensures
          ∙ first-after at p _ _ inv.2
          (cc (inv.0.1 (2 * p) (omega arith), inv.0.1 (2 * p + 1) (omega arith), inv.1.1 (2 * p) (omega arith), inv.1.1 (2 * p + 1) (omega arith))),
    )
