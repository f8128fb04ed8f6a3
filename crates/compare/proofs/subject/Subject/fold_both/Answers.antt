use Rattle.std.proofs.Common.{◌≡◌, ℕ, ◌+◌, ◌-◌, ◌*◌, ◌%◌, ◌^◌, List, Option, sym, ap, ◌∙◌, subst, mod-eq_of_lt, arith, pow_pos, pow_mono}
use Rattle.std.proofs.lemmas.Nat.{one_shl}
use Rattle.strings.specs.Strings.{string_at}
use Rattle.tree.specs.Meaning.{hash_by}
use Rattle.tree.specs.Nodes.{parent_at}
use Rattle.growth.specs.Grown.{parameters}
use Rattle.tree.proofs.Laws.{double-pow}
use Rattle.compare.specs.Search.{first_from, child_find, depth_search}
use Rattle.compare.specs.declared.verdict.Find.{Find}
use Rattle.compare.proofs.Firsts.{first-none, first-before}
use Rattle.compare.proofs.Joined.{places-fit, Level, level-first, level-above, depth-from}
use Rattle.compare.proofs.subject.Subject.fold_both.Goals as goal

pub loop-depth-init : goal.loop-depth-init
loop-depth-init g c =
    let o = c.args.self.now.tree.origin.now in
    let hash = hash_by g.H.ChainHash g.H.TreeHash in
    let parent = parent_at hash (parameters o) in
    let levels = g.C.Code.LEVELS in (
      omega (arith, c.LEVELS-depth.ensures),
      omega arith,
      omega arith,
      level-first parent o.height levels (string_at c.args.ours.now) _ c.LEVELS-depth.ensures,
      level-first parent o.height levels (string_at c.args.theirs.now) _ c.LEVELS-depth.ensures,
      sym (first-none _ _) ∙ ap (first_from _ _) (omega (arith, c.LEVELS-depth.ensures)),
    )

pub join_level-find-requires : goal.join_level-find-requires
join_level-find-requires g c =
    let s = c.args.self.now in
    let depth = c.loop-depth.depth in
    let tall = s.tree.tall in
    let few = g.met.C.Code.level_range.1 in
    let low = c.loop-depth.invariant.0 in
    let some = c.loop-depth-test.true in
    let long = c.parameters-parameters.ensures.long in
    let one = one_shl (depth - 1) 64 (omega arith) in
    let twice = double-pow (depth - 1) g.C.Code.LEVELS (omega arith) in
    let most = pow_mono few in
    let places = places-fit s.tree.origin.now.height (depth - 1) s.leaf s.there tall (omega arith) in
    let whole : (s.leaf * 2 ^ (depth - 1)) % 65536 ≡ s.leaf * 2 ^ (depth - 1) = mod-eq_of_lt (omega (arith, pow_pos (depth - 1))) in
    record {
      masked = omega arith;
      few = omega arith;
      ours = omega (arith, c.loop-depth.invariant.1);
      theirs = omega (arith, c.loop-depth.invariant.2);
      places = omega arith;
    }

pub loop-depth-preserved : goal.loop-depth-preserved
loop-depth-preserved g c =
    let s = c.args.self.now in
    let o = s.tree.origin.now in
    let h = o.height in
    let hash = hash_by g.H.ChainHash g.H.TreeHash in
    let parent = parent_at hash (parameters o) in
    let by = c.parameters-parameters.ensures.value in
    let levels = g.C.Code.LEVELS in
    let ours : ℕ → List ℕ = string_at c.args.ours.now in
    let theirs : ℕ → List ℕ = string_at c.args.theirs.now in
    let row : ℕ → List ℕ = string_at c.loop-depth.ours in
    let row' : ℕ → List ℕ = string_at c.loop-depth.theirs in
    let below = c.loop-depth.depth - 1 in
    let inv = c.loop-depth.invariant in
    let some = c.loop-depth-test.true in
    let low = inv.0 in
    let few = g.met.C.Code.level_range.1 in
    let one = one_shl below 64 (omega arith) in
    let places = places-fit h below s.leaf s.there s.tree.tall (omega arith) in
    let whole : (s.leaf * 2 ^ below) % 65536 ≡ s.leaf * 2 ^ below = mod-eq_of_lt (omega (arith, pow_pos below)) in
    let up : c.loop-depth.depth ≡ below + 1 = omega arith in
    let our = subst (λ n. Level parent h levels ours n row) up inv.3 in
    let their = subst (λ n. Level parent h levels theirs n row') up inv.4 in
    let finds : ℕ → Option Find = depth_search hash (parameters o) s.leaf levels ours theirs in (
      omega arith,
      omega arith,
      omega arith,
      level-above parent h levels ours below row _ (omega arith) our (λ k lt. cc (c.join_level-find.ensures.ours k (omega arith))),
      level-above parent h levels theirs below row' _ (omega arith) their (λ k lt. cc (c.join_level-find.ensures.theirs k (omega arith))),
      c.or-found.ensures
          ∙ first-before finds below c.loop-depth.depth (levels - c.loop-depth.depth) (levels - below) _ _ (sym up) (omega arith)
          (c.join_level-find.ensures.find
          ∙ (λ i. first_from (λ p. child_find hash (by i) (h + below) (whole i + p) (row (2 * p)) (row (2 * p + 1)) (row' (2 * p)) (row' (2 * p + 1))) 0 (one i))
          ∙ depth-from hash (parameters o) s.leaf levels below ours theirs row row' our their)
          inv.5,
    )
