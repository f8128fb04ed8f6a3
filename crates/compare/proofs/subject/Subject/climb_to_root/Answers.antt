use Rattle.std.proofs.Common.{◌≡◌, ◌+◌, ◌-◌, ◌/◌, ◌^◌, sym, ap, ◌∙◌, arith}
use native.Mathlib.Nat.{div-eq_of_lt}
use Rattle.std.proofs.lemmas.Nat.{shr-shr}
use Rattle.tree.specs.Meaning.{hash_by, code_of}
use Rattle.compare.specs.Search.{first_from, node_find_at, level_search}
use Rattle.compare.specs.Views.{traced_of}
use Rattle.compare.proofs.Beside.{level-one}
use Rattle.compare.proofs.Firsts.{first-none, first-before}
use Rattle.compare.proofs.subject.Subject.climb_to_root.Goals as goal

pub loop-level-init : goal.loop-level-init
loop-level-init g c =
    let t = traced_of c.args.self.now in
    let h = t.origin.height in
    let none : 0 ≡ h - h = omega arith in (
      omega arith,
      (let whole : t.leaf ≡ t.leaf / 2 ^ 0 = omega arith in whole) ∙ ap (λ n. t.leaf / 2 ^ n) none,
      c.requires.ours,
      c.requires.theirs,
      sym (first-none _ h) ∙ ap (first_from _ h) none,
    )

pub climb_one-above-requires : goal.climb_one-above-requires
climb_one-above-requires g c =
    let some = c.loop-level-test.true in
    let inv = c.loop-level.invariant in
    let up : c.loop-level.level ≡ c.loop-level.level - 1 + 1 = omega arith in
    record { under = omega (arith, inv.0); place = cc; ours = cc; theirs = cc }

pub loop-level-preserved : goal.loop-level-preserved
loop-level-preserved g c =
    let hash = hash_by g.H.ChainHash g.H.TreeHash in
    let code = code_of g.C.Code in
    let t = traced_of c.args.self.now in
    let h = t.origin.height in
    let level = c.loop-level.level in
    let a = level - 1 in
    let some = c.loop-level-test.true in
    let inv = c.loop-level.invariant in
    let up : level ≡ a + 1 = omega arith in
    let far : h - level + 1 ≡ h - a = omega (arith, inv.0) in
    let half : c.loop-level.position / 2 ≡ t.leaf / 2 ^ (h - a) = ap (λ n. n / 2) inv.1 ∙ shr-shr t.leaf (h - level) 1 ∙ ap (λ n. t.leaf / 2 ^ n) far in
    let above = c.climb_one-above.ensures in (
      omega (arith, inv.0),
      half,
      above.ours,
      above.theirs,
      c.or-find.ensures
          ∙ first-before (level_search hash code t) a level (h - level) (h - a) _ _ (sym up) far
          (above.find ∙ ap (node_find_at hash code t a) half ∙ level-one hash code t a (omega (arith, inv.0)))
          inv.4,
    )

pub returns : goal.returns
returns g c =
    let h = c.args.self.now.tree.origin.now.height in
    let inv = c.loop-level.invariant in
    let root : c.loop-level.level ≡ 0 = omega arith in
    let all : h - c.loop-level.level ≡ h = omega (arith, root) in
    let first : c.loop-level.position ≡ 0 = cc (div-eq_of_lt c.args.self.now.there) in
    record { ours = cc; theirs = cc; find = cc }
