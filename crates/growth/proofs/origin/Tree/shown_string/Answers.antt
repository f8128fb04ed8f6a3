use Rattle.std.proofs.Common.{◌≡◌, ◌-◌, ◌/◌, ◌^◌, ◌<◌, subst, arith}
use Rattle.growth.specs.Shown.{sibling_of}
use Rattle.growth.proofs.Paths.{sibling-below}
use Rattle.growth.proofs.origin.Tree.shown_string.Goals as goal

pub grow_node-requires : goal.grow_node-requires
grow_node-requires g c =
    let h = c.args.self.now.origin.now.height in
    let level = c.sibling_level-level.result in
    let is : level ≡ h - (c.args.place - g.C.Code.COUNT) = c.sibling_level-level.ensures in
    let low : h - level < h = omega (arith, c.requires.within, c.if-place-COUNT.false, c.COUNT.ensures) in
    let back : h - (h - level) ≡ level = omega arith in
    let there = subst (λ n. sibling_of (c.args.leaf / 2 ^ (h - level)) < 2 ^ n) back (sibling-below h (h - level) c.args.leaf c.requires.there low) in
    record {
      within = omega arith;
      there = omega (arith, c.sibling.ensures, there);
    }
