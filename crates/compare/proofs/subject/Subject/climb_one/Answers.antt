use Rattle.std.proofs.Common.{◌≡◌, ◌+◌, ◌-◌, ◌/◌, ◌^◌, sym, ap, ◌∙◌, arith}
use Rattle.std.proofs.lemmas.Nat.{shr-shr}
use Rattle.tree.specs.Meaning.{hash_by, code_of}
use Rattle.tree.specs.Nodes.{parent_at}
use Rattle.growth.specs.Shown.{sibling_of}
use Rattle.growth.proofs.Paths.{shr-none, sibling-below}
use Rattle.growth.proofs.Trees.{node-up}
use Rattle.compare.specs.Search.{child_find}
use Rattle.compare.specs.Sides.{our_node, their_node}
use Rattle.compare.specs.Views.{traced_of}
use Rattle.compare.proofs.Agreeing.{their-sibling}
use Rattle.compare.proofs.Beside.{left-child, right_child}
use Rattle.compare.proofs.Nodes.{their-parent}
use Rattle.compare.proofs.subject.Subject.climb_one.Goals as goal

pub grow_node-our_sibling-requires : goal.grow_node-our_sibling-requires
grow_node-our_sibling-requires g c =
    let h = c.args.self.now.tree.origin.now.height in
    let d = h - (c.args.level + 1) in
    let up : h - d ≡ c.args.level + 1 = omega (arith, c.requires.under) in
    let below = sibling-below h d c.args.self.now.leaf c.args.self.now.there (omega (arith, c.requires.under)) in
    record {
      within = omega (arith, c.requires.under);
      there = omega (arith, c.sibling.ensures, ap sibling_of c.requires.place, below, ap (λ n. 2 ^ n) up);
    }

pub returns : goal.returns
returns g c =
    let hash = hash_by g.H.ChainHash g.H.TreeHash in
    let code = code_of g.C.Code in
    let t = traced_of c.args.self.now in
    let h = t.origin.height in
    let a = c.args.level in
    let position = c.args.position in
    let b = position / 2 in
    let under = c.requires.under in
    let ours = our_node hash code t (a + 1) in
    let theirs = their_node hash code t (a + 1) in
    let our-beside : c.grow_node-our_sibling.result ≡ ours (sibling_of position) = c.grow_node-our_sibling.ensures ∙ ap ours c.sibling.ensures in
    let e = h - (a + 1) in
    let level : h - e ≡ a + 1 = omega arith in
    let their-beside : c.sibling_in-their_sibling.result ≡ theirs (sibling_of position) =
    c.sibling_in-their_sibling.ensures ∙ sym (their-sibling hash code t e (omega arith)) ∙ (λ i. their_node hash code t (level i) (sibling_of (sym c.requires.place i))) in
    let l = c.in_order-our_children.ensures.left ∙ left-child ours position _ _ c.requires.ours our-beside in
    let r = c.in_order-our_children.ensures.right ∙ right_child ours position _ _ c.requires.ours our-beside in
    let l' = c.in_order-their_children.ensures.left ∙ left-child theirs position _ _ c.requires.theirs their-beside in
    let r' = c.in_order-their_children.ensures.right ∙ right_child theirs position _ _ c.requires.theirs their-beside in
    let half : b ≡ t.leaf / 2 ^ (h - a) = ap (λ n. n / 2) c.requires.place ∙ shr-shr t.leaf (h - (a + 1)) 1 ∙ ap (λ n. t.leaf / 2 ^ n) (omega arith) in
    let near : b / 2 ^ (a - h) ≡ t.leaf / 2 ^ (h - a) = shr-none b (a - h) (omega arith) ∙ half in
    let by = c.parameters-parameters.ensures.value in
    record {
      ours = c.join_both.ensures.ours ∙ (λ i. parent_at hash (by i) a (l i) (r i)) ∙ sym (node-up hash code t.origin a b (omega arith));
      theirs = c.join_both.ensures.theirs ∙ (λ i. parent_at hash (by i) a (l' i) (r' i)) ∙ sym (their-parent hash code t a b (omega arith) near);
      find = c.join_both.ensures.find ∙ (λ i. child_find hash (by i) a b (l i) (r i) (l' i) (r' i));
    }
