use Rattle.std.proofs.Common.{◌≡◌, ◌+◌, ◌-◌, ◌/◌, ◌%◌, length, ap, sym, ◌∙◌, subst, arith, rules}
use Rattle.strings.proofs.Laws.{length-put_string}
use Rattle.tree.specs.Meaning.{hash_by, code_of}
use Rattle.tree.specs.Nodes.{parent_at}
use Rattle.growth.specs.Grown.{parameters, Holds, carry}
use Rattle.growth.proofs.Carries.{Comes, comes-first, stays, comes-above}
use Rattle.growth.proofs.Trees.{not_root, fills_up, carry-odd, carry-even}
use Rattle.growth.proofs.origin.Tree.add_leaf.Goals as goal

pub loop-position-init : goal.loop-position-init
loop-position-init g c =
    let first = comes-first (hash_by g.H.ChainHash g.H.TreeHash) (code_of g.C.Code) c.args.self.now.origin.now c.args.grown c.args.self.now.tall c.leaf_node-node.result c.args.nodes.now c.leaf_node-node.ensures in
    search (rules, first)

pub loop-position-preserved : goal.loop-position-preserved
loop-position-preserved g c =
    let hash = hash_by g.H.ChainHash g.H.TreeHash in
    let code = code_of g.C.Code in
    let o = c.args.self.now.origin.now in
    let grown = c.args.grown in
    let m = c.loop-position.position in
    let level = c.loop-position.level in
    let nodes = c.loop-position.nodes in
    let odd : m % 2 ≡ 1 = c.loop-position-test.true in
    let inv = c.loop-position.invariant in
    let some = not_root hash code o grown m level inv.0 inv.1 c.requires odd in
    let joined = c.parent-node.ensures ∙ (λ i. parent_at hash (c.parameters-parameters.ensures.value i) (level - 1) (c.string_at-left.ensures i) c.loop-position.node) in (
      omega arith,
      fills_up hash code o grown m level inv.0 inv.1 some odd,
      omega arith,
      omega arith,
      λ held.
          subst (λ s. Comes hash code o grown (level - 1) (m / 2) s c.put_string.new.bytes) (sym joined)
          (subst (Comes hash code o grown (level - 1) (m / 2) _) (sym c.put_string.ensures.after) (comes-above hash code o grown c.args.self.now.tall level m c.loop-position.node nodes (inv.4 held) some odd)),
      (λ i. carry (parent_at hash (parameters o)) (level - 1) (m / 2) (joined i) (c.put_string.ensures.after i))
          ∙ sym (carry-odd (parent_at hash (parameters o)) level m c.loop-position.node nodes some odd)
          ∙ inv.5,
    )

pub returns : goal.returns
returns g c =
    let hash = hash_by g.H.ChainHash g.H.TreeHash in
    let code = code_of g.C.Code in
    let o = c.args.self.now.origin.now in
    let m = c.loop-position.position in
    let level = c.loop-position.level in
    let nodes = c.loop-position.nodes in
    let inv = c.loop-position.invariant in
    let put = c.put_string-2.ensures.after ∙ sym (carry-even (parent_at hash (parameters o)) level m c.loop-position.node nodes c.loop-position-test.false) in
    record {
      long = ap length c.put_string-2.ensures.after ∙ length-put_string nodes level c.loop-position.node (omega arith) inv.2 ∙ inv.3;
      after = put ∙ inv.5;
      held = λ held. subst (Holds hash code o (c.args.grown + 1)) (sym put) (stays hash code o c.args.grown c.args.self.now.tall level m c.loop-position.node nodes (inv.4 held) inv.2 c.loop-position-test.false).1;
    }
