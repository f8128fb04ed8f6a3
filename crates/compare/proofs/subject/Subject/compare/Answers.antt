use Rattle.std.proofs.Common.{◌≡◌, sym, ◌∙◌, subst}
use Rattle.std.specs.Option.{option_or}
use Rattle.tree.specs.Meaning.{hash_by, code_of}
use Rattle.compare.specs.Found.{Found}
use Rattle.compare.specs.Search.{chosen, found}
use Rattle.compare.specs.Views.{traced_of}
use Rattle.compare.proofs.Leaves.{leaf-nodes, nodes-all}
use Rattle.compare.proofs.Nodes.{their-root}
use Rattle.compare.proofs.Searches.{found_first}
use Rattle.compare.proofs.subject.Subject.compare.Goals as goal

pub climb_to_root-root-requires : goal.climb_to_root-root-requires
climb_to_root-root-requires g c =
    let rows = c.compare_chains-chains.ensures in
    let leaf = leaf-nodes (hash_by g.H.ChainHash g.H.TreeHash) (code_of g.C.Code) (traced_of c.args.self.now) _ _ g.met.C.Code.level_range.1 rows.ours rows.theirs in
    record { ours = c.fold_both-leaf_node.ensures.ours ∙ leaf.0; theirs = c.fold_both-leaf_node.ensures.theirs ∙ leaf.1 }

pub returns : goal.returns
unfolding found
returns g c =
    let hash = hash_by g.H.ChainHash g.H.TreeHash in
    let code = code_of g.C.Code in
    let t = traced_of c.args.self.now in
    let rows = c.compare_chains-chains.ensures in
    let nodes =
    c.or.ensures
    ∙ (λ i. option_or (c.climb_to_root-root.ensures.find i) (c.fold_both-leaf_node.ensures.find i))
    ∙ nodes-all hash code t _ _ g.met.C.Code.level_range.1 rows.ours rows.theirs in
    let is : c.choose-verdict.result ≡ found hash code t = c.choose-verdict.ensures ∙ (λ i. chosen (nodes i) (rows.broken i) (rows.unrevealed i)) in
    record {
      root = c.climb_to_root-root.ensures.theirs ∙ sym (their-root hash code t c.args.self.now.there);
      verdict = is;
      first = subst (Found hash code t) (sym is) (found_first hash code t);
    }
