use Rattle.std.proofs.Common.{◌≡◌, ℕ, ◌+◌, ◌-◌, ap, ◌∙◌, arith}
use Rattle.tree.specs.Meaning.{hash_by, code_of}
use Rattle.tree.specs.Nodes.{raise}
use Rattle.growth.specs.Grown.{secret}
use Rattle.growth.proofs.Leads.{raise-add}
use Rattle.compare.specs.Search.{last_from, step_find, chain_find_at}
use Rattle.compare.specs.Sides.{our_chain, their_chain}
use Rattle.compare.specs.Views.{traced_of}
use Rattle.compare.proofs.Firsts.{last-same}
use Rattle.compare.proofs.subject.Subject.compare_chain.Goals as goal

pub returns : goal.returns
returns g c =
    let hash = hash_by g.H.ChainHash g.H.TreeHash in
    let code = code_of g.C.Code in
    let t = traced_of c.args.self.now in
    let step = hash.step t.origin.hash_key in
    let k = c.args.chain in
    let d = code.digit t.stamp k in
    let is : c.digit_of-digit.result ≡ d = c.digit_of-digit.ensures.value in
    let top : c.TOP.result ≡ code.top = c.TOP.ensures in
    let low = c.digit_of-digit.ensures.within in
    let ours : c.chain_string-ours.result ≡ our_chain hash code t k d = c.chain_string-ours.ensures ∙ ap (our_chain hash code t k) is in
    let rises : (e : ℕ) → raise step e (our_chain hash code t k d) ≡ our_chain hash code t k (e + d) = λ e. raise-add step e d (secret hash t.origin t.leaf k) in
    let end : (code.top - d) + d ≡ code.top = omega arith in
    record {
      ours = cc (rises (code.top - d));
      theirs = cc;
      broken =
          c.raise_both-top.ensures.find
          ∙ (λ i. last_from (λ e. step_find step k e (raise step (e - is i) (ours i)) (raise step (e - is i) (c.chain_in-theirs.ensures i))) (is i) (top i - is i))
          ∙ last-same _ (chain_find_at hash code t k) d (code.top - d)
          (λ e below.
          let back : (d + e - d) + d ≡ d + e = omega arith in
          ap (λ s. step_find step k (d + e) s (their_chain hash code t k (d + e))) (rises (d + e - d) ∙ ap (our_chain hash code t k) back));
      unrevealed = cc;
    }
