use Rattle.std.proofs.Common.{◌≡◌, ◌-◌, sym, refl, ap, ◌∙◌, arith}
use Rattle.strings.specs.Strings.{string_at}
use Rattle.tree.specs.Meaning.{hash_by, code_of}
use Rattle.tree.specs.Nodes.{raise}
use Rattle.tree.specs.Rows.{most_places}
use Rattle.tree.proofs.Laws.{one-time-none, one-time-more}
use Rattle.growth.specs.Grown.{secret}
use Rattle.compare.specs.Search.{height_search, unrevealed_find_at}
use Rattle.compare.specs.Views.{traced_of}
use Rattle.compare.proofs.Firsts.{first-none, first-after}
use Rattle.compare.proofs.subject.Subject.compare_chains.Goals as goal

pub loop-place-init : goal.loop-place-init
loop-place-init g c =
    let hash = hash_by g.H.ChainHash g.H.TreeHash in
    let code = code_of g.C.Code in
    let t = traced_of c.args.self.now in
    let step = hash.step t.origin.hash_key in (
      refl,
      refl,
      one-time-none step code.top (λ j. 0) (secret hash t.origin t.leaf),
      one-time-none step code.top (code.digit t.stamp) (string_at t.row),
      sym (first-none (height_search hash code t) 0),
      sym (first-none (unrevealed_find_at hash code t) 0),
    )

pub loop-place-preserved : goal.loop-place-preserved
loop-place-preserved g c =
    let hash = hash_by g.H.ChainHash g.H.TreeHash in
    let code = code_of g.C.Code in
    let t = traced_of c.args.self.now in
    let step = hash.step t.origin.hash_key in
    let k = c.loop-place.place in
    let inv = c.loop-place.invariant in
    let chain = c.compare_chain-chain.ensures in
    let top : code.top ≡ code.top - 0 = omega arith in (
      omega arith,
      omega arith,
      one-time-more step code.top (λ j. 0) (secret hash t.origin t.leaf) most_places k c.loop-place.ours c.put_string.new.bytes inv.2
          (c.put_string.ensures.here ∙ chain.ours ∙ ap (λ e. raise step e (secret hash t.origin t.leaf k)) top)
          c.put_string.ensures.others,
      one-time-more step code.top (code.digit t.stamp) (string_at t.row) most_places k c.loop-place.theirs c.put_string-in-loop-place.new.bytes inv.3
          (c.put_string-in-loop-place.ensures.here ∙ chain.theirs)
          c.put_string-in-loop-place.ensures.others,
      c.or-broken.ensures ∙ first-after (height_search hash code t) k _ _ inv.4 chain.broken,
      c.or-unrevealed.ensures ∙ first-after (unrevealed_find_at hash code t) k _ _ inv.5 chain.unrevealed,
    )
