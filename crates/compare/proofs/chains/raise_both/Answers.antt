use Rattle.std.proofs.Common.{◌≡◌, ℕ, ◌+◌, ◌-◌, Option, sym, ap, ◌∙◌, arith}
use Rattle.std.specs.Option.{option_or}
use Rattle.tree.specs.Nodes.{raise}
use Rattle.tree.proofs.Laws.{raise-none, raise-more}
use Rattle.compare.specs.Search.{last_from, step_find}
use Rattle.compare.specs.declared.verdict.Find.{Find}
use Rattle.compare.proofs.Firsts.{last_none, last_more}
use Rattle.compare.proofs.chains.raise_both.Goals as goal

pub loop-height-init : goal.loop-height-init
loop-height-init g c =
    let step = g.H.ChainHash.steps c.args.key.now in
    let none : 0 ≡ c.args.from - c.args.from = omega arith in (
      sym (raise-none step _) ∙ ap (λ n. raise step n c.args.start.now.ours) none,
      sym (raise-none step _) ∙ ap (λ n. raise step n c.args.start.now.theirs) none,
      sym (last_none _ _) ∙ ap (last_from _ c.args.from) none,
    )

pub loop-height-preserved : goal.loop-height-preserved
loop-height-preserved g c =
    let step = g.H.ChainHash.steps c.args.key.now in
    let from = c.args.from in
    let e = c.loop-height.height in
    let ours = c.args.start.now.ours in
    let theirs = c.args.start.now.theirs in
    let at : ℕ → Option Find = λ n. step_find step c.args.chain n (raise step (n - from) ours) (raise step (n - from) theirs) in
    let inv = c.loop-height.invariant in
    let low = c.loop-height.auto.height in
    let more : (e - from) + 1 ≡ e + 1 - from = omega arith in
    let here : e ≡ from + (e - from) = omega arith in (
      cc (raise-more step (e - from) ours),
      cc (raise-more step (e - from) theirs),
      c.or-find.ensures
          ∙ (λ i. option_or ((c.step_both-above.ensures.find ∙ (λ j. step_find step c.args.chain e (inv.0 j) (inv.1 j)) ∙ ap at here) i) (inv.2 i))
          ∙ sym (last_more at from (e - from))
          ∙ ap (last_from at from) more,
    )
