use Rattle.std.proofs.Common.{◌≡◌, ◌/◌, length, ap, ◌∙◌, arith, rules}
use Rattle.std.specs.Simd.{first_chunks}
use Rattle.std.proofs.lemmas.Iterator.{YieldsList-from_slice, YieldsList-from_zip}
use Rattle.std.proofs.lemmas.Iterator.Consumers.{fold_from_yields_List}
use Rattle.sha256.specs.Compress.{rounds_of}
use Rattle.sha256.specs.Constants.{round_words}
use Rattle.sha256.proofs.Rounds.{rounds-fours}
use Rattle.sha256.proofs.compress.rounds.Goals as goal

pub returns : goal.returns
returns c =
    let w = c.args.schedule.now in
    let long : length w ≡ 64 = search rules in
    let constants : c.as_chunks.result.0.now ≡ first_chunks 4 16 round_words = c.as_chunks.ensures.front in
    let words : c.as_chunks-2.result.0.now ≡ first_chunks 4 16 w = c.as_chunks-2.ensures.front ∙ ap (λ n. first_chunks 4 (n / 4) w) long in
    fold_from_yields_List _ (λ r p. rounds_of r p.0 p.1) c.args.start c.fold.result c.fold.ensures.ran
    (YieldsList-from_zip (YieldsList-from_slice (first_chunks 4 16 round_words) (search (rules, constants))) (YieldsList-from_slice (first_chunks 4 16 w) (search (rules, words))))
    (λ a x b q k. search rules)
    ∙ rounds-fours 16 0 c.args.start w long (omega arith)
