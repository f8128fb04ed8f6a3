use Rattle.std.proofs.Common.{◌+◌, Some, None, ap, ◌∙◌}
use Rattle.std.proofs.lemmas.List.{take_rest}
use Rattle.scripts.proofs.Texts.{word-cut}
use Rattle.scripts.proofs.words.Words.split.Goals as goal

pub returns-in-Some : goal.returns-in-Some
returns-in-Some c =
    let xs = c.args.text.now in
    let i = c.in-Some.at in
    let cut = word-cut xs (Some i) c.in-Some.ensures in
    record { word = cut.0; rest = ap Some (take_rest xs (i + 1)) ∙ cut.1 }

pub returns-in-None : goal.returns-in-None
returns-in-None c =
    let cut = word-cut c.args.text.now None c.in-None.ensures in
    record { word = cut.0; rest = cut.1 }
