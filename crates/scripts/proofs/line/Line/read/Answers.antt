use Rattle.std.proofs.Common.{rules, ◌≡◌}
use Rattle.scripts.specs.Lines.{not_a_call, words_line}
use Rattle.scripts.proofs.CallNames.{no-words}
use Rattle.scripts.proofs.line.Line.read.Goals as goal

pub returns-in_default-from_utf8 : goal.returns-in_default-from_utf8
returns-in_default-from_utf8 c =
    let none : words_line c.args.text.now ≡ not_a_call =
    no-words c.args.text.now (λ text. c.in_default-from_utf8.ensures.cases.0 (rw c.split.ensures.word text)) in
    search rules
