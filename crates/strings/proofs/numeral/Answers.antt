use Rattle.std.proofs.Common.{◌≡◌, ◌∙◌, rules}
use Rattle.strings.specs.Strings.{numeral}
use Rattle.strings.proofs.Laws.{numeral-injective}
use Rattle.strings.proofs.numeral.Goals as goal

pub returns : goal.returns
unfolding numeral
returns c =
    let is : c.to_le_bytes.result ≡ numeral c.args.n = search rules in
    record { value = is; known = λ m h e. numeral-injective m c.args.n h (search rules) (e ∙ is) }
