use Rattle.std.proofs.Common.{◌≡◌, drop}
use Rattle.scripts.specs.Digits.{number_from, at_most, number_rule}
use Rattle.scripts.proofs.digits.number.Given as goal

abbrev pub invariant-loop-digit : goal.invariant-loop-digit
invariant-loop-digit l = number_rule l.most l.text ≡ at_most l.most (number_from l.value (drop l.digit-index l.text))
