use Rattle.std.proofs.Common.{sym, ◌∙◌, arith}
use Rattle.scripts.proofs.Texts.{number-past}
use Rattle.scripts.proofs.digits.number.Goals as goal

pub returns-in_err-checked_mul-clause-value : goal.returns-in_err-checked_mul-clause-value
returns-in_err-checked_mul-clause-value c =
    c.from_residual-in_err-checked_mul.ensures
    ∙ number-past c.args.most c.loop-digit.value c.args.text.now c.loop-digit.digit-index c.loop-digit-test.true (omega (arith, c.in_err-checked_mul.ensures))
    ∙ sym c.loop-digit.invariant

pub returns-in_err-value-clause-value : goal.returns-in_err-value-clause-value
returns-in_err-value-clause-value c =
    c.from_residual-in_err-value.ensures
    ∙ number-past c.args.most c.loop-digit.value c.args.text.now c.loop-digit.digit-index c.loop-digit-test.true (omega (arith, c.in_ok-digit.ensures.cases, c.in_ok-checked_mul.ensures, c.in_err-value.ensures))
    ∙ sym c.loop-digit.invariant
