-- All examples hold, group by group.
use Rattle.std.proofs.Common.{◌≡◌, ℕ, ◌++◌, List, replicate, get_or, refl, ap, arith, rules}
use Rattle.std.proofs.ByRecursion.{All-append}
use Rattle.examples.specs.Examples.{IsRight, hashing, coding, measuring, skipping, tracing, examples}
use Rattle.strings.specs.Strings.{IsString, zero_string}
use Rattle.codes.specs.Codes.{Apart}
use Rattle.examples.specs.Constant.{blind}
use Rattle.examples.proofs.Answered.{hashing-right, coding-right, measuring-right, skipping-right}
use Rattle.examples.proofs.Traced.{tracing-right}
use Rattle.examples.proofs.worked_examples.Goals as goal

-- of two stamps, neither has a smaller digit than the other
lawless : (f : ℕ → ℕ) → Apart (blind f) → ⊥
lawless f apart =
    let ones : List ℕ = replicate 16 1 in
    let str : IsString zero_string = search rules in
    let str' : IsString ones = search rules in
    let found = apart zero_string ones str str' (λ e. let first : ◌≡◌ {A = ℕ} 0 1 = ap (λ s. get_or s 0 0) e in absurd (omega arith)) in
    absurd (omega (arith, found.1))

pub returns : goal.returns
unfolding examples
returns c =
    record {
      count = refl;
      lawless = lawless;
      stated = record { hash = refl; first = refl; second = refl; third = refl };
      worked =
          All-append IsRight hashing (coding ++ (measuring ++ (skipping ++ tracing))) hashing-right
          (All-append IsRight coding (measuring ++ (skipping ++ tracing)) coding-right
          (All-append IsRight measuring (skipping ++ tracing) measuring-right (All-append IsRight skipping tracing skipping-right tracing-right)));
    }
