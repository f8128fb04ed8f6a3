use Rattle.std.proofs.Common.{rules, ◌≡◌, ◌↔◌, Ok, IsErr, subst}
use Rattle.schemes.specs.Names.{scheme_numbered, UnknownNumbers}
use Rattle.schemes.proofs.Numbered.{unknown-numbers}
use Rattle.schemes.proofs.scheme.Scheme.numbered.Goals as goal

pub returns-clause-unknown : goal.returns-clause-unknown
returns-clause-unknown c =
    let a = c.args.hash in
    let b = c.args.code in
    let known : scheme_numbered a b ≡ Ok (record { hash = c.in_ok-hash.hash; code = c.in_ok-code.code }) = search rules in
    subst (λ r. IsErr r ↔ UnknownNumbers a b) known (unknown-numbers a b)
