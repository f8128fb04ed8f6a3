use Rattle.std.proofs.Common.{rules}
use Rattle.std.proofs.lemmas.Slice.{overwrites}
use Rattle.strings.proofs.put.Goals as goal

pub returns-clause-back : goal.returns-clause-back
returns-clause-back c = search (rules, overwrites)
