use Rattle.std.proofs.Common.{arith}
use Rattle.std.proofs.lemmas.Grind.{common_steps}
use Rattle.std.proofs.lemmas.List.{take_rest}
use Rattle.records.proofs.key.hash_key.Goals as goal

pub returns : goal.returns
returns c = grind (arith, common_steps, take_rest)
