use Rattle.std.proofs.Common.{false, rules}
use Rattle.std.proofs.Output.{has_written_of_eq}
use Rattle.std.proofs.lemmas.Fmt.{hex_byte}
use Rattle.strings.proofs.hex.write_byte.Goals as goal

pub returns : goal.returns
returns g c = λ plain ok. has_written_of_eq _ _ _ _ _ (hex_byte false c.args.byte (search rules)) (search rules)
