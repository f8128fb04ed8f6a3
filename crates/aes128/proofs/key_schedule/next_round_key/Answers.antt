use Rattle.std.proofs.Common.{rules}
use Rattle.aes128.specs.Pieces.{next_key}
use Rattle.aes128.proofs.key_schedule.next_round_key.Goals as goal

pub returns : goal.returns
unfolding next_key
returns c = search rules
