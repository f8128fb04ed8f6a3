use Rattle.std.proofs.Common.{◌≡◌}
use Rattle.aes128.specs.Schedule.{key_of_round}
use Rattle.aes128.specs.Cipher.{rounds}
use Rattle.aes128.proofs.cipher.encrypt.Given as goal

abbrev pub invariant-loop-n : goal.invariant-loop-n
invariant-loop-n l = (l.round_key ≡ key_of_round l.key l.n) × (l.state ≡ rounds l.key l.block l.n)
