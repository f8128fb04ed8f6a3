use Rattle.std.proofs.Common.{sym}
use Rattle.aes128.proofs.RoundKeys.{key_of_round-none, next-key_of_round}
use Rattle.aes128.proofs.key_schedule.last_round_key.Goals as goal

pub loop-n-init : goal.loop-n-init
loop-n-init c = sym (key_of_round-none c.args.key.now c.told-key)

pub loop-n-preserved : goal.loop-n-preserved
loop-n-preserved c =
    next-key_of_round c.args.key.now c.loop-n.round_key c.next_round_key-round_key.result c.loop-n.n c.loop-n.invariant c.next_round_key-round_key.ensures
