use Rattle.std.proofs.Common.{refl}
use Rattle.strings.specs.Strings.{string_at}
use Rattle.tree.proofs.Laws.{one-time-none}
use Rattle.tree.proofs.chains.fill_one_time_strings.Goals as goal

pub loop-chain-init : goal.loop-chain-init
loop-chain-init g c = (refl, one-time-none (g.H.ChainHash.steps c.args.key.now) g.C.Code.TOP (g.C.Code.digits c.args.stamp.now) (string_at c.args.shown.now))
