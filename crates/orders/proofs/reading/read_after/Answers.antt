use Rattle.std.proofs.Common.{arith}
use borrow.Rule.Slice.PartMut.{take_put}
use Rattle.orders.proofs.reading.read_after.Goals as goal

pub returns-clause-front : goal.returns-clause-front
returns-clause-front g c = take_put _ _ c.args.room.now _ (omega (arith, c.requires))
