use Rattle.schemes.specs.Names.{hash_named, code_named}
use Rattle.orders.proofs.Reported.{opened-checked}
use Rattle.orders.proofs.checking.check_by.Goals as goal

pub returns-in-Ok : goal.returns-in-Ok
returns-in-Ok c = opened-checked (hash_named c.args.scheme.hash) (code_named c.args.scheme.code) _ c.in-Ok.key c.in-Ok.summary c.args.orders.now c.in-Ok.ensures
