use Rattle.std.proofs.Common.{◌-◌}
use Rattle.growth.proofs.origin.Tree.+grow_node.Given as goal

abbrev pub decreases-grow_node : goal.decreases-grow_node
decreases-grow_node g l = l.self.now.origin.now.height - l.level
