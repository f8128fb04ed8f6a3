use Rattle.std.proofs.Common.{◌≡◌, length, take}
use Rattle.std.specs.List.{flat_map}
use Rattle.growth.specs.Grown.{held_levels}
use Rattle.scripts.specs.Replies.{held_in, held_below}
use Rattle.signer.specs.Views.{making_of}
use Rattle.scripts.proofs.session.maker_calls.held_nodes.Given as goal

abbrev pub invariant-loop-level : goal.invariant-loop-level
invariant-loop-level g l = (length l.nodes ≡ held_levels) × (flat_map held_in (take l.level l.nodes) ≡ held_below (making_of l.maker) l.level)
