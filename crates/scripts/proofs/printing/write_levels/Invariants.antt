use Rattle.std.proofs.Common.{take}
use Rattle.std.specs.Fmt.{HasWritten, IsPlainFormatter}
use Rattle.std.specs.List.{flat_map}
use Rattle.scripts.specs.Replies.{held_in}
use Rattle.scripts.specs.Texts.{nodes_text}
use Rattle.scripts.proofs.printing.write_levels.Given as goal

abbrev pub invariant-loop-level : goal.invariant-loop-level
invariant-loop-level g l =
    IsPlainFormatter l.initial.f
    → HasWritten g.W.Write.write_str_gives l.initial.f (nodes_text (flat_map held_in (take l.level-index l.levels))) l.f
