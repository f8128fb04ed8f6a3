use Rattle.std.proofs.Common.{◌≡◌, take}
use Rattle.scripts.specs.Hex.{hex_bytes}
use Rattle.scripts.proofs.Texts.{following}
use Rattle.scripts.proofs.hex.fill.Given as goal

abbrev pub invariant-loop-place : goal.invariant-loop-place
invariant-loop-place l = hex_bytes l.fn.text ≡ following (take l.place-index l.out) (hex_bytes l.text)
