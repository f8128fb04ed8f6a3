use Rattle.std.proofs.Common.{◌≡◌, ℕ, ◌/◌, ◌≤◌, List, length, take, sym, ap, ◌∙◌, arith, length-take-le}
use Rattle.scripts.specs.Hex.{hex_of, hex_bytes}
use Rattle.scripts.specs.Sizes.{longest_line, longest_record}
use Rattle.scripts.proofs.Texts.{hex-odd, hex-half}
use Rattle.scripts.proofs.hex.bytes.Goals as goal

-- half as many bytes as the text has digits are there for it
in-half : (xs store : List ℕ) → length xs ≤ longest_line → length store ≡ longest_record → hex_of (length (take (length xs / 2) store)) xs ≡ hex_bytes xs
in-half xs store short long = ap (λ n. hex_of n xs) (length-take-le (length xs / 2) store (omega arith)) ∙ hex-half xs

pub returns-then-text-ne0 : goal.returns-then-text-ne0
returns-then-text-ne0 c = sym (hex-odd c.args.text.now c.if-text-ne0.true)

pub returns-in_err-fill : goal.returns-in_err-fill
returns-in_err-fill c = rw c.from_residual.ensures (c.in_err-fill.ensures ∙ in-half c.args.text.now c.args.store.now c.requires c.told-store)

pub returns : goal.returns
returns c = c.in_ok-fill.ensures ∙ in-half c.args.text.now c.args.store.now c.requires c.told-store
