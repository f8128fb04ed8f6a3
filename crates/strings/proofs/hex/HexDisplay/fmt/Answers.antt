use Rattle.std.proofs.Common.{◌≡◌, ℕ, ◌+◌, ◌<◌, List, [], ◌++◌, length, get_or, take, sym, ap, ◌∙◌, rules}
use Rattle.std.proofs.Output.{has_written_append, has_written_of_eq}
use Rattle.std.proofs.lemmas.List.{take_more, flat_map_more}
use Rattle.strings.specs.Hex.{two_digits, hex_text}
use Rattle.strings.proofs.hex.HexDisplay.fmt.Goals as goal

-- one byte more
more : (bytes : List ℕ) (i : ℕ) → i < length bytes → hex_text (take i bytes) ++ two_digits (get_or bytes i 0) ≡ hex_text (take (i + 1) bytes)
more bytes i lt = flat_map_more two_digits [] (take i bytes) (get_or bytes i 0) ∙ ap hex_text (sym (take_more bytes i 0 lt))

pub loop-byte-preserved : goal.loop-byte-preserved
loop-byte-preserved g c = λ plain.
    has_written_of_eq _ _ _ _ _ (more c.args.self.now.0.now c.loop-byte.byte-index c.loop-byte-test.true)
    (has_written_append _ _ _ _ _ _ (c.loop-byte.invariant plain) (search rules))
