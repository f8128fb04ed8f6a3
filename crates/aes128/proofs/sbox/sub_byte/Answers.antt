-- The table is the list of `sub` at each byte: antt computes that list, and one lemma says what stands at each place of it.
use Rattle.std.proofs.Common.{◌<◌, zero-add, rules}
use Rattle.std.proofs.lemmas.List.FromFn.{get_or-map-range_with_len}
use Rattle.aes128.specs.Field.{sub}
use Rattle.aes128.proofs.sbox.sub_byte.Goals as goal

pub returns : goal.returns
unfolding sub
returns c =
    let small : c.args.b < 256 = search rules in
    get_or-map-range_with_len sub 0 256 c.args.b c.args.b 0 small (zero-add c.args.b)
