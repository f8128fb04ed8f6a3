-- The table is the list of `times_x (sub b)` at each byte b, as antt computes it.
use Rattle.std.proofs.Common.{◌<◌, zero-add, rules}
use Rattle.std.proofs.lemmas.List.FromFn.{get_or-map-range_with_len}
use Rattle.aes128.specs.Field.{times_x, sub}
use Rattle.aes128.proofs.twice.sub_twice.Goals as goal

pub returns : goal.returns
unfolding sub
returns c =
    let small : c.args.b < 256 = search rules in
    get_or-map-range_with_len (λ b. times_x (sub b)) 0 256 c.args.b c.args.b 0 small (zero-add c.args.b)
