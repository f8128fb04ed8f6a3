use Rattle.std.proofs.Common.{◌≡◌, ◌+◌, ◌-◌, ◌*◌, ap, ◌∙◌, rules}
use borrow.Rule.Slice.PartMut.{put_mid}
use Rattle.std.proofs.lemmas.Slice.{overwrites}
use Rattle.strings.specs.Strings.{string_at, put_string}
use Rattle.strings.proofs.Laws.{at-put-same, at-put-other}
use Rattle.strings.proofs.put_string.Goals as goal

pub returns : goal.returns
returns c =
    let row = c.args.bytes.now in
    let s = c.args.string.now in
    let i = c.args.i in
    let is : put_mid (16 * i) (16 * i + 16 - 16 * i) row c.copy_from_slice.new.self ≡ put_string row i s = search (rules, overwrites) in
    record {
      after = is;
      here = ap (λ l. string_at l i) is ∙ at-put-same row i s c.requires c.told-string;
      others = λ k ne. ap (λ l. string_at l k) is ∙ at-put-other row i k s c.requires c.told-string ne;
    }
