use Rattle.std.proofs.Common.{◌≡◌, ◌*◌, length, sym, ap, ◌∙◌, arith}
use Rattle.tree.specs.Rows.{row_from}
use Rattle.records.proofs.ReleaseRecord.{shown-more, shown-all}
use Rattle.records.proofs.release.write_row.Goals as goal

pub loop-place-preserved : goal.loop-place-preserved
loop-place-preserved g c =
    let shown = g.R.ReleaseRow.strings c.args.row.now in
    let room = c.requires.room in
    let more = c.loop-place-test.true in
    shown-more shown c.args.out.now c.loop-place.out c.put.new.bytes c.string-string.result c.loop-place.place c.loop-place.invariant (omega arith) c.string-string.ensures (omega arith) (c.put.ensures.front, c.put.ensures.back)

pub returns : goal.returns
returns g c =
    let shown = g.R.ReleaseRow.strings c.args.row.now in
    let room = c.requires.room in
    let all : c.loop-place.place ≡ c.args.count = omega (arith, c.loop-place-test.false, c.loop-place.auto.place-end) in
    record {
      after = shown-all shown c.args.out.now c.loop-place.out c.loop-place.place c.args.count c.loop-place.invariant all (omega arith);
      long = ap (λ n. length (row_from shown n)) (sym all) ∙ c.loop-place.invariant.1 ∙ ap (λ n. 16 * n) all;
    }
