use Rattle.std.proofs.Common.{◌+◌, ◌++◌, length, drop, refl, ap, ◌∙◌, arith}
use Rattle.strings.specs.Strings.{little_endian}
use Rattle.records.specs.declared.kind.RecordKind.TheVariants as kind
use Rattle.records.proofs.KeyRecord.{five-parts, framed_is, four-long}
use Rattle.records.proofs.key.write_parts.Goals as goal

pub returns : goal.returns
returns c =
    let n = length c.args.masks.now in
    let names = c.args.names.now in
    let key = c.args.hash_key.now in
    let masks = c.args.masks.now in
    let root = c.args.root.now in
    let len = little_endian 4 (42 + n) in
    let named = little_endian 2 1 in
    five-parts c.args.out.now c.write_header.new.out c.put.new.bytes c.put-2.new.bytes c.put-3.new.bytes c.put-4.new.bytes
    (len ++ named) names key masks root (42 + n) (omega arith) c.requires.room
    refl c.told-names c.told-hash_key (omega arith) c.told-root
    (c.write_header.ensures.front, c.write_header.ensures.back) (c.put.ensures.front, c.put.ensures.back) (c.put-2.ensures.front, c.put-2.ensures.back) (c.put-3.ensures.front, c.put-3.ensures.back) (c.put-4.ensures.front, c.put-4.ensures.back)
    ∙ ap (λ p. p ++ drop (42 + n) c.args.out.now) (framed_is len named names key masks root (42 + n) kind.Key (four-long names key masks root n c.told-names c.told-hash_key (omega arith) c.told-root) refl refl)
