use Rattle.std.proofs.Common.{◌≡◌, ◌+◌, ◌-◌, ◌*◌, ◌%◌, ◌^◌, [], ◌∷◌, ◌++◌, length, take, drop, replicate, sym, refl, ap, ◌∙◌, zero-add, arith, rules}
use Rattle.sha256.specs.Digest.{big_endian, zeros}
use Rattle.strings.proofs.Laws.{part-more}
use Rattle.sha256.proofs.Parts.{padded-buffer}
use Rattle.sha256.proofs.digest.pad.Goals as goal

pub returns : goal.returns
returns c =
    let rest = c.args.rest.now in
    let n = c.args.n in
    let at = c.args.end - 8 in
    let b = c.put.new.bytes in
    let q = c.to_be_bytes.result in
    let field : q ≡ big_endian 8 ((n * 8) % 2 ^ 64) = search rules in
    let eight : length q ≡ 8 = ap length field in
    let end : c.args.end ≡ at + length q = omega arith in
    let none = zero-add (length rest) in
    let front : take (length rest) b ≡ rest = part-more (replicate 128 0) b [] rest 0 (length rest) c.put.ensures.front refl none in
    let back : drop (length rest) b ≡ drop (length rest) (replicate 128 0) = ap (λ k. drop k b) (sym none) ∙ c.put.ensures.back ∙ ap (λ k. drop k (replicate 128 0)) none in
    ap (λ k. take k c.put-2.new.bytes) end
    ∙ padded-buffer 128 128 (zeros n) at b c.put-2.new.bytes rest q front back (omega arith) (omega arith) (omega arith) c.put-2.ensures.front
    ∙ ap (λ f. rest ++ (128 ∷ (replicate (zeros n) 0 ++ f))) field
