use Rattle.std.proofs.Common.{◌≡◌, ◌-◌, ◌*◌, ◌/◌, ◌++◌, length, take, drop, ap, ◌∙◌, arith}
use Rattle.sha256.specs.Digest.{hashed, padding, digest, sha256_of}
use Rattle.sha256.proofs.Blocks.{hashed-padded}
use Rattle.sha256.proofs.digest.sha256.Goals as goal

pub returns : goal.returns
unfolding sha256_of
returns c =
    let m = c.args.message.now in
    let n = length m in
    let end = c.padded_length-end.result in
    let tail = take (end - 0) c.pad-last.result in
    let start : n / 64 * 64 ≡ 64 * (n / 64) = omega arith in
    let same : end - 0 ≡ end = omega arith in
    let is : tail ≡ drop (64 * (n / 64)) m ++ padding n = ap (λ k. take k c.pad-last.result) same ∙ c.pad-last.ensures ∙ ap (λ r. r ++ padding n) (c.as_chunks.ensures.back ∙ ap (λ k. drop k m) start) in
    c.state_bytes.ensures
    ∙ ap digest (c.hash_blocks.ensures ∙ ap (λ s. hashed (length tail / 64) s tail) c.hash_blocks-s.ensures ∙ hashed-padded m tail is)
