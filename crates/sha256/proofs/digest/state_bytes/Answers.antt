use Rattle.std.proofs.Common.{◌≡◌, ◌*◌, length, get_or, take, sym, ap, ◌∙◌, arith, rules}
use Rattle.std.specs.List.{flat_map}
use Rattle.std.proofs.lemmas.List.{take_all}
use Rattle.sha256.specs.Digest.{big_endian, state_words, digest}
use Rattle.sha256.proofs.Parts.{pieces_more}
use Rattle.sha256.proofs.digest.state_bytes.Goals as goal

pub loop-i-preserved : goal.loop-i-preserved
loop-i-preserved c =
    let i = c.loop-i.i in
    let ws = state_words c.args.s.now in
    let part = c.to_be_bytes.result in
    let piece : part ≡ big_endian 4 (get_or ws i 0) = search rules in
    let four : length part ≡ 4 = ap length piece in
    let long : length c.put.new.bytes ≡ 32 = search rules in
    (long, pieces_more (big_endian 4) ws c.loop-i.bytes c.put.new.bytes part i (omega arith) c.put.ensures.front c.loop-i.invariant.1 piece four)

pub returns : goal.returns
unfolding digest
returns c =
    let i = c.loop-i.i in
    let ws = state_words c.args.s.now in
    let all : take i ws ≡ ws = take_all i ws (omega arith) in
    sym (take_all (4 * i) c.loop-i.bytes (omega arith)) ∙ c.loop-i.invariant.1 ∙ ap (flat_map (big_endian 4)) all
