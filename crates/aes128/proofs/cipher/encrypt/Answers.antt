use Rattle.std.proofs.Common.{◌≡◌, sym, ap, ◌∙◌, arith}
use Rattle.strings.specs.Strings.{xor}
use Rattle.aes128.specs.State.{full_round, final_round}
use Rattle.aes128.specs.Schedule.{key_of_round}
use Rattle.aes128.specs.Cipher.{rounds, aes128_of}
use Rattle.aes128.proofs.RoundKeys.{key_of_round-none, next-key_of_round, rounds-none, rounds-more}
use Rattle.aes128.proofs.cipher.encrypt.Goals as goal

pub loop-n-init : goal.loop-n-init
loop-n-init c =
    let key = c.args.key.now in
    let block = c.args.block.now in
    let first = sym (key_of_round-none key c.told-key) in
    (first, c.xor-state.ensures.value ∙ ap (xor block) first ∙ sym (rounds-none key block))

pub loop-n-preserved : goal.loop-n-preserved
loop-n-preserved c =
    let key = c.args.key.now in
    let block = c.args.block.now in
    let n = c.loop-n.n in
    let next = next-key_of_round key c.loop-n.round_key c.next_round_key-round_key.result n c.loop-n.invariant.0 c.next_round_key-round_key.ensures in
    (next, c.full_round-state.ensures ∙ (λ t. full_round (c.loop-n.invariant.1 t) (next t)) ∙ sym (rounds-more key block n))

pub returns : goal.returns
unfolding aes128_of
returns c =
    let key = c.args.key.now in
    let block = c.args.block.now in
    let end : c.loop-n.n ≡ 9 = omega arith in
    let state = c.loop-n.invariant.1 ∙ ap (rounds key block) end in
    let last = next-key_of_round key c.loop-n.round_key c.next_round_key.result 9 (c.loop-n.invariant.0 ∙ ap (key_of_round key) end) c.next_round_key.ensures in
    c.final_round.ensures ∙ (λ t. final_round (state t) (last t))
