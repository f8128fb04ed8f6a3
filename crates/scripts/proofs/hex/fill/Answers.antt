use Rattle.std.proofs.Common.{◌≡◌, ◌<◌, ◌≤◌, length, set, take, ◌+◌, sym, ap, ◌∙◌, arith}
use Rattle.std.proofs.lemmas.List.{take_rest, take_all}
use Rattle.scripts.specs.Hex.{hex_bytes}
use Rattle.scripts.proofs.Texts.{following, hex-none, hex-more, hex-full}
use Rattle.scripts.proofs.hex.fill.Goals as goal

pub loop-place-init : goal.loop-place-init
loop-place-init c = hex-none c.args.text.now

pub loop-place-preserved : goal.loop-place-preserved
loop-place-preserved c =
    let out = c.loop-place.out in
    let rest = c.loop-place.text.now in
    let i = c.loop-place.place-index in
    let b = c.in_ok-place.field-0 in
    let lt : i < length out = omega arith in
    hex-more c.args.text.now out rest i b lt c.in-len2-up.len_at_least (sym c.byte.ensures ∙ c.in_ok-place.was) c.loop-place.invariant
    ∙ ap (λ t. following (take (i + 1) (set out i b)) (hex_bytes t)) (sym (take_rest rest 2))

pub returns : goal.returns
returns c =
    let out = c.loop-place.out in
    let i = c.loop-place.place-index in
    let full : length out ≤ i = omega arith in
    let all : hex_bytes c.args.text.now ≡ following out (hex_bytes c.loop-place.text.now) =
    c.loop-place.invariant ∙ ap (λ t. following t (hex_bytes c.loop-place.text.now)) (take_all i out full) in
    rw (c.then_some.ensures, c.is_empty.ensures) (hex-full c.args.text.now out c.loop-place.text.now (length c.args.out.now) c.loop-place.auto.out all)
