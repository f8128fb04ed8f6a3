use Rattle.std.proofs.Common.{◌≡◌, ℕ, ◌+◌, ◌<◌, List, [], ◌++◌, length, get_or, take, sym, ap, ◌∙◌, rules, Option, None, codes}
use Rattle.std.proofs.Output.{has_written_append, has_written_of_eq}
use Rattle.std.proofs.lemmas.Grind.{flat_map-append}
use Rattle.std.proofs.lemmas.List.{take_more, flat_map_more}
use Rattle.std.specs.List.{flat_map}
use Rattle.scripts.specs.Replies.{held_in}
use Rattle.scripts.specs.Texts.{node_text, nodes_text}
use Rattle.scripts.specs.declared.answer.Node.{Node}
use Rattle.scripts.proofs.printing.write_levels.Goals as goal

-- one level more
more : (levels : List (Option Node)) (i : ℕ) → i < length levels → nodes_text (flat_map held_in (take i levels)) ++ nodes_text (held_in (get_or levels i None)) ≡ nodes_text (flat_map held_in (take (i + 1) levels))
more levels i lt =
    let x = get_or levels i None in
    sym (flat_map-append (λ n. codes " " ++ node_text n) (flat_map held_in (take i levels)) (held_in x))
    ∙ ap nodes_text (flat_map_more held_in [] (take i levels) x ∙ ap (flat_map held_in) (sym (take_more levels i None lt)))

pub loop-level-preserved : goal.loop-level-preserved
loop-level-preserved g c = λ plain.
    has_written_of_eq _ _ _ _ _ (more c.args.levels.now c.loop-level.level-index c.loop-level-test.true)
    (has_written_append _ _ _ _ _ _ (c.loop-level.invariant plain) (search rules))
