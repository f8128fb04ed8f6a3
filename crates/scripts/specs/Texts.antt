-- The lines that are printed of answers.
use Rattle.std.specs.Prelude.{ℕ, List, ◌++◌, codes}
use Rattle.std.specs.Fmt.{decimal}
use Rattle.std.specs.List.{flat_map}
use Rattle.strings.specs.Hex.{hex_text}
use Rattle.records.specs.Refusals.{refusal_number}
use Rattle.scripts.specs.Replies.{Held, Told, begun, grown, held, finished, keyed, signed, next}
use Rattle.scripts.specs.Replies.{gone, verdict, refused, unknown_scheme, not_now, not_a_call}

-- two texts with a space between them
infixr 65 ◌␣◌
abbrev pub ◌␣◌ : List ℕ → List ℕ → List ℕ
a ␣ b = a ++ (codes " " ++ b)

-- a node that is held: LEVEL:POSITION:NODE
abbrev pub node_text : Held → List ℕ
node_text n =
    decimal n.level ++ (codes ":" ++ (decimal n.position ++ (codes ":" ++ hex_text n.node)))

-- nodes, each after a space
abbrev pub nodes_text : List Held → List ℕ
nodes_text nodes = flat_map (λ n. codes " " ++ node_text n) nodes

-- a line, without its end
abbrev pub line_text : Told → List ℕ
line_text (begun hash code height) = codes "begun" ␣ decimal hash ␣ decimal code ␣ decimal height
line_text (grown leaves) = codes "grown" ␣ decimal leaves
line_text (held nodes) = codes "nodes" ++ nodes_text nodes
line_text finished = codes "finished"
line_text (keyed bytes) = codes "key" ␣ hex_text bytes
line_text (signed leaf bytes) = codes "leaf" ␣ decimal leaf ␣ codes "record" ␣ hex_text bytes
line_text (next leaf) = codes "next" ␣ decimal leaf
line_text gone = codes "retired"
line_text (verdict n report) =
    codes "verdict" ␣ decimal n.0 ␣ decimal n.1 ␣ decimal n.2 ␣ codes "report" ␣ hex_text report
line_text (refused e) = codes "refused" ␣ decimal (refusal_number e)
line_text unknown_scheme = codes "unknown scheme"
line_text not_now = codes "not now"
line_text not_a_call = codes "not a call"
