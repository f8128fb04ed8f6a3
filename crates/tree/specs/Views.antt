-- What the types of this crate stand for.
use Rattle.tree.specs.Nodes.{Parameters}
use Rattle.tree.specs.declared.parameters.Parameters as declared

-- the bytes that a tree's parameters lend, as values
abbrev pub parameters_of : declared.Parameters → Parameters
parameters_of p =
    record { hash_key = p.hash_key.now; masks = p.masks.now; height = p.height }
