use Rattle.std.proofs.Common.{◌≡◌, ◌-◌, ◌^◌, ◌≤◌, length}
use Rattle.growth.specs.Grown.{nodes_size, Holds}
use Rattle.rules.specs.Rules.{leaves_more}
use Rattle.tree.specs.Meaning.{hash_by, code_of}
use Rattle.signer.proofs.maker.Maker.finish.Given as goal

-- the leaves that are still lacking lead to the same end
abbrev pub invariant-loop-leaf : goal.invariant-loop-leaf
invariant-loop-leaf g l =
    let hash = hash_by g.H.ChainHash g.H.TreeHash in
    let code = code_of g.C.Code in
    let all = 2 ^ l.origin.height in
    (l.leaf ≤ all)
    × (length l.nodes ≡ nodes_size)
    × (leaves_more hash code (all - l.leaf) (record { origin = l.origin; grown = l.leaf; nodes = l.nodes }) ≡ leaves_more hash code (all - l.grown) (record { origin = l.origin; grown = l.grown; nodes = l.initial.nodes }))
    × (Holds hash code l.origin l.grown l.initial.nodes → Holds hash code l.origin l.leaf l.nodes)
