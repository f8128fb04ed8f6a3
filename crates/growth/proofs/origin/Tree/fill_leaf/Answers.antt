use Rattle.std.proofs.Common.{refl}
use Rattle.tree.specs.Meaning.{hash_by}
use Rattle.tree.proofs.Laws.{one-time-none}
use Rattle.growth.specs.Grown.{secret}
use Rattle.growth.proofs.origin.Tree.fill_leaf.Goals as goal

pub loop-chain-init : goal.loop-chain-init
loop-chain-init g c = (refl, one-time-none (g.H.ChainHash.steps c.args.self.now.origin.now.hash_key) g.C.Code.TOP (λ j. 0) (secret (hash_by g.H.ChainHash g.H.TreeHash) c.args.self.now.origin.now c.args.leaf))
