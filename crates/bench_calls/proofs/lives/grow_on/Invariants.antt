use Rattle.std.proofs.Common.{◌≡◌}
use Rattle.signer.specs.Views.{making_of}
use Rattle.tree.specs.Meaning.{hash_by, code_of}
use Rattle.bench_calls.specs.Lives.{grows}
use Rattle.bench_calls.proofs.lives.grow_on.Given as goal

abbrev pub invariant-loop : goal.invariant-loop
invariant-loop g l = making_of l.maker ≡ grows (hash_by g.H.ChainHash g.H.TreeHash) (code_of g.C.Code) l.counter (making_of l.initial.maker)
