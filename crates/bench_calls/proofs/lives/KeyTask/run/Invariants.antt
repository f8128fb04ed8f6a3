use Rattle.schemes.specs.Tasks.{Wrote}
use Rattle.rules.specs.Rules.{key_output}
use Rattle.signer.specs.Views.{signing_of}
use Rattle.tree.specs.Meaning.{hash_by, code_of}
use Rattle.tree.specs.Nodes.{raise}
use Rattle.bench_calls.proofs.lives.KeyTask.run.Given as goal

abbrev pub invariant-loop : goal.invariant-loop
invariant-loop g l =
    Wrote l.initial.self.out
    (raise (key_output (hash_by g.H.ChainHash g.H.TreeHash) (code_of g.C.Code) (signing_of l.signer)) l.counter l.initial.self.out.now)
    l.self.out
