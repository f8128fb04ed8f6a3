use Rattle.std.proofs.Common.{ℕ, List, sym, refl, ap, ◌∙◌}
use Rattle.rules.specs.Rules.{key_output}
use Rattle.signer.specs.Views.{signing_of}
use Rattle.tree.proofs.Laws.{raise-none, raise-more}
use Rattle.tree.specs.Meaning.{hash_by, code_of}
use Rattle.bench_calls.proofs.lives.KeyTask.run.Goals as goal

pub loop-init : goal.loop-init
loop-init g c = (sym (raise-none _ _), refl)

pub loop-preserved : goal.loop-preserved
loop-preserved g c =
    let write : List ℕ → List ℕ = key_output (hash_by g.H.ChainHash g.H.TreeHash) (code_of g.C.Code) (signing_of c.in_ok-signer.signer) in
    (c.key.ensures.output ∙ ap write c.loop.invariant.0 ∙ raise-more write c.loop.counter c.args.self.now.out.now, c.loop.invariant.1)
