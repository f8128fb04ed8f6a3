use Rattle.std.proofs.Common.{◌≡◌, ℕ, List, get_or, Err, Result, sym, ap, ◌∙◌, subst, Fits, w8}
use Rattle.std.proofs.lemmas.Result.{err_from_is_err_and}
use Rattle.records.specs.Causes.{Refuses}
use Rattle.rules.specs.Conditions.{trace_causes}
use Rattle.histories.specs.Histories.{State, serving, IsSigner, trace, HasLived, Continues}
use Rattle.histories.specs.Promise.{Promise, Promised}
use Rattle.rules.specs.Rules.{trace_answer, trace_report, Finds}
use Rattle.rules.specs.States.{Signing}
use Rattle.histories.proofs.Continuing.{trace-continues}
use Rattle.tree.specs.Laws.{Laws}
use Rattle.rules.proofs.Own.{own-reads}
use Rattle.rules.proofs.Refusing.{trace-refuses}
use Rattle.histories.proofs.Promised.{promised}
use Rattle.rules.proofs.Tracing.{ByRule, ReadsOwn, unread, misled, led}
use Rattle.strings.proofs.Laws.{str-from}
use Rattle.tree.specs.Meaning.{Hash, Code, hash_by, code_of}
use Rattle.records.specs.Views.{release_of}
use Rattle.records.specs.declared.refusal.Refusal.{Refusal}
use Rattle.records.proofs.Facts.{bytes-from}
use Rattle.signer.specs.Views.{signing_of}
use Rattle.signer.proofs.Held.{signer-strings}
use Rattle.signer.proofs.signer.Signer.trace.Given as given
use Rattle.signer.proofs.signer.Signer.trace.Goals as goal
use Rattle.signer.proofs.signer.Signer.trace.Goals.{Start}

module _ (g : given.Over) (c : Start g) where
  abbrev hash : Hash
  hash = hash_by g.H.ChainHash g.H.TreeHash

  abbrev code : Code
  code = code_of g.C.Code

  abbrev s : Signing
  s = signing_of c.args.self.now

  abbrev stamp : List ℕ
  stamp = c.args.stamp.now

  abbrev bytes : List ℕ
  bytes = c.args.bytes.now

  laws : Laws hash code
  laws =
      record {
        of_hash = record { gives = g.met.H.ChainHash.gives; joins = g.met.H.TreeHash.joins };
        of_code = record {
          count_range = g.met.C.Code.count_range;
          top_range = g.met.C.Code.top_range;
          level_range = g.met.C.Code.level_range;
          within = g.met.C.Code.within;
          past = g.met.C.Code.past;
          apart = g.met.C.Code.apart;
        };
      }

  -- the signer reads as verify does under its own key
  reads : ReadsOwn hash code s stamp bytes c.args.report.now
  reads = own-reads hash code s (signer-strings hash c.args.self.now laws.of_hash) c.args.self.now.tall laws.of_code.level_range.1 c.args.self.now.sized.2 stamp bytes

  -- what is ensured of an answer and a report that are by the rule
  ends : {W : Type 0} → ((i : ℕ) → Fits w8 (get_or bytes i 0)) → (r : Result (ℕ × ℕ × ℕ) Refusal) (after : List ℕ) → ByRule hash code s stamp bytes c.args.report.now r after → W → record { answer : r ≡ trace_answer hash code s stamp bytes; refuses : Refuses (trace_causes hash code s stamp bytes) r; report : after ≡ trace_report hash code s stamp bytes c.args.report.now; finds : Finds hash code s stamp bytes r after; lived : (x : State) → IsSigner x s → Continues hash code x (trace stamp bytes c.args.report.now r after) x; promise : Promised hash code s stamp bytes r after; behind : HasLived hash code (serving s); wiped : W }
  ends small r after by wiped =
      record {
        answer = by.answers;
        refuses = trace-refuses hash code s stamp bytes c.args.report.now r reads by.answers;
        report = by.reports;
        finds = by.finds;
        lived = λ x holds. trace-continues hash code x s holds stamp bytes c.args.report.now after r by.answers by.reports;
        promise = λ o w x holds lived.
            subst (λ a. Promise hash code w s stamp bytes a after) (sym by.answers)
            (subst (Promise hash code w s stamp bytes (trace_answer hash code s stamp bytes)) (sym by.reports)
            (promised laws o w x s lived holds stamp bytes c.args.report.now (str-from stamp c.told-stamp c.fits-stamp) (bytes-from bytes small)));
        behind = c.args.self.now.lived;
        wiped = wiped;
      }

pub returns-in_err-release : goal.returns-in_err-release
returns-in_err-release g c =
    let at = (goal.at.returns-in_err-release g c).Start in
    let p = err_from_is_err_and c.from_residual.result c.from_residual.ensures.1 in
    let by = unread _ _ _ _ _ _ (reads g at) c.in_err-release.field-0.0 c.in_err-release.ensures.answer in
    ends g at c.type_inv.bytes _ _ (subst (λ r. ByRule (hash g at) (code g at) (s g at) (stamp g at) (bytes g at) at.args.report.now r at.args.report.now) (sym (p.1 ∙ ap Err p.2)) by) c.drop-guard.ensures

pub returns-then-not-same : goal.returns-then-not-same
returns-then-not-same g c =
    let at = (goal.at.returns-then-not-same g c).Start in
    ends g at c.type_inv.bytes _ _ (misled _ _ _ _ _ _ (reads g at) (release_of c.in_ok-release.release) c.in_ok-release.ensures.answer c.compare-compared.result.root c.compare-compared.ensures.root (sym c.if-not-same.ensures.value)) c.drop-guard-then-not-same.ensures

pub returns : goal.returns
returns g c =
    let at = (goal.at.returns g c).Start in
    let compared = c.compare-compared in
    ends g at c.type_inv.bytes _ _
    (led _ _ _ _ _ _ (reads g at) (release_of c.in_ok-release.release) c.in_ok-release.ensures.answer compared.result.root compared.ensures.root (sym c.if-not-same.ensures.value) _ compared.result.verdict _ _ c.row.ensures compared.ensures.verdict c.numbers.ensures c.report.ensures)
    c.drop-guard-2.ensures
