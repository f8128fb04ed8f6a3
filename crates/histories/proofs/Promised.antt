-- What is promised holds of every history.
use Rattle.std.proofs.Common.{◌≡◌, ℕ, ◌<◌, ◌≤◌, List, get_or, Some, None, Ok, Option, sym, refl, ap, ◌∙◌, subst, ⊎_elim, arith}
use Rattle.std.proofs.ByRecursion.{All-drop}
use Rattle.std.proofs.lemmas.Option.{none-some, same_Some}
use Rattle.compare.specs.Found.{Found, node_break, chain_break, unrevealed, ours, verdict_numbers, verdict_report}
use Rattle.compare.specs.Search.{found}
use Rattle.compare.specs.Sides.{Traced, revealed_height}
use Rattle.compare.specs.declared.verdict.Verdict.{Verdict}
use Rattle.compare.specs.declared.verdict.Verdict.TheVariants.{Ours}
use Rattle.compare.proofs.Breaks.{unrevealed-report, node-report-meets, node-report-differs, chain-report-meets, chain-report-differs}
use Rattle.compare.proofs.Lawful.{Lawful}
use Rattle.compare.proofs.Searches.{found_first, found-only}
use Rattle.compare.proofs.Truth.{row-true, ours-true, true-ours}
use Rattle.compare.proofs.Agreeing.{row_shows}
use Rattle.growth.specs.declared.origin.Origin.{Origin}
use Rattle.strings.specs.Strings.{IsBytes, IsString}
use Rattle.tree.specs.Meaning.{Hash, Code}
use Rattle.records.specs.Records.{release_bytes, row_of}
use Rattle.verifier.specs.Rules.{verify_rule}
use Rattle.records.proofs.Facts.{after-at, ok_same}
use Rattle.histories.specs.Histories.{State, IsSigner, History, Lived, Issued}
use Rattle.histories.specs.Promise.{Revealed, VerdictOurs, SaysOurs, ShowsFirst, Breaks, pair_break, step_break, Promise}
use Rattle.histories.specs.Promise as promise
use Rattle.rules.specs.Rules.{Accepts, own_key, traced_by, report_after, trace_answer, trace_report}
use Rattle.rules.specs.States.{Signing}
use Rattle.histories.proofs.Given.{Given, accepted, own-verified, given}
use Rattle.tree.specs.Laws.{Laws}
use Rattle.rules.proofs.Laws.{lawful}
use Rattle.histories.proofs.Living.{sound}
use Rattle.histories.proofs.Once.{once}
use Rattle.histories.proofs.Sound.{Sound}

-- of the verdicts, ours alone has number 0
says-ours : (v : Verdict) (i : ℕ) → (verdict_numbers i v).0 ≡ 0 → v ≡ Ours
says-ours Ours i p = refl
says-ours v i p = absurd (omega arith)

module _ (hash : Hash) (code : Code) (laws : Laws hash code) (o : Origin) (w : History) (s : Signing) (x : Sound hash code o w s) where
  abbrev law : Lawful hash code s.origin
  law = lawful laws x.begun

  abbrev tall : s.origin.height ≤ 8
  tall = x.begun.tall.1

  -- the stamps in the ledger are strings
  entered-str : (i : ℕ) (m : List ℕ) → get_or s.rows i None ≡ Some m → IsString m
  entered-str i m row = (x.issued i _ m (x.entered i m row)).string

  -- a height below what the ledger says was revealed was not
  unseen : (i k e : ℕ) (row : Option (List ℕ)) → get_or s.rows i None ≡ row → e < revealed_height code row k → Revealed code w i k e → ⊥
  unseen i k e (Some m) at below =
      ⊎_elim
      (λ top. let low = laws.of_code.within m k (entered-str i m at) in omega arith)
      (λ shown. let same : code.digit m k ≡ code.digit shown.1 k = ap (λ n. code.digit n k) (same_Some _ _ (sym at ∙ (x.issued i shown.0 shown.1 shown.2.issued).row)) in omega (arith, shown.2.low))
  unseen i k e None at below =
      ⊎_elim
      (λ top. omega arith)
      (λ shown. none-some shown.1 (sym at ∙ (x.issued i shown.0 shown.1 shown.2.issued).row))

  module _ (stamp bytes : List ℕ) (str : IsString stamp) (all : IsBytes bytes) (i : ℕ) where
    abbrev t : Traced
    t = traced_by s stamp i bytes

    row-bytes : IsBytes (row_of bytes)
    row-bytes = All-drop (λ b. b < 256) 8 bytes all

    -- what trace answers, and its report
    module _ (verified : verify_rule hash code (own_key hash code s) stamp bytes ≡ Ok i) where
      answers : trace_answer hash code s stamp bytes ≡ Ok (verdict_numbers i (found hash code t))
      answers = after-at (verify_rule hash code (own_key hash code s) stamp bytes) i (λ j. Ok (verdict_numbers j (found hash code (traced_by s stamp j bytes)))) verified

      reports : (report : List ℕ) → trace_report hash code s stamp bytes report ≡ verdict_report (found hash code t)
      reports report = ap (λ r. report_after r (λ j. verdict_report (found hash code (traced_by s stamp j bytes))) report) verified

    -- a record of which nothing is found was issued
    was-issued : Given hash code s stamp bytes i → Found hash code t Ours → Issued w i bytes stamp
    was-issued g none =
        let true_of = ours-true hash code t law tall str g.placed g.filled (entered-str i) none g.leads in
        subst (λ r. Issued w i r stamp) (sym (g.written ∙ ap (release_bytes i) true_of.1)) (x.entered i stamp true_of.0)

    -- and of one that was issued nothing is found
    issued-ours : (report : List ℕ) → Issued w i bytes stamp → SaysOurs i (trace_answer hash code s stamp bytes) (trace_report hash code s stamp bytes report)
    issued-ours report y =
        let spent = x.issued i bytes stamp y in
        let is = found-only hash code t Ours (true-ours hash code t law tall str spent.row (ap row_of spent.is)) in
        let verified = own-verified hash code laws o w s x i stamp bytes (accepted hash code laws o w s x i bytes stamp y) in
        (answers verified ∙ ap (λ v. Ok (verdict_numbers i v)) (sym is), reports verified report ∙ ap verdict_report (sym is))

    -- so a record with verdict 0 was issued
    says-issued : Accepts hash code s stamp bytes i → VerdictOurs (trace_answer hash code s stamp bytes) → Issued w i bytes stamp
    says-issued a says =
        let g = given hash code laws o w s x i stamp bytes all a in
        let is = says-ours (found hash code t) i (ap (λ n. n.0) (ok_same (sym (answers g.verified) ∙ says.2))) in
        was-issued g (subst (Found hash code t) is (found_first hash code t))

    -- what is found of any other is a break
    found-breaks : Given hash code s stamp bytes i → (Issued w i bytes stamp → ⊥) → {v : Verdict} → Found hash code t v → Breaks hash code w s stamp bytes i (Ok (verdict_numbers i v)) (verdict_report v)
    found-breaks g never (node_break a b f) =
        pair_break a b refl
        (record {
          differ = node-report-differs hash code t law tall g.filled row-bytes a b f.breaks;
          meet = node-report-meets hash code t law tall g.filled row-bytes a b f.breaks;
        })
    found-breaks g never (chain_break k e f) =
        step_break k e refl
        (record {
          differ = chain-report-differs hash code t law tall g.filled row-bytes k e f.breaks;
          meet = chain-report-meets hash code t law tall g.filled row-bytes k e f.breaks;
        })
    found-breaks g never (unrevealed k f) =
        let row = row-true hash code t law tall str g.placed g.filled f.no_node f.no_chain g.leads in
        let shows = (row_shows hash code t law tall row).0 k f.shows.chain in
        promise.unrevealed k (code.digit stamp k) refl
        (record {
          chain = f.shows.chain;
          height = refl;
          own = unrevealed-report hash code t law tall k;
          shown = shows ∙ sym (unrevealed-report hash code t law tall k);
          not_revealed = unseen i k (code.digit stamp k) (get_or s.rows i None) refl f.shows.below;
        })
    found-breaks g never (ours none) = absurd (never (was-issued g (ours none)))

    shows-first : Accepts hash code s stamp bytes i → (report : List ℕ) → (v : Verdict) × ShowsFirst hash code s stamp bytes i (trace_answer hash code s stamp bytes) (trace_report hash code s stamp bytes report) v
    shows-first a report =
        let verified = (given hash code laws o w s x i stamp bytes all a).verified in
        (found hash code t, record { first = found_first hash code t; answers = answers verified; reports = reports verified report })

    breaks : Accepts hash code s stamp bytes i → (Issued w i bytes stamp → ⊥) → (report : List ℕ) → Breaks hash code w s stamp bytes i (trace_answer hash code s stamp bytes) (trace_report hash code s stamp bytes report)
    breaks a never report =
        let g = given hash code laws o w s x i stamp bytes all a in
        subst (λ r. Breaks hash code w s stamp bytes i r (trace_report hash code s stamp bytes report)) (sym (answers g.verified))
        (subst (Breaks hash code w s stamp bytes i _) (sym (reports g.verified report)) (found-breaks g never (found_first hash code t)))

pub promised : {hash : Hash} {code : Code} → Laws hash code → (o : Origin) (w : History) (x : State) (s : Signing) → Lived hash code o w x → IsSigner x s → (stamp bytes report : List ℕ) → IsString stamp → IsBytes bytes → Promise hash code w s stamp bytes (trace_answer hash code s stamp bytes) (trace_report hash code s stamp bytes report)
promised {hash} {code} laws o w x s lived holds stamp bytes report str all =
    let y = sound hash code laws o lived holds in
    record {
      once = once hash code laws o w x lived;
      accepted = λ i issued m. accepted hash code laws o w s y i issued m;
      ours = λ i a says. let was = says-issued hash code laws o w s y stamp bytes str all i a says in (was, issued-ours hash code laws o w s y stamp bytes str all i report was);
      issued = λ i. issued-ours hash code laws o w s y stamp bytes str all i report;
      broken = λ i a never. (shows-first hash code laws o w s y stamp bytes str all i a report, breaks hash code laws o w s y stamp bytes str all i a (never i) report);
    }
