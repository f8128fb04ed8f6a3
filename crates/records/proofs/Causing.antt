-- A chain of tests refuses by the list of its conditions.
use Rattle.std.proofs.Common.{◌≡◌, ℕ, Bool, true, false, ◌⊎◌, inl, inr, ⊎_elim, List, [], ◌∷◌, ◌++◌, Ok, Err, Result, Decides, refl}
use Rattle.std.proofs.lemmas.Bool.{false≢true}
use Rattle.records.specs.Causes.{Cause, cause, First, NoCause, Refuses}
use Rattle.records.specs.Refusals.{refusal_number}
use Rattle.records.specs.Rules.{refuse, after}
use Rattle.records.specs.declared.refusal.Refusal.{Refusal}

-- no test is left
pub refuses-none : {A : Type 0} (x : A) → Refuses [] (Ok x)
refuses-none x = record { refused = λ n. (λ h. h, λ h. h); answered = (λ ok. tt, λ none. refl) }

-- one test more, before the others
pub refuses-more : {A : Type 0} (test : Bool) (P : Type 0) (e : Refusal) (causes : List Cause) (rest : Result A Refusal) → Decides test P → Refuses causes rest → Refuses (cause (refusal_number e) P ∷ causes) (refuse test e rest)
refuses-more true P e causes rest d more =
    let holds : P = d.0 refl in
    record {
      refused = λ n. (λ is. inl (is, holds), λ first. ⊎_elim (λ here. here.0) (λ later. absurd (later.0 holds)) first);
      answered = (λ ok. absurd (false≢true ok), λ none. absurd (none.0 holds));
    }
refuses-more false P e causes rest d more =
    let fails : P → ⊥ = λ holds. false≢true (d.1 holds) in
    record {
      refused = λ n. (λ is. inr (fails, (more.refused n).0 is), λ first. ⊎_elim (λ here. absurd (fails here.1)) (λ later. (more.refused n).1 later.1) first);
      answered = (λ ok. (fails, more.answered.0 ok), λ none. more.answered.1 none.1);
    }

-- the first of two lists, one after the other
first-front : (causes more : List Cause) (n : ℕ) → First causes n → First (causes ++ more) n
first-front [] more n first = absurd first
first-front (c ∷ cs) more n first = ⊎_elim (λ here. inl here) (λ later. inr (later.0, first-front cs more n later.1)) first

first-back : (causes more : List Cause) (n : ℕ) → NoCause causes → First more n → First (causes ++ more) n
first-back [] more n none first = first
first-back (c ∷ cs) more n none first = inr (none.0, first-back cs more n none.1 first)

first-either : (causes more : List Cause) (n : ℕ) → First (causes ++ more) n → First causes n ⊎ (NoCause causes × First more n)
first-either [] more n first = inr (tt, first)
first-either (c ∷ cs) more n first =
    ⊎_elim (λ here. inl (inl here))
    (λ later. ⊎_elim (λ f. inl (inr (later.0, f))) (λ f. inr ((later.0, f.0), f.1)) (first-either cs more n later.1))
    first

none-both : (causes more : List Cause) → NoCause causes → NoCause more → NoCause (causes ++ more)
none-both [] more none others = others
none-both (c ∷ cs) more none others = (none.0, none-both cs more none.1 others)

none-front : (causes more : List Cause) → NoCause (causes ++ more) → NoCause causes × NoCause more
none-front [] more none = (tt, none)
none-front (c ∷ cs) more none = let rest = none-front cs more none.1 in ((none.0, rest.0), rest.1)

-- a list cannot both have a first and have none
first-some : (causes : List Cause) (n : ℕ) → First causes n → NoCause causes → ⊥
first-some [] n first none = first
first-some (c ∷ cs) n first none = ⊎_elim (λ here. none.0 here.1) (λ later. first-some cs n later.1 none.1) first

-- tests that follow an answer
pub refuses-after : {A B : Type 0} (causes more : List Cause) (r : Result A Refusal) (next : A → Result B Refusal) → Refuses causes r → ((x : A) → r ≡ Ok x → Refuses more (next x)) → Refuses (causes ++ more) (after r next)
refuses-after causes more (Ok x) next by then =
    let none : NoCause causes = by.answered.0 refl in
    let rest = then x refl in
    record {
      refused = λ n. (
        λ is. first-back causes more n none ((rest.refused n).0 is),
        λ first. ⊎_elim (λ f. absurd (first-some causes n f none)) (λ f. (rest.refused n).1 f.1) (first-either causes more n first),
      );
      answered = (λ ok. none-both causes more none (rest.answered.0 ok), λ all. rest.answered.1 (none-front causes more all).1);
    }
refuses-after causes more (Err e) next by then =
    let first : First causes (refusal_number e) = (by.refused (refusal_number e)).0 refl in
    record {
      refused = λ n. (
        λ is. first-front causes more n ((by.refused n).0 is),
        λ f. ⊎_elim (λ here. (by.refused n).1 here) (λ there. absurd (first-some causes (refusal_number e) first there.0)) (first-either causes more n f),
      );
      answered = (λ ok. absurd (false≢true ok), λ all. absurd (first-some causes (refusal_number e) first (none-front causes more all).0));
    }
