-- The rules of the signer's calls refuse by their lists.
use Rattle.std.proofs.Common.{◌≡◌, ℕ, ◌^◌, not, List, [], ◌∷◌, length, Ok, Err, Result, sym, subst}
use Rattle.std.specs.Str.{bytes_eq}
use Rattle.std.proofs.lemmas.Bool.Decides.{Decides-eqb, Decides-not, Decides-or, Decides-ltb}
use Rattle.std.proofs.lemmas.Slice.Eq.{bytes_eq-Decides}
use Rattle.tree.specs.Meaning.{Hash, Code}
use Rattle.tree.specs.Rebuilt.{rebuilt}
use Rattle.growth.specs.Grown.{parameters}
use Rattle.records.specs.Causes.{Cause, cause, Refuses}
use Rattle.records.specs.Rules.{refuse, after, release_rule}
use Rattle.records.specs.declared.refusal.Refusal.{Refusal}
use Rattle.records.specs.declared.refusal.Refusal.TheVariants.{Grown, Spent, Output, Skip, Root}
use Rattle.records.proofs.Causing.{refuses-none, refuses-more, refuses-after}
use Rattle.records.proofs.Refusing.{release-refuses}
use Rattle.rules.specs.Conditions.{AllGrown, AllSpent, NoRoom, WrongSkip, WrongOwnRoot, grow_causes, key_causes, sign_causes, skip_causes, trace_causes}
use Rattle.rules.specs.Rules.{grow_answer, key_size, key_answer, release_size, sign_answer, skip_answer, trace_answer}
use Rattle.rules.specs.States.{Making, Signing}
use Rattle.rules.proofs.Tracing.{ReadsOwn, own-shown}

-- an answer made of a value is refused as the value is
refuses-on : {A B : Type 0} (f : A → B) (causes : List Cause) (r : Result A Refusal) → Refuses causes r → Refuses causes (after r (λ x. Ok (f x)))
refuses-on f causes (Ok x) by = record { refused = by.refused; answered = by.answered }
refuses-on f causes (Err e) by = record { refused = by.refused; answered = by.answered }

pub grow-refuses : (m : Making) (r : Result ℕ Refusal) → r ≡ grow_answer m → Refuses (grow_causes m) r
grow-refuses m r is =
    subst (Refuses (grow_causes m)) (sym is)
    (refuses-more _ (AllGrown m) Grown _ _ (Decides-eqb m.grown (2 ^ m.origin.height)) (refuses-none _))

pub key-refuses : (code : Code) (s : Signing) (out : List ℕ) (r : Result ℕ Refusal) → r ≡ key_answer code s out → Refuses (key_causes code s out) r
key-refuses code s out r is =
    subst (Refuses (key_causes code s out)) (sym is)
    (refuses-more _ (NoRoom out (key_size code s)) Output _ _ (Decides-ltb (length out) (key_size code s)) (refuses-none _))

pub sign-refuses : (code : Code) (s : Signing) (out : List ℕ) (r : Result (ℕ × ℕ) Refusal) → r ≡ sign_answer code s out → Refuses (sign_causes code s out) r
sign-refuses code s out r is =
    subst (Refuses (sign_causes code s out)) (sym is)
    (refuses-more _ (AllSpent s) Spent _ _ (Decides-eqb s.next (2 ^ s.origin.height))
    (refuses-more _ (NoRoom out (release_size code s)) Output _ _ (Decides-ltb (length out) (release_size code s)) (refuses-none _)))

pub skip-refuses : (s : Signing) (leaf : ℕ) (r : Result ℕ Refusal) → r ≡ skip_answer s leaf → Refuses (skip_causes s leaf) r
skip-refuses s leaf r is =
    subst (Refuses (skip_causes s leaf)) (sym is)
    (refuses-more _ (WrongSkip s leaf) Skip _ _ (Decides-or _ _ (Decides-ltb leaf s.next) (Decides-ltb (2 ^ s.origin.height) leaf)) (refuses-none _))

pub trace-refuses : (hash : Hash) (code : Code) (s : Signing) (stamp bytes report : List ℕ) (r : Result (ℕ × ℕ × ℕ) Refusal) → ReadsOwn hash code s stamp bytes report → r ≡ trace_answer hash code s stamp bytes → Refuses (trace_causes hash code s stamp bytes) r
trace-refuses hash code s stamp bytes report r read is =
    let o = s.origin in
    let own = release_rule code.count o.height bytes in
    let last = cause 12 (WrongOwnRoot hash code s stamp bytes) ∷ [] in
    subst (Refuses (trace_causes hash code s stamp bytes)) (sym is)
    (refuses-on _ (trace_causes hash code s stamp bytes) _
    (subst (Refuses (trace_causes hash code s stamp bytes)) (sym read)
    (refuses-after _ last own _ (release-refuses code.count o.height bytes)
    (λ release shown.
    subst (λ x. Refuses last (refuse (not (bytes_eq (rebuilt hash code (parameters o) x.leaf stamp x.row) s.root)) Root (Ok x.leaf)))
    (sym (own-shown code.count o.height bytes release shown))
    (refuses-more _ (WrongOwnRoot hash code s stamp bytes) Root _ _ (Decides-not _ (bytes_eq-Decides _ _)) (refuses-none _))))))
