-- No leaf number is issued twice.
use Rattle.std.proofs.Common.{◌≡◌, ℕ, List, [], ◌∷◌, ◌++◌, take, Ok, Result, refl, ap, subst, arith}
use Rattle.growth.specs.declared.origin.Origin.{Origin}
use Rattle.tree.specs.Meaning.{Hash, Code}
use Rattle.records.specs.declared.refusal.Refusal.{Refusal}
use Rattle.histories.specs.Histories.{State, serving, in_service, Event, sign, History, Lived, called, signs, HandedOut, hands_out, newest, older, Issued, issues, here, there}
use Rattle.histories.specs.Promise.{Once}
use Rattle.rules.specs.Rules.{release_size, all_spent, no_room, sign_answer}
use Rattle.rules.specs.States.{Signing}
use Rattle.tree.specs.Laws.{Laws}
use Rattle.histories.proofs.Living.{sound}
use Rattle.histories.proofs.Sound.{sign-answered}

-- a leaf number that was handed out was so with a record
handed-issued : {w : History} {i : ℕ} → HandedOut w i → (bytes : List ℕ) × (stamp : List ℕ) × Issued w i bytes stamp
handed-issued (newest (hands_out {stamp} {out} {after} {n})) = (take n after, stamp, here issues)
handed-issued (older h) = let before = handed-issued h in (before.0, before.1, there before.2)

module _ (hash : Hash) (code : Code) (laws : Laws hash code) (o : Origin) where
  -- a history without its newest call leads to a state, and so does each part of it that begins where it does
  without : {e : Event} {w : History} {x : State} → Lived hash code o (e ∷ w) x → (y : State) × Lived hash code o w y
  without (called l leads) = (_, l)

  part : (later earlier : History) (x : State) → Lived hash code o (later ++ earlier) x → (y : State) × Lived hash code o earlier y
  part [] earlier x l = (x, l)
  part (e ∷ later) earlier x l = let y = without l in part later earlier y.0 y.1

  -- a sign call was made on a signer, and answered as it does
  signed-at : {stamp out : List ℕ} {answer : Result (ℕ × ℕ) Refusal} {after : List ℕ} {w : History} {x : State} → Lived hash code o (sign stamp out answer after ∷ w) x → (s : Signing) × Lived hash code o w (serving s) × (sign_answer code s out ≡ answer)
  signed-at (called l (signs s stamp out str)) = (s, l, refl)

  -- its leaf was the next, and what was issued before lies below that
  pub once : (w : History) (x : State) → Lived hash code o w x → Once w
  once w x l later earlier call i is (hands_out {stamp} {out} {after} {n}) before =
      let y = part later (sign stamp out (Ok (n, i)) after ∷ earlier) x (subst (λ v. Lived hash code o v x) is l) in
      let at = signed-at y.1 in
      let s = at.0 in
      let issued = handed-issued before in
      let below = ((sound hash code laws o at.1 (in_service s)).issued i issued.0 issued.1 issued.2).below in
      let next : s.next ≡ i = ap (λ p. p.1) (sign-answered (all_spent s) (no_room code s out) (release_size code s, s.next) (n, i) at.2) in
      omega arith
