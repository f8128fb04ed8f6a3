-- What holds of every state that a history leads to.
use Rattle.std.proofs.Common.{◌≡◌, ◌^◌, ◌||◌, eqb, ltb, ◌∷◌, refl, arith}
use Rattle.std.proofs.lemmas.Bool.{cond_both, or_parts, eqb-false, ltb-false}
use Rattle.growth.specs.declared.origin.Origin.{Origin}
use Rattle.growth.proofs.Trees.{holds-none}
use Rattle.tree.specs.Meaning.{Hash, Code}
use Rattle.histories.specs.Histories.{State, growing, serving, retired, IsSigner, in_service, out_of_service, Event, grow, skip, retire, History, Lived, begun, called, grows, finishes, writes_key, signs, skips, retires, traces}
use Rattle.rules.specs.Rules.{leaf_more, leaf_spent, grow_answer, all_spent, no_room, bad_skip, skip_answer}
use Rattle.rules.specs.States.{Signing}
use Rattle.tree.specs.Laws.{Laws}
use Rattle.histories.proofs.Sound.{Sound, Growing, Idle, Unissued, unissued-begun, unissued-on, sign_of, sign-refused, leaf-on, raised-on, sound-on, finish-on, sign-on}

module _ (hash : Hash) (code : Code) (laws : Laws hash code) (o : Origin) where
  -- what holds of each state
  abbrev Living : History → State → Type 0
  Living w (growing m) = (m.origin ≡ o) × Growing hash code m × Unissued w
  Living w (serving s) = Sound hash code o w s
  Living w (retired s) = Sound hash code o w s

  -- a call on a signer that issues nothing and leaves it
  living-on : (e : Event) (w : History) (x : State) (s : Signing) → Idle e → IsSigner x s → Living w x → Living (e ∷ w) x
  living-on e w (growing m) s idle h l = elim h [ ]
  living-on e w (serving t) s idle h l = sound-on hash code o e w t idle l
  living-on e w (retired t) s idle h l = sound-on hash code o e w t idle l

  living : {w : History} {x : State} → Lived hash code o w x → Living w x
  living (begun b) = (
    refl,
    record { begun = b; within = omega arith; long = refl; held = holds-none hash code o },
    unissued-begun,
  )
  living (called {w} l (grows m)) =
      let x = living l in
      let within = x.1.within in
      let none = unissued-on (grow (grow_answer m)) w (λ i bytes stamp fresh. fresh) x.2 in
      cond_both (eqb m.grown (2 ^ m.origin.height)) m (leaf_more hash code m) (λ n. Living (grow (grow_answer m) ∷ w) (growing n))
      (λ full. (x.0, x.1, none))
      (λ less. let ne = eqb-false m.grown (2 ^ m.origin.height) less in (x.0, leaf-on hash code laws m x.1 (omega arith), none))
  living (called {w} l (finishes m)) = let x = living l in finish-on hash code laws o w m x.0 x.1 x.2
  living (called {w} l (writes_key x s out h)) = living-on _ w x s (λ i bytes stamp fresh. fresh) h (living l)
  living (called {w} l (signs s stamp out str)) =
      cond_both (all_spent s || no_room code s out) s (leaf_spent s stamp) (Sound hash code o (sign_of hash code s stamp out ∷ w))
      (λ refused. sound-on hash code o _ w s (λ i bytes m fresh. sign-refused (all_spent s) (no_room code s out) _ _ refused fresh.1.1) (living l))
      (λ goes. sign-on hash code laws o w s stamp out str (living l) goes)
  living (called {w} l (skips s leaf)) =
      let x = living l in
      cond_both (bad_skip s leaf) s _ (Sound hash code o (skip leaf (skip_answer s leaf) ∷ w))
      (λ bad. sound-on hash code o _ w s (λ i bytes stamp fresh. fresh) x)
      (λ good.
      let both = or_parts (ltb leaf s.next) (ltb (2 ^ s.origin.height) leaf) good in
      raised-on hash code o _ w s leaf (λ i bytes stamp fresh. fresh) (ltb-false leaf s.next both.0) (ltb-false (2 ^ s.origin.height) leaf both.1) x)
  living (called {w} l (retires s)) = sound-on hash code o retire w s (λ i bytes stamp fresh. fresh) (living l)
  living (called {w} l (traces x s stamp bytes report h)) = living-on _ w x s (λ i bytes stamp fresh. fresh) h (living l)

  pub sound : {w : History} {x : State} {s : Signing} → Lived hash code o w x → IsSigner x s → Sound hash code o w s
  sound l (in_service s) = living l
  sound l (out_of_service s) = living l
