-- A call that answers and leaves what its rule says continues every history.
use Rattle.std.proofs.Common.{◌≡◌, ℕ, List, [], ◌∷◌, Result, sym, subst}
use Rattle.std.proofs.Math.Logic.{∥∥₁_map}
use Rattle.growth.specs.declared.origin.Origin.{Origin}
use Rattle.strings.specs.Strings.{IsString}
use Rattle.tree.specs.Meaning.{Hash, Code}
use Rattle.records.specs.declared.refusal.Refusal.{Refusal}
use Rattle.histories.specs.Histories.{State, growing, serving, retired, IsSigner, Event, grow, finish, key, sign, skip, retire, trace, Lived, grows, finishes, writes_key, signs, skips, retires, traces, begun, called, HasLived, Continues}
use Rattle.rules.specs.Rules.{begin_state, grow_answer, grow_state, finish_state, key_answer, key_output, sign_answer, sign_state, sign_output, skip_answer, skip_state, trace_answer, trace_report}
use Rattle.rules.specs.States.{Begun, Making, Signing}

module _ (hash : Hash) (code : Code) where
  -- calls and states that are equal continue the same histories
  same : (x y y' : State) (e e' : Event) → e' ≡ e → y' ≡ y → Continues hash code x e y → Continues hash code x e' y'
  same x y y' e e' p q goes o w l = subst (λ call. Lived hash code o (call ∷ w) y') (sym p) (subst (Lived hash code o (e ∷ w)) (sym q) (goes o w l))

  -- what a call leaves has a history behind it, where what it worked on has
  pub lives-on : (x y : State) (e : Event) → Continues hash code x e y → HasLived hash code x → HasLived hash code y
  lives-on x y e goes lived = ∥∥₁_map lived (λ l. (l.0, e ∷ l.1, goes l.0 l.1 l.2))

  pub grow-continues : (m m' : Making) (r : Result ℕ Refusal) → r ≡ grow_answer m → m' ≡ grow_state hash code m → Continues hash code (growing m) (grow r) (growing m')
  grow-continues m m' r p q = same (growing m) _ (growing m') _ (grow r) (λ i. grow (p i)) (λ i. growing (q i)) (λ o w l. called l (grows m))

  pub finish-continues : (m : Making) (s : Signing) → s ≡ finish_state hash code m → Continues hash code (growing m) finish (serving s)
  finish-continues m s q = same (growing m) _ (serving s) _ finish (λ i. finish) (λ i. serving (q i)) (λ o w l. called l (finishes m))

  pub key-continues : (x : State) (s : Signing) → IsSigner x s → (out after : List ℕ) (r : Result ℕ Refusal) → r ≡ key_answer code s out → after ≡ key_output hash code s out → Continues hash code x (key out r after) x
  key-continues x s holds out after r p q = same x x x _ (key out r after) (λ i. key out (p i) (q i)) (λ i. x) (λ o w l. called l (writes_key x s out holds))

  pub sign-continues : (s s' : Signing) (stamp out after : List ℕ) (r : Result (ℕ × ℕ) Refusal) → IsString stamp → r ≡ sign_answer code s out → s' ≡ sign_state code s stamp out → after ≡ sign_output hash code s stamp out → Continues hash code (serving s) (sign stamp out r after) (serving s')
  sign-continues s s' stamp out after r str p q a = same (serving s) _ (serving s') _ (sign stamp out r after) (λ i. sign stamp out (p i) (a i)) (λ i. serving (q i)) (λ o w l. called l (signs s stamp out str))

  pub skip-continues : (s s' : Signing) (leaf : ℕ) (r : Result ℕ Refusal) → r ≡ skip_answer s leaf → s' ≡ skip_state s leaf → Continues hash code (serving s) (skip leaf r) (serving s')
  skip-continues s s' leaf r p q = same (serving s) _ (serving s') _ (skip leaf r) (λ i. skip leaf (p i)) (λ i. serving (q i)) (λ o w l. called l (skips s leaf))

  pub retire-continues : (s s' : Signing) → s' ≡ s → Continues hash code (serving s) retire (retired s')
  retire-continues s s' q = same (serving s) _ (retired s') _ retire (λ i. retire) (λ i. retired (q i)) (λ o w l. called l (retires s))

  pub trace-continues : (x : State) (s : Signing) → IsSigner x s → (stamp bytes report after : List ℕ) (r : Result (ℕ × ℕ × ℕ) Refusal) → r ≡ trace_answer hash code s stamp bytes → after ≡ trace_report hash code s stamp bytes report → Continues hash code x (trace stamp bytes report r after) x
  trace-continues x s holds stamp bytes report after r p a = same x x x _ (trace stamp bytes report r after) (λ i. trace stamp bytes report (p i) (a i)) (λ i. x) (λ o w l. called l (traces x s stamp bytes report holds))

  pub begin-lives : (o : Origin) (m : Making) → Begun o → m ≡ begin_state o → Lived hash code o [] (growing m)
  begin-lives o m given q = subst (λ n. Lived hash code o [] (growing n)) (sym q) (begun given)
