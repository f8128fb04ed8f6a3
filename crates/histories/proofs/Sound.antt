-- A ledger that is what a history issued, and what each call leaves of that.
use Rattle.std.proofs.Common.{◌≡◌, ℕ, zero, suc, ◌+◌, ◌-◌, ◌^◌, ◌<◌, ◌≤◌, Bool, true, false, cond, ◌||◌, ◌⊎◌, List, [], ◌∷◌, length, get_or, take, replicate, Some, None, Ok, Err, Option, Result, sym, refl, ap, ◌∙◌, subst, inl, inr, ⊎_elim, arith, pow_mono}
use Rattle.std.proofs.lemmas.List.{length-set, get_or-set_same, get_or-set_other, take_at}
use Rattle.std.proofs.lemmas.Bool.{cond-false, or_parts, eqb-false, cases_eq}
use Rattle.growth.specs.Grown.{nodes_size, node_at, Holds}
use Rattle.growth.specs.Shown.{shown_row}
use Rattle.growth.specs.declared.origin.Origin.{Origin}
use Rattle.growth.proofs.Carries.{holds_more}
use Rattle.growth.proofs.Trees.{holds-root}
use Rattle.strings.specs.Strings.{IsString, string_at}
use Rattle.tree.specs.Meaning.{Hash, Code}
use Rattle.records.specs.Records.{release_bytes}
use Rattle.records.specs.declared.refusal.Refusal.{Refusal}
use Rattle.records.specs.declared.refusal.Refusal.TheVariants.{Spent, Output}
use Rattle.std.proofs.lemmas.Option.{none-some, same_Some}
use Rattle.histories.specs.Histories.{Event, grow, finish, key, sign, skip, retire, trace, History, Issued, issues, here, there}
use Rattle.rules.specs.Rules.{Rooted, leaf_more, leaves_more, finish_state, release_size, release_record, leaf_spent, all_spent, no_room, sign_answer, sign_output}
use Rattle.rules.specs.States.{Begun, Making, Signing, ledger_rows}
use Rattle.rules.proofs.Accepting.{row-filled}
use Rattle.tree.specs.Laws.{Laws}
use Rattle.rules.proofs.Laws.{strings}

-- a leaf that was spent: its number, its row of the ledger, and the record and the stamp it was spent on
pub record SpentOn (hash : Hash) (code : Code) (s : Signing) (i : ℕ) (bytes stamp : List ℕ) : Type 0 where
  pub below : i < s.next
  pub row : get_or s.rows i None ≡ Some stamp
  pub string : IsString stamp
  pub is : bytes ≡ release_bytes i (shown_row hash code s.origin i stamp)

-- a signer: its root is that of its tree, and its ledger is what its history issued
pub record Sound (hash : Hash) (code : Code) (o : Origin) (w : History) (s : Signing) : Type 0 where
  pub origin : s.origin ≡ o
  pub begun : Begun s.origin
  pub rooted : Rooted hash code s
  pub within : s.next ≤ 2 ^ s.origin.height
  pub long : length s.rows ≡ ledger_rows
  pub issued : (i : ℕ) (bytes stamp : List ℕ) → Issued w i bytes stamp → SpentOn hash code s i bytes stamp
  pub entered : (i : ℕ) (stamp : List ℕ) → get_or s.rows i None ≡ Some stamp → Issued w i (release_bytes i (shown_row hash code s.origin i stamp)) stamp

-- a key that is being grown
pub record Growing (hash : Hash) (code : Code) (m : Making) : Type 0 where
  pub begun : Begun m.origin
  pub within : m.grown ≤ 2 ^ m.origin.height
  pub long : length m.nodes ≡ nodes_size
  pub held : Holds hash code m.origin m.grown m.nodes

-- what a call issued
abbrev pub Fresh : Event → ℕ → List ℕ → List ℕ → Type 0
Fresh (sign m out answer after) i bytes stamp = (m ≡ stamp) × ((n : ℕ) × (answer ≡ Ok (n, i)) × (bytes ≡ take n after))
Fresh (grow answer) i bytes stamp = ⊥
Fresh finish i bytes stamp = ⊥
Fresh (key out answer after) i bytes stamp = ⊥
Fresh (skip leaf answer) i bytes stamp = ⊥
Fresh retire i bytes stamp = ⊥
Fresh (trace m given report answer after) i bytes stamp = ⊥

-- a call that issued nothing, and a history of such calls
abbrev pub Idle : Event → Type 0
Idle e = (i : ℕ) (bytes stamp : List ℕ) → Fresh e i bytes stamp → ⊥

abbrev pub Unissued : History → Type 0
Unissued w = (i : ℕ) (bytes stamp : List ℕ) → Issued w i bytes stamp → ⊥

-- a sign call
abbrev pub sign_of : Hash → Code → Signing → List ℕ → List ℕ → Event
sign_of hash code s stamp out = sign stamp out (sign_answer code s out) (sign_output hash code s stamp out)

-- what an answer and an output issue
issued-here : (w : History) (stamp out after bytes : List ℕ) (answer : Result (ℕ × ℕ) Refusal) (n i : ℕ) → answer ≡ Ok (n, i) → bytes ≡ take n after → Issued (sign stamp out answer after ∷ w) i bytes stamp
issued-here w stamp out after bytes answer n i p q =
    subst (λ a. Issued (sign stamp out a after ∷ w) i bytes stamp) (sym p)
    (subst (λ b. Issued (sign stamp out (Ok (n, i)) after ∷ w) i b stamp) (sym q) (here issues))

-- what was issued was so before the newest call, or by it
pub newest : {e : Event} {w : History} {i : ℕ} {bytes stamp : List ℕ} → Issued (e ∷ w) i bytes stamp → Issued w i bytes stamp ⊎ Fresh e i bytes stamp
newest (here (issues {stamp} {out} {after} {n})) = inr (refl, (n, refl, refl))
newest (there x) = inl x

pub unissued-begun : Unissued []
unissued-begun i bytes stamp x = elim x [ ]

pub unissued-on : (e : Event) (w : History) → Idle e → Unissued w → Unissued (e ∷ w)
unissued-on e w idle none i bytes stamp x = ⊎_elim (none i bytes stamp) (idle i bytes stamp) (newest x)

-- a row of a ledger with nothing in it
pub none_at : (n i : ℕ) → get_or {A = Option (List ℕ)} (replicate n None) i None ≡ None
none_at zero i = refl
none_at (suc n) zero = refl
none_at (suc n) (suc i) = none_at n i

-- the two tests of a sign call
pub sign-refused : (a b : Bool) (x y : ℕ × ℕ) → (a || b) ≡ true → cond a (Err Spent) (cond b (Err Output) (Ok x)) ≡ Ok y → ⊥
sign-refused true b x y p q = cc
sign-refused false true x y p q = cc
sign-refused false false x y p q = cc

pub sign-answered : (a b : Bool) (x y : ℕ × ℕ) → cond a (Err Spent) (cond b (Err Output) (Ok x)) ≡ Ok y → x ≡ y
sign-answered true b x y q = cc
sign-answered false true x y q = cc
sign-answered false false x y q = cc

module _ (hash : Hash) (code : Code) (o : Origin) where
  -- a call that issues nothing, and at most raises the next leaf
  pub raised-on : (e : Event) (w : History) (s : Signing) (n : ℕ) → Idle e → s.next ≤ n → n ≤ 2 ^ s.origin.height → Sound hash code o w s → Sound hash code o (e ∷ w) (record { origin = s.origin; root = s.root; next = n; rows = s.rows })
  raised-on e w s n idle more within x =
      record {
        origin = x.origin;
        begun = x.begun;
        rooted = x.rooted;
        within = within;
        long = x.long;
        issued = λ i bytes stamp y.
            ⊎_elim
            (λ (old : Issued w i bytes stamp). let spent = x.issued i bytes stamp old in let below = spent.below in record { below = omega arith; row = spent.row; string = spent.string; is = spent.is })
            (λ fresh. absurd (idle i bytes stamp fresh))
            (newest y);
        entered = λ i stamp row. there (x.entered i stamp row);
      }

  pub sound-on : (e : Event) (w : History) (s : Signing) → Idle e → Sound hash code o w s → Sound hash code o (e ∷ w) s
  sound-on e w s idle x = raised-on e w s s.next idle (omega arith) x.within x

module _ (hash : Hash) (code : Code) (laws : Laws hash code) where
  -- one leaf more
  pub leaf-on : (m : Making) → Growing hash code m → m.grown < 2 ^ m.origin.height → Growing hash code (leaf_more hash code m)
  leaf-on m x room =
      let b = x.begun in
      let more = holds_more hash code m.origin (strings laws b) b.tall.1 laws.of_code.level_range.1 m.grown room m.nodes x.long x.held in
      record { begun = b; within = omega arith; long = more.0; held = more.1 }

  -- with all leaves in, the root is that of the tree
  root-on : (n : ℕ) (m : Making) → Growing hash code m → m.grown + n ≡ 2 ^ m.origin.height → string_at (leaves_more hash code n m).nodes 0 ≡ node_at hash code m.origin 0 0
  unfolding leaves_more
  root-on zero m x all =
      let full : m.grown ≡ 2 ^ m.origin.height = omega arith in
      holds-root hash code m.origin m.nodes (subst (λ g. Holds hash code m.origin g m.nodes) full x.held)
  root-on (suc n) m x all = root-on n (leaf_more hash code m) (leaf-on m x (omega arith)) (omega arith)

  module _ (o : Origin) where
    pub finish-on : (w : History) (m : Making) → m.origin ≡ o → Growing hash code m → Unissued w → Sound hash code o (finish ∷ w) (finish_state hash code m)
    finish-on w m from x none =
        let within = x.within in
        record {
          origin = from;
          begun = x.begun;
          rooted = root-on (2 ^ m.origin.height - m.grown) m x (omega arith);
          within = omega arith;
          long = refl;
          issued = λ i bytes stamp y. absurd (unissued-on finish w (λ j b m fresh. fresh) none i bytes stamp y);
          entered = λ i stamp row. absurd (none-some stamp (sym (none_at 256 i) ∙ row));
        }

    -- a sign call that is not refused
    module _ (w : History) (s : Signing) (stamp out : List ℕ) (str : IsString stamp) (x : Sound hash code o w s) (goes : (all_spent s || no_room code s out) ≡ false) where
      abbrev event : Event
      event = sign_of hash code s stamp out

      abbrev next : Signing
      next = leaf_spent s stamp

      unspent : s.next < 2 ^ s.origin.height
      unspent = let within = x.within in let ne = eqb-false s.next (2 ^ s.origin.height) (or_parts (all_spent s) (no_room code s out) goes).0 in omega arith

      answers : sign_answer code s out ≡ Ok (release_size code s, s.next)
      answers =
          let both = or_parts (all_spent s) (no_room code s out) goes in
          cond-false (all_spent s) _ _ both.0 ∙ cond-false (no_room code s out) _ _ both.1

      writes : take (release_size code s) (sign_output hash code s stamp out) ≡ release_bytes s.next (shown_row hash code s.origin s.next stamp)
      unfolding release_record
      writes =
          let row = row-filled hash code s.origin s.next stamp (strings laws x.begun) x.begun.tall.1 laws.of_code.level_range.1 in
          ap (take (release_size code s)) (cond-false (all_spent s || no_room code s out) _ _ goes)
          ∙ take_at (release_bytes s.next (shown_row hash code s.origin s.next stamp)) _ (release_size code s) (omega arith)

      pub sign-on : Sound hash code o (event ∷ w) next
      sign-on =
          let b = x.begun in
          let many : 2 ^ s.origin.height ≤ 256 = pow_mono {i = s.origin.height} {j = 8} b.tall.1 in
          let long = x.long in
          let room = unspent in
          let here-row : get_or next.rows s.next None ≡ Some stamp = get_or-set_same s.rows s.next (Some stamp) None (omega arith) in
          let other_row : (i : ℕ) → (i ≡ s.next → ⊥) → get_or next.rows i None ≡ get_or s.rows i None = λ i ne. get_or-set_other s.rows s.next i (Some stamp) None ne in
          record {
            origin = x.origin;
            begun = b;
            rooted = x.rooted;
            within = omega arith;
            long = length-set s.rows s.next (Some stamp) ∙ long;
            issued = λ i bytes m y.
                ⊎_elim
                (λ (old : Issued w i bytes m).
                let spent = x.issued i bytes m old in
                let below = spent.below in
                record { below = omega arith; row = other_row i (omega arith) ∙ spent.row; string = spent.string; is = spent.is })
                (λ (fresh : Fresh event i bytes m).
                let same = sign-answered (all_spent s) (no_room code s out) (release_size code s, s.next) (fresh.1.0, i) fresh.1.1 in
                let leaf : s.next ≡ i = ap (λ p. p.1) same in
                let size : release_size code s ≡ fresh.1.0 = ap (λ p. p.0) same in
                record {
                  below = omega arith;
                  row = ap (λ k. get_or next.rows k None) (sym leaf) ∙ here-row ∙ ap Some fresh.0;
                  string = subst IsString fresh.0 str;
                  is = fresh.1.2 ∙ ap (λ k. take k (sign_output hash code s stamp out)) (sym size) ∙ writes ∙ (λ j. release_bytes (leaf j) (shown_row hash code s.origin (leaf j) (fresh.0 j)));
                })
                (newest y);
            entered = λ i m row.
                ⊎_elim
                (λ (is : s.next ≡ i).
                let same : stamp ≡ m = same_Some _ _ (sym here-row ∙ ap (λ k. get_or next.rows k None) is ∙ row) in
                subst (λ k. Issued (event ∷ w) k (release_bytes k (shown_row hash code s.origin k m)) m) is
                (subst (λ u. Issued (event ∷ w) s.next (release_bytes s.next (shown_row hash code s.origin s.next u)) u) same
                (issued-here w stamp out _ _ _ (release_size code s) s.next answers (sym writes))))
                (λ (ne : s.next ≡ i → ⊥). there (x.entered i m (sym (other_row i (λ e. ne (sym e))) ∙ row)))
                (cases_eq s.next i);
          }
