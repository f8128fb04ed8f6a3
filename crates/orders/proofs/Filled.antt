-- A room that is filled by reads, one after the other.
use Rattle.std.proofs.Common.{◌≡◌, ℕ, ◌+◌, ◌<◌, ◌≤◌, List, [], ◌++◌, length, take, drop, None, Some, IfSome, Ok, Err, Result, Option, ⊎_elim, sym, refl, ap, ◌∙◌, subst, arith, append_assoc, append-nil, drop_at, take_all, length-drop}
use Rattle.std.proofs.Math.Seq.{take-add}
use Rattle.std.proofs.Math.ListN.{drop_of_length-le}
use Rattle.std.proofs.lemmas.List.{take-append-le}
use Rattle.std.specs.Io.KnownBytes.{Consumes, Keeps, IsAtEnd, ReadConsumes}
use Rattle.std.specs.declared.io.Error.{Error}
use Rattle.orders.specs.Reading.{Giving, Interrupted, untried, again, Tried, answered, given_up, Gave, nothing, more, Stopped, ReadUpTo}

-- ---- the room

joined : (before after : List ℕ) (filled n : ℕ) → take filled after ≡ take filled before → take (filled + n) after ≡ take filled before ++ take n (drop filled after)
joined before after filled n front = take-add filled n after ∙ ap (λ l. l ++ take n (drop filled after)) front

-- one read more, behind what was read before
module _ {S : Type 0} {gives : Giving S} {s t u : S} (before after : List ℕ) (filled : ℕ) (front : take filled after ≡ take filled before) (given : Gave gives s (take filled before) t) where
  pub more-given : (n : ℕ) → Tried gives t (Ok n) (drop filled after) u → 0 < n → Gave gives s (take (filled + n) after) u
  more-given n q some =
      subst (λ bytes. Gave gives s bytes u) (sym (joined before after filled n front)) (more given q some)

  -- or the last
  pub stopped : {r : Result ℕ Error} → filled < length after → Tried gives t r (drop filled after) u → Stopped gives s (take filled after) r u
  stopped less q =
      record {
        between = t;
        room = drop filled after;
        given = subst (λ bytes. Gave gives s bytes t) (sym front) given;
        roomy = omega (arith, length-drop filled after);
        last = q;
      }

-- ---- known bytes

keeps-both : (a b c : Option (List ℕ)) → Keeps a b → Keeps b c → Keeps a c
keeps-both None b c p q = tt
keeps-both (Some x) None c p q = absurd p
keeps-both (Some x) (Some y) None p q = absurd q
keeps-both (Some x) (Some y) (Some z) p q = q ∙ p

keeps-itself : (a : Option (List ℕ)) → Keeps a a
keeps-itself None = tt
keeps-itself (Some x) = refl

nothing-read : (a : Option (List ℕ)) → Consumes a a []
nothing-read None = tt
nothing-read (Some xs) = refl

kept-read : (a b c : Option (List ℕ)) (bs : List ℕ) → Keeps a b → Consumes b c bs → Consumes a c bs
kept-read None b c bs p q = tt
kept-read (Some x) None c bs p q = absurd p
kept-read (Some x) (Some y) None bs p q = absurd q
kept-read (Some x) (Some y) (Some z) bs p q = sym p ∙ q

read-kept : (a b c : Option (List ℕ)) (bs : List ℕ) → Consumes a b bs → Keeps b c → Consumes a c bs
read-kept None b c bs p q = tt
read-kept (Some x) None c bs p q = absurd p
read-kept (Some x) (Some y) None bs p q = absurd q
read-kept (Some x) (Some y) (Some z) bs p q = p ∙ ap (λ l. bs ++ l) (sym q)

both-read : (a b c : Option (List ℕ)) (bs cs : List ℕ) → Consumes a b bs → Consumes b c cs → Consumes a c (bs ++ cs)
both-read None b c bs cs p q = tt
both-read (Some x) None c bs cs p q = absurd p
both-read (Some x) (Some y) None bs cs p q = absurd q
both-read (Some x) (Some y) (Some z) bs cs p q = p ∙ ap (λ l. bs ++ l) q ∙ sym (append_assoc bs cs z)

kept-then : (a b c : Option (List ℕ)) (r : Result ℕ Error) (room : List ℕ) → Keeps a b → ReadConsumes b c r room → ReadConsumes a c r room
kept-then a b c (Ok n) room p q = (kept-read a b c (take n room) p q.0, q.1)
kept-then a b c (Err e) room p q = keeps-both a b c p q

-- all that is read of the bytes, and what is left of them
pub record Taken (most : ℕ) (bytes read left : List ℕ) : Type 0 where
  pub first : take most bytes ≡ read
  pub others : drop most bytes ≡ left

taken-full : (most : ℕ) (read left : List ℕ) → length read ≡ most → Taken most (read ++ left) read left
taken-full most read left full =
    record { first = take-append-le most read left (omega arith) ∙ take_all most read (omega arith); others = drop_at read left most full }

taken-all : (most : ℕ) (read : List ℕ) → length read ≤ most → Taken most (read ++ []) read []
taken-all most read within =
    let whole = append-nil read in
    record { first = ap (take most) whole ∙ take_all most read within; others = ap (drop most) whole ∙ drop_of_length-le read within }

pub Takes : ℕ → Option (List ℕ) → Option (List ℕ) → List ℕ → Type 0
Takes most None new read = Unit {0}
Takes most (Some bytes) None read = ⊥
Takes most (Some bytes) (Some left) read = Taken most bytes read left

takes-full : (most : ℕ) (a b : Option (List ℕ)) (read : List ℕ) → length read ≡ most → Consumes a b read → Takes most a b read
unfolding Takes
takes-full most None b read full p = tt
takes-full most (Some x) None read full p = absurd p
takes-full most (Some x) (Some y) read full p = subst (λ bytes. Taken most bytes read y) (sym p) (taken-full most read y full)

takes-all : (most : ℕ) (a b : Option (List ℕ)) (read : List ℕ) → length read < most → Consumes a b read → IsAtEnd b → Takes most a b read
unfolding Takes
takes-all most None b read less p end = tt
takes-all most (Some x) None read less p end = absurd p
takes-all most (Some x) (Some y) read less p end =
    subst (λ bytes. Taken most bytes read y) (sym p) (subst (λ left. Taken most (read ++ left) read left) (sym end) (taken-all most read (omega arith)))

-- what is said of the bytes that were read
pub said-first : (most : ℕ) (a b : Option (List ℕ)) (read : List ℕ) (P : List ℕ → Type 0) → Takes most a b read → P read → IfSome a (λ bytes. P (take most bytes))
unfolding Takes
said-first most None b read P t p = tt
said-first most (Some bytes) None read P t p = absurd t
said-first most (Some bytes) (Some left) read P t p = subst P (sym t.first) p

pub left-unread : (most : ℕ) (a b : Option (List ℕ)) (read : List ℕ) → Takes most a b read → IfSome a (λ bytes. b ≡ Some (drop most bytes))
unfolding Takes
left-unread most None b read t = tt
left-unread most (Some bytes) None read t = absurd t
left-unread most (Some bytes) (Some left) read t = ap Some (sym t.others)

-- ---- reads of known bytes

module _ {S : Type 0} (gives : Giving S) (remaining : S → Option (List ℕ)) (law : (before after : S) (r : Result ℕ Error) (room : List ℕ) → gives before r room after → ReadConsumes (remaining before) (remaining after) r room) where
  interrupted-keeps : {s : S} {n : ℕ} {t : S} → Interrupted gives s n t → Keeps (remaining s) (remaining t)
  interrupted-keeps {s = s} untried = keeps-itself (remaining s)
  interrupted-keeps {s = s} (again {between = b} {after = t} {e = e} {room = room} p q k) =
      keeps-both (remaining s) (remaining b) (remaining t) (interrupted-keeps p) (law b t (Err e) room q)

  tried-consumes : {s : S} (r : Result ℕ Error) {room : List ℕ} {t : S} → Tried gives s r room t → ReadConsumes (remaining s) (remaining t) r room
  tried-consumes {s = s} r (answered {between = b} {after = t} {room = room} p less q k) =
      kept-then (remaining s) (remaining b) (remaining t) r room (interrupted-keeps p) (law b t r room q)
  tried-consumes r (given_up p k) = interrupted-keeps p

  gave-consumes : {s : S} {bytes : List ℕ} {t : S} → Gave gives s bytes t → Consumes (remaining s) (remaining t) bytes
  gave-consumes {s = s} nothing = nothing-read (remaining s)
  gave-consumes {s = s} (more {n = n} {bytes = bytes} {room = room} {between = b} {after = t} p q some) =
      both-read (remaining s) (remaining b) (remaining t) bytes (take n room) (gave-consumes p) (tried-consumes (Ok n) q).0

  -- a read that failed
  pub failed-consumes : (s : S) (bytes : List ℕ) (e : Error) (t : S) → Stopped gives s bytes (Err e) t → Consumes (remaining s) (remaining t) bytes
  failed-consumes s bytes e t p =
      read-kept (remaining s) (remaining p.between) (remaining t) bytes (gave-consumes p.given) (tried-consumes (Err e) p.last)

  ended-consumes : (s : S) (bytes : List ℕ) (t : S) → Stopped gives s bytes (Ok 0) t → Consumes (remaining s) (remaining t) bytes
  ended-consumes s bytes t p =
      subst (Consumes (remaining s) (remaining t)) (append-nil bytes)
      (both-read (remaining s) (remaining p.between) (remaining t) bytes [] (gave-consumes p.given) (tried-consumes (Ok 0) p.last).0)

  pub up-to-takes : (most : ℕ) (bytes : List ℕ) (s t : S) → ReadUpTo gives most s bytes t → Takes most (remaining s) (remaining t) bytes
  up-to-takes most bytes s t =
      ⊎_elim
      (λ full. takes-full most (remaining s) (remaining t) bytes full.0 (gave-consumes full.1))
      (λ end. takes-all most (remaining s) (remaining t) bytes end.0 (ended-consumes s bytes t end.1) ((tried-consumes (Ok 0) end.1.last).1 refl end.1.roomy))
