-- The laws of a search for the first find, and for the last.
use Rattle.std.proofs.Common.{◌≡◌, ℕ, zero, suc, ◌+◌, ◌<◌, Some, None, Option, sym, refl, ap, ◌∙◌, add-zero, zero-add, add-one, arith}
use Rattle.std.specs.Option.{option_or}
use Rattle.compare.specs.Search.{first_from, last_from}
use Rattle.compare.specs.declared.verdict.Find.{Find}

or-none : (x : Option Find) → option_or x None ≡ x
or-none None = refl
or-none (Some f) = refl

or_assoc : (x y z : Option Find) → option_or (option_or x y) z ≡ option_or x (option_or y z)
or_assoc None y z = refl
or_assoc (Some f) y z = refl

module _ (f : ℕ → Option Find) where
  pub first-none : (a : ℕ) → first_from f a 0 ≡ None
  unfolding first_from
  first-none a = refl

  pub last_none : (a : ℕ) → last_from f a 0 ≡ None
  unfolding last_from
  last_none a = refl

  -- one place more, at the front
  pub first-front : (a n : ℕ) → first_from f a (n + 1) ≡ option_or (f a) (first_from f (a + 1) n)
  unfolding first_from
  first-front a n = rw (add-one n, add-one a)

  -- places in two parts
  pub first-split : (a m n : ℕ) → first_from f a (m + n) ≡ option_or (first_from f a m) (first_from f (a + m) n)
  unfolding first_from
  first-split a zero n = λ i. first_from f (sym (add-zero a) i) (zero-add n i)
  first-split a (suc m) n =
      ap (first_from f a) (let e : suc m + n ≡ suc (m + n) = omega arith in e)
      ∙ ap (option_or (f a)) (first-split (suc a) m n)
      ∙ sym (or_assoc (f a) (first_from f (suc a) m) (first_from f (suc a + m) n))
      ∙ ap (λ c. option_or (first_from f a (suc m)) (first_from f c n)) (let e : suc a + m ≡ a + suc m = omega arith in e)

  -- one place more, at the end
  pub first_more : (a n : ℕ) → first_from f a (n + 1) ≡ option_or (first_from f a n) (f (a + n))
  unfolding first_from
  first_more a n = first-split a n 1 ∙ ap (option_or (first_from f a n)) (or-none (f (a + n)))

  -- a find at the place before those that were searched, and at the one after them
  pub first-before : (a b n m : ℕ) (x y : Option Find) → a + 1 ≡ b → n + 1 ≡ m → x ≡ f a → y ≡ first_from f b n → option_or x y ≡ first_from f a m
  first-before a b n m x y next more p q =
      (λ i. option_or (p i) ((q ∙ ap (λ c. first_from f c n) (sym next)) i)) ∙ sym (first-front a n) ∙ ap (first_from f a) more

  pub first-after : (n : ℕ) (x y : Option Find) → x ≡ first_from f 0 n → y ≡ f n → option_or x y ≡ first_from f 0 (n + 1)
  first-after n x y p q = (λ i. option_or (p i) ((q ∙ ap f (sym (zero-add n))) i)) ∙ sym (first_more 0 n)

  pub last_more : (a n : ℕ) → last_from f a (n + 1) ≡ option_or (f (a + n)) (last_from f a n)
  unfolding last_from
  last_more a n = rw (add-one n)

-- the finds alone decide, wherever they stand
pub first-moved : (f g : ℕ → Option Find) (a c n : ℕ) → ((k : ℕ) → k < n → f (a + k) ≡ g (c + k)) → first_from f a n ≡ first_from g c n
unfolding first_from
first-moved f g a c zero same = refl
first-moved f g a c (suc n) same =
    λ i. option_or ((ap f (sym (add-zero a)) ∙ same 0 (omega arith) ∙ ap g (add-zero c)) i) (first-moved f g (suc a) (suc c) n (λ k h. ap f (let e : suc a + k ≡ a + suc k = omega arith in e) ∙ same (suc k) (omega arith) ∙ ap g (let e : c + suc k ≡ suc c + k = omega arith in e)) i)

pub last-same : (f g : ℕ → Option Find) (a n : ℕ) → ((k : ℕ) → k < n → f (a + k) ≡ g (a + k)) → last_from f a n ≡ last_from g a n
unfolding last_from
last-same f g a zero same = refl
last-same f g a (suc n) same = λ i. option_or (same n (omega arith) i) (last-same f g a n (λ k h. same k (omega arith)) i)
