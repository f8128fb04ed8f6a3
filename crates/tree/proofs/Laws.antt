-- The laws of chains, nodes and paths.
use Rattle.std.proofs.Common.{◌≡◌, ℕ, zero, suc, ◌+◌, ◌-◌, ◌*◌, ◌/◌, ◌%◌, ◌^◌, ◌<◌, ◌≤◌, cond, List, replicate, sym, refl, ap, ◌∙◌, mul_assoc, mul_comm, add-mul, one-mul, add-one, arith, rules, pow_mono, le-ltb, lt-ltb}
use native.Mathlib.Nat.{pow-succ'}
use Rattle.std.proofs.lemmas.Grind.{pow_more}
use Rattle.strings.specs.Strings.{string_at, zero_string}
use Rattle.strings.proofs.Laws.{string_at-zeros}
use Rattle.tree.specs.Nodes.{raise, node, above, climb, one_time}
use Rattle.tree.specs.Rows.{most_places, work_size}

pub raise-none : (step : List ℕ → List ℕ) (s : List ℕ) → raise step 0 s ≡ s
unfolding raise
raise-none step s = refl

pub raise-more : (step : List ℕ → List ℕ) (e : ℕ) (s : List ℕ) → step (raise step e s) ≡ raise step (e + 1) s
unfolding raise
raise-more step e s = ap (λ n. raise step n s) (sym (add-one e))

pub node-bottom : (parent : ℕ → List ℕ → List ℕ → List ℕ) (bottom : ℕ → List ℕ) (a b : ℕ) → node parent bottom a 0 b ≡ bottom b
unfolding node
node-bottom parent bottom a b = refl

pub node-parent : (parent : ℕ → List ℕ → List ℕ → List ℕ) (bottom : ℕ → List ℕ) (a d b : ℕ) → node parent bottom a (d + 1) b ≡ parent a (node parent bottom (a + 1) d (2 * b)) (node parent bottom (a + 1) d (2 * b + 1))
unfolding node
node-parent parent bottom a d b = rw (add-one d, add-one a)

-- a node depends on the bottom strings below it alone, wherever they stand
pub node-moved : (parent : ℕ → List ℕ → List ℕ → List ℕ) (f g : ℕ → List ℕ) (a d b c : ℕ) → ((k : ℕ) → k < 2 ^ d → f (b * 2 ^ d + k) ≡ g (c * 2 ^ d + k)) → node parent f a d b ≡ node parent g a d c
unfolding node
node-moved parent f g a zero b c same =
    ap f (omega arith) ∙ same 0 (omega arith) ∙ ap g (omega arith)
node-moved parent f g a (suc d) b c same =
    let half = 2 ^ d in
    let spread : (n : ℕ) → n * 2 ^ suc d ≡ (2 * n) * half = λ n. ap (λ p. n * p) (pow-succ' 2 d) ∙ sym (mul_assoc n 2 half) ∙ ap (λ p. p * half) (mul_comm n 2) in
    let right : (n k : ℕ) → (2 * n + 1) * half + k ≡ n * 2 ^ suc d + (half + k) = λ n k. omega (arith, spread n, add-mul (2 * n) 1 half, one-mul half) in
    let left : (n k : ℕ) → (2 * n) * half + k ≡ n * 2 ^ suc d + k = λ n k. omega (arith, spread n) in
    λ i.
    parent a
    (node-moved parent f g (suc a) d (2 * b) (2 * c) (λ k h. ap f (left b k) ∙ same k (omega arith) ∙ sym (ap g (left c k))) i)
    (node-moved parent f g (suc a) d (2 * b + 1) (2 * c + 1) (λ k h. ap f (right b k) ∙ same (half + k) (omega arith) ∙ sym (ap g (right c k))) i)

-- a node of a level and the string beside it have the parent of both above them
pub above-both : (parent : ℕ → List ℕ → List ℕ → List ℕ) (f : ℕ → List ℕ) (a b : ℕ) (sibling : List ℕ) → (b % 2 ≡ 0 → sibling ≡ f (2 * (b / 2) + 1)) → ((b % 2 ≡ 0 → ⊥) → sibling ≡ f (2 * (b / 2))) → above parent a b (f b) sibling ≡ parent a (f (2 * (b / 2))) (f (2 * (b / 2) + 1))
above-both parent f a b sibling right left = search rules

pub climb-root : (parent : ℕ → List ℕ → List ℕ → List ℕ) (sibling : ℕ → List ℕ) (b : ℕ) (s : List ℕ) → climb parent sibling 0 b s ≡ s
unfolding climb
climb-root parent sibling b s = refl

pub climb-more : (parent : ℕ → List ℕ → List ℕ → List ℕ) (sibling : ℕ → List ℕ) (a b : ℕ) (s : List ℕ) → climb parent sibling (a + 1) b s ≡ climb parent sibling a (b / 2) (above parent a b s (sibling (a + 1)))
unfolding climb
climb-more parent sibling a b s = rw (add-one a)

-- one-time strings: at the places of the chains, and past them
module _ (step : List ℕ → List ℕ) (top : ℕ) (digit : ℕ → ℕ) (shown : ℕ → List ℕ) where
  pub one-time-chain : (count k : ℕ) → k < count → one_time step count top digit shown k ≡ raise step (top - digit k) (shown k)
  one-time-chain count k h = ap (λ b. cond b (raise step (top - digit k) (shown k)) zero_string) (lt-ltb k count h)

  pub one-time-past : (count k : ℕ) → count ≤ k → one_time step count top digit shown k ≡ zero_string
  one-time-past count k h = ap (λ b. cond b (raise step (top - digit k) (shown k)) zero_string) (le-ltb k count h)

  -- a row of zeros
  pub one-time-none : (i : ℕ) → i < most_places → string_at (replicate work_size 0) i ≡ one_time step 0 top digit shown i
  one-time-none i h = string_at-zeros work_size i (omega arith) ∙ sym (one-time-past 0 i (omega arith))

  -- a row with one chain more
  pub one-time-more : (n k : ℕ) (row after : List ℕ) → ((i : ℕ) → i < n → string_at row i ≡ one_time step k top digit shown i) → string_at after k ≡ raise step (top - digit k) (shown k) → ((i : ℕ) → (i ≡ k → ⊥) → string_at after i ≡ string_at row i) → (i : ℕ) → i < n → string_at after i ≡ one_time step (k + 1) top digit shown i
  one-time-more n k row after inv here others i h = search rules

-- rows of nodes, level by level
module _ (parent : ℕ → List ℕ → List ℕ → List ℕ) (bottom : ℕ → List ℕ) where
  pub fold-none : (a n b : ℕ) → bottom b ≡ node parent bottom a (n - n) b
  fold-none a n b = sym (ap (λ d. node parent bottom a d b) (omega arith) ∙ node-bottom parent bottom a b)

  -- the parents of a row of nodes are the row above it
  pub fold_more : (row after : ℕ → List ℕ) (n m a d a' d' : ℕ) → a + 1 ≡ a' → d + 1 ≡ d' → 2 * n ≤ m → ((k : ℕ) → k < m → row k ≡ node parent bottom a' d k) → ((k : ℕ) → k < n → after k ≡ parent a (row (2 * k)) (row (2 * k + 1))) → (k : ℕ) → k < n → after k ≡ node parent bottom a d' k
  fold_more row after n m a d a' d' up down room below joined k h =
      joined k h
      ∙ (λ i. parent a (below (2 * k) (omega arith) i) (below (2 * k + 1) (omega arith) i))
      ∙ ap (λ c. parent a (node parent bottom c d (2 * k)) (node parent bottom c d (2 * k + 1))) (sym up)
      ∙ sym (node-parent parent bottom a d k)
      ∙ ap (λ e. node parent bottom a e k) down

-- one turn of the way up
pub climb-turn : (parent : ℕ → List ℕ → List ℕ → List ℕ) (sibling : ℕ → List ℕ) (a n b : ℕ) (s t : List ℕ) → a + 1 ≡ n → t ≡ above parent a b s (sibling n) → climb parent sibling a (b / 2) t ≡ climb parent sibling n b s
climb-turn parent sibling a n b s t up is =
    ap (climb parent sibling a (b / 2)) (is ∙ ap (λ c. above parent a b s (sibling c)) (sym up))
    ∙ sym (climb-more parent sibling a b s)
    ∙ ap (λ c. climb parent sibling c b s) up

pub double-pow : (j k : ℕ) → j + 1 ≤ k → 2 * 2 ^ j ≤ 2 ^ k
double-pow j k h = omega (arith, pow_more 2 j, pow_mono h)
