-- The nodes of the two sides: each the parent of two below it, and within the leaf.
use Rattle.std.proofs.Common.{◌≡◌, ℕ, zero, suc, ◌+◌, ◌-◌, ◌*◌, ◌/◌, ◌%◌, ◌^◌, ◌<◌, ◌≤◌, eqb, leb, List, sym, refl, ap, ◌∙◌, ⊎_elim, mul_assoc, add-mul, arith, rules}
use native.Mathlib.Nat.{div-eq_of_lt}
use lib.Arith.{digits_lt, digits_div, digits_mod}
use Rattle.std.proofs.lemmas.Nat.{pow-add, shr-shr}
use Rattle.std.proofs.lemmas.Bool.{cases_lt, cond-true, cond-false, eq-eqb, ne_eqb, le-leb, lt-leb}
use Rattle.strings.specs.Strings.{string_at}
use Rattle.tree.specs.Meaning.{Hash, Code}
use Rattle.tree.specs.Nodes.{node, above, climb, one_time, parent_at}
use Rattle.tree.specs.Rebuilt.{rebuilt}
use Rattle.tree.proofs.Laws.{node-moved, node-parent, above-both, climb-root, climb-turn}
use Rattle.growth.specs.Grown.{leaf_string, bottom, parameters}
use Rattle.growth.proofs.Paths.{shr-none}
use Rattle.compare.specs.Sides.{Traced, given, our_node, their_bottom, their_leaf, their_sibling, their_node}

-- a node within block i of the bottom strings, which has 2 ^ (c + d) of them, is a node over that block alone
pub inner : (parent : ℕ → List ℕ → List ℕ → List ℕ) (F : ℕ → ℕ → List ℕ) (a c d i q : ℕ) → q < 2 ^ c → node parent (λ p. F (p / 2 ^ (c + d)) (p % 2 ^ (c + d))) a d (i * 2 ^ c + q) ≡ node parent (F i) a d q
inner parent F a c d i q h =
    let size = 2 ^ (c + d) in
    let parts : size ≡ 2 ^ c * 2 ^ d = pow-add 2 c d in
    node-moved parent (λ p. F (p / size) (p % size)) (F i) a d (i * 2 ^ c + q) q
    (λ k lt.
    let r = q * 2 ^ d + k in
    let room : r < size = omega (arith, digits_lt {m = 2 ^ c} {c = 2 ^ d} h lt) in
    let place : (i * 2 ^ c + q) * 2 ^ d + k ≡ i * size + r = omega (arith, add-mul (i * 2 ^ c) q (2 ^ d), mul_assoc i (2 ^ c) (2 ^ d), ap (λ p. i * p) parts) in
    ap (λ p. F (p / size) (p % size)) place
    ∙ (λ j. F (digits_div i {m = size} {r = r} room j) (digits_mod i {m = size} {r = r} room j)))

-- what a record gives on the way up from leaf i, and beside it
module _ (parent : ℕ → List ℕ → List ℕ → List ℕ) (sibling : ℕ → List ℕ) (leaf : List ℕ) (h i : ℕ) where
  given-leaf : given parent sibling leaf h i 0 i ≡ leaf
  unfolding given
  given-leaf = cond-true (eqb i i) leaf (sibling h) (eq-eqb i i refl)

  given-on : (d b : ℕ) → b ≡ i / 2 ^ (d + 1) → given parent sibling leaf h i (d + 1) b ≡ parent (h - (d + 1)) (given parent sibling leaf h i d (2 * b)) (given parent sibling leaf h i d (2 * b + 1))
  unfolding given
  given-on d b e = search rules

  given-beside : (d b : ℕ) → (b ≡ i / 2 ^ d → ⊥) → given parent sibling leaf h i d b ≡ sibling (h - d)
  unfolding given
  given-beside zero b ne = cond-false (eqb b i) _ _ (ne_eqb b i (λ e. ne (omega arith))) ∙ ap sibling (omega arith)
  given-beside (suc d) b ne = cond-false (eqb b (i / 2 ^ suc d)) _ _ (ne_eqb b (i / 2 ^ suc d) ne)

module _ (hash : Hash) (code : Code) (t : Traced) where
  abbrev h : ℕ
  h = t.origin.height

  abbrev l : ℕ
  l = code.levels

  abbrev parent : ℕ → List ℕ → List ℕ → List ℕ
  parent = parent_at hash (parameters t.origin)

  -- the signer's nodes within the leaf
  pub our-inner : (c q : ℕ) → c ≤ l → q < 2 ^ c → our_node hash code t (h + c) (t.leaf * 2 ^ c + q) ≡ node parent (leaf_string hash code t.origin t.leaf) (h + c) (l - c) q
  our-inner c q le lt =
      let b = t.leaf * 2 ^ c + q in
      let deep : h + l - (h + c) ≡ l - c = omega arith in
      let all : l ≡ c + (l - c) = omega arith in
      ap (λ d. node parent (bottom hash code t.origin) (h + c) d b) deep
      ∙ ap (λ n. node parent (λ p. leaf_string hash code t.origin (p / 2 ^ n) (p % 2 ^ n)) (h + c) (l - c) b) all
      ∙ inner parent (leaf_string hash code t.origin) (h + c) c (l - c) t.leaf q lt

  -- the record's nodes: down to the leaf's level, and within the leaf
  their-up : (d b : ℕ) → d ≤ h → their_node hash code t (h - d) b ≡ given parent (their_sibling hash code t) (their_leaf hash code t) h t.leaf d b
  their-up d b le = search rules

  their-low : (c b : ℕ) → b / 2 ^ c ≡ t.leaf → their_node hash code t (h + c) b ≡ node parent (their_bottom hash code t) (h + c) (l - c) b
  their-low zero b near =
      let is : b ≡ t.leaf = omega arith in
      let top : h + 0 ≡ h = omega arith in
      (λ i. their_node hash code t (top i) (is i))
      ∙ cond-true (leb h h) _ _ (le-leb h h (omega arith))
      ∙ ap (λ n. given parent (their_sibling hash code t) (their_leaf hash code t) h t.leaf n t.leaf) (omega arith)
      ∙ given-leaf parent (their_sibling hash code t) (their_leaf hash code t) h t.leaf
      ∙ (λ i. node parent (their_bottom hash code t) (sym top i) (let e : l ≡ l - 0 = omega arith in e i) (sym is i))
  their-low (suc c) b near =
      let deep : h + l - (h + suc c) ≡ l - suc c = omega arith in
      cond-false (leb (h + suc c) h) _ _ (lt-leb (h + suc c) h (omega arith))
      ∙ ap (λ d. node parent (their_bottom hash code t) (h + suc c) d b) deep

  pub their-inner : (c q : ℕ) → c ≤ l → q < 2 ^ c → their_node hash code t (h + c) (t.leaf * 2 ^ c + q) ≡ node parent (one_time (hash.step t.origin.hash_key) code.count code.top (code.digit t.stamp) (string_at t.row)) (h + c) (l - c) q
  their-inner c q le lt =
      let b = t.leaf * 2 ^ c + q in
      let all : l ≡ c + (l - c) = omega arith in
      let strings = one_time (hash.step t.origin.hash_key) code.count code.top (code.digit t.stamp) (string_at t.row) in
      their-low c b (digits_div t.leaf lt)
      ∙ ap (λ n. node parent (λ p. strings (p % 2 ^ n)) (h + c) (l - c) b) all
      ∙ inner parent (λ i. strings) (h + c) c (l - c) t.leaf q lt

  -- beside the way up from the leaf
  pub their-beside : (d b : ℕ) → d ≤ h → (b ≡ t.leaf / 2 ^ d → ⊥) → their_node hash code t (h - d) b ≡ their_sibling hash code t (h - d)
  their-beside d b le ne = their-up d b le ∙ given-beside parent (their_sibling hash code t) (their_leaf hash code t) h t.leaf d b ne

  -- on the way up
  pub their-on : (d : ℕ) → d < h → their_node hash code t (h - (d + 1)) (t.leaf / 2 ^ (d + 1)) ≡ parent (h - (d + 1)) (their_node hash code t (h - d) (2 * (t.leaf / 2 ^ (d + 1)))) (their_node hash code t (h - d) (2 * (t.leaf / 2 ^ (d + 1)) + 1))
  their-on d lt =
      let b = t.leaf / 2 ^ (d + 1) in
      their-up (d + 1) b (omega arith)
      ∙ given-on parent (their_sibling hash code t) (their_leaf hash code t) h t.leaf d b refl
      ∙ (λ i. parent (h - (d + 1)) (sym (their-up d (2 * b) (omega arith)) i) (sym (their-up d (2 * b + 1) (omega arith)) i))

  -- above the leaf and within it
  pub their-parent : (a b : ℕ) → a < h + l → b / 2 ^ (a - h) ≡ t.leaf / 2 ^ (h - a) → their_node hash code t a b ≡ parent a (their_node hash code t (a + 1) (2 * b)) (their_node hash code t (a + 1) (2 * b + 1))
  their-parent a b lt near =
      ⊎_elim
      (λ (high : a < h).
      let d = h - (a + 1) in
      let level : h - (d + 1) ≡ a = omega arith in
      let below : h - d ≡ a + 1 = omega arith in
      let place : t.leaf / 2 ^ (d + 1) ≡ b = ap (λ n. t.leaf / 2 ^ n) (let e : d + 1 ≡ h - a = omega arith in e) ∙ sym near ∙ shr-none b (a - h) (omega arith) in
      (λ i. their_node hash code t (sym level i) (sym place i))
      ∙ their-on d (omega arith)
      ∙ (λ i. parent (level i) (their_node hash code t (below i) (2 * place i)) (their_node hash code t (below i) (2 * place i + 1))))
      (λ (low : h ≤ a).
      let c = a - h in
      let level : h + c ≡ a = omega arith in
      let below : h + (c + 1) ≡ a + 1 = omega arith in
      let within : b / 2 ^ c ≡ t.leaf = near ∙ shr-none t.leaf (h - a) (omega arith) in
      let half : (n : ℕ) → n / 2 ≡ b → n / 2 ^ (c + 1) ≡ t.leaf = λ n e. ap (λ m. n / 2 ^ m) (let s : c + 1 ≡ 1 + c = omega arith in s) ∙ sym (shr-shr n 1 c) ∙ ap (λ m. m / 2 ^ c) e ∙ within in
      let child : (n : ℕ) → n / 2 ≡ b → node parent (their_bottom hash code t) (a + 1) (l - (c + 1)) n ≡ their_node hash code t (a + 1) n =
      λ n e. sym (ap (λ m. their_node hash code t m n) (sym below) ∙ their-low (c + 1) n (half n e) ∙ ap (λ m. node parent (their_bottom hash code t) m (l - (c + 1)) n) below) in
      ap (λ m. their_node hash code t m b) (sym level)
      ∙ their-low c b within
      ∙ (λ i. node parent (their_bottom hash code t) (level i) (let e : l - c ≡ l - (c + 1) + 1 = omega arith in e i) b)
      ∙ node-parent parent (their_bottom hash code t) a (l - (c + 1)) b
      ∙ (λ i. parent a (child (2 * b) (omega arith) i) (child (2 * b + 1) (omega arith) i)))
      (cases_lt a h)

  -- a node on the way up and the record's sibling beside it have the next node on the way as their parent
  their-above : (d b : ℕ) → d < h → b ≡ t.leaf / 2 ^ d → above parent (h - (d + 1)) b (their_node hash code t (h - d) b) (their_sibling hash code t (h - d)) ≡ their_node hash code t (h - (d + 1)) (b / 2)
  their-above d b lt is =
      let at = their_node hash code t (h - d) in
      let half : t.leaf / 2 ^ (d + 1) ≡ b / 2 = sym (shr-shr t.leaf d 1) ∙ ap (λ n. n / 2) (sym is) in
      let beside : (n : ℕ) → (n ≡ b → ⊥) → their_sibling hash code t (h - d) ≡ at n = λ n ne. sym (their-beside d n (omega arith) (λ e. ne (e ∙ sym is))) in
      above-both parent at (h - (d + 1)) b (their_sibling hash code t (h - d)) (λ even. beside (2 * (b / 2) + 1) (λ e. omega arith)) (λ odd. beside (2 * (b / 2)) (λ e. omega arith))
      ∙ (λ j. parent (h - (d + 1)) (at (2 * sym half j)) (at (2 * sym half j + 1)))
      ∙ sym (their-on d lt)
      ∙ ap (their_node hash code t (h - (d + 1))) half

  -- the way up from a node on it
  their-climb : (a d : ℕ) → a + d ≡ h → climb parent (their_sibling hash code t) (h - d) (t.leaf / 2 ^ d) (their_node hash code t (h - d) (t.leaf / 2 ^ d)) ≡ their_node hash code t 0 (t.leaf / 2 ^ h)
  their-climb zero d whole =
      let all : d ≡ h = omega arith in
      let top : h - d ≡ 0 = omega arith in
      (λ i. climb parent (their_sibling hash code t) (top i) (t.leaf / 2 ^ all i) (their_node hash code t (top i) (t.leaf / 2 ^ all i)))
      ∙ climb-root parent (their_sibling hash code t) (t.leaf / 2 ^ h) (their_node hash code t 0 (t.leaf / 2 ^ h))
  their-climb (suc a) d whole =
      let b = t.leaf / 2 ^ d in
      let next = their_node hash code t (h - (d + 1)) in
      sym (climb-turn parent (their_sibling hash code t) (h - (d + 1)) (h - d) b (their_node hash code t (h - d) b) (next (b / 2)) (omega arith) (sym (their-above d b (omega arith) refl)))
      ∙ ap (λ n. climb parent (their_sibling hash code t) (h - (d + 1)) n (next n)) (shr-shr t.leaf d 1)
      ∙ their-climb a (d + 1) (omega arith)

  -- the root that the record leads to
  pub their-root : t.leaf < 2 ^ h → rebuilt hash code (parameters t.origin) t.leaf t.stamp t.row ≡ their_node hash code t 0 0
  their-root lt =
      let top : h - 0 ≡ h = omega arith in
      let first : t.leaf / 2 ^ 0 ≡ t.leaf = omega arith in
      let strings = one_time (hash.step t.origin.hash_key) code.count code.top (code.digit t.stamp) (string_at t.row) in
      let leaf : node parent strings h l 0 ≡ their_node hash code t h t.leaf =
      (λ i. node parent strings (let e : h ≡ h + 0 = omega arith in e i) (let e : l ≡ l - 0 = omega arith in e i) 0)
      ∙ sym (their-inner 0 0 (omega arith) (omega arith))
      ∙ (λ i. their_node hash code t (let e : h + 0 ≡ h = omega arith in e i) (let e : t.leaf * 2 ^ 0 + 0 ≡ t.leaf = omega arith in e i)) in
      ap (climb parent (their_sibling hash code t) h t.leaf) leaf
      ∙ (λ i. climb parent (their_sibling hash code t) (sym top i) (sym first i) (their_node hash code t (sym top i) (sym first i)))
      ∙ their-climb h 0 (omega arith)
      ∙ ap (their_node hash code t 0) (div-eq_of_lt lt)
