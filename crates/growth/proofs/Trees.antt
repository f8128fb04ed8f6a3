-- The nodes of a tree, level by level, and what is held of them after one leaf more.
use Rattle.std.proofs.Common.{◌≡◌, ℕ, zero, suc, ◌+◌, ◌-◌, ◌*◌, ◌/◌, ◌%◌, ◌^◌, ◌<◌, ◌≤◌, cond, ◌&&◌, eqb, leb, List, replicate, sym, refl, ap, ◌∙◌, ⊎_elim, mul_assoc, mul_comm, zero-mul, arith, rules, pow_pos}
use native.Mathlib.Nat.{zero-div, div_self}
use lib.Arith.{digits_div, digits_mod}
use Rattle.strings.proofs.Laws.{string_at-zeros}
use Rattle.std.proofs.lemmas.Nat.{shr-shr, shl-shr, pow-add}
use Rattle.std.proofs.lemmas.Bool.{cond-true, cond-false, and_from, and_left, and_right, le-leb, lt-leb, eq-eqb, ne_eqb, cases_lt}
use Rattle.strings.specs.Strings.{zero_string, string_at, put_string}
use Rattle.tree.specs.Meaning.{Hash, Code}
use Rattle.tree.specs.Nodes.{node, parent_at}
use Rattle.tree.proofs.Laws.{node-moved, node-parent}
use Rattle.growth.specs.Grown.{leaf_string, bottom, parameters, node_at, filled, nodes_size, is_held, held_at, Holds, carry}
use Rattle.growth.specs.declared.origin.Origin.{Origin}

module _ (hash : Hash) (code : Code) (o : Origin) where
  -- a leaf's node is the root over its own one-time strings
  pub leaf-is : (i : ℕ) → node (parent_at hash (parameters o)) (leaf_string hash code o i) o.height code.levels 0 ≡ node_at hash code o o.height i
  leaf-is i =
      let l = code.levels in
      let size = 2 ^ l in
      let deep : l ≡ o.height + l - o.height = omega arith in
      node-moved (parent_at hash (parameters o)) (leaf_string hash code o i) (bottom hash code o) o.height l 0 i
      (λ k h.
      let first : 0 * size + k ≡ k = omega (arith, zero-mul size) in
      ap (leaf_string hash code o i) first
      ∙ (λ j. leaf_string hash code o (sym (digits_div i {m = size} {r = k} h) j) (sym (digits_mod i {m = size} {r = k} h) j)))
      ∙ ap (λ d. node (parent_at hash (parameters o)) (bottom hash code o) o.height d i) deep

  -- a node above the bottom is the parent of the two below it
  pub node-up : (a b : ℕ) → a < o.height + code.levels → node_at hash code o a b ≡ parent_at hash (parameters o) a (node_at hash code o (a + 1) (2 * b)) (node_at hash code o (a + 1) (2 * b + 1))
  node-up a b h =
      let d = o.height + code.levels - (a + 1) in
      let up : o.height + code.levels - a ≡ d + 1 = omega arith in
      ap (λ n. node (parent_at hash (parameters o)) (bottom hash code o) a n b) up ∙ node-parent (parent_at hash (parameters o)) (bottom hash code o) a d b

  -- what is held at a level with an odd number of filled subtrees, and at any other
  held-last : (g a n : ℕ) → a ≤ o.height → filled g (o.height - a) ≡ n → n % 2 ≡ 1 → held_at hash code o g a ≡ node_at hash code o a (n - 1)
  held-last g a n within is odd =
      cond-true (is_held o.height g a) _ _ (and_from _ _ (le-leb a o.height within) (eq-eqb (filled g (o.height - a) % 2) 1 (ap (λ m. m % 2) is ∙ odd)))
      ∙ ap (λ m. node_at hash code o a (m - 1)) is

  pub held-unless : (g a : ℕ) → (a ≤ o.height → filled g (o.height - a) % 2 ≡ 1 → ⊥) → held_at hash code o g a ≡ zero_string
  held-unless g a none =
      cond-false (is_held o.height g a) _ _
      (⊎_elim
      (λ (far : o.height < a). and_left _ _ (lt-leb a o.height far))
      (λ (near : a ≤ o.height). and_right (leb a o.height) _ (ne_eqb (filled g (o.height - a) % 2) 1 (none near)))
      (cases_lt o.height a))

-- g + 1 leaves fill m + 1 subtrees of 2 ^ j leaves, and nothing is over
abbrev pub Fills : ℕ → ℕ → ℕ → Type 0
Fills g m j = g + 1 ≡ (m + 1) * 2 ^ j

pub last-filled : (g m j : ℕ) → Fills g m j → filled g j ≡ m
last-filled g m j e = search rules

next-filled : (g m j : ℕ) → Fills g m j → filled (g + 1) j ≡ m + 1
next-filled g m j e = ap (λ n. n / 2 ^ j) e ∙ shl-shr (m + 1) j

-- a larger subtree is not filled by the new leaf where m is even
above-filled : (g m j k : ℕ) → Fills g m j → m % 2 ≡ 0 → filled (g + 1) (j + (1 + k)) ≡ filled g (j + (1 + k))
above-filled g m j k e even =
    let half : (m + 1) / 2 ^ 1 ≡ m / 2 ^ 1 = omega arith in
    let down : (n : ℕ) → n / 2 ^ (j + (1 + k)) ≡ n / 2 ^ j / 2 ^ 1 / 2 ^ k = λ n. sym (shr-shr n j (1 + k)) ∙ sym (shr-shr (n / 2 ^ j) 1 k) in
    down (g + 1)
    ∙ ap (λ n. n / 2 ^ 1 / 2 ^ k) (next-filled g m j e)
    ∙ ap (λ n. n / 2 ^ k) half
    ∙ ap (λ n. n / 2 ^ 1 / 2 ^ k) (sym (last-filled g m j e))
    ∙ sym (down g)

-- smaller subtrees are filled in pairs
below-filled : (g m j k : ℕ) → Fills g m (j + (1 + k)) → filled (g + 1) j % 2 ≡ 0
below-filled g m j k e =
    let pairs = (m + 1) * 2 ^ k in
    let split : (m + 1) * 2 ^ (j + (1 + k)) ≡ (2 * pairs) * 2 ^ j =
    ap (λ p. (m + 1) * p) (pow-add 2 j (1 + k) ∙ mul_comm (2 ^ j) (2 ^ (1 + k)))
    ∙ sym (mul_assoc (m + 1) (2 ^ (1 + k)) (2 ^ j))
    ∙ ap (λ p. p * 2 ^ j) (ap (λ p. (m + 1) * p) (pow-add 2 1 k) ∙ sym (mul_assoc (m + 1) 2 (2 ^ k)) ∙ ap (λ p. p * 2 ^ k) (mul_comm (m + 1) 2) ∙ mul_assoc 2 (m + 1) (2 ^ k)) in
    let is : filled (g + 1) j ≡ 2 * pairs = ap (λ n. n / 2 ^ j) (e ∙ split) ∙ shl-shr (2 * pairs) j in
    ap (λ n. n % 2) is ∙ omega arith

module _ (hash : Hash) (code : Code) (o : Origin) (g m level : ℕ) (within : level ≤ o.height) (fills : Fills g m (o.height - level)) where
  -- the node that waits at this level where m is odd
  pub held-odd : m % 2 ≡ 1 → held_at hash code o g level ≡ node_at hash code o level (m - 1)
  held-odd odd = held-last hash code o g level m within (last-filled g m (o.height - level) fills) odd

  -- a leaf more is in, and m is even: what is held at this level, below it and above it
  pub held-here : m % 2 ≡ 0 → held_at hash code o (g + 1) level ≡ node_at hash code o level m
  held-here even =
      held-last hash code o (g + 1) level (m + 1) within (next-filled g m (o.height - level) fills) (omega arith) ∙ ap (node_at hash code o level) (omega arith)

  pub held_below : (a : ℕ) → level < a → held_at hash code o (g + 1) a ≡ zero_string
  held_below a h =
      held-unless hash code o (g + 1) a
      (λ near odd.
      let rest : o.height - level ≡ (o.height - a) + (1 + (a - level - 1)) = omega arith in
      let even = below-filled g m (o.height - a) (a - level - 1) (fills ∙ ap (λ j. (m + 1) * 2 ^ j) rest) in
      omega arith)

  pub held-above : m % 2 ≡ 0 → (a : ℕ) → a < level → held_at hash code o (g + 1) a ≡ held_at hash code o g a
  held-above even a h =
      let rest : o.height - a ≡ (o.height - level) + (1 + (level - a - 1)) = omega arith in
      let same : filled (g + 1) (o.height - a) ≡ filled g (o.height - a) =
      ap (filled (g + 1)) rest ∙ above-filled g m (o.height - level) (level - a - 1) fills even ∙ ap (filled g) (sym rest) in
      ap (λ n. cond (leb a o.height && eqb (n % 2) 1) (node_at hash code o a (n - 1)) zero_string) same

  -- an odd m is not at the root's level
  pub not_root : g < 2 ^ o.height → m % 2 ≡ 1 → 0 < level
  not_root room odd = search rules

  -- an odd m joins, and goes on a level above
  pub fills_up : 0 < level → m % 2 ≡ 1 → Fills g (m / 2) (o.height - (level - 1))
  fills_up some odd =
      let up : o.height - (level - 1) ≡ 1 + (o.height - level) = omega arith in
      let p = 2 ^ (o.height - level) in
      fills
      ∙ ap (λ n. n * p) (let e : m + 1 ≡ (m / 2 + 1) * 2 = omega arith in e)
      ∙ mul_assoc (m / 2 + 1) 2 p
      ∙ ap (λ q. (m / 2 + 1) * q) (sym (pow-add 2 1 (o.height - level)) ∙ ap (λ j. 2 ^ j) (sym up))

-- one turn of a carry, and its end
pub carry-odd : (parent : ℕ → List ℕ → List ℕ → List ℕ) (level b : ℕ) (s nodes : List ℕ) → 0 < level → b % 2 ≡ 1 → carry parent level b s nodes ≡ carry parent (level - 1) (b / 2) (parent (level - 1) (string_at nodes level) s) (put_string nodes level zero_string)
unfolding carry
carry-odd parent zero b s nodes some odd = absurd (omega arith)
carry-odd parent (suc a) b s nodes some odd =
    let back : a ≡ suc a - 1 = omega arith in
    cond-true (eqb (b % 2) 1) _ _ (eq-eqb (b % 2) 1 odd)
    ∙ ap (λ n. carry parent n (b / 2) (parent n (string_at nodes (suc a)) s) (put_string nodes (suc a) zero_string)) back

pub carry-even : (parent : ℕ → List ℕ → List ℕ → List ℕ) (level b : ℕ) (s nodes : List ℕ) → (b % 2 ≡ 1 → ⊥) → carry parent level b s nodes ≡ put_string nodes level s
unfolding carry
carry-even parent zero b s nodes even = refl
carry-even parent (suc a) b s nodes even = cond-false (eqb (b % 2) 1) _ _ (ne_eqb (b % 2) 1 even)

-- with no leaf in, nothing is held
pub holds-none : (hash : Hash) (code : Code) (o : Origin) → Holds hash code o 0 (replicate nodes_size 0)
holds-none hash code o a h =
    let none : filled 0 (o.height - a) % 2 ≡ 0 = ap (λ n. n % 2) (zero-div (2 ^ (o.height - a))) in
    string_at-zeros nodes_size a (omega arith) ∙ sym (held-unless hash code o 0 a (λ near odd. omega arith))

-- with all leaves in, the root is held
pub holds-root : (hash : Hash) (code : Code) (o : Origin) (nodes : List ℕ) → Holds hash code o (2 ^ o.height) nodes → string_at nodes 0 ≡ node_at hash code o 0 0
holds-root hash code o nodes held =
    let whole : filled (2 ^ o.height) (o.height - 0) ≡ 1 =
    ap (λ j. 2 ^ o.height / 2 ^ j) (omega arith) ∙ div_self (pow_pos o.height) in
    held 0 (omega arith) ∙ held-last hash code o (2 ^ o.height) 0 1 (omega arith) whole refl
