-- One parent more of a row of strings, and the levels of a leaf on both sides.
use Rattle.std.proofs.Common.{◌≡◌, ℕ, ◌+◌, ◌-◌, ◌*◌, ◌^◌, ◌<◌, ◌≤◌, List, ap, ◌∙◌, arith, rules}
use Rattle.tree.specs.Meaning.{Hash}
use Rattle.tree.specs.Nodes.{Parameters, parent_at, node}
use Rattle.tree.proofs.Laws.{fold-none, fold_more, double-pow}
use Rattle.compare.specs.Search.{first_from, child_find, depth_search}
use Rattle.compare.proofs.Firsts.{first-moved}

-- the first p strings of a row are joined, the others as they were
abbrev pub Joined : (List ℕ → List ℕ → List ℕ) → (ℕ → List ℕ) → (ℕ → List ℕ) → ℕ → Type 0
Joined parent before row p = ((k : ℕ) → k < p → row k ≡ parent (before (2 * k)) (before (2 * k + 1))) × ((k : ℕ) → p ≤ k → row k ≡ before k)

pub joined-more : (parent : List ℕ → List ℕ → List ℕ) (before row after : ℕ → List ℕ) (p : ℕ) → Joined parent before row p → after p ≡ parent (row (2 * p)) (row (2 * p + 1)) → ((k : ℕ) → (k ≡ p → ⊥) → after k ≡ row k) → Joined parent before after (p + 1)
joined-more parent before row after p inv here others = search rules

-- positions within a leaf fit 16 bits
pub places-fit : (h c i : ℕ) → i < 2 ^ h → h ≤ 8 → c ≤ 8 → i * 2 ^ c + 2 ^ c ≤ 2 ^ 16
places-fit h c i lt tall few = search rules

-- the nodes of a leaf of l levels over its strings, in rows
module _ (parent : ℕ → List ℕ → List ℕ → List ℕ) (h l : ℕ) (strings : ℕ → List ℕ) where
  -- a row holds those that are c levels below the leaf's
  abbrev pub Level : ℕ → (ℕ → List ℕ) → Type 0
  Level c row = (k : ℕ) → k < 2 ^ c → row k ≡ node parent strings (h + c) (l - c) k

  pub level-first : (n : ℕ) → n ≡ l → Level n strings
  level-first n is k lt = fold-none parent strings (h + n) l k ∙ ap (λ d. node parent strings (h + n) d k) (omega arith)

  pub level-above : (c : ℕ) (row after : ℕ → List ℕ) → c + 1 ≤ l → Level (c + 1) row → ((k : ℕ) → k < 2 ^ c → after k ≡ parent (h + c) (row (2 * k)) (row (2 * k + 1))) → Level c after
  level-above c row after le = fold_more parent strings row after (2 ^ c) (2 ^ (c + 1)) (h + c) (l - (c + 1)) (h + (c + 1)) (l - c) (omega arith) (omega arith) (double-pow c (c + 1) (omega arith))

-- what is found first among the parents of two such rows is what is found first at their level
pub depth-from : (hash : Hash) (p : Parameters) (i l c : ℕ) (ours theirs row row' : ℕ → List ℕ) → Level (parent_at hash p) p.height l ours (c + 1) row → Level (parent_at hash p) p.height l theirs (c + 1) row' → first_from (λ q. child_find hash p (p.height + c) (i * 2 ^ c + q) (row (2 * q)) (row (2 * q + 1)) (row' (2 * q)) (row' (2 * q + 1))) 0 (2 ^ c) ≡ depth_search hash p i l ours theirs c
depth-from hash p i l c ours theirs row row' our their =
    let h = p.height in
    let level : h + (c + 1) ≡ h + c + 1 = omega arith in
    let twice = double-pow c (c + 1) (omega arith) in
    let left = λ (k : ℕ) (lt : k < 2 ^ (c + 1)). our k lt ∙ ap (λ a. node (parent_at hash p) ours a (l - (c + 1)) k) level in
    let right = λ (k : ℕ) (lt : k < 2 ^ (c + 1)). their k lt ∙ ap (λ a. node (parent_at hash p) theirs a (l - (c + 1)) k) level in
    first-moved _ _ 0 0 (2 ^ c)
    (λ q lt j.
    child_find hash p (h + c) (i * 2 ^ c + (0 + q))
    (left (2 * (0 + q)) (omega arith) j) (left (2 * (0 + q) + 1) (omega arith) j)
    (right (2 * (0 + q)) (omega arith) j) (right (2 * (0 + q) + 1) (omega arith) j))
