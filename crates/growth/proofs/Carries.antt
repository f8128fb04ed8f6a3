-- What is held after a leaf is added to what is held before.
use Rattle.std.proofs.Common.{◌≡◌, ℕ, zero, suc, ◌+◌, ◌-◌, ◌*◌, ◌/◌, ◌%◌, ◌^◌, ◌<◌, ◌≤◌, List, length, sym, refl, ap, ◌∙◌, subst, ⊎_elim, arith}
use Rattle.std.proofs.lemmas.Bool.{cases_eq, cases_lt}
use Rattle.strings.specs.Strings.{string_at, put_string, zero_string}
use Rattle.strings.proofs.Laws.{length-put_string, at-put-same, at-put-other}
use Rattle.tree.specs.Meaning.{Hash, Code}
use Rattle.tree.specs.Nodes.{parent_at}
use Rattle.growth.specs.Grown.{parameters, node_at, held_at, held_levels, nodes_size, Holds, carry, with_leaf}
use Rattle.growth.specs.declared.origin.Origin.{Origin}
use Rattle.growth.proofs.Strings.{Strings, node-str}
use Rattle.growth.proofs.Trees.{Fills, node-up, held-unless, held-odd, held-here, held_below, held-above, not_root, fills_up, carry-odd, carry-even}

module _ (hash : Hash) (code : Code) (o : Origin) (g : ℕ) where
  abbrev parent : ℕ → List ℕ → List ℕ → List ℕ
  parent = parent_at hash (parameters o)

  abbrev at : ℕ → ℕ → List ℕ
  at = node_at hash code o

  -- a row that holds what is to be held after one leaf more
  abbrev More : List ℕ → Type 0
  More row = (length row ≡ nodes_size) × Holds hash code o (g + 1) row

  -- string s, which is node m, comes in at this level: the levels below it are empty, and the others are as they were
  pub record Comes (level m : ℕ) (s row : List ℕ) : Type 0 where
    pub within : level ≤ o.height
    pub fills : Fills g m (o.height - level)
    pub is : s ≡ at level m
    pub long : length row ≡ nodes_size
    pub empty : (a : ℕ) → a < held_levels → level < a → string_at row a ≡ zero_string
    pub before : (a : ℕ) → a ≤ level → string_at row a ≡ held_at hash code o g a

  -- the new leaf's node comes in at the level of the leaves
  pub comes-first : o.height ≤ 8 → (s nodes : List ℕ) → s ≡ at o.height g → length nodes ≡ nodes_size → Holds hash code o g nodes → Comes o.height g s nodes
  comes-first tall s nodes is long held =
      let none : o.height - o.height ≡ 0 = omega arith in
      record {
        within = omega arith;
        fills = omega (arith, ap (λ j. (g + 1) * 2 ^ j) none);
        is = is;
        long = long;
        empty = λ a lt far. held a lt ∙ held-unless hash code o g a (λ near odd. omega arith);
        before = λ a le. held a (omega arith);
      }

  module _ (tall : o.height ≤ 8) (level m : ℕ) (s row : List ℕ) (c : Comes level m s row) where
    -- an even node stays there
    pub stays : length s ≡ 16 → (m % 2 ≡ 1 → ⊥) → More (carry parent level m s row)
    stays one odd =
        let le = c.within in
        let long = c.long in
        let even : m % 2 ≡ 0 = omega arith in
        let others : (a : ℕ) → (a ≡ level → ⊥) → string_at (put_string row level s) a ≡ string_at row a = λ a ne. at-put-other row level a s (omega arith) one ne in
        subst More (sym (carry-even parent level m s row odd)) (
          length-put_string row level s (omega arith) one ∙ long,
          λ a lt.
              ⊎_elim
              (λ (more : level < a). others a (omega arith) ∙ c.empty a lt more ∙ sym (held_below hash code o g m level le c.fills a more))
              (λ (less : a ≤ level).
              ⊎_elim
              (λ (under : a < level). others a (omega arith) ∙ c.before a less ∙ sym (held-above hash code o g m level le c.fills even a under))
              (λ (over : level ≤ a).
              let e : level ≡ a = omega arith in
              subst (λ n. string_at (put_string row level s) n ≡ held_at hash code o (g + 1) n) e
              (at-put-same row level s (omega arith) one ∙ c.is ∙ sym (held-here hash code o g m level le c.fills even)))
              (cases_lt a level))
              (cases_lt level a),
        )

    -- an odd node joins what waits there, and their parent comes in above
    pub comes-above : 0 < level → m % 2 ≡ 1 → Comes (level - 1) (m / 2) (parent (level - 1) (string_at row level) s) (put_string row level zero_string)
    comes-above some odd =
        let le = c.within in
        let long = c.long in
        let up : level ≡ level - 1 + 1 = omega arith in
        let even : m - 1 ≡ 2 * (m / 2) = omega arith in
        let other : m ≡ 2 * (m / 2) + 1 = omega arith in
        let left = c.before level (omega arith) ∙ held-odd hash code o g m level le c.fills odd ∙ (λ i. at (up i) (even i)) in
        let right = c.is ∙ (λ i. at (up i) (other i)) in
        let others : (a : ℕ) → (a ≡ level → ⊥) → string_at (put_string row level zero_string) a ≡ string_at row a = λ a ne. at-put-other row level a zero_string (omega arith) refl ne in
        record {
          within = omega arith;
          fills = fills_up hash code o g m level le c.fills some odd;
          is = (λ i. parent (level - 1) (left i) (right i)) ∙ sym (node-up hash code o (level - 1) (m / 2) (omega arith));
          long = length-put_string row level zero_string (omega arith) refl ∙ long;
          empty = λ a lt more.
              ⊎_elim
              (λ (far : level < a). others a (omega arith) ∙ c.empty a lt far)
              (λ (near : a ≤ level).
              let e : level ≡ a = omega arith in
              subst (λ n. string_at (put_string row level zero_string) n ≡ zero_string) e (at-put-same row level zero_string (omega arith) refl))
              (cases_lt level a);
          before = λ a less. others a (omega arith) ∙ c.before a (omega arith);
        }

module _ (hash : Hash) (code : Code) (o : Origin) (all : Strings hash o) (tall : o.height ≤ 8) (few : code.levels ≤ 8) (g : ℕ) (room : g < 2 ^ o.height) where
  long : (level m : ℕ) (s row : List ℕ) → Comes hash code o g level m s row → length s ≡ 16
  long level m s row c = let le = c.within in ap length c.is ∙ (node-str hash code o all (o.height + code.levels - level) level m (omega arith)).0

  -- n levels from the root
  carried : (n level m : ℕ) (s row : List ℕ) → level ≡ n → Comes hash code o g level m s row → More hash code o g (carry (parent_at hash (parameters o)) level m s row)
  carried zero level m s row root c = stays hash code o g tall level m s row c (long level m s row c) (λ odd. let some = not_root hash code o g m level c.within c.fills room odd in omega arith)
  carried (suc n) level m s row above c =
      ⊎_elim
      (λ (odd : m % 2 ≡ 1).
      let some = not_root hash code o g m level c.within c.fills room odd in
      subst (More hash code o g) (sym (carry-odd (parent_at hash (parameters o)) level m s row some odd)) (carried n (level - 1) (m / 2) _ _ (omega arith) (comes-above hash code o g tall level m s row c some odd)))
      (stays hash code o g tall level m s row c (long level m s row c))
      (cases_eq (m % 2) 1)

  -- one leaf more, and the row is as long as it was
  pub holds_more : (nodes : List ℕ) → length nodes ≡ nodes_size → Holds hash code o g nodes → (length (with_leaf hash code o g nodes) ≡ nodes_size) × Holds hash code o (g + 1) (with_leaf hash code o g nodes)
  holds_more nodes long held = carried o.height o.height g (node_at hash code o o.height g) nodes refl (comes-first hash code o g tall _ nodes refl long held)
