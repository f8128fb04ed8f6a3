-- Where both sides have one node at each place of a level, no node above it is found.
use Rattle.std.proofs.Common.{◌≡◌, ℕ, zero, suc, ◌+◌, ◌-◌, ◌*◌, ◌/◌, ◌^◌, ◌<◌, ◌≤◌, true, false, not, ◌&&◌, List, ◌++◌, None, Option, refl, ap, ◌∙◌, arith}
use Rattle.std.specs.Option.{option_or}
use Rattle.std.specs.Bool.{then_some}
use Rattle.std.specs.Str.{bytes_eq}
use Rattle.std.proofs.lemmas.Slice.Eq.{bytes_eq-Decides}
use Rattle.strings.specs.Strings.{xor, string_at}
use Rattle.tree.specs.Meaning.{Hash, Code}
use Rattle.tree.specs.Nodes.{Parameters}
use Rattle.growth.specs.Grown.{parameters}
use Rattle.growth.specs.Shown.{sibling_of}
use Rattle.compare.specs.Search.{first_from, pair_find, child_find, node_find_at, width, first_place, level_search, node_search}
use Rattle.compare.specs.Sides.{Traced, our_node, their_node}
use Rattle.compare.specs.declared.verdict.Find.{Find}
use Rattle.compare.proofs.Agreeing.{SameNode, same-below}
use Rattle.compare.proofs.Searches.{near-from}
use Rattle.compare.proofs.Firsts.{first-split}
use Rattle.compare.proofs.Near.{Near}

-- a search that finds nothing at any place
nowhere : (f : ℕ → Option Find) (a n : ℕ) → ((b : ℕ) → a ≤ b → b < a + n → f b ≡ None) → first_from f a n ≡ None
unfolding first_from
nowhere f a zero none = refl
nowhere f a (suc n) none =
    ap (λ o. option_or o (first_from f (suc a) n)) (none a (omega arith) (omega arith))
    ∙ nowhere f (suc a) n (λ b lo hi. none b (omega arith) (omega arith))

-- equal inputs are no find
pair-alike : (pair : List ℕ → List ℕ → List ℕ) (a b : ℕ) (s r : List ℕ) → pair_find pair a b s r s r ≡ None
pair-alike pair a b s r =
    let find : Find = record { first = a; second = b; report = s ++ (r ++ (s ++ r)) } in
    let one = bytes_eq (pair s r) (pair s r) in
    (λ i. then_some (one && not ((bytes_eq-Decides s s).1 refl i && (bytes_eq-Decides r r).1 refl i)) find)
    ∙ elim one as (λ b. then_some (b && false) find ≡ None) [ true ↦ refl | false ↦ refl ]

child-alike : (hash : Hash) (p : Parameters) (a b : ℕ) (s r : List ℕ) → child_find hash p a b s r s r ≡ None
child-alike hash p a b s r = pair-alike (hash.pair p.hash_key) a b (xor s (string_at p.masks (2 * a))) (xor r (string_at p.masks (2 * a + 1)))

module _ (hash : Hash) (code : Code) (t : Traced) (l : ℕ) (within : l ≤ code.levels) (siblings : (e : ℕ) → e < t.origin.height → our_node hash code t (t.origin.height - e) (sibling_of (t.leaf / 2 ^ e)) ≡ string_at t.row (code.count + e)) (level : (k : ℕ) → k < 2 ^ l → SameNode hash code t (t.origin.height + l) (t.leaf * 2 ^ l + k)) where
  abbrev h : ℕ
  h = t.origin.height

  alike : (a b : ℕ) → a < h + l → Near h t.leaf a b → node_find_at hash code t a b ≡ None
  alike a b inner near =
      let under = same-below hash code t l within siblings level a b inner near in
      let left = their_node hash code t (a + 1) (2 * b) in
      let right = their_node hash code t (a + 1) (2 * b + 1) in
      let p = parameters t.origin in
      (λ i. child_find hash p a b (under.0 i) (under.1 i) left right) ∙ child-alike hash p a b left right

  level-nowhere : (a : ℕ) → a < h + l → level_search hash code t a ≡ None
  level-nowhere a inner =
      nowhere (node_find_at hash code t a) (first_place hash code t a) (width hash code t a)
      (λ b lo hi. alike a b inner (near-from hash code t a b lo hi))

  -- so the search goes on below that level
  pub searched-below : node_search hash code t ≡ first_from (level_search hash code t) (h + l) (code.levels - l)
  searched-below =
      let all : h + code.levels ≡ (h + l) + (code.levels - l) = omega arith in
      ap (first_from (level_search hash code t) 0) all
      ∙ first-split (level_search hash code t) 0 (h + l) (code.levels - l)
      ∙ (λ i. option_or (nowhere (level_search hash code t) 0 (h + l) (λ a lo hi. level-nowhere a (omega arith)) i) (first_from (level_search hash code t) (let e : 0 + (h + l) ≡ h + l = omega arith in e i) (code.levels - l)))
