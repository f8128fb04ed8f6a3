-- What a tree and a release are made of are strings.
use Rattle.std.proofs.Common.{◌≡◌, ℕ, zero, suc, ◌+◌, ◌-◌, ◌*◌, ◌/◌, ◌^◌, ◌<◌, ◌≤◌, ltb, List, length, take, drop, sym, ap, ◌∙◌, arith}
use Rattle.std.proofs.lemmas.List.{take-append-drop, length-take-le}
use Rattle.std.proofs.lemmas.Bool.{cond_both, ltb-true}
use Rattle.strings.specs.Strings.{IsBytes, IsString, string_at, zero_string, numeral, xor}
use Rattle.strings.proofs.Laws.{xor-str, numeral-str, string_at-str, piece-front}
use Rattle.tree.specs.Laws.{HashLaws}
use Rattle.tree.specs.Meaning.{Hash, Code}
use Rattle.tree.specs.Nodes.{raise, node, one_time, parent_at}
use Rattle.tree.specs.Rows.{sibling_level}
use Rattle.growth.specs.Grown.{masks_size, secret, chain_string, bottom, parameters}
use Rattle.growth.specs.Shown.{sibling_of, shown_string}
use Rattle.growth.specs.declared.origin.Origin.{Origin}

-- a string of the first n bytes
pub at_take : (n : ℕ) (bytes : List ℕ) (i : ℕ) → n ≤ length bytes → 16 * i + 16 ≤ n → string_at (take n bytes) i ≡ string_at bytes i
at_take n bytes i long fits =
    sym (piece-front 16 (take n bytes) (drop n bytes) (16 * i) (rw length-take-le fits)) ∙ ap (λ l. string_at l i) (take-append-drop n bytes)

pub zero-str : IsString zero_string
unfolding numeral
zero-str = numeral-str 0

-- a hash that gives strings, under strings as seed, hash key and masks
pub record Strings (hash : Hash) (o : Origin) : Type 0 where
  pub laws : HashLaws hash
  pub seeded : IsString o.seed
  pub keyed : IsString o.hash_key
  pub masked : (length o.masks ≡ masks_size) × IsBytes o.masks

-- chains, one-time strings and parents of strings
module _ (hash : Hash) (o : Origin) (all : Strings hash o) where
  pub raise-str : (s : List ℕ) → IsString s → (e : ℕ) → IsString (raise (hash.step o.hash_key) e s)
  unfolding raise
  raise-str s str zero = str
  raise-str s str (suc e) = all.laws.gives o.hash_key _ all.keyed (raise-str s str e)

  pub one-time-str : (count top : ℕ) (digit : ℕ → ℕ) (shown : ℕ → List ℕ) → ((k : ℕ) → k < count → IsString (shown k)) → (k : ℕ) → IsString (one_time (hash.step o.hash_key) count top digit shown k)
  one-time-str count top digit shown strs k = cond_both (ltb k count) _ _ IsString (λ e. raise-str (shown k) (strs k (ltb-true k count e)) (top - digit k)) (λ e. zero-str)

  pub input-str : (s : List ℕ) (k : ℕ) → k < 32 → IsString s → IsString (xor s (string_at o.masks k))
  input-str s k lt str = let long = all.masked.0 in xor-str s (string_at o.masks k) str (string_at-str o.masks k (omega arith) all.masked.1)

  pub parent-str : (a : ℕ) (left right : List ℕ) → a < 16 → IsString left → IsString right → IsString (parent_at hash (parameters o) a left right)
  parent-str a left right lt ls rs = all.laws.joins o.hash_key _ _ all.keyed (input-str left (2 * a) (omega arith) ls) (input-str right (2 * a + 1) (omega arith) rs)

module _ (hash : Hash) (code : Code) (o : Origin) (all : Strings hash o) where
  secret-str : (i k : ℕ) → IsString (secret hash o i k)
  secret-str i k = all.laws.joins o.seed (numeral i) (numeral k) all.seeded (numeral-str i) (numeral-str k)

  pub chain-str : (i k e : ℕ) → IsString (chain_string hash o i k e)
  chain-str i k e = raise-str hash o all (secret hash o i k) (secret-str i k) e

  pub node-str : (d a b : ℕ) → a + d ≤ 16 → IsString (node (parent_at hash (parameters o)) (bottom hash code o) a d b)
  unfolding node
  node-str zero a b h = one-time-str hash o all code.count code.top (λ j. 0) (secret hash o _) (λ k lt. secret-str _ k) _
  node-str (suc d) a b h = parent-str hash o all a _ _ (omega arith) (node-str d (suc a) (2 * b) (omega arith)) (node-str d (suc a) (2 * b + 1) (omega arith))

  -- what a release shows
  pub shown-str : o.height ≤ 8 → code.levels ≤ 8 → (i : ℕ) (stamp : List ℕ) (k : ℕ) → k < code.count + o.height → IsString (shown_string hash code o i stamp k)
  shown-str tall few i stamp k within =
      let a = sibling_level code.count o.height k in
      cond_both (ltb k code.count) _ _ IsString
      (λ lt. chain-str i k (code.digit stamp k))
      (λ ge. node-str (o.height + code.levels - a) a (sibling_of (i / 2 ^ (o.height - a))) (omega arith))
