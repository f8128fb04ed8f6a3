-- What both sides are made of are strings.
use Rattle.std.proofs.Common.{◌≡◌, ℕ, ◌+◌, ◌-◌, ◌*◌, ◌<◌, ◌≤◌, List, length, sym, subst, arith}
use Rattle.strings.specs.Strings.{IsBytes, IsString, string_at}
use Rattle.strings.proofs.Laws.{string_at-str}
use Rattle.tree.specs.Meaning.{Hash, Code}
use Rattle.growth.proofs.Strings.{raise-str, one-time-str, input-str, parent-str, chain-str, node-str}
use Rattle.compare.specs.Sides.{Traced, our_chain, their_chain, our_node, their_node, left_input, right_input}
use Rattle.compare.proofs.Lawful.{Lawful}
use Rattle.compare.proofs.Near.{Near, below-near}
use Rattle.compare.proofs.Nodes.{their-parent}
use Rattle.compare.proofs.Agreeing.{their-bottom, their-sibling}

module _ (hash : Hash) (code : Code) (t : Traced) (lawful : Lawful hash code t.origin) (tall : t.origin.height ≤ 8) where
  abbrev h : ℕ
  h = t.origin.height

  abbrev l : ℕ
  l = code.levels

  -- the inputs of a pair, where the two nodes below it are strings
  inputs-str : (nodes : ℕ → ℕ → List ℕ) (a b : ℕ) → a < h + l → IsString (nodes (a + 1) (2 * b)) × IsString (nodes (a + 1) (2 * b + 1)) → IsString (left_input hash code t nodes a b) × IsString (right_input hash code t nodes a b)
  inputs-str nodes a b lt strs =
      let few = lawful.laws.of_code.level_range.1 in
      (input-str hash t.origin lawful.strings _ (2 * a) (omega arith) strs.0, input-str hash t.origin lawful.strings _ (2 * a + 1) (omega arith) strs.1)

  -- the signer's side
  pub our-chain-str : (k e : ℕ) → IsString (our_chain hash code t k e)
  our-chain-str k e = chain-str hash code t.origin lawful.strings t.leaf k e

  our-node-str : (a b : ℕ) → a ≤ h + l → IsString (our_node hash code t a b)
  our-node-str a b le = let few = lawful.laws.of_code.level_range.1 in node-str hash code t.origin lawful.strings (h + l - a) a b (omega arith)

  pub our-inputs-str : (a b : ℕ) → a < h + l → IsString (left_input hash code t (our_node hash code t) a b) × IsString (right_input hash code t (our_node hash code t) a b)
  our-inputs-str a b lt = inputs-str (our_node hash code t) a b lt (our-node-str (a + 1) (2 * b) (omega arith), our-node-str (a + 1) (2 * b + 1) (omega arith))

  -- the record's side
  module _ (long : length t.row ≡ 16 * (code.count + t.origin.height)) (bytes : IsBytes t.row) where
    row-str : (k : ℕ) → k < code.count + h → IsString (string_at t.row k)
    row-str k lt = string_at-str t.row k (omega arith) bytes

    pub their-chain-str : (k e : ℕ) → k < code.count → IsString (their_chain hash code t k e)
    their-chain-str k e lt = raise-str hash t.origin lawful.strings (string_at t.row k) (row-str k (omega arith)) (e - code.digit t.stamp k)

    their-children-str : (a b : ℕ) → a < h + l → Near h t.leaf a b → IsString (their_node hash code t (a + 1) (2 * b)) × IsString (their_node hash code t (a + 1) (2 * b + 1))
    their-children-str =
        let few = lawful.laws.of_code.level_range.1 in
        below-near h t.leaf l (λ a b. IsString (their_node hash code t a b))
        (λ e lt. subst IsString (sym (their-sibling hash code t e lt)) (row-str (code.count + e) (omega arith)))
        (λ k lt. subst IsString (sym (their-bottom hash code t k lt)) (one-time-str hash t.origin lawful.strings code.count code.top (code.digit t.stamp) (string_at t.row) (λ j below. row-str j (omega arith)) k))
        (λ a b inner near left right. subst IsString (sym (their-parent hash code t a b inner near)) (parent-str hash t.origin lawful.strings a _ _ (omega arith) left right))

    pub their-inputs-str : (a b : ℕ) → a < h + l → Near h t.leaf a b → IsString (left_input hash code t (their_node hash code t) a b) × IsString (right_input hash code t (their_node hash code t) a b)
    their-inputs-str a b lt near = inputs-str (their_node hash code t) a b lt (their-children-str a b lt near)
