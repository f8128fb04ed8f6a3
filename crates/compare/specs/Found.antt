-- What trace finds: the first of these, in this order.
use Rattle.std.specs.Prelude.{◌≡◌, ℕ, ◌+◌, ◌-◌, ◌/◌, ◌^◌, ◌<◌, ◌≤◌, ◌⊎◌, List, ◌++◌, replicate}
use Rattle.strings.specs.Strings.{zero_string}
use Rattle.tree.specs.Meaning.{Hash, Code}
use Rattle.compare.specs.Sides.{Traced, our_chain, their_chain, our_node, their_node}
use Rattle.compare.specs.Sides.{left_input, right_input, revealed_height}
use Rattle.compare.specs.declared.verdict.Verdict.{Verdict}
use Rattle.compare.specs.declared.verdict.Verdict.TheVariants.{Ours, Node, Chain, Unrevealed}

module _ (hash : Hash) (code : Code) (t : Traced) where
  -- the inputs of pair at level a, position b, are the same on both sides
  abbrev pub SameInputs : ℕ → ℕ → Type 0
  SameInputs a b =
      (left_input hash code t (our_node hash code t) a b
      ≡ left_input hash code t (their_node hash code t) a b)
      × (right_input hash code t (our_node hash code t) a b
      ≡ right_input hash code t (their_node hash code t) a b)

-- a node above the record's leaf or within it, equal on both sides while its masked children differ
pub record NodeBreak (hash : Hash) (code : Code) (t : Traced) (a b : ℕ) : Type 0 where
  pub inner : a < t.origin.height + code.levels
  pub near : b / 2 ^ (a - t.origin.height) ≡ t.leaf / 2 ^ (t.origin.height - a)
  pub equal : our_node hash code t a b ≡ their_node hash code t a b
  pub differ : SameInputs hash code t a b → ⊥

-- a chain and a height where both strings differ and step to one string
pub record ChainBreak (hash : Hash) (code : Code) (t : Traced) (k e : ℕ) : Type 0 where
  pub chain : k < code.count
  pub shown : code.digit t.stamp k ≤ e
  pub under : e < code.top
  pub differ : our_chain hash code t k e ≡ their_chain hash code t k e → ⊥
  pub equal :
      hash.step t.origin.hash_key (our_chain hash code t k e)
      ≡ hash.step t.origin.hash_key (their_chain hash code t k e)

-- a chain whose digit for the stamp is below the revealed height
pub record UnrevealedChain (code : Code) (t : Traced) (k : ℕ) : Type 0 where
  pub chain : k < code.count
  pub below : code.digit t.stamp k < revealed_height code t.entered k

module _ (hash : Hash) (code : Code) (t : Traced) where
  -- there is no node break
  abbrev pub NoNode : Type 0
  NoNode = (a b : ℕ) → NodeBreak hash code t a b → ⊥

  -- there is no chain break
  abbrev pub NoChain : Type 0
  NoChain = (k e : ℕ) → ChainBreak hash code t k e → ⊥

  -- there is no chain whose string was not revealed
  abbrev pub NoUnrevealed : Type 0
  NoUnrevealed = (k : ℕ) → UnrevealedChain code t k → ⊥

  -- the report of a node: the signer's masked children, left and right, and then the record's
  abbrev pub node_report : ℕ → ℕ → List ℕ
  node_report a b =
      left_input hash code t (our_node hash code t) a b
      ++ (right_input hash code t (our_node hash code t) a b
      ++ (left_input hash code t (their_node hash code t) a b
      ++ right_input hash code t (their_node hash code t) a b))

  -- the report of a chain: the signer's string and then the record's; unused bytes are zero
  abbrev pub chain_report : ℕ → ℕ → List ℕ
  chain_report k e =
      our_chain hash code t k e ++ (their_chain hash code t k e ++ (zero_string ++ zero_string))

  -- the report of a string that was not revealed: the signer's string; unused bytes are zero
  abbrev pub unrevealed_report : ℕ → List ℕ
  unrevealed_report k =
      our_chain hash code t k (code.digit t.stamp k)
      ++ (zero_string ++ (zero_string ++ zero_string))

  -- the verdict on a node: its level and position, and its report
  abbrev pub node_verdict : ℕ → ℕ → Verdict
  node_verdict a b = Node (record { first = a; second = b; report = node_report a b })

  -- the verdict on a chain: its number and the height, and its report
  abbrev pub chain_verdict : ℕ → ℕ → Verdict
  chain_verdict k e = Chain (record { first = k; second = e; report = chain_report k e })

  -- the verdict on a string that was not revealed: its chain and height, and its report
  abbrev pub unrevealed_verdict : ℕ → Verdict
  unrevealed_verdict k =
      Unrevealed
      (record { first = k; second = code.digit t.stamp k; report = unrevealed_report k })

-- the node nearest the root (the least level number), and of those the least position
pub record FirstNode (hash : Hash) (code : Code) (t : Traced) (a b : ℕ) : Type 0 where
  pub breaks : NodeBreak hash code t a b
  pub least : (a' b' : ℕ) → NodeBreak hash code t a' b' → (a < a') ⊎ ((a ≡ a') × (b ≤ b'))

-- no node, and the lowest chain, and on it the greatest height
pub record FirstChain (hash : Hash) (code : Code) (t : Traced) (k e : ℕ) : Type 0 where
  pub no_node : NoNode hash code t
  pub breaks : ChainBreak hash code t k e
  pub least : (k' e' : ℕ) → ChainBreak hash code t k' e' → (k < k') ⊎ ((k ≡ k') × (e' ≤ e))

-- no node and no chain, and the lowest chain whose string was not revealed
pub record FirstUnrevealed (hash : Hash) (code : Code) (t : Traced) (k : ℕ) : Type 0 where
  pub no_node : NoNode hash code t
  pub no_chain : NoChain hash code t
  pub shows : UnrevealedChain code t k
  pub least : (k' : ℕ) → UnrevealedChain code t k' → k ≤ k'

-- none of the three
pub record NoneFound (hash : Hash) (code : Code) (t : Traced) : Type 0 where
  pub no_node : NoNode hash code t
  pub no_chain : NoChain hash code t
  pub no_unrevealed : NoUnrevealed hash code t

-- the verdict on what is to be found first; where there is nothing to be found, the record is ours
pub data Found (hash : Hash) (code : Code) (t : Traced) : Verdict → Type 0 where
  node_break : (a b : ℕ) → FirstNode hash code t a b →
      Found hash code t (node_verdict hash code t a b)
  chain_break : (k e : ℕ) → FirstChain hash code t k e →
      Found hash code t (chain_verdict hash code t k e)
  unrevealed : (k : ℕ) → FirstUnrevealed hash code t k →
      Found hash code t (unrevealed_verdict hash code t k)
  ours : NoneFound hash code t → Found hash code t Ours

-- the numbers that trace answers: the verdict, and where
abbrev pub verdict_numbers : ℕ → Verdict → ℕ × ℕ × ℕ
verdict_numbers leaf Ours = (0, leaf, 0)
verdict_numbers leaf (Node f) = (1, f.first, f.second)
verdict_numbers leaf (Chain f) = (2, f.first, f.second)
verdict_numbers leaf (Unrevealed f) = (3, f.first, f.second)

-- how many bytes a report has: four strings
abbrev pub report_size : ℕ
report_size = 64

-- the report of a verdict: zeros where the record is ours
abbrev pub verdict_report : Verdict → List ℕ
verdict_report Ours = replicate report_size 0
verdict_report (Node f) = f.report
verdict_report (Chain f) = f.report
verdict_report (Unrevealed f) = f.report
