-- What is found, and what a report of it holds.
use Rattle.std.proofs.Common.{◌≡◌, ℕ, ◌+◌, ◌*◌, ◌≤◌, List, length, sym, ap, ◌∙◌}
use Rattle.strings.specs.Strings.{IsBytes, string_at, zero_string}
use Rattle.tree.specs.Meaning.{Hash, Code}
use Rattle.compare.specs.Sides.{Traced, our_chain, their_chain, our_node, their_node, left_input, right_input}
use Rattle.compare.specs.Found.{NodeBreak, ChainBreak, node_report, chain_report, unrevealed_report}
use Rattle.compare.proofs.Lawful.{Lawful}
use Rattle.compare.proofs.Nodes.{their-parent}
use Rattle.compare.proofs.Rows.{four-strings}
use Rattle.growth.proofs.Strings.{zero-str}
use Rattle.growth.proofs.Trees.{node-up}
use Rattle.compare.proofs.Strings.{our-chain-str, their-chain-str, our-inputs-str, their-inputs-str}

module _ (hash : Hash) (code : Code) (t : Traced) where
  abbrev key : List ℕ
  key = t.origin.hash_key

  -- pair takes the inputs of both sides to one string
  pub node-break-means : (a b : ℕ) → NodeBreak hash code t a b → hash.pair key (left_input hash code t (our_node hash code t) a b) (right_input hash code t (our_node hash code t) a b) ≡ hash.pair key (left_input hash code t (their_node hash code t) a b) (right_input hash code t (their_node hash code t) a b)
  node-break-means a b break = sym (node-up hash code t.origin a b break.inner) ∙ break.equal ∙ their-parent hash code t a b break.inner break.near

  module _ (lawful : Lawful hash code t.origin) (tall : t.origin.height ≤ 8) where
    -- the report of a string that was not revealed: the string
    pub unrevealed-report : (k : ℕ) → string_at (unrevealed_report hash code t k) 0 ≡ our_chain hash code t k (code.digit t.stamp k)
    unrevealed-report k =
        (four-strings (our_chain hash code t k (code.digit t.stamp k)) zero_string zero_string zero_string (our-chain-str hash code t lawful tall k (code.digit t.stamp k)).0 zero-str.0 zero-str.0 zero-str.0).0

    module _ (long : length t.row ≡ 16 * (code.count + t.origin.height)) (bytes : IsBytes t.row) where
      -- the report of a node: the inputs of both sides; pair takes both to one string, and they differ
      pub node-report : (a b : ℕ) → NodeBreak hash code t a b → (string_at (node_report hash code t a b) 0 ≡ left_input hash code t (our_node hash code t) a b) × (string_at (node_report hash code t a b) 1 ≡ right_input hash code t (our_node hash code t) a b) × (string_at (node_report hash code t a b) 2 ≡ left_input hash code t (their_node hash code t) a b) × (string_at (node_report hash code t a b) 3 ≡ right_input hash code t (their_node hash code t) a b)
      node-report a b break =
          let our = our-inputs-str hash code t lawful tall a b break.inner in
          let their = their-inputs-str hash code t lawful tall long bytes a b break.inner break.near in
          four-strings _ _ _ _ our.0.0 our.1.0 their.0.0 their.1.0

      pub node-report-meets : (a b : ℕ) → NodeBreak hash code t a b → hash.pair key (string_at (node_report hash code t a b) 0) (string_at (node_report hash code t a b) 1) ≡ hash.pair key (string_at (node_report hash code t a b) 2) (string_at (node_report hash code t a b) 3)
      node-report-meets a b break =
          let at = node-report a b break in
          (λ i. hash.pair key (at.0 i) (at.1 i)) ∙ node-break-means a b break ∙ (λ i. hash.pair key (sym at.2 i) (sym at.3 i))

      pub node-report-differs : (a b : ℕ) → NodeBreak hash code t a b → (string_at (node_report hash code t a b) 0 ≡ string_at (node_report hash code t a b) 2) × (string_at (node_report hash code t a b) 1 ≡ string_at (node_report hash code t a b) 3) → ⊥
      node-report-differs a b break same =
          let at = node-report a b break in
          break.differ (sym at.0 ∙ same.0 ∙ at.2, sym at.1 ∙ same.1 ∙ at.3)

      -- the report of a chain: the strings of both sides; step takes both to one string, and they differ
      pub chain-report : (k e : ℕ) → ChainBreak hash code t k e → (string_at (chain_report hash code t k e) 0 ≡ our_chain hash code t k e) × (string_at (chain_report hash code t k e) 1 ≡ their_chain hash code t k e)
      chain-report k e break =
          let our = our-chain-str hash code t lawful tall k e in
          let their = their-chain-str hash code t lawful tall long bytes k e break.chain in
          let at = four-strings (our_chain hash code t k e) (their_chain hash code t k e) zero_string zero_string our.0 their.0 zero-str.0 zero-str.0 in
          (at.0, at.1)

      pub chain-report-meets : (k e : ℕ) → ChainBreak hash code t k e → hash.step key (string_at (chain_report hash code t k e) 0) ≡ hash.step key (string_at (chain_report hash code t k e) 1)
      chain-report-meets k e break =
          let at = chain-report k e break in
          ap (hash.step key) at.0 ∙ break.equal ∙ ap (hash.step key) (sym at.1)

      pub chain-report-differs : (k e : ℕ) → ChainBreak hash code t k e → string_at (chain_report hash code t k e) 0 ≡ string_at (chain_report hash code t k e) 1 → ⊥
      chain-report-differs k e break same =
          let at = chain-report k e break in
          break.differ (sym at.0 ∙ same ∙ at.1)
