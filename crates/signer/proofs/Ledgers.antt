-- The rows of a ledger from the next leaf on are empty.
use Rattle.std.proofs.Common.{◌≡◌, ℕ, ◌+◌, ◌≤◌, true, List, get_or, set, replicate, Some, None, Option, ap, ◌∙◌, arith}
use Rattle.std.proofs.lemmas.List.{get_or-set_other}
use Rattle.rules.specs.States.{empty_row}
use Rattle.histories.proofs.Sound.{none_at}

pub empty-fresh : (rows : List (Option (List ℕ))) (n i : ℕ) → rows ≡ replicate n None → empty_row (get_or rows i None) ≡ true
empty-fresh rows n i is = ap (λ l. empty_row (get_or l i None)) is ∙ ap empty_row (none_at n i)

-- and one leaf further on, where a stamp was entered in the row of the next leaf
pub entered-fresh : (rows rows' : List (Option (List ℕ))) (next : ℕ) (stamp : List ℕ) → rows' ≡ set rows next (Some stamp) → ((i : ℕ) → next ≤ i → empty_row (get_or rows i None) ≡ true) → (i : ℕ) → next + 1 ≤ i → empty_row (get_or rows' i None) ≡ true
entered-fresh rows rows' next stamp is fresh i above =
    let other : i ≡ next → ⊥ = omega arith in
    ap (λ l. empty_row (get_or l i None)) is
    ∙ ap empty_row (get_or-set_other rows next i (Some stamp) None other)
    ∙ fresh i (omega arith)
