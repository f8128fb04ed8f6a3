-- What is printed of a report: a line for the key, then one for each order, counted from 1.
use Rattle.std.specs.Prelude.{ℕ, suc, List, [], ◌∷◌, ◌++◌, Ok, Err, Result, codes}
use Rattle.std.specs.Fmt.{decimal}
use Rattle.std.specs.List.{flat_map}
use Rattle.records.specs.Refusals.{refusal_number}
use Rattle.records.specs.declared.refusal.Refusal.{Refusal}
use Rattle.orders.specs.Reports.{Reported}
use Rattle.orders.specs.declared.key.KeySummary.{KeySummary}
use Rattle.orders.specs.declared.order.Order.{Order}

-- LF, in ASCII
abbrev pub line_feed : ℕ
line_feed = 10

-- a line is ended by LF
abbrev pub line : List ℕ → List ℕ
line text = text ++ line_feed ∷ []

-- ` refused N`, of a key or an order
abbrev pub refused_text : Refusal → List ℕ
refused_text e = codes " refused " ++ decimal (refusal_number e)

-- `HASH CODE HEIGHT`
abbrev pub summary_text : KeySummary → List ℕ
summary_text key =
    decimal key.hash ++ codes " " ++ decimal key.code ++ codes " " ++ decimal key.height

-- `key HASH CODE HEIGHT`, or `key refused N`
abbrev pub key_text : Result KeySummary Refusal → List ℕ
key_text (Ok key) = codes "key " ++ summary_text key
key_text (Err e) = codes "key" ++ refused_text e

-- ` leaf LEAF open`, or ` refused N`
abbrev pub outcome_text : Result ℕ Refusal → List ℕ
outcome_text (Ok leaf) = codes " leaf " ++ decimal leaf ++ codes " open"
outcome_text (Err e) = refused_text e

-- `order NUMBER leaf LEAF open`, or `order NUMBER refused N`
abbrev pub order_text : Order → List ℕ
order_text order = codes "order " ++ decimal order.number ++ outcome_text order.outcome

-- the orders with these outcomes, the first of them with this number
unfoldable pub counted_from : ℕ → List (Result ℕ Refusal) → List Order
counted_from n [] = []
counted_from n (outcome ∷ outcomes) =
    record { number = n; outcome = outcome } ∷ counted_from (suc n) outcomes

-- a line for each order
abbrev pub order_lines : List Order → List ℕ
order_lines orders = flat_map (λ order. line (order_text order)) orders

-- the lines of a report: the key's, and then those of the orders
abbrev pub report_text : Reported → List ℕ
report_text report = line (key_text report.key) ++ order_lines (counted_from 1 report.orders)
