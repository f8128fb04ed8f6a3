-- What a report and what is left of a tour stand for.
use Rattle.std.specs.Prelude.{ℕ, suc, List, [], Ok, Err, Result}
use Rattle.records.specs.declared.refusal.Refusal.{Refusal}
use Rattle.verifier.specs.Rules.{verify_rule}
use Rattle.verifier.specs.Views.{key_of}
use Rattle.verifier.specs.declared.key.OpenedKey.{OpenedKey}
use Rattle.schemes.specs.Names.{hash_named, code_named}
use Rattle.schemes.specs.declared.scheme.Scheme.{Scheme}
use Rattle.orders.specs.Outcomes.{answers_to}
use Rattle.orders.specs.Reports.{Reported}
use Rattle.orders.specs.Texts.{counted_from}
use Rattle.orders.specs.declared.key.KeySummary.{KeySummary}
use Rattle.orders.specs.declared.order.Order.{Order}
use Rattle.orders.specs.declared.report.Report.{Report}
use Rattle.orders.specs.declared.report.Report.TheVariants.{Refused, Opened}
use Rattle.orders.specs.declared.tour.Orders.{Orders}
use Rattle.orders.specs.declared.tour.Tour.{Tour}

-- what verify answers to a stamp and a record, under a key and with the scheme that it names
abbrev pub answer_under : Scheme → OpenedKey → List ℕ → List ℕ → Result ℕ Refusal
answer_under scheme key = verify_rule (hash_named scheme.hash) (code_named scheme.code) (key_of key)

-- the numbers and the height of a tour's key
abbrev pub summary_of : Tour → KeySummary
summary_of tour = tour.summary

-- the answers to the orders of a tour
abbrev pub answers_of : Tour → List (Result ℕ Refusal)
answers_of tour = answers_to (answer_under tour.scheme tour.key) tour.orders.now

-- the orders that are still to be handed out
abbrev pub orders_to_come : Orders → List Order
orders_to_come o = counted_from (suc o.given) (answers_to (answer_under o.scheme o.key) o.rest.now)

-- the key and the answers of a report; a refused key record leaves no order
abbrev pub reported : Report → Reported
reported (Refused e) = record { key = Err e; orders = [] }
reported (Opened tour) = record { key = Ok (summary_of tour); orders = answers_of tour }
