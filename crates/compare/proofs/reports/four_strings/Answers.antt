use Rattle.std.proofs.Common.{◌≡◌, ℕ, List, [], ◌++◌, length, drop, replicate, refl, ap, ◌∙◌, arith}
use Rattle.std.proofs.lemmas.List.{append_assoc, append-nil, length-append}
use Rattle.strings.proofs.Laws.{written-more}
use Rattle.compare.specs.Found.{report_size}
use Rattle.compare.proofs.reports.four_strings.Goals as goal

pub returns : goal.returns
returns c =
    let b₀ : List ℕ = replicate report_size 0 in
    let p = c.args.a.now in
    let q = c.args.b.now in
    let r = c.args.c.now in
    let s = c.args.d.now in
    let n₂ : length (p ++ q) ≡ 32 = length-append p q ∙ omega arith in
    let n₃ : length ((p ++ q) ++ r) ≡ 48 = length-append (p ++ q) r ∙ omega arith in
    let n₄ : length (((p ++ q) ++ r) ++ s) ≡ report_size = length-append ((p ++ q) ++ r) s ∙ omega arith in
    let w₁ = written-more b₀ b₀ c.put.new.bytes [] p 0 (refl, omega arith) refl (omega arith) c.put.ensures.front c.put.ensures.back in
    let w₂ = written-more b₀ c.put.new.bytes c.put-2.new.bytes p q 16 w₁ c.told-a (omega arith) c.put-2.ensures.front c.put-2.ensures.back in
    let w₃ = written-more b₀ c.put-2.new.bytes c.put-3.new.bytes (p ++ q) r 32 w₂ n₂ (omega arith) c.put-3.ensures.front c.put-3.ensures.back in
    let w₄ = written-more b₀ c.put-3.new.bytes c.put-4.new.bytes ((p ++ q) ++ r) s 48 w₃ n₃ (omega arith) c.put-4.ensures.front c.put-4.ensures.back in
    w₄.0
    ∙ ap (λ n. (((p ++ q) ++ r) ++ s) ++ drop n b₀) n₄
    ∙ append-nil (((p ++ q) ++ r) ++ s)
    ∙ append_assoc (p ++ q) r s
    ∙ append_assoc p q (r ++ s)
