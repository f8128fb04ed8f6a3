use Rattle.std.proofs.Common.{◌≡◌, ℕ, ◌<◌, length, get_or}
use Rattle.sha256.specs.Compress.{word_at}
use Rattle.sha256.proofs.schedule.block_words.Given as goal

abbrev pub invariant-loop-t : goal.invariant-loop-t
invariant-loop-t l = (length l.w ≡ 64) × ((k : ℕ) → k < l.t → get_or l.w k 0 ≡ word_at l.fn.block k)
