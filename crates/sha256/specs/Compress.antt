-- The message schedule and the compression function of SHA-256, FIPS 180-4, section 6.2.2.
use Rattle.std.specs.Prelude.{ℕ, zero, suc, ◌+◌, ◌-◌, ◌*◌, ◌^◌, List, [], ◌∷◌, ◌++◌}
use Rattle.std.specs.Prelude.{map, slice_index, slice_index_or}
use Rattle.std.specs.List.{range_with_len, fold, zip}
use Rattle.sha256.specs.declared.state.State.{State}
use Rattle.sha256.specs.Constants.{round_words}
use Rattle.sha256.specs.Functions.{◌⊞◌, ch, maj, big_sigma0, big_sigma1, small_sigma0, small_sigma1}

-- word number t of a block, big-endian
abbrev pub word_at : List ℕ → ℕ → ℕ
word_at block t =
    slice_index block (4 * t) * 2 ^ 24
    + slice_index block (4 * t + 1) * 2 ^ 16
    + slice_index block (4 * t + 2) * 2 ^ 8
    + slice_index block (4 * t + 3)

-- the 16 words of a block
abbrev pub words : List ℕ → List ℕ
words block = map (word_at block) (range_with_len 0 16)

-- word number t of the schedule, from the words w before it
abbrev pub next_word : List ℕ → ℕ → ℕ
next_word w t =
    small_sigma1 (slice_index w (t - 2))
    ⊞ slice_index_or w (t - 7) 0
    ⊞ small_sigma0 (slice_index w (t - 15))
    ⊞ slice_index_or w (t - 16) 0

-- the first t words of the schedule, and word number t
abbrev pub longer : List ℕ → ℕ → List ℕ
longer w t = w ++ next_word w t ∷ []

-- the block's 16 words w, and n words of the schedule after them
unfoldable pub extended : ℕ → List ℕ → List ℕ
extended zero w = w
extended (suc n) w = longer (extended n w) (16 + n)

-- the message schedule of a block, 64 words
abbrev pub schedule : List ℕ → List ℕ
schedule block = extended 48 (words block)

-- one round, with the round's constant k and word w of the schedule
abbrev pub round : State → ℕ → ℕ → State
round s k w =
    let t1 = s.h ⊞ big_sigma1 s.e ⊞ ch s.e s.f s.g ⊞ k ⊞ w in
    let t2 = big_sigma0 s.a ⊞ maj s.a s.b s.c in
    record { a = t1 ⊞ t2; b = s.a; c = s.b; d = s.c; e = s.d ⊞ t1; f = s.e; g = s.f; h = s.g }

-- round number t, over the schedule w
abbrev pub round_at : State → ℕ → List ℕ → State
round_at s t w = round s (slice_index round_words t) (slice_index w t)

-- n rounds, from round number t on
unfoldable pub rounds : ℕ → ℕ → State → List ℕ → State
rounds zero t s w = s
rounds (suc n) t s w = round_at (rounds n t s w) (t + n) w

-- the rounds of these constants and words, one after another
abbrev pub rounds_of : State → List ℕ → List ℕ → State
rounds_of s constants words = fold (λ t p. round t p.0 p.1) s (zip constants words)

-- the sum of two states, word by word
abbrev pub added : State → State → State
added s t =
    record {
      a = s.a ⊞ t.a;
      b = s.b ⊞ t.b;
      c = s.c ⊞ t.c;
      d = s.d ⊞ t.d;
      e = s.e ⊞ t.e;
      f = s.f ⊞ t.f;
      g = s.g ⊞ t.g;
      h = s.h ⊞ t.h;
    }

-- the hash value after a block, from the hash value s before it
unfoldable pub compress : State → List ℕ → State
compress s block = added s (rounds 64 0 s (schedule block))
