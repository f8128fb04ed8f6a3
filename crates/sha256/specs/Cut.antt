-- SHA-256 cut to its first 16 bytes is a string.
use Rattle.std.specs.Prelude.{ℕ, ◌%◌, ◌<◌, List, [], ◌∷◌, take, refl}
use Rattle.std.proofs.Common.{mod-lt, arith}
use Rattle.std.specs.List.{flat_map}
use Rattle.std.proofs.ByRecursion.{All-append, All-take}
use Rattle.strings.specs.Strings.{IsBytes, IsString}
use Rattle.sha256.specs.declared.state.State.{State}
use Rattle.sha256.specs.Digest.{big_endian, state_words, digest, sha256_of}

word_bytes : (n : ℕ) → IsBytes (big_endian 4 n)
word_bytes n =
    let small : (m : ℕ) → m % 256 < 256 = λ m. mod-lt m (omega arith) in
    (small _, (small _, (small _, (small _, tt))))

words-bytes : (ws : List ℕ) → IsBytes (flat_map (big_endian 4) ws)
words-bytes [] = tt
words-bytes (w ∷ ws) =
    let rest = flat_map (big_endian 4) ws in
    All-append (λ b. b < 256) (big_endian 4 w) rest (word_bytes w) (words-bytes ws)

digest-cut : (s : State) → IsString (take 16 (digest s))
unfolding digest
digest-cut s = (refl, All-take (λ b. b < 256) 16 (digest s) (words-bytes (state_words s)))

pub cut-str : (message : List ℕ) → IsString (take 16 (sha256_of message))
unfolding sha256_of
cut-str message = digest-cut _
