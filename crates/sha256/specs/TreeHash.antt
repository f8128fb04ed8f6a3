-- The tree hash that is made of SHA-256, cut to its first 16 bytes.
use Rattle.std.specs.Prelude.{ℕ, List, ◌++◌, take, codes}
use Rattle.sha256.specs.Digest.{sha256_of}

-- the step: the hash of the four bytes STEP, the key and the string
abbrev pub sha_step : List ℕ → List ℕ → List ℕ
sha_step key s = take 16 (sha256_of (codes "STEP" ++ (key ++ s)))

-- the pair: the hash of the four bytes PAIR, the key and the two strings
abbrev pub sha_pair : List ℕ → List ℕ → List ℕ → List ℕ
sha_pair key left right = take 16 (sha256_of (codes "PAIR" ++ (key ++ (left ++ right))))
