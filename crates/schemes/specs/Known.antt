-- The hashes that are made of SHA-256 and AES-128, as values.
use Rattle.sha256.specs.TreeHash.{sha_step, sha_pair}
use Rattle.aes128.specs.Cipher.{aes_step, aes_pair}
use Rattle.tree.specs.Meaning.{Hash}

-- hash 1, made of SHA-256
abbrev pub sha : Hash
sha = record { number = 1; step = sha_step; pair = sha_pair }

-- hash 2, made of AES-128
abbrev pub aes : Hash
aes = record { number = 2; step = aes_step; pair = aes_pair }
