-- What the examples are about: the practice hash, the three codes, and a signer grown from zeros.
use Rattle.std.specs.Prelude.{◌≡◌, ℕ, List, ◌∷◌, replicate}
use Rattle.hashes.specs.contracts.practice.PracticeChainHash.TheImpl as practice_chain
use Rattle.hashes.specs.contracts.practice.PracticeTreeHash.TheImpl as practice_tree
use Rattle.codes.specs.contracts.lamport_diffie.LamportDiffieCode.TheImpl as lamport_diffie
use Rattle.codes.specs.contracts.widths.TwoBits as two_bits
use Rattle.codes.specs.contracts.widths.TwoBitsDigitWidth.TheImpl as two_bits_width
use Rattle.codes.specs.contracts.widths.FourBits as four_bits
use Rattle.codes.specs.contracts.widths.FourBitsDigitWidth.TheImpl as four_bits_width
use Rattle.codes.specs.contracts.winternitz.WinternitzCode.TheImpl as winternitz
use Rattle.tree.specs.Known.{practice, lamport_diffie_code, winternitz2_code, winternitz4_code}
use Rattle.tree.specs.Meaning.{Code, hash_by, code_of}
use Rattle.growth.specs.Grown.{masks_size}
use Rattle.growth.specs.declared.origin.Origin.{Origin}
use Rattle.rules.specs.Rules.{begin_state, finish_state}
use Rattle.rules.specs.States.{Signing}

-- the string whose byte 0 is b, and the rest zero
abbrev pub string : ℕ → List ℕ
string b = b ∷ replicate 15 0

-- the hash and the codes are those that their impls state
pub record AsStated : Type 0 where
  pub hash : practice ≡ hash_by practice_chain.ghosts practice_tree.ghosts
  pub first : lamport_diffie_code ≡ code_of lamport_diffie.ghosts
  pub second :
      winternitz2_code
      ≡ code_of (winternitz.ghosts two_bits.the_row two_bits_width.ghosts two_bits_width.dict)
  pub third :
      winternitz4_code
      ≡ code_of (winternitz.ghosts four_bits.the_row four_bits_width.ghosts four_bits_width.dict)

-- what is grown from at height h: seed, hash key and masks are zero
abbrev pub origin : ℕ → Origin
origin h =
    record { seed = string 0; hash_key = string 0; masks = replicate masks_size 0; height = h }

-- the signer that finish gives, of a key of height h
abbrev pub fresh : Code → ℕ → Signing
fresh code h = finish_state practice code (begin_state (origin h))
