-- The practice hash and the codes, as values: each with its number in key records.
use Rattle.hashes.specs.Practice.{practice_step, practice_pair}
use Rattle.codes.specs.Codes.{lamport_diffie, winternitz}
use Rattle.tree.specs.Meaning.{Hash, Code}

-- the practice hash
abbrev pub practice : Hash
practice = record { number = 3; step = practice_step; pair = practice_pair }

-- Lamport-Diffie: 256 digits, 0 or 1, and as many chains of one step
abbrev pub lamport_diffie_code : Code
lamport_diffie_code =
    record { number = 1; count = 256; top = 1; levels = 8; digit = lamport_diffie }

-- Winternitz by 2 bits: 64 digits of the stamp and 5 of its checksum, each from 0 to 3
abbrev pub winternitz2_code : Code
winternitz2_code = record { number = 2; count = 69; top = 3; levels = 7; digit = winternitz 2 5 }

-- Winternitz by 4 bits: 32 digits of the stamp and 3 of its checksum, each from 0 to 15
abbrev pub winternitz4_code : Code
winternitz4_code = record { number = 3; count = 35; top = 15; levels = 6; digit = winternitz 4 3 }
