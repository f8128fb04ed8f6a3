-- What the names of hashes and codes mean, and their numbers.
use Rattle.std.specs.Prelude.{◌≢◌, ◌⊎◌, ℕ, if◌then◌else◌, Ok, Err, Result, ◌==◌}
use Rattle.tree.specs.Known.{practice, lamport_diffie_code, winternitz2_code, winternitz4_code}
use Rattle.tree.specs.Meaning.{Hash, Code}
use Rattle.records.specs.Rules.{after}
use Rattle.schemes.specs.Known.{sha, aes}
use Rattle.schemes.specs.declared.names.CodeName.{CodeName}
use Rattle.schemes.specs.declared.names.CodeName.TheVariants.{LamportDiffie, Winternitz2}
use Rattle.schemes.specs.declared.names.CodeName.TheVariants.{Winternitz4}
use Rattle.schemes.specs.declared.names.HashName.{HashName}
use Rattle.schemes.specs.declared.names.HashName.TheVariants.{Sha256, Aes128, Practice}
use Rattle.schemes.specs.declared.scheme.Scheme.{Scheme}
use Rattle.schemes.specs.declared.unknown.UnknownScheme.{UnknownScheme}

-- the hash that a name stands for: its number, its step and its pair
abbrev pub hash_named : HashName → Hash
hash_named Sha256 = sha
hash_named Aes128 = aes
hash_named Practice = practice

-- the code that a name stands for
abbrev pub code_named : CodeName → Code
code_named LamportDiffie = lamport_diffie_code
code_named Winternitz2 = winternitz2_code
code_named Winternitz4 = winternitz4_code

-- no hash has the number, or no code
abbrev pub no_such : UnknownScheme
no_such = record {}

-- the name of the hash with this number
abbrev pub hash_name : ℕ → Result HashName UnknownScheme
hash_name n =
    if n == sha.number then Ok Sha256 else
    if n == aes.number then Ok Aes128 else
    if n == practice.number then Ok Practice else Err no_such

-- the name of the code with this number
abbrev pub code_name : ℕ → Result CodeName UnknownScheme
code_name n =
    if n == lamport_diffie_code.number then Ok LamportDiffie else
    if n == winternitz2_code.number then Ok Winternitz2 else
    if n == winternitz4_code.number then Ok Winternitz4 else Err no_such

-- the hash and the code with these numbers
abbrev pub scheme_numbered : ℕ → ℕ → Result Scheme UnknownScheme
scheme_numbered hash code =
    after (hash_name hash)
    (λ h. after (code_name code) (λ c. Ok (record { hash = h; code = c })))

-- no hash that is known has the first number, or no code the second
abbrev pub UnknownNumbers : ℕ → ℕ → Type 0
UnknownNumbers hash code =
    ((h : HashName) → (hash_named h).number ≢ hash)
    ⊎ ((c : CodeName) → (code_named c).number ≢ code)
