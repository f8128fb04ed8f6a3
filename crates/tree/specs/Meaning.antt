-- A hash and a code as values: what the generic code is proved over. Keys and strings have 16
-- bytes.
use Rattle.std.specs.Prelude.{ℕ, List}
use Rattle.hashes.specs.declared.ChainHash as chain_hash
use Rattle.hashes.specs.declared.TreeHash as tree_hash
use Rattle.codes.specs.declared.Code as code_trait

-- a keyed hash: its number in key records, and what it does with strings
pub record Hash : Type 0 where
  pub number : ℕ
  -- a step up a hash chain: key and string to string
  pub step : List ℕ → List ℕ → List ℕ
  -- two strings joined: key, left and right string to string
  pub pair : List ℕ → List ℕ → List ℕ → List ℕ

-- a code, as Lamport-Diffie's or Winternitz's: its number in key records, and the digits that it
-- gives a stamp
pub record Code : Type 0 where
  pub number : ℕ
  -- how many digits a stamp has, and a leaf chains
  pub count : ℕ
  -- the largest digit, and how many steps a chain has
  pub top : ℕ
  -- the levels of the tree inside a leaf (its L-tree)
  pub levels : ℕ
  -- stamp and place to digit
  pub digit : List ℕ → ℕ → ℕ

-- what a clause names by `H.TreeHash`, under a bound `H: TreeHash`
abbrev pub TreeHashMembers : Type 0
TreeHashMembers = record {
  NUMBER : ℕ;
  steps : List ℕ → List ℕ → List ℕ;
  pairs : List ℕ → List ℕ → List ℕ → List ℕ;
}

-- the hash under a bound `H: TreeHash`, in a clause
abbrev pub hash_of : TreeHashMembers → Hash
hash_of h = record { number = h.NUMBER; step = h.steps; pair = h.pairs }

-- the same hash, where each trait's members are a record of their own: in a type and in a proof
abbrev pub hash_by : {S : Type 0} → chain_hash.Ghosts S → tree_hash.Ghosts S → Hash
hash_by chain tree = record { number = chain.NUMBER; step = chain.steps; pair = tree.pairs }

-- the code under a bound `C: Code`
abbrev pub code_of : {S : Type 0} → code_trait.Ghosts S → Code
code_of code =
    record {
      number = code.NUMBER;
      count = code.COUNT;
      top = code.TOP;
      levels = code.LEVELS;
      digit = code.digits;
    }
