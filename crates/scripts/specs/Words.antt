-- Words with single spaces between them: what is read of a line, word by word.
use Rattle.std.specs.Prelude.{ℕ, if◌then◌else◌, List, [], ◌∷◌, Some, None, Option, ◌==◌}
use Rattle.std.specs.Option.{option_map}
use Rattle.scripts.specs.Ascii.{space}
use Rattle.scripts.specs.Digits.{number_rule}
use Rattle.scripts.specs.Hex.{hex_of}
use Rattle.scripts.specs.Sizes.{largest_byte}
use Rattle.scripts.specs.declared.words.Words.{Words}

-- what stands before the first space
abbrev pub word_of : List ℕ → List ℕ
word_of [] = []
word_of (c ∷ rest) = if c == space then [] else c ∷ word_of rest

-- what stands after it
abbrev pub after_word : List ℕ → Option (List ℕ)
after_word [] = None
after_word (c ∷ rest) = if c == space then Some rest else after_word rest

-- what follows on a value, where there is one
abbrev pub and_then : {A B : Type 0} → Option A → (A → Option B) → Option B
and_then (Some x) next = next x
and_then None next = None

-- a word that was read, and what stands after it
pub record Read (A : Type 0) : Type 0 where
  pub word : A
  pub rest : Option (List ℕ)

-- a first word that is a number of one byte
abbrev pub byte_word : Option (List ℕ) → Option (Read ℕ)
byte_word text =
    and_then text
    (λ t.
    option_map
    (λ n. record { word = n; rest = after_word t })
    (number_rule largest_byte (word_of t)))

-- a first word that is a string, 16 bytes as hex digits
abbrev pub string_word : Option (List ℕ) → Option (Read (List ℕ))
string_word text =
    and_then text
    (λ t. option_map (λ s. record { word = s; rest = after_word t }) (hex_of 16 (word_of t)))

-- what is left of a line
abbrev pub rest_of : Words → Option (List ℕ)
rest_of w = option_map (λ x. x.now) w.text

-- what is left of it after a word
abbrev pub rest_after : Option (List ℕ) → Option (List ℕ)
rest_after text = and_then text after_word
