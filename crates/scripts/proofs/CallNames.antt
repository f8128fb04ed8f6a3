-- Names of calls are text, so a word that is not names none.
use Rattle.std.proofs.Common.{◌≡◌, ℕ, false, List, None, Option, codes, subst, sym, refl, ⊎_elim}
use Rattle.std.proofs.lemmas.Bool.{cases_Bool}
use Rattle.std.proofs.lemmas.Slice.Eq.{bytes_eq-Decides}
use Rattle.std.specs.Str.{IsUtf8, bytes_eq}
use Rattle.scripts.specs.Calls.{read_call}
use Rattle.scripts.specs.Lines.{not_a_call, words_line}
use Rattle.scripts.specs.Words.{word_of, after_word}

module _ (word : List ℕ) (bad : IsUtf8 word → ⊥) where
  other : (name : List ℕ) → IsUtf8 name → bytes_eq word name ≡ false
  other name text =
      ⊎_elim (λ e. absurd (bad (subst IsUtf8 (sym ((bytes_eq-Decides word name).0 e)) text))) (λ e. e) (cases_Bool (bytes_eq word name))

  no-name : (rest : Option (List ℕ)) → read_call word rest ≡ None
  unfolding lib.Utf8.encode
  no-name rest =
      rw (other (codes "grow") (codes "grow", (refl, refl)), other (codes "nodes") (codes "nodes", (refl, refl)), other (codes "finish") (codes "finish", (refl, refl)), other (codes "key") (codes "key", (refl, refl)), other (codes "sign") (codes "sign", (refl, refl)), other (codes "skip") (codes "skip", (refl, refl)), other (codes "retire") (codes "retire", (refl, refl)), other (codes "trace") (codes "trace", (refl, refl)))

  not-begin : bytes_eq word (codes "begin") ≡ false
  unfolding lib.Utf8.encode
  not-begin = other (codes "begin") (codes "begin", (refl, refl))

pub no-words : (text : List ℕ) → (IsUtf8 (word_of text) → ⊥) → words_line text ≡ not_a_call
no-words text bad = rw (not-begin (word_of text) bad, no-name (word_of text) bad (after_word text))
