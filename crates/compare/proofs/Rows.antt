-- Lists of numbers and rows of strings that are equal, or not.
use Rattle.std.proofs.Common.{◌≡◌, ℕ, ◌+◌, ◌*◌, ◌/◌, ◌%◌, ◌<◌, ◌⊎◌, List, ◌++◌, length, get_or, take, drop, sym, ap, ◌∙◌, inl, inr, ⊎_elim, arith}
use Rattle.std.specs.Str.{bytes_eq}
use Rattle.std.proofs.lemmas.Slice.Eq.{bytes_eq-Decides}
use Rattle.std.proofs.lemmas.List.{ext_get_or, get_or-take, get_or-drop, take_at, take_all, drop_at, drop-drop}
use Rattle.std.proofs.lemmas.Bool.{cases_Bool}
use Rattle.std.proofs.lemmas.Bool.Decides.{not_from_Decides}
use Rattle.strings.specs.Strings.{IsString, numeral, string_at}
use Rattle.strings.proofs.Laws.{numeral-str, numeral-injective}

pub same_or_not : (s t : List ℕ) → (s ≡ t) ⊎ (s ≡ t → ⊥)
same_or_not s t =
    let decides = bytes_eq-Decides s t in
    ⊎_elim (λ e. inl (decides.0 e)) (λ e. inr (not_from_Decides (bytes_eq s t) decides e)) (cases_Bool (bytes_eq s t))

pub same-unless : (s t : List ℕ) → ((s ≡ t → ⊥) → ⊥) → s ≡ t
same-unless s t never = ⊎_elim (λ e. e) (λ ne. absurd (never ne)) (same_or_not s t)

pub both-unless : (s t u v : List ℕ) → (((s ≡ t) × (u ≡ v) → ⊥) → ⊥) → (s ≡ t) × (u ≡ v)
both-unless s t u v never =
    (same-unless s t (λ ne. never (λ both. ne both.0)), same-unless u v (λ ne. never (λ both. ne both.1)))

-- for each string there is another
pub another : (s : List ℕ) → (n : List ℕ) × (IsString n) × (s ≡ n → ⊥)
another s =
    ⊎_elim
    (λ (is : s ≡ numeral 0). (numeral 1, numeral-str 1, λ e. absurd (omega (arith, numeral-injective 0 1 (omega arith) (omega arith) (sym is ∙ e)))))
    (λ (isnt : s ≡ numeral 0 → ⊥). (numeral 0, numeral-str 0, isnt))
    (same_or_not s (numeral 0))

-- rows of n strings that are equal string by string
pub same_rows : (xs ys : List ℕ) (n : ℕ) → length xs ≡ 16 * n → length ys ≡ 16 * n → ((k : ℕ) → k < n → string_at xs k ≡ string_at ys k) → xs ≡ ys
same_rows xs ys n long long' each =
    ext_get_or 0 xs ys (long ∙ sym long')
    (λ i h.
    let q = i / 16 in
    let r = i % 16 in
    let whole : 16 * q + r ≡ i = omega arith in
    let at : (zs : List ℕ) → get_or (string_at zs q) r 0 ≡ get_or zs i 0 =
    λ zs. get_or-take 16 (drop (16 * q) zs) r 0 (omega arith) ∙ get_or-drop (16 * q) zs r 0 ∙ ap (λ m. get_or zs m 0) whole in
    sym (at xs) ∙ ap (λ s. get_or s r 0) (each q (omega arith)) ∙ at ys)

-- four strings, one after another
module _ (a b c d : List ℕ) (al : length a ≡ 16) (bl : length b ≡ 16) (cl : length c ≡ 16) (dl : length d ≡ 16) where
  abbrev four : List ℕ
  four = a ++ (b ++ (c ++ d))

  past_first : drop 16 four ≡ b ++ (c ++ d)
  past_first = drop_at a (b ++ (c ++ d)) 16 al

  past-second : drop 32 four ≡ c ++ d
  past-second = sym (drop-drop 16 16 four) ∙ ap (drop 16) past_first ∙ drop_at b (c ++ d) 16 bl

  past-third : drop 48 four ≡ d
  past-third = sym (drop-drop 16 32 four) ∙ ap (drop 16) past-second ∙ drop_at c d 16 cl

  pub four-strings : (string_at four 0 ≡ a) × (string_at four 1 ≡ b) × (string_at four 2 ≡ c) × (string_at four 3 ≡ d)
  four-strings = (
    take_at a (b ++ (c ++ d)) 16 al,
    ap (take 16) past_first ∙ take_at b (c ++ d) 16 bl,
    ap (take 16) past-second ∙ take_at c d 16 cl,
    ap (take 16) past-third ∙ take_all 16 d (omega arith),
  )
