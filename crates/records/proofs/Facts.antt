-- What the rules of reading come to: an answer that is no refusal, and what then holds of the bytes.
use Rattle.std.proofs.Common.{◌≡◌, ℕ, ◌+◌, ◌^◌, ◌<◌, ◌≤◌, Bool, true, false, List, length, get_or, drop, Ok, Err, Result, refl, ap, ◌∙◌, arith, w8, Fits}
use Rattle.std.proofs.ByRecursion.{All-from_get_or}
use Rattle.strings.specs.Strings.{IsBytes}
use Rattle.std.proofs.lemmas.List.{get_or-drop}
use Rattle.std.proofs.lemmas.Bool.Decides.{nat_tests}
use Rattle.records.specs.Keys.{Key, Release}
use Rattle.records.specs.Kinds.{kind_number}
use Rattle.records.specs.Records.{field, key_length, release_length, hash_number_of, code_number_of, height_of, spare_of, leaf_of, row_of}
use Rattle.records.specs.Rules.{refuse, after, header_rule, open_rule, parts_rule, release_rule}
use Rattle.records.specs.declared.kind.RecordKind.{RecordKind}
use Rattle.records.specs.declared.kind.RecordKind.TheVariants as kind
use Rattle.records.specs.declared.refusal.Refusal.{Refusal}

pub ok_same : {A : Type 0} {x y : A} → ◌≡◌ {A = Result A Refusal} (Ok x) (Ok y) → x ≡ y
ok_same p = cc

-- an answer that is no refusal passed the test
pub passes : {A : Type 0} {x : A} (test : Bool) (e : Refusal) (rest : Result A Refusal) → refuse test e rest ≡ Ok x → (test ≡ false) × (rest ≡ Ok x)
passes true e rest p = cc
passes false e rest p = (refl, p)

pub after-ok : {A B : Type 0} {y : B} (r : Result A Refusal) (next : A → Result B Refusal) → after r next ≡ Ok y → (x : A) × (r ≡ Ok x) × (next x ≡ Ok y)
after-ok (Ok x) next p = (x, refl, p)
after-ok (Err e) next p = cc

pub after-at : {A B : Type 0} (r : Result A Refusal) (x : A) (next : A → Result B Refusal) → r ≡ Ok x → after r next ≡ next x
after-at (Ok y) x next p = ap next (ok_same p)
after-at (Err e) x next p = cc

-- what follows a refusal is that refusal
pub stops : {A B : Type 0} (r : Result A Refusal) (e : Refusal) (next : A → Result B Refusal) → Err e ≡ r → ◌≡◌ {A = Result B Refusal} (Err e) (after r next)
stops (Ok x) e next p = cc
stops (Err d) e next p = cc

-- a record of this kind
pub record Headed (kind : RecordKind) (bytes : List ℕ) : Type 0 where
  pub long : 10 ≤ length bytes
  pub whole : field bytes 0 4 ≡ length bytes
  pub kinded : field bytes 4 2 ≡ kind_number kind

-- a key record for these numbers and levels
pub record Opens (hash code levels : ℕ) (bytes : List ℕ) : Type 0 where
  pub headed : Headed kind.Key bytes
  pub hashed : hash_number_of bytes ≡ hash
  pub coded : code_number_of bytes ≡ code
  pub tall : (1 ≤ height_of bytes) × (height_of bytes ≤ 8)
  pub spared : spare_of bytes ≡ 0
  pub laid : length bytes ≡ key_length (height_of bytes) levels

pub open-from : (hash code levels : ℕ) (bytes : List ℕ) → Opens hash code levels bytes → open_rule hash code levels bytes ≡ Ok (record { bytes = bytes; height = height_of bytes })
open-from hash code levels bytes h = grind (arith, nat_tests)

pub open-to : (hash code levels : ℕ) (bytes : List ℕ) (key : Key) → open_rule hash code levels bytes ≡ Ok key → Opens hash code levels bytes × (key ≡ record { bytes = bytes; height = height_of bytes })
open-to hash code levels bytes key p = grind (arith, nat_tests)

-- a release record under a key of height h
pub record Releases (count h : ℕ) (bytes : List ℕ) : Type 0 where
  pub headed : Headed kind.Release bytes
  pub laid : length bytes ≡ release_length count h
  pub below : leaf_of bytes < 2 ^ h

pub release-to : (count h : ℕ) (bytes : List ℕ) (shown : Release) → release_rule count h bytes ≡ Ok shown → Releases count h bytes × (shown ≡ record { leaf = leaf_of bytes; row = row_of bytes })
release-to count h bytes shown p = grind (arith, nat_tests)

-- a byte of the body of a record
pub body_at : (kind : RecordKind) (bytes body : List ℕ) (k : ℕ) → Ok body ≡ header_rule kind bytes → get_or body k 0 ≡ get_or bytes (6 + k) 0
body_at kind bytes body k p =
    let is : body ≡ drop 6 bytes = grind (arith, nat_tests) in
    ap (λ l. get_or l k 0) is ∙ get_or-drop 6 bytes k 0

-- what is read of a release record by its body
pub release-parts : (count h : ℕ) (bytes body : List ℕ) → Ok body ≡ header_rule kind.Release bytes → (body ≡ drop 6 bytes) × (parts_rule count h bytes ≡ release_rule count h bytes)
release-parts count h bytes body p = grind (arith, nat_tests)

-- a slice of bytes holds bytes
pub bytes-from : (s : List ℕ) → ((i : ℕ) → Fits w8 (get_or s i 0)) → IsBytes s
bytes-from s typed = All-from_get_or (λ b. b < 256) s 0 (λ i h. (typed i).fits)
