-- Bytes are read as a record exactly when writing that record yields them.
use Rattle.std.proofs.Common.{◌≡◌, ℕ, ◌+◌, ◌-◌, ◌*◌, ◌^◌, ◌<◌, ◌≤◌, List, ◌++◌, length, take, drop, Ok, Result, sym, refl, ap, ◌∙◌, subst, le_trans, arith, rules, pow_mono}
use Rattle.std.proofs.lemmas.Grind.{common_steps}
use Rattle.std.proofs.lemmas.List.{places, same_lists, length-append, length-take, length-take-le, length-drop, take_all, take_at, drop_at, drop-drop}
use Rattle.records.specs.declared.refusal.Refusal.{Refusal}
use Rattle.strings.specs.Strings.{IsBytes, little_endian}
use Rattle.records.specs.Keys.{Key, Release}
use Rattle.records.specs.Reads.{KeyParts, ReadsKeys, ReleaseParts, ReadsReleases}
use Rattle.records.specs.Records.{framed, key_bytes, release_bytes, height_of, hash_key_of, masks_of, root_of, leaf_of, row_of}
use Rattle.records.specs.Rules.{open_rule, release_rule}
use Rattle.records.specs.declared.kind.RecordKind.{RecordKind}
use Rattle.records.specs.declared.kind.RecordKind.TheVariants as kind
use Rattle.records.proofs.Facts.{Headed, Opens, open-from, open-to, release-to}

-- the six header bytes are those that writing puts before the body
pub frame : (kind : RecordKind) (bytes : List ℕ) → IsBytes bytes → Headed kind bytes → bytes ≡ framed kind (drop 6 bytes)
frame kind bytes b h = grind (arith, common_steps)

-- what follows place a, in three pieces
in-three : (a b c x y z : ℕ) (s : List ℕ) → a + x ≡ b → b + y ≡ c → length s ≤ c + z → drop a s ≡ take x (drop a s) ++ (take y (drop b s) ++ take z (drop c s))
in-three a b c x y z s e f h = same_lists _ _ (simp (length-append, length-drop, length-take) (omega arith)) (λ k d lt. grind (arith, places))

-- the rest of a key record is its hash key, its masks and its root
key-rest : (bytes : List ℕ) → 42 ≤ length bytes → drop 10 bytes ≡ hash_key_of bytes ++ (masks_of bytes ++ root_of bytes)
key-rest bytes h = in-three 10 26 (length bytes - 16) 16 (length bytes - 42) 16 bytes (omega arith) (omega arith) (omega arith)

pub key-parts : (hash code levels : ℕ) (bytes : List ℕ) → Opens hash code levels bytes → KeyParts levels (height_of bytes) (hash_key_of bytes) (masks_of bytes) (root_of bytes)
key-parts hash code levels bytes o =
    let laid = o.laid in
    record {
      tall = o.tall;
      keyed = grind (arith, common_steps);
      masked = grind (arith, common_steps);
      rooted = length-take-le 16 (drop (length bytes - 16) bytes) (rw length-drop (omega arith));
    }

key-written : (hash code levels : ℕ) (bytes : List ℕ) → IsBytes bytes → Opens hash code levels bytes → bytes ≡ key_bytes hash code (height_of bytes) (hash_key_of bytes) (masks_of bytes) (root_of bytes)
key-written hash code levels bytes b o =
    let laid = o.laid in
    let rest = key-rest bytes (omega arith) in
    grind (arith, common_steps)

-- what writing a key yields opens, and has its parts
module _ (hash code levels h : ℕ) (hash_key masks root : List ℕ) (few : levels ≤ 8) (parts : KeyParts levels h hash_key masks root) where
  abbrev written : List ℕ
  written = key_bytes hash code h hash_key masks root

  rest-length : length (hash_key ++ (masks ++ root)) ≡ 32 + 32 * (h + levels)
  rest-length = grind (arith, common_steps)

  pub written-opens : Opens hash code levels written
  written-opens = grind (arith, common_steps)

  pub written-key : hash_key_of written ≡ hash_key
  written-key = take_at hash_key (masks ++ root) 16 parts.keyed

  written-tail : drop 26 written ≡ masks ++ root
  written-tail = drop_at hash_key (masks ++ root) 16 parts.keyed

  pub written-masks : masks_of written ≡ masks
  written-masks =
      let long = rest-length in
      ap (take (length written - 42)) written-tail ∙ take_at masks root (length written - 42) (omega (arith, parts.masked))

  pub written-root : root_of written ≡ root
  written-root =
      let long = rest-length in
      let place : length written - 16 ≡ 26 + length masks = omega (arith, parts.masked) in
      ap (take 16) (ap (λ n. drop n written) place ∙ sym (drop-drop (length masks) 26 written) ∙ ap (drop (length masks)) written-tail ∙ drop_at masks root (length masks) refl)
      ∙ take_all 16 root (omega (arith, parts.rooted))

-- an answer that is the rule's reads as a key what writing that key yields
pub reads-keys : (hash code levels : ℕ) (bytes : List ℕ) (r : Result Key Refusal) → levels ≤ 8 → IsBytes bytes → r ≡ open_rule hash code levels bytes → ReadsKeys hash code levels bytes r
reads-keys hash code levels bytes r few b is = record {
  written = λ key p.
      let o = open-to hash code levels bytes key (sym is ∙ p) in
      let same : height_of bytes ≡ key.height = ap (λ k. k.height) (sym o.1) in (
        subst (λ h. KeyParts levels h (hash_key_of bytes) (masks_of bytes) (root_of bytes)) same (key-parts hash code levels bytes o.0),
        key-written hash code levels bytes b o.0 ∙ ap (λ h. key_bytes hash code h (hash_key_of bytes) (masks_of bytes) (root_of bytes)) same,
      );
  read = λ h hash_key masks root parts e.
      let opened = λ (w : List ℕ). open_rule hash code levels w in (
        is ∙ ap opened e ∙ open-from hash code levels _ (written-opens hash code levels h hash_key masks root few parts) ∙ ap {B = Result Key Refusal} (λ w. Ok (record { bytes = w; height = h })) (sym e),
        ap hash_key_of e ∙ written-key hash code levels h hash_key masks root few parts,
        ap masks_of e ∙ written-masks hash code levels h hash_key masks root few parts,
        ap root_of e ∙ written-root hash code levels h hash_key masks root few parts,
      );
}

-- two bytes more in front of what follows them
leaf-more : (bytes : List ℕ) → 8 ≤ length bytes → IsBytes bytes → drop 6 bytes ≡ little_endian 2 (leaf_of bytes) ++ row_of bytes
leaf-more bytes h b = grind (arith, common_steps)

-- what writing a release yields is read as that release
pub written-reads : (count h leaf : ℕ) (row : List ℕ) → 1 ≤ count + h → count ≤ 256 → h ≤ 8 → ReleaseParts count h leaf row → release_rule count h (release_bytes leaf row) ≡ Ok (record { leaf = leaf; row = row })
written-reads count h leaf row some few low parts =
    let more = pow_mono low in
    search rules

pub reads-releases : (count h : ℕ) (bytes : List ℕ) → 1 ≤ count + h → count ≤ 256 → h ≤ 8 → IsBytes bytes → ReadsReleases count h bytes (release_rule count h bytes)
reads-releases count h bytes some few low b =
    record {
      written = λ leaf row p.
          let r = release-to count h bytes (record { leaf = leaf; row = row }) p in
          let laid = r.0.laid in
          let is : leaf ≡ leaf_of bytes = ap (λ s. s.leaf) r.1 in
          let rest : row ≡ row_of bytes = ap (λ s. s.row) r.1 in (
            record {
              numbered = subst (λ n. n < 2 ^ h) (sym is) r.0.below;
              filled = ap length rest ∙ length-drop 8 bytes ∙ omega arith;
            },
            frame kind.Release bytes b r.0.headed ∙ ap (framed kind.Release) (leaf-more bytes (omega arith) b) ∙ (λ i. release_bytes (sym is i) (sym rest i)),
          );
      read = λ leaf row parts e. ap (release_rule count h) e ∙ written-reads count h leaf row some few low parts;
    }

-- an answer that is the rule's reads as a release what writing that release yields
pub reads-releases-as : (count levels h : ℕ) (bytes : List ℕ) (r : Result Release Refusal) → levels ≤ 8 → 1 ≤ count + h → count ≤ 2 ^ levels → h ≤ 8 → IsBytes bytes → r ≡ release_rule count h bytes → ReadsReleases count h bytes r
reads-releases-as count levels h bytes r few some many low b is =
    subst (ReadsReleases count h bytes) (sym is) (reads-releases count h bytes some (le_trans many (pow_mono few)) low b)
