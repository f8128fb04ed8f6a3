-- What opening a key record gives to a tour.
use Rattle.std.specs.Prelude.{◌≡◌, Ok, Err, Result}
use Rattle.tree.specs.Meaning.{Hash, Code}
use Rattle.records.specs.Keys.{Key}
use Rattle.records.specs.declared.refusal.Refusal.{Refusal}
use Rattle.verifier.specs.Views.{key_of}
use Rattle.verifier.specs.declared.key.OpenedKey.{OpenedKey}
use Rattle.orders.specs.declared.key.KeySummary.{KeySummary}

-- the key that open answers, and its numbers and height; or its refusal
abbrev pub Opens : Hash → Code → Result Key Refusal → Result (OpenedKey × KeySummary) Refusal →
    Type 0
Opens hash code (Ok key) (Ok opened) =
    (key_of opened.0 ≡ key)
    × (opened.1 ≡ record { hash = hash.number; code = code.number; height = key.height })
Opens hash code (Ok key) (Err e) = ⊥
Opens hash code (Err e) (Ok opened) = ⊥
Opens hash code (Err e) (Err f) = f ≡ e
