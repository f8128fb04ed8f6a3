use Rattle.std.proofs.Common.{◌≡◌, ℕ, ◌+◌, ◌*◌, List, length, Ok, sym, ap, arith}
use Rattle.std.proofs.lemmas.List.{length-drop}
use Rattle.tree.specs.Meaning.{Code, code_of}
use Rattle.records.specs.Keys.{Key, Release}
use Rattle.records.specs.Records.{masks_of}
use Rattle.verifier.specs.Rules.{read_rule}
use Rattle.verifier.specs.Views.{key_of}
use Rattle.verifier.proofs.Facts.{suited-to, read-to}
use Rattle.records.proofs.Reading.{key-parts}
use Rattle.verifier.proofs.Refusing.{verify-refuses}
use Rattle.verifier.proofs.verifying.verify.Goals as goal

-- the masks of the key under which a release was read, and the row of the release, are whole
laid : (hash : ℕ) (code : Code) (key : Key) (bytes : List ℕ) (shown : Release) → Ok shown ≡ read_rule hash code key bytes → (length (masks_of key.bytes) ≡ 32 * (key.height + code.levels)) × (length shown.row ≡ 16 * (code.count + key.height))
laid hash code key bytes shown p =
    let read = read-to hash code key bytes shown (sym p) in
    let opens = suited-to hash code.number code.levels key read.0.suiting in (
      omega (arith, (key-parts hash code.number code.levels key.bytes opens.0).masked, opens.1),
      omega (arith, ap (λ s. length s.row) read.1, length-drop 8 bytes, read.0.laid),
    )

pub rebuild_root-root-requires : goal.rebuild_root-root-requires
rebuild_root-root-requires g c =
    let whole = laid g.H.ChainHash.NUMBER (code_of g.C.Code) (key_of c.args.key.now) c.args.bytes.now _ c.in_ok-release.ensures.answer in
    let masks : length c.parameters-parameters.result.masks.now ≡ length (masks_of (key_of c.args.key.now).bytes) = ap (λ p. length p.masks) c.parameters-parameters.ensures in
    let height : c.parameters-parameters.result.height ≡ (key_of c.args.key.now).height = ap (λ p. p.height) c.parameters-parameters.ensures in
    record { masked = omega (arith, masks, height, whole.0); within = omega (arith, height, whole.1) }

pub returns-in_err-release-clause-refuses : goal.returns-in_err-release-clause-refuses
returns-in_err-release-clause-refuses g c = verify-refuses

pub returns-then-not-same-clause-refuses : goal.returns-then-not-same-clause-refuses
returns-then-not-same-clause-refuses g c = verify-refuses

pub returns-clause-refuses : goal.returns-clause-refuses
returns-clause-refuses g c = verify-refuses
