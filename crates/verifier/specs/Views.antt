-- What the verifier's types stand for.
use Rattle.records.specs.Keys.{Key}
use Rattle.verifier.specs.declared.key.OpenedKey.{OpenedKey}

-- an opened key, with the bytes that it lends
abbrev pub key_of : OpenedKey → Key
key_of k = record { bytes = k.bytes.now; height = k.height }
