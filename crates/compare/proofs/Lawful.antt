-- What a comparison is proved from: the laws of hash and code, and a key that is made of strings.
use Rattle.tree.specs.Laws.{Laws}
use Rattle.tree.specs.Meaning.{Hash, Code}
use Rattle.growth.proofs.Strings.{Strings}
use Rattle.growth.specs.declared.origin.Origin.{Origin}

pub record Lawful (hash : Hash) (code : Code) (o : Origin) : Type 0 where
  pub strings : Strings hash o
  pub laws : Laws hash code
