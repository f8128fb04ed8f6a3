-- What a hash and a code are taken to obey, whatever key is grown with them.
use Rattle.std.proofs.Common.{◌≤◌, arith, pow_mono}
use Rattle.tree.specs.Laws.{Laws}
use Rattle.compare.proofs.Lawful.{Lawful}
use Rattle.growth.specs.declared.origin.Origin.{Origin}
use Rattle.growth.proofs.Strings.{Strings}
use Rattle.tree.specs.Meaning.{Hash, Code}
use Rattle.rules.specs.States.{Begun}

-- under what begin may be given
pub strings : {hash : Hash} {code : Code} {o : Origin} → Laws hash code → Begun o → Strings hash o
strings laws b = record { laws = laws.of_hash; seeded = b.seeded; keyed = b.keyed; masked = b.masked }

pub lawful : {hash : Hash} {code : Code} {o : Origin} → Laws hash code → Begun o → Lawful hash code o
lawful laws b = record { strings = strings laws b; laws = laws }

-- a release has few chains
pub few-chains : {hash : Hash} {code : Code} → Laws hash code → code.count ≤ 256
few-chains {code = code} laws = let few = laws.of_code.level_range.1 in omega (arith, laws.of_code.count_range.1, pow_mono {i = code.levels} {j = 8} few)
