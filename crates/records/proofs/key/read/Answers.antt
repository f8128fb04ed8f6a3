use Rattle.std.proofs.Common.{rules}
use Rattle.records.proofs.Facts.{bytes-from}
use Rattle.records.proofs.Reading.{reads-keys}
use Rattle.records.proofs.key.read.Goals as goal

pub returns-clause-reads : goal.returns-clause-reads
returns-clause-reads g c =
    reads-keys g.H.ChainHash.NUMBER g.C.Code.NUMBER g.C.Code.LEVELS c.args.bytes.now _ g.met.C.Code.level_range.1 (bytes-from c.args.bytes.now c.type_inv.bytes) (search rules)
