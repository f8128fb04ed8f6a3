use Rattle.std.proofs.Common.{rules, arith, ◌≡◌, ◌∙◌}
use Rattle.tree.specs.Meaning.{code_of}
use Rattle.records.specs.Rules.{seen}
use Rattle.records.specs.Views.{release_of}
use Rattle.records.proofs.Facts.{bytes-from}
use Rattle.records.proofs.Reading.{reads-releases-as}
use Rattle.verifier.specs.Rules.{read_rule}
use Rattle.verifier.specs.Views.{key_of}
use Rattle.verifier.proofs.Facts.{read-parts, read-as-released}
use Rattle.verifier.proofs.Refusing.{read-refuses}
use Rattle.verifier.proofs.reading.read_under.Given as given
use Rattle.verifier.proofs.reading.read_under.Goals as goal
use Rattle.verifier.proofs.reading.read_under.Goals.{After-parts_of}

-- what the parts of the body come to by the rule
told : (g : given.Over) (c : After-parts_of g) → seen release_of c.parts_of.result ≡ read_rule g.H.ChainHash.NUMBER (code_of g.C.Code) (key_of c.args.key.now) c.args.bytes.now
told g c =
    let bytes = c.args.bytes.now in
    let read = read-parts g.H.ChainHash.NUMBER (code_of g.C.Code) (key_of c.args.key.now) bytes c.in_ok-body.body.now c.in_ok-body.ensures c.if-not-suits.ensures.answer in
    c.parts_of.ensures bytes read.0 ∙ read.1

pub returns-in_err-body-clause-reads : goal.returns-in_err-body-clause-reads
returns-in_err-body-clause-reads g c suits =
    let key = key_of c.args.key.now in
    let bytes = c.args.bytes.now in
    let released = read-as-released g.H.ChainHash.NUMBER (code_of g.C.Code) key bytes suits in
    reads-releases-as g.C.Code.COUNT g.C.Code.LEVELS key.height bytes _ g.met.C.Code.level_range.1 (omega (arith, c.args.key.now.tall.0)) g.met.C.Code.count_range.1 c.args.key.now.tall.1 (bytes-from bytes c.type_inv.bytes) (search (rules, released))

pub returns-in_err-body-clause-refuses : goal.returns-in_err-body-clause-refuses
returns-in_err-body-clause-refuses g c = read-refuses

pub returns-then-not-suits-clause-refuses : goal.returns-then-not-suits-clause-refuses
returns-then-not-suits-clause-refuses g c = read-refuses

pub returns-clause-answer : goal.returns-clause-answer
returns-clause-answer g c = told g c

pub returns-clause-reads : goal.returns-clause-reads
returns-clause-reads g c suits =
    let key = key_of c.args.key.now in
    let bytes = c.args.bytes.now in
    let released = read-as-released g.H.ChainHash.NUMBER (code_of g.C.Code) key bytes suits in
    reads-releases-as g.C.Code.COUNT g.C.Code.LEVELS key.height bytes _ g.met.C.Code.level_range.1 (omega (arith, c.args.key.now.tall.0)) g.met.C.Code.count_range.1 c.args.key.now.tall.1 (bytes-from bytes c.type_inv.bytes) (told g c ∙ released)

pub returns-clause-refuses : goal.returns-clause-refuses
returns-clause-refuses g c = read-refuses
