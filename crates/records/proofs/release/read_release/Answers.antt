use Rattle.std.proofs.Common.{rules, arith, ◌≡◌, ◌∙◌}
use Rattle.records.specs.Rules.{seen, release_rule}
use Rattle.records.specs.Views.{release_of}
use Rattle.records.proofs.Facts.{bytes-from, release-parts}
use Rattle.records.proofs.Reading.{reads-releases-as}
use Rattle.records.proofs.release.read_release.Given as given
use Rattle.records.proofs.release.read_release.Goals as goal
use Rattle.records.proofs.release.read_release.Goals.{After-parts_of}

-- what the parts of the body come to by the rule
told : (g : given.Over) (c : After-parts_of g) → seen release_of c.parts_of.result ≡ release_rule g.C.Code.COUNT c.args.height c.args.bytes.now
told g c =
    let bytes = c.args.bytes.now in
    let read = release-parts g.C.Code.COUNT c.args.height bytes c.in_ok-body.body.now c.in_ok-body.ensures in
    c.parts_of.ensures bytes read.0 ∙ read.1

pub returns-in_err-body-clause-reads : goal.returns-in_err-body-clause-reads
returns-in_err-body-clause-reads g c low =
    let bytes = c.args.bytes.now in
    reads-releases-as g.C.Code.COUNT g.C.Code.LEVELS c.args.height bytes _ g.met.C.Code.level_range.1 (omega (arith, g.met.C.Code.count_range.0)) g.met.C.Code.count_range.1 low (bytes-from bytes c.type_inv.bytes) (search rules)

pub returns-clause-answer : goal.returns-clause-answer
returns-clause-answer g c = told g (goal.at.returns-clause-answer g c).After-parts_of

pub returns-clause-reads : goal.returns-clause-reads
returns-clause-reads g c low =
    let bytes = c.args.bytes.now in
    reads-releases-as g.C.Code.COUNT g.C.Code.LEVELS c.args.height bytes _ g.met.C.Code.level_range.1 (omega (arith, g.met.C.Code.count_range.0)) g.met.C.Code.count_range.1 low (bytes-from bytes c.type_inv.bytes) (told g (goal.at.returns-clause-reads g c).After-parts_of)
