use Rattle.records.proofs.Refusing.{header-refuses, open-refuses, release-refuses}
use Rattle.records.proofs.refusal.Refusal.number.Goals as goal

pub returns-clause-header : goal.returns-clause-header
returns-clause-header c = header-refuses

pub returns-clause-open : goal.returns-clause-open
returns-clause-open c = open-refuses

pub returns-clause-release : goal.returns-clause-release
returns-clause-release c = release-refuses
