use Rattle.scripts.specs.Words.{rest_of}
use Rattle.scripts.proofs.Texts.{string-taken}
use Rattle.scripts.proofs.words.Words.string.Goals as goal

pub returns : goal.returns
returns c = rw c.array.ensures (string-taken (rest_of c.args.self.now) c.in_ok-next.field-0.now (rest_of c.next.new.self) c.in_ok-next.ensures.word c.in_ok-next.ensures.rest)
