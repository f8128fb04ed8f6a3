-- What the types of this crate stand for.
use Rattle.codes.specs.declared.Code.{Ghosts}
use Rattle.compare.specs.Sides.{Traced}
use Rattle.compare.specs.declared.subject.Subject.{Subject}

-- what is compared, with the bytes that it lends
abbrev pub traced_of : {H C : Type 0} {code : Ghosts C} → Subject H C code → Traced
traced_of s =
    record {
      origin = s.tree.origin.now;
      entered = s.entered;
      stamp = s.stamp.now;
      leaf = s.leaf;
      row = s.row.now;
    }
