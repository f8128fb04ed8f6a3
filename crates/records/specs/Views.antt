-- What the types of this crate stand for.
use Rattle.records.specs.Headers.{Header}
use Rattle.records.specs.Keys.{Release}
use Rattle.records.specs.declared.header.Header as lent_header
use Rattle.records.specs.declared.release.Release as lent_release

-- the header of a record, with the bytes that its body lends
abbrev pub header_of : lent_header.Header → Header
header_of h = record { length = h.length; kind = h.kind; body = h.body.now }

-- a release, with the bytes that its row lends
abbrev pub release_of : lent_release.Release → Release
release_of r = record { leaf = r.leaf; row = r.row.now }
