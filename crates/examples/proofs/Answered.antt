-- The examples up to the signer, each by computing it.
use Rattle.std.proofs.Common.{refl}
use Rattle.std.specs.List.{AllByRecursion}
use Rattle.codes.specs.Codes.{checksum, ending, cut}
use Rattle.strings.specs.Strings.{numeral}
use Rattle.examples.specs.Examples.{IsRight, hashing, coding, measuring, skipping}

pub hashing-right : AllByRecursion IsRight hashing
unfolding numeral
hashing-right = (refl, (refl, (refl, (refl, (refl, (refl, tt))))))

pub coding-right : AllByRecursion IsRight coding
unfolding checksum ending cut
coding-right = (refl, (refl, (refl, (refl, (refl, (refl, (refl, tt)))))))

pub measuring-right : AllByRecursion IsRight measuring
measuring-right = (refl, (refl, tt))

pub skipping-right : AllByRecursion IsRight skipping
skipping-right = (refl, (refl, (refl, (refl, (refl, tt)))))
