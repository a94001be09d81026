-- A static field's place as a value of the program.
use Rattle.cap_package.specs.declared.statics.StaticPlace.{StaticPlace}
use Rattle.cap_package.specs.StaticChecks.{ImagePlace}

abbrev pub place_seen : StaticPlace → ImagePlace
place_seen p = record { offset = p.offset; ty = p.ty }
