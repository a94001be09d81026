use Rattle.std.proofs.Common.{◌≡◌, ◌++◌, map}
use Rattle.cap_pool.specs.Export.{exported_class_seen, exported_left}
use Rattle.cap_package.specs.Agreement.{or_none}
use Rattle.jc_resolve.proofs.exports.exports_of.Given as goal

abbrev pub invariant-classes : goal.invariant-classes
invariant-classes l = map exported_class_seen l.classes.items ++ exported_left l.class-iterator ≡ or_none l.«package».export
