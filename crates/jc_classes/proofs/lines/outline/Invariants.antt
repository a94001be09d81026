use Rattle.std.proofs.Common.{◌≡◌, map, take}
use Rattle.jc_classes.specs.Outline.{line_of}
use Rattle.jc_classes.proofs.lines.outline.Given as goal

abbrev pub invariant-classes : goal.invariant-classes
invariant-classes l = l.lines.items ≡ map line_of (take l.class-index l.classes)
