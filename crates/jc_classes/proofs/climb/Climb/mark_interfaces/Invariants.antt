use Rattle.std.proofs.Common.{◌≡◌, map, drop}
use Rattle.jc_classes.specs.Marks.{mark_all}
use Rattle.jc_classes.proofs.climb.Climb.mark_interfaces.Given as goal

abbrev pub invariant-interfaces : goal.invariant-interfaces
invariant-interfaces l = mark_all l.self (map (λ i. i.class) (drop l.interface-index l.interfaces)) ≡ mark_all l.fn.self (map (λ i. i.class) l.interfaces)
