use Rattle.std.proofs.Common.{◌≡◌, filter_map}
use Rattle.jc_classes.proofs.slots.layouts_of.Given as goal

abbrev pub invariant-slots : goal.invariant-slots
invariant-slots l = l.layouts.items ≡ filter_map (λ slot. slot) l.yielded
