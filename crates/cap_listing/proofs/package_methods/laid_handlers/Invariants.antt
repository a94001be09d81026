use Rattle.std.proofs.Common.{◌≡◌, ◌++◌, ◌-◌, map, take}
use Rattle.std.specs.Prelude.{All}
use Rattle.cap_method.specs.MethodPart.{handlers_left}
use Rattle.cap_listing.specs.Methods.{HasPlaces, laid_handler}
use Rattle.cap_listing.proofs.package_methods.laid_handlers.Given as goal

abbrev pub invariant-handlers : goal.invariant-handlers
invariant-handlers l =
    (l.laid.items ++ map (laid_handler l.start) (take (l.count - l.counter) (handlers_left l.rest)) ≡ map (laid_handler l.start)
    (take l.count (handlers_left l.fn.handlers)))
    × All HasPlaces l.laid.items
