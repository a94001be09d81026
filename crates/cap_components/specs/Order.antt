-- By what the faults of one condition are in order: the part, the offset, the two offsets, or the number that they name.
-- Of several things that break one condition the least is named.
use Rattle.std.specs.Prelude.{List, Option}
use Rattle.first_fault.specs.declared.place.Place.{Place}
use Rattle.first_fault.specs.Order.{one, two}
use Rattle.first_fault.specs.Least as first_fault
pub use Rattle.first_fault.specs.Least.{refused}
use Rattle.cap_components.specs.declared.fault.PackFault.{PackFault}
use Rattle.cap_components.specs.declared.fault.PackFault.TheVariants.{Form, MissingPart, SizeDisagrees, MethodOverlaps, MethodOutside}
use Rattle.cap_components.specs.declared.fault.PackFault.TheVariants.{CountDisagrees, HandlerOutside, StaticOverlaps, NoMethodAt}
use Rattle.cap_components.specs.declared.fault.PackFault.TheVariants.{ClassUndescribed, TooManyRegisters, BadType, StaticOutside}
use Rattle.cap_components.specs.declared.fault.PackFault.TheVariants.{MethodLength, NoStaticAt, PartTooLong}
use Rattle.cap_components.specs.CountKind.{number_of_kind}

unfoldable pub pack_place : PackFault → Place
pack_place (Form fault) = one fault.part
pack_place (MissingPart part) = one part
pack_place (SizeDisagrees part said found) = one part
pack_place (MethodOverlaps first second) = two first second
pack_place (MethodOutside offset) = one offset
pack_place (CountDisagrees what said found) = one (number_of_kind what)
pack_place (HandlerOutside number) = one number
pack_place (StaticOverlaps first second) = two first second
pack_place (NoMethodAt offset) = one offset
pack_place (ClassUndescribed offset) = one offset
pack_place (TooManyRegisters offset n) = one offset
pack_place (BadType offset) = one offset
pack_place (StaticOutside offset) = one offset
pack_place (MethodLength offset n) = one offset
pack_place (NoStaticAt offset) = one offset
pack_place (PartTooLong part) = one part

-- the fault that is named, when a thing was seen that may be at fault
abbrev pub lesser : Option PackFault → Option PackFault → Option PackFault
lesser = first_fault.lesser pack_place

-- the least fault of things, where `fault` tells what is wrong with each, beside one that was seen before
abbrev pub least_from : {X : Type 0} → Option PackFault → (X → Option PackFault) → List X → Option PackFault
least_from = first_fault.least_from pack_place

abbrev pub least_of : {X : Type 0} → (X → Option PackFault) → List X → Option PackFault
least_of = first_fault.least_of pack_place
