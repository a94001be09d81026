-- The order of link faults with one number: by the numbers that they name.
use Rattle.first_fault.specs.declared.place.Place.{Place}
use Rattle.first_fault.specs.Order.{one, two}
use Rattle.jc_resolve.specs.declared.fault.LinkFault.{LinkFault}
use Rattle.jc_resolve.specs.declared.fault.LinkFault.TheVariants.{TooManyPackages, TooManyClasses, TooManyMethods, NoPackage, NoClass}
use Rattle.jc_resolve.specs.declared.fault.LinkFault.TheVariants.{SuperIsInterface, Cycle, NoRole, NoSuper, NotInterface, Hole}
use Rattle.jc_resolve.specs.declared.fault.LinkFault.TheVariants.{OverrideType, InterfaceType, InstanceLong, TooManyStatics, NoMember}
use Rattle.jc_resolve.specs.declared.fault.LinkFault.TheVariants.{BadCatch, NoRoom, RoleAbstract}

unfoldable pub link_place : LinkFault → Place
link_place (TooManyPackages n) = one n
link_place (TooManyClasses n) = one n
link_place (TooManyMethods n) = one n
link_place (NoPackage home import) = two home import
link_place (NoClass home reference) = two home reference
link_place (SuperIsInterface class) = one class
link_place (Cycle class) = one class
link_place (NoRole role) = one role
link_place (NoSuper class) = one class
link_place (NotInterface class interface) = two class interface
link_place (Hole class token) = two class token
link_place (OverrideType class token) = two class token
link_place (InterfaceType class interface) = two class interface
link_place (InstanceLong class cells) = two class cells
link_place (TooManyStatics cells) = one cells
link_place (NoMember home entry) = two home entry
link_place (BadCatch home handler) = two home handler
link_place (NoRoom n) = one n
link_place (RoleAbstract role) = one role
