-- What is told of packages that are not linked.
use Rattle.std.specs.Prelude.{◌≡◌, ℕ}
use Rattle.jc_resolve.specs.declared.fault.LinkFault.{LinkFault}
use Rattle.jc_resolve.specs.declared.fault.LinkFault.TheVariants.{TooManyPackages, TooManyClasses, TooManyMethods, NoPackage, NoClass}
use Rattle.jc_resolve.specs.declared.fault.LinkFault.TheVariants.{SuperIsInterface, Cycle, NoRole, NoSuper, NotInterface, Hole}
use Rattle.jc_resolve.specs.declared.fault.LinkFault.TheVariants.{OverrideType, InterfaceType, InstanceLong, TooManyStatics, NoMember}
use Rattle.jc_resolve.specs.declared.fault.LinkFault.TheVariants.{BadCatch, NoRoom, RoleAbstract}
use Rattle.jc_resolve.specs.declared.fault.LinkEnd.{LinkEnd}
use Rattle.jc_resolve.specs.declared.fault.LinkEnd.TheVariants.{Fault, Memory}

-- the numbers that a fault names, 0 where it names fewer than two
unfoldable pub numbers_of : LinkFault → ℕ × ℕ
numbers_of (TooManyPackages n) = (n, 0)
numbers_of (TooManyClasses n) = (n, 0)
numbers_of (TooManyMethods n) = (n, 0)
numbers_of (NoPackage home import) = (home, import)
numbers_of (NoClass home reference) = (home, reference)
numbers_of (SuperIsInterface class) = (class, 0)
numbers_of (Cycle class) = (class, 0)
numbers_of (NoRole role) = (role, 0)
numbers_of (NoSuper class) = (class, 0)
numbers_of (NotInterface class other) = (class, other)
numbers_of (Hole class token) = (class, token)
numbers_of (OverrideType class token) = (class, token)
numbers_of (InterfaceType class interface) = (class, interface)
numbers_of (InstanceLong class n) = (class, n)
numbers_of (TooManyStatics n) = (n, 0)
numbers_of (NoMember home entry) = (home, entry)
numbers_of (BadCatch home handler) = (home, handler)
numbers_of (NoRoom n) = (n, 0)
numbers_of (RoleAbstract role) = (role, 0)

-- a name with two numbers
abbrev pub HasNumbers : {A : Type 0} → ℕ × ℕ → A × ℕ × ℕ → Type 0
HasNumbers numbers told = (told.1 ≡ numbers.0) × (told.2 ≡ numbers.1)

-- a fault's numbers, and none out of memory
abbrev pub TellsNumbers : {A : Type 0} → LinkEnd → A × ℕ × ℕ → Type 0
TellsNumbers (Fault fault) told = HasNumbers (numbers_of fault) told
TellsNumbers Memory told = HasNumbers (0, 0) told
