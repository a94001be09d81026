-- What is asked of the classes by number, before anything is asked of their lines.
use Rattle.std.specs.Prelude.{◌<◌, ◌≤◌, List, length, IfSome, All}
use Rattle.jc_base.specs.declared.record.Iface.{Iface}
use Rattle.jc_resolve.specs.declared.naming.NamedClass.{NamedClass}
use Rattle.jc_resolve.specs.Named.{package_of}

-- the superclass and the interfaces that a record names are numbers of the list, and the superclass
-- is of the same package or of an earlier one
pub record HasKnownLine (cs : List NamedClass) (r : NamedClass) : Type 0 where
  pub parent : IfSome r.parent (λ p. p < length cs)
  pub earlier : IfSome r.parent (λ p. package_of cs p ≤ r.«package»)
  pub interfaces : All (λ (i : Iface). i.class < length cs) r.interfaces
