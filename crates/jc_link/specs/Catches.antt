-- The classes that handlers catch (JCVM 2.2, section 6.9.1): those named by a Classref, below throwable; index 0 catches all.
use Rattle.std.specs.Prelude.{ℕ, ◌+◌, Bool, false, List, [], ◌∷◌, ◌++◌, Option, Some, None, not, ◌==◌, ◌&&◌}
use Rattle.std.specs.Prelude.{◌||◌, if◌then◌else◌, slice_get}
use Rattle.cap_method.specs.declared.read_methods.HandlerInfo.{HandlerInfo}
use Rattle.cap_pool.specs.PoolFormat.{Entry}
use Rattle.cap_pool.specs.declared.pool_record.PoolReference.{PoolReference}
use Rattle.cap_pool.specs.declared.pool_record.PoolReference.TheVariants.{Class as ClassEntry}
use Rattle.cap_pool.specs.PoolReference.{referred}
use Rattle.cap_package.specs.PackageRecord.{PackageRecord}
use Rattle.jc_base.specs.declared.ty.Ty.TheVariants.{Class}
use Rattle.jc_base.specs.Class.{ClassTable, is_interface, throwable}
use Rattle.jc_base.specs.Order.{is_below}
use Rattle.jc_resolve.specs.declared.fault.LinkFault.{LinkFault}
use Rattle.jc_resolve.specs.declared.fault.LinkFault.TheVariants.{BadCatch}
use Rattle.jc_resolve.specs.References.{class_referred}
use Rattle.first_fault.specs.First.{at_fault}

-- the class or interface that an entry names, if it is a Classref
abbrev pub class_caught : List PackageRecord → ℕ → PoolReference → Option ℕ
class_caught ps k (ClassEntry reference) = class_referred ps k reference
class_caught ps k other = None

abbrev pub class_caught_by : List PackageRecord → ℕ → Option Entry → Option ℕ
class_caught_by ps k None = None
class_caught_by ps k (Some e) = class_caught ps k (referred e)

-- a class below throwable
abbrev pub thrown_by : ClassTable → Option ℕ → Bool
thrown_by t None = false
thrown_by t (Some c) = not (is_interface t c) && is_below t (Class c) (Class (throwable t))

-- whether a handler of a package catches all, or a class below throwable
unfoldable pub catches_throwable : List PackageRecord → ClassTable → ℕ → List Entry → ℕ → Bool
catches_throwable ps t k pool index = index == 0 || thrown_by t (class_caught_by ps k (slice_get pool index))

-- a handler with its number, and the number and the pool of its package
pub record HandlerPlace : Type 0 where
  pub home : ℕ
  pub pool : List Entry
  pub number : ℕ
  pub handler : HandlerInfo

abbrev pub handlers_from : ℕ → List Entry → ℕ → List HandlerInfo → List HandlerPlace
handlers_from k pool n [] = []
handlers_from k pool n (h ∷ hs) = record { home = k; pool = pool; number = n; handler = h } ∷ handlers_from k pool (n + 1) hs

abbrev pub handlers_after : ℕ → List PackageRecord → List HandlerPlace
handlers_after k [] = []
handlers_after k (p ∷ ps) = handlers_from k p.pool 0 p.methods.handlers ++ handlers_after (k + 1) ps

abbrev pub handler_places : List PackageRecord → List HandlerPlace
handler_places = handlers_after 0

unfoldable pub catch_fault : List PackageRecord → ClassTable → HandlerPlace → Option LinkFault
catch_fault ps t at = if catches_throwable ps t at.home at.pool at.handler.index then None else Some (BadCatch at.home at.number)

abbrev pub bad_catches : List PackageRecord → ClassTable → List LinkFault
bad_catches ps t = at_fault (catch_fault ps t) (handler_places ps)
