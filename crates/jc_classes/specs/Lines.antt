-- The classes in one tree of superclasses, or the first fault by the number of its condition, at the least thing at fault.
use Rattle.std.specs.Prelude.{◌≡◌, ℕ, ◌≤◌, ◌<◌, ◌⊎◌, ◌↔◌, IsTrue, true, List, length, Some, Result, Ok, Err}
use Rattle.std.specs.Prelude.{IfSome, All, slice_get, slice_index}
use Rattle.jc_base.specs.declared.record.Iface.{Iface}
use Rattle.jc_resolve.specs.declared.fault.LinkFault.{LinkFault}
use Rattle.jc_resolve.specs.declared.fault.LinkEnd.{LinkEnd}
use Rattle.jc_resolve.specs.declared.fault.LinkEnd.TheVariants.{Fault, Memory}
use Rattle.jc_resolve.specs.declared.naming.NamedClass.{NamedClass}
use Rattle.jc_resolve.specs.Fault.{link_place}
use Rattle.first_fault.specs.Least.{◌>>=◌, least_of, refused}
use Rattle.first_fault.specs.First.{IsFirst, AllEmpty}
use Rattle.jc_classes.specs.Ancestor.{IsAncestor, IsSuperinterface}
use Rattle.jc_classes.specs.LineConditions.{numbered, super_fault, cycle_fault, role_fault, root_fault, named_interfaces}
use Rattle.jc_classes.specs.LineConditions.{not_interface_fault, conditions}
use Rattle.jc_classes.specs.Outline.{LineTable, IsClass, is_interface, is_on_chain, package_of, parent_of, outline, throwable}

-- the conditions, one after the other
unfoldable pub lines_agree : List NamedClass → ℕ → List ℕ → Result (Unit {0}) LinkFault
lines_agree cs first roles = do
  supers ← refused (least_of link_place (super_fault cs) (numbered cs))
  cycles ← refused (least_of link_place (cycle_fault cs) (numbered cs))
  fitting ← refused (least_of link_place (role_fault cs first (slice_index roles 1)) (numbered roles))
  rooted ← refused (least_of link_place (root_fault (slice_index roles 0)) (numbered cs))
  refused (least_of link_place (not_interface_fault cs) (named_interfaces cs))

-- the lines, where they hold
unfoldable pub lineage_of : List NamedClass → ℕ → List ℕ → Result LineTable LinkFault
lineage_of cs first roles = do
  agreed ← lines_agree cs first roles
  Ok (outline cs roles)

-- the lines exactly where nothing is at fault; else the first condition that is broken, at its least thing
abbrev pub TellsLines : List NamedClass → ℕ → List ℕ → Result LineTable LinkEnd → Type 0
TellsLines cs first roles (Ok t) = (t ≡ outline cs roles) × AllEmpty (conditions cs first roles)
TellsLines cs first roles (Err (Fault fault)) = IsFirst link_place (conditions cs first roles) fault
TellsLines cs first roles (Err Memory) = Unit {0}

-- what is known of the classes where nothing is at fault
pub record HaveLines (cs : List NamedClass) (t : LineTable) : Type 0 where
  pub count : length t.lines ≡ length cs
  -- each role is a class, from role 2 on throwable or a subclass of it
  pub roles : (k : ℕ) → k < length t.roles → IsClass t (slice_index t.roles k)
  pub thrown : (k : ℕ) → 2 ≤ k → k < length t.roles → IsTrue (is_on_chain t (throwable t) (slice_index t.roles k))
  -- no class is an ancestor of itself, and no interface a superinterface of itself
  pub descent : (c : ℕ) → ¬ (IsAncestor cs c c)
  pub extension : (c : ℕ) → ¬ (IsSuperinterface cs c c)
  -- the chain of a class is the class and its ancestors
  pub ancestors : (a c : ℕ) → IsTrue (is_on_chain t a c) ↔ ((a ≡ c) ⊎ IsAncestor cs a c)
  -- a superclass is a class, of the same package or of an earlier one
  pub supers : (c p : ℕ) → parent_of t c ≡ Some p → IsClass t p
  pub earlier : (c p : ℕ) → parent_of t c ≡ Some p → package_of t p ≤ package_of t c
  -- what a record names among its interfaces is an interface
  pub interfaces : (c : ℕ) → IfSome (slice_get cs c) (λ r. All (λ (i : Iface). is_interface t i.class ≡ true) r.interfaces)
