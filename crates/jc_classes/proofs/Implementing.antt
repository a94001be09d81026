-- The interfaces of classes, one by one.
use Rattle.std.proofs.Common.{◌≡◌, ℕ, suc, ◌+◌, ◌<◌, ◌≤◌, drop, drop-cons, get_or, Bool, true, false, List, length, map}
use Rattle.std.proofs.Common.{Option, Some, None, ap, arith}
use Rattle.std.specs.Prelude.{slice_get, if◌then◌else◌}
use Rattle.std.specs.List.{list_all}
use Rattle.std.proofs.lemmas.List.{drop_all}
use Rattle.std.proofs.lemmas.Option.{slice_get-get_or}
use Rattle.jc_base.specs.declared.record.Iface.{Iface}
use Rattle.jc_base.specs.declared.record.MethodRec.{MethodRec}
use Rattle.jc_classes.specs.Outline.{LineTable}
use Rattle.jc_resolve.specs.declared.fault.LinkFault.{LinkFault}
use Rattle.jc_resolve.specs.declared.fault.LinkFault.TheVariants.{InterfaceType}
use Rattle.jc_resolve.specs.declared.naming.NamedClass.{NamedClass}
use Rattle.jc_resolve.specs.Fault.{link_place}
use Rattle.first_fault.specs.Least.{least_from, lesser}
use Rattle.jc_classes.specs.Layout.{public_entries}
use Rattle.jc_classes.specs.TableConditions.{Implementation, serves, serves_all, interface_type_fault, implemented_by, implementations_in}
use Rattle.jc_classes.specs.Groups.{AreGroups}
use Rattle.jc_classes.proofs.Grouping.{all_of_class}

fault_by : (methods : List MethodRec) (x : Implementation) (b : Bool) → b ≡ serves_all methods x.public x.iface
    → (if b then None else Some (InterfaceType x.class x.iface.class)) ≡ interface_type_fault methods x
unfolding interface_type_fault
fault_by methods x b e = ap (λ (c : Bool). if c then None else Some (InterfaceType x.class x.iface.class)) e

tested : (n : ℕ) (methods : List MethodRec) (groups : List (List MethodRec)) (x : Implementation) (g : List MethodRec) (b : Bool)
    → AreGroups n methods groups → x.iface.class < length groups → g ≡ get_or groups x.iface.class g
    → b ≡ list_all (serves methods x.public x.iface) g → b ≡ serves_all methods x.public x.iface
tested n methods groups x g b are h at is = grind (arith, all_of_class, slice_get-get_or)

-- an interface whose methods are all served, and one of which some method is not
pub fault_none : (n : ℕ) (methods : List MethodRec) (groups : List (List MethodRec)) (x : Implementation) (g : List MethodRec)
    → AreGroups n methods groups → x.iface.class < length groups → g ≡ get_or groups x.iface.class g
    → true ≡ list_all (serves methods x.public x.iface) g → None ≡ interface_type_fault methods x
fault_none n methods groups x g are h at is = fault_by methods x true (tested n methods groups x g true are h at is)

pub fault_some : (n : ℕ) (methods : List MethodRec) (groups : List (List MethodRec)) (x : Implementation) (g : List MethodRec)
    → AreGroups n methods groups → x.iface.class < length groups → g ≡ get_or groups x.iface.class g
    → false ≡ list_all (serves methods x.public x.iface) g → Some (InterfaceType x.class x.iface.class) ≡ interface_type_fault methods x
fault_some n methods groups x g are h at is = fault_by methods x false (tested n methods groups x g false are h at is)

pub ruleset groups_read = (fault_none, fault_some)

-- ---- interface by interface

abbrev implementation : ℕ → List (Option ℕ) → Iface → Implementation
implementation c public i = record { class = c; public = public; iface = i }

pub implementations_next : (methods : List MethodRec) (c : ℕ) (public : List (Option ℕ)) (interfaces : List Iface) (i : ℕ) (x : Iface)
    (least : Option LinkFault) → i < length interfaces → x ≡ get_or interfaces i x
    → least_from link_place least (interface_type_fault methods) (map (implementation c public) (drop i interfaces))
    ≡ least_from link_place (lesser link_place least (interface_type_fault methods (implementation c public x))) (interface_type_fault methods)
    (map (implementation c public) (drop (i + 1) interfaces))
implementations_next methods c public interfaces i x least h at = grind (arith, suc, drop-cons)

pub implementations_end : (methods : List MethodRec) (c : ℕ) (public : List (Option ℕ)) (interfaces : List Iface) (i : ℕ) (least : Option LinkFault)
    → length interfaces ≤ i
    → least_from link_place least (interface_type_fault methods) (map (implementation c public) (drop i interfaces)) ≡ least
implementations_end methods c public interfaces i least h = grind (arith, drop_all)

pub ruleset implementation_folds = (implementations_next, implementations_end)

pub implementations_are : (t : LineTable) (classes : List NamedClass) (c : ℕ) (public : List (Option ℕ)) (k : NamedClass)
    → public ≡ public_entries t classes c → slice_get classes c ≡ Some k
    → map (implementation c public) (implemented_by (Some k)) ≡ implementations_in t classes c
implementations_are t classes c public k e at = grind (arith)
