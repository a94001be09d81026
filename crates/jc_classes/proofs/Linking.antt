-- The class table of classes of which nothing is at fault is that of a linked world.
use Rattle.std.proofs.Common.{◌≡◌, ℕ, ◌+◌, ◌<◌, ◌≤◌, max, get_or, Bool, true, false, List, [], ◌∷◌, length, Option, Some, None}
use Rattle.std.proofs.Common.{Result, refl, sym, ap, subst, ◌∙◌, arith, inl, inr}
use Rattle.std.specs.Prelude.{◌==◌, ◌||◌, not, All, IfOk, IfSome, IsSomeAnd, MatchBool, slice_get, option_map, option_and_then, ◌&&◌}
use Rattle.std.specs.Prelude.{if◌then◌else◌}
use Rattle.std.specs.List.{list_all}
use Rattle.std.proofs.lemmas.Bool.{false≢true, and_parts, eq-eqb, not-true}
use Rattle.std.proofs.lemmas.List.Elements.{All-nil, All-cons, All-weaker}
use Rattle.std.proofs.lemmas.List.FromFn.{length-map-range_with_len}
use Rattle.std.proofs.lemmas.Option.{slice_get_cases, slice_get_within}
use Rattle.jc_base.specs.declared.ty.Ty.{Ty}
use Rattle.jc_base.specs.declared.ty.Ty.TheVariants.{Bottom, Short, IntHigh, IntLow, Null, Class, ArrBool}
use Rattle.jc_base.specs.declared.ty.Ty.TheVariants.{ArrByte, ArrShort, ArrInt, ArrRef, Fresh, Top}
use Rattle.jc_base.specs.declared.record.Iface.{Iface}
use Rattle.jc_base.specs.declared.record.MethodRec.{MethodRec}
use Rattle.jc_base.specs.declared.record.ClassRec.{ClassRec}
use Rattle.jc_base.specs.Class.{ClassTable, IsClass, AreClasses, list_of, parent_of}
use Rattle.jc_base.specs.Cell.{IsDeclared}
use Rattle.jc_base.specs.Dispatch.{of_record, package_of, public_of, visible_of, cell_count, signature_at}
use Rattle.jc_base.specs.Linked.{IsInherited, IsDispatch, IsExtended, IsImplemented, AreInterfaces}
use Rattle.jc_base.specs.Linked.{IsLinkedClass, AreLinkedClasses, visible_from, cells_above}
use Rattle.jc_classes.proofs.Bare.{next_on_chain, parent_of-class}
use Rattle.jc_base.proofs.Subtypes.{below_class}
use Rattle.jc_base.proofs.Lists.{All-slice_get, IfSome-is}
use Rattle.jc_resolve.specs.declared.fault.LinkEnd.{LinkEnd}
use Rattle.jc_resolve.specs.declared.naming.NamedClass.{NamedClass}
use Rattle.jc_resolve.specs.Due.{IsDue}
use Rattle.jc_resolve.specs.Named as named
use Rattle.first_fault.specs.First.{AllEmpty}
use Rattle.jc_classes.specs.Lines.{HaveLines}
use Rattle.jc_classes.specs.Outline.{LineTable, AreLines, IsClass as IsLineClass}
use Rattle.jc_classes.specs.Outline.{object as line_object, parent_of as line_parent, is_on_chain as on_line_chain}
use Rattle.jc_classes.specs.Outline.{is_interface as line_interface, is_interface_line, package_of as line_package}
use Rattle.jc_classes.specs.Outline.{package_in_line, line_of, outline}
use Rattle.jc_classes.specs.KnownLines.{HaveSuperclasses}
use Rattle.jc_classes.specs.declared.overlay.ClassLayout.{ClassLayout}
use Rattle.jc_classes.specs.Entries.{overlaid}
use Rattle.jc_classes.specs.Layout.{class_layout, public_entries, visible_entries, instance_cells, above_or_nothing, at_home}
use Rattle.jc_classes.specs.TableConditions.{may_stand, layout_above, visible_above, implemented_by, serves}
use Rattle.jc_classes.specs.TableConditions.{holes, overrides, unserved, long_instances}
use Rattle.jc_classes.specs.TableConditions.{conditions}
use Rattle.jc_classes.specs.Tables.{methods_listed, record_from, class_tables, tables_of, Links}
use Rattle.jc_classes.proofs.Climbs.{chain_step}
use Rattle.jc_classes.proofs.Steps.{public_step, visible_step, cells_step}
use Rattle.jc_classes.proofs.SameTypes.{same_signature-equal}
use Rattle.jc_classes.proofs.ClassLines.{AreAlike, IsOutline, tables-alike, tables-classes}
use Rattle.jc_classes.proofs.ClassLines.{record_is, outline_at, on_chain-alike, class-alike}
use Rattle.jc_classes.proofs.Agreed.{cells_short, due-tells}
use Rattle.jc_classes.proofs.FaultlessTables.{AllStand, public_stand, visible_stand, IsListed, listed}
use Rattle.jc_classes.proofs.FaultlessTables.{listed_none, listed_all, signature_listed, Agrees}
use Rattle.jc_classes.proofs.FaultlessTables.{public_agrees, visible_agrees, AllServed, interfaces_met}

-- ---- methods in dispatch lists

inherited_by : (t : LineTable) (u : ClassTable) → AreAlike t u → AreClasses u → (c : ℕ) (o : Option MethodRec) → may_stand t c o ≡ true
    → IsSomeAnd o (IsInherited u c)
inherited_by t u alike are c None e = absurd (false≢true e)
inherited_by t u alike are c (Some m) e =
    let both = and_parts (on_line_chain t m.class c) (not m.is_static && not m.is_init) e in
    let flags = and_parts (not m.is_static) (not m.is_init) both.1 in
    record {
      class = below_class u are c m.class (on_chain-alike t u alike m.class c ∙ both.0);
      dynamic = not-true m.is_static flags.0;
      no_constructor = not-true m.is_init flags.1;
    }

dispatch_built : (t : LineTable) (u : ClassTable) → AreAlike t u → AreClasses u
    → (methods : List MethodRec) (c : ℕ) (own inherited : List (Option ℕ)) (from : List ℕ) → AllStand t c methods own → IsListed inherited
    → length inherited ≤ length own → Agrees methods inherited own
    → from ≡ methods_listed inherited → IsDispatch u methods c from (methods_listed own)
dispatch_built t u alike are methods c own inherited from stand inherited_listed longer agrees is =
    let own_listed = listed t c methods own stand in
    let count : length from ≡ length inherited = ap length is ∙ inherited_listed.count in
    record {
      longer = omega (arith, count, own_listed.count);
      entries =
          listed_all (λ n. IsSomeAnd (slice_get methods n) (IsInherited u c)) t c methods (λ n e. inherited_by t u alike are c (slice_get methods n) e)
          own stand;
      signatures = grind (arith, signature_listed);
    }

-- ---- the lists of the superclass

there : (classes : List NamedClass) (c : ℕ) → c < length classes → (k : NamedClass) × (slice_get classes c ≡ Some k)
there classes c h = grind (arith, slice_get_cases classes c)

parent_counted : (t : LineTable) (classes : List NamedClass) (c p : ℕ) → AreLines t → HaveSuperclasses t classes → line_parent t c ≡ Some p
    → p < length classes
parent_counted t classes c p are known e = grind (arith, next_on_chain t c p are (parent_of-class t c p e) e)

public_built : (t : LineTable) (classes : List NamedClass) (c : ℕ) (k : NamedClass) → slice_get classes c ≡ Some k
    → public_of (class_tables t classes) c ≡ methods_listed (class_layout t classes c).public
unfolding public_of record_from
public_built t classes c k e = ap (of_record [] (λ r. r.public)) (record_is t classes c ∙ ap (option_map (λ x. record_from x (class_layout t classes c))) e)

visible_built : (t : LineTable) (classes : List NamedClass) (c : ℕ) (k : NamedClass) → slice_get classes c ≡ Some k
    → visible_of (class_tables t classes) c ≡ methods_listed (class_layout t classes c).visible
unfolding visible_of record_from
visible_built t classes c k e = grind (arith, record_is)

cells_built : (t : LineTable) (classes : List NamedClass) (c : ℕ) (k : NamedClass) → slice_get classes c ≡ Some k
    → cell_count (class_tables t classes) c ≡ (class_layout t classes c).cells
unfolding cell_count record_from
cells_built t classes c k e = ap (of_record 0 (λ r. r.cells)) (record_is t classes c ∙ ap (option_map (λ x. record_from x (class_layout t classes c))) e)

abbrev above_by : LineTable → List NamedClass → Option ℕ → ClassLayout
above_by t classes o = above_or_nothing (option_map (class_layout t classes) o)

public_above_by : (t : LineTable) (classes : List NamedClass) (o : Option ℕ) → IfSome o (λ p. p < length classes)
    → list_of (public_of (class_tables t classes)) o ≡ methods_listed (above_by t classes o).public
public_above_by t classes None h = refl
public_above_by t classes (Some p) h = let k = there classes p h in public_built t classes p k.0 k.1

cells_above_by : (t : LineTable) (classes : List NamedClass) (o : Option ℕ) → IfSome o (λ p. p < length classes)
    → cells_above (class_tables t classes) o ≡ (above_by t classes o).cells
cells_above_by t classes None h = refl
cells_above_by t classes (Some p) h = let k = there classes p h in cells_built t classes p k.0 k.1

visible_at_home : (t : LineTable) (classes : List NamedClass) (p : ℕ) (b : Bool) → p < length classes
    → (if b then visible_of (class_tables t classes) p else []) ≡ methods_listed (if b then (class_layout t classes p).visible else [])
visible_at_home t classes p true h = let k = there classes p h in visible_built t classes p k.0 k.1
visible_at_home t classes p false h = refl

visible_above_by : (t : LineTable) (classes : List NamedClass) (c home : ℕ) (o : Option ℕ) → AreAlike t (class_tables t classes)
    → home ≡ line_package t c → IfSome o (λ p. p < length classes)
    → list_of (visible_from (class_tables t classes) home) o ≡ methods_listed (if at_home t o c then (above_by t classes o).visible else [])
unfolding at_home
visible_above_by t classes c home v alike e h = grind (arith, visible_at_home)

-- the inherited lists have a method at each entry
public_listed_by : (t : LineTable) (classes : List NamedClass) (methods : List MethodRec) (o : Option ℕ) → IfSome o (λ p. p < length classes)
    → ((p : ℕ) → p < length classes → AllStand t p methods (class_layout t classes p).public) → IsListed (above_by t classes o).public
public_listed_by t classes methods None h each = listed_none
public_listed_by t classes methods (Some p) h each = listed t p methods (class_layout t classes p).public (each p h)

visible_listed_by : (t : LineTable) (classes : List NamedClass) (methods : List MethodRec) (o : Option ℕ) (b : Bool)
    → IfSome o (λ p. p < length classes) → ((p : ℕ) → p < length classes → AllStand t p methods (class_layout t classes p).visible)
    → IsListed (if b then (above_by t classes o).visible else [])
visible_listed_by t classes methods o false h each = listed_none
visible_listed_by t classes methods None true h each = listed_none
visible_listed_by t classes methods (Some p) true h each = listed t p methods (class_layout t classes p).visible (each p h)

overlaid_longer : (k : _) (inherited own : List (Option ℕ)) → own ≡ overlaid k inherited → length inherited ≤ length own
overlaid_longer k inherited own e = grind (arith, length-map-range_with_len, max)

-- ---- types of own cells

pub interface_is : (t : LineTable) (classes : List NamedClass) (c : ℕ) → IsOutline t classes → line_interface t c ≡ named.is_interface classes c
unfolding line_interface named.is_interface
interface_is t classes c o = ap is_interface_line (outline_at t classes c o) ∙ by (slice_get classes c) where
  by : (k : Option NamedClass) → is_interface_line (option_map (λ x. line_of x) k) ≡ named.interface_by k
  by None = refl
  by (Some k) = refl

type_class : (t : LineTable) (classes : List NamedClass) (c : ℕ) → IsOutline t classes → AreLines t → HaveSuperclasses t classes
    → named.IsTypeClass classes (line_object t) c → IsClass (class_tables t classes) c
type_class t classes c o are known (inl e) = class-alike t (class_tables t classes) (tables-alike t classes o) c (subst (IsLineClass t) (sym e) are.objects)
type_class t classes c o are known (inr h) = grind (arith, tables-alike t classes o, interface_is t classes c o, class-alike)

pub declared_by : (t : LineTable) (classes : List NamedClass) → IsOutline t classes → AreLines t → HaveSuperclasses t classes → (ty : Ty)
    → named.IsDeclared classes (line_object t) ty → IsDeclared (class_tables t classes) ty
declared_by t classes o are known Bottom h = h
declared_by t classes o are known Short h = h
declared_by t classes o are known IntHigh h = h
declared_by t classes o are known IntLow h = h
declared_by t classes o are known Null h = h
declared_by t classes o are known (Class c) h = type_class t classes c o are known h
declared_by t classes o are known ArrBool h = h
declared_by t classes o are known ArrByte h = h
declared_by t classes o are known ArrShort h = h
declared_by t classes o are known ArrInt h = h
declared_by t classes o are known (ArrRef c) h = type_class t classes c o are known h
declared_by t classes o are known (Fresh p c) h = h
declared_by t classes o are known Top h = h

-- ---- implemented interfaces

all_from_tests : {X : Type 0} (p : X → Bool) (xs : List X) → list_all p xs ≡ true → All (λ x. p x ≡ true) xs
all_from_tests p [] e = All-nil (λ x. p x ≡ true)
all_from_tests p (x ∷ xs) e =
    let both = and_parts (p x) (list_all p xs) e in
    All-cons (λ x. p x ≡ true) x xs both.0 (all_from_tests p xs both.1)

serves_by : (methods : List MethodRec) (entries : List (Option ℕ)) (i : Iface) (m : MethodRec) → IsListed entries
    → (not (m.class == i.class) || serves methods entries i m) ≡ true → m.class ≡ i.class
    → option_and_then (signature_at methods (methods_listed entries)) (slice_get i.tokens m.token) ≡ Some m.sig
serves_by methods entries i m l test e = grind (arith, eq-eqb, same_signature-equal, signature_listed)

implemented_linked : (t : LineTable) (u : ClassTable) (classes : List NamedClass) (methods : List MethodRec) (entries : List (Option ℕ)) (is : List Iface)
    → AreAlike t u → HaveSuperclasses t classes → IsListed entries → All (λ (i : Iface). i.class < length classes) is
    → All (λ (i : Iface). line_interface t i.class ≡ true) is → AllServed methods entries is
    → All (IsImplemented u methods (methods_listed entries)) is
implemented_linked t u classes methods entries is alike known l numbers interfaces served = λ j d h.
    let i = get_or is j d in
    let low = numbers j d h in
    record {
      number = omega (arith, alike.count, known.count, low);
      interface = alike.interfaces i.class ∙ interfaces j d h;
      serves =
          All-weaker (λ (m : MethodRec). (not (m.class == i.class) || serves methods entries i m) ≡ true)
          (λ (m : MethodRec). m.class ≡ i.class → option_and_then (signature_at methods (methods_listed entries)) (slice_get i.tokens m.token)
          ≡ Some m.sig)
          (λ m test e. serves_by methods entries i m l test e) methods
          (all_from_tests (λ (m : MethodRec). not (m.class == i.class) || serves methods entries i m) methods (served j d h));
    }

-- ---- a class of the table

-- classes with their superclasses, in which everything is a number, and of which nothing is at fault
pub record IsSound (packages : ℕ) (t : LineTable) (classes : List NamedClass) (methods : List MethodRec) : Type 0 where
  pub outline : IsOutline t classes
  pub are : AreLines t
  pub known : HaveSuperclasses t classes
  pub lines : HaveLines classes t
  pub named : All (named.IsNamedClass packages (length methods) classes (line_object t)) classes
  pub holes : holes t classes methods ≡ []
  pub overrides : overrides t classes methods ≡ []
  pub unserved : unserved t classes methods ≡ []
  pub long : long_instances t classes ≡ []

parents_counted : (t : LineTable) (classes : List NamedClass) (c : ℕ) (o : Option ℕ) → AreLines t → HaveSuperclasses t classes
    → line_parent t c ≡ o → IfSome o (λ p. p < length classes)
parents_counted t classes c u are known e = grind (arith, parent_counted)

earlier_by : (t : LineTable) (classes : List NamedClass) (c home : ℕ) (o : Option ℕ) → HaveLines classes t → AreAlike t (class_tables t classes)
    → home ≡ line_package t c → line_parent t c ≡ o → IfSome o (λ p. package_of (class_tables t classes) p ≤ home)
earlier_by t classes c home v lines alike e at = grind (arith)

package_here : (t : LineTable) (classes : List NamedClass) (c : ℕ) (k : NamedClass) → IsOutline t classes → slice_get classes c ≡ Some k
    → line_package t c ≡ k.«package»
unfolding line_package
package_here t classes c k o e = ap package_in_line (outline_at t classes c o ∙ ap (option_map line_of) e)

implements_by : (t : LineTable) (u : ClassTable) (classes : List NamedClass) (methods : List MethodRec) (entries : List (Option ℕ)) (k : NamedClass)
    (b : Bool) → AreAlike t u → HaveSuperclasses t classes → IsListed entries → All (λ (i : Iface). i.class < length classes) k.interfaces
    → All (λ (i : Iface). line_interface t i.class ≡ true) k.interfaces → AllServed methods entries (if b then [] else k.interfaces)
    → MatchBool b (All (IsExtended u) k.interfaces) (All (IsImplemented u methods (methods_listed entries)) k.interfaces)
implements_by t u classes methods entries k true alike known l numbers interfaces served = grind (arith, get_or)
implements_by t u classes methods entries k false alike known l numbers interfaces served =
    implemented_linked t u classes methods entries k.interfaces alike known l numbers interfaces served

public_dispatch : (packages : ℕ) (t : LineTable) (classes : List NamedClass) (methods : List MethodRec) (c : ℕ) (k : NamedClass)
    → IsSound packages t classes methods → slice_get classes c ≡ Some k → c < length classes
    → IsDispatch (class_tables t classes) methods c (list_of (public_of (class_tables t classes)) (parent_of (class_tables t classes) c))
    (methods_listed (class_layout t classes c).public)
unfolding class_layout layout_above
public_dispatch packages t classes methods c k s e low =
    let alike = tables-alike t classes s.outline in
    let parents = parents_counted t classes c (line_parent t c) s.are s.known refl in
    dispatch_built t (class_tables t classes) alike (tables-classes t classes s.outline s.are) methods c (public_entries t classes c)
    (layout_above t classes c).public _
    (public_stand t classes methods c s.holes low)
    (public_listed_by t classes methods (line_parent t c) parents (λ p h. public_stand t classes methods p s.holes h))
    (overlaid_longer k.public (layout_above t classes c).public (public_entries t classes c)
    (public_step t classes c (line_parent t c) k (chain_step t c s.are) e))
    (public_agrees t classes methods c s.overrides low)
    (ap (list_of (public_of (class_tables t classes))) (alike.parents c) ∙ public_above_by t classes (line_parent t c) parents)

visible_dispatch : (packages : ℕ) (t : LineTable) (classes : List NamedClass) (methods : List MethodRec) (c : ℕ) (k : NamedClass)
    → IsSound packages t classes methods → slice_get classes c ≡ Some k → c < length classes
    → IsDispatch (class_tables t classes) methods c (list_of (visible_from (class_tables t classes) k.«package») (parent_of (class_tables t classes) c))
    (methods_listed (class_layout t classes c).visible)
unfolding class_layout layout_above
visible_dispatch packages t classes methods c k s e low =
    let alike = tables-alike t classes s.outline in
    let parents = parents_counted t classes c (line_parent t c) s.are s.known refl in
    dispatch_built t (class_tables t classes) alike (tables-classes t classes s.outline s.are) methods c (visible_entries t classes c)
    (visible_above t classes c) _
    (visible_stand t classes methods c s.holes low)
    (visible_listed_by t classes methods (line_parent t c) (at_home t (line_parent t c) c) parents (λ p h. visible_stand t classes methods p s.holes h))
    (overlaid_longer k.visible (visible_above t classes c) (visible_entries t classes c)
    (visible_step t classes c (line_parent t c) k (chain_step t c s.are) e))
    (visible_agrees t classes methods c s.overrides low)
    (ap (list_of (visible_from (class_tables t classes) k.«package»)) (alike.parents c) ∙ visible_above_by t classes c k.«package» (line_parent t c)
    alike (sym (package_here t classes c k s.outline e)) parents)

cells_in : (t : LineTable) (classes : List NamedClass) (c : ℕ) → (class_layout t classes c).cells ≡ instance_cells t classes c
unfolding class_layout
cells_in t classes c = refl

implements_in : (packages : ℕ) (t : LineTable) (classes : List NamedClass) (methods : List MethodRec) (c : ℕ) (k : NamedClass)
    → IsSound packages t classes methods → slice_get classes c ≡ Some k → c < length classes
    → named.IsNamedClass packages (length methods) classes (line_object t) k
    → AreInterfaces (class_tables t classes) methods (record_from k (class_layout t classes c))
unfolding class_layout record_from
implements_in packages t classes methods c k s e low n =
    let extends = IfSome-is (λ (r : NamedClass). All (λ (i : Iface). line_interface t i.class ≡ true) r.interfaces) (slice_get classes c) k
    (s.lines.interfaces c) e in
    let served : AllServed methods (public_entries t classes c) (implemented_by (Some k)) = subst
    (λ (o : Option NamedClass). AllServed methods (public_entries t classes c) (implemented_by o)) e
    (interfaces_met t classes methods c s.unserved low) in
    implements_by t (class_tables t classes) classes methods (public_entries t classes c) k k.interface (tables-alike t classes s.outline) s.known
    (listed t c methods (public_entries t classes c) (public_stand t classes methods c s.holes low)) n.interfaces extends served

class_linked : (packages : ℕ) (t : LineTable) (classes : List NamedClass) (methods : List MethodRec) (c : ℕ) (k : NamedClass)
    → IsSound packages t classes methods → slice_get classes c ≡ Some k
    → IsLinkedClass packages (class_tables t classes) methods c (record_from k (class_layout t classes c))
unfolding record_from
class_linked packages t classes methods c k s e =
    let low : c < length classes = slice_get_within classes c k e in
    let u = class_tables t classes in
    let alike = tables-alike t classes s.outline in
    let parents = parents_counted t classes c (line_parent t c) s.are s.known refl in
    let n : named.IsNamedClass packages (length methods) classes (line_object t) k = All-slice_get
    (named.IsNamedClass packages (length methods) classes (line_object t)) classes c k s.named e in
    let home : k.«package» ≡ line_package t c = sym (package_here t classes c k s.outline e) in
    let above : cells_above u (parent_of u c) ≡ (above_by t classes (line_parent t c)).cells = ap (cells_above u) (alike.parents c)
    ∙ cells_above_by t classes (line_parent t c) parents in
    let own : (class_layout t classes c).cells ≡ length k.own + (above_by t classes (line_parent t c)).cells = cells_in t classes c
    ∙ cells_step t classes c (line_parent t c) k (chain_step t c s.are) e in
    let short = cells_short t classes c s.long low in
    record {
      home = n.home;
      earlier = grind (arith, earlier_by);
      cells = omega (arith, above, own);
      size = omega (arith, short, cells_in t classes c);
      own = All-weaker (named.IsDeclared classes (line_object t)) (IsDeclared u) (declared_by t classes s.outline s.are s.known) k.own n.own;
      public = public_dispatch packages t classes methods c k s e low;
      visible = visible_dispatch packages t classes methods c k s e low;
      implements = implements_in packages t classes methods c k s e low n;
    }

pub tables_linked : (packages : ℕ) (t : LineTable) (classes : List NamedClass) (methods : List MethodRec) → IsSound packages t classes methods
    → AreLinkedClasses packages (class_tables t classes) methods
tables_linked packages t classes methods s = λ c. by c (slice_get classes c) refl where
  by : (c : ℕ) (o : Option NamedClass) → slice_get classes c ≡ o → IfSome (slice_get (class_tables t classes).records c)
      (IsLinkedClass packages (class_tables t classes) methods c)
  by c None e =
      subst (λ (o : Option ClassRec). IfSome o (IsLinkedClass packages (class_tables t classes) methods c))
      (sym (record_is t classes c ∙ ap (option_map (λ x. record_from x (class_layout t classes c))) e)) tt
  by c (Some k) e =
      subst (λ (o : Option ClassRec). IfSome o (IsLinkedClass packages (class_tables t classes) methods c))
      (sym (record_is t classes c ∙ ap (option_map (λ x. record_from x (class_layout t classes c))) e)) (class_linked packages t classes methods c k s e)

pub links : (t : LineTable) (classes : List NamedClass) (methods : List MethodRec) (table : ClassTable) → table ≡ class_tables t classes
    → t ≡ outline classes t.roles → AreLines t → HaveSuperclasses t classes → HaveLines classes t → AllEmpty (conditions t classes methods)
    → Links t classes methods table
links t classes methods table e o are known lines (holes, (overrides, (unserved, (long, done)))) = grind (arith, tables_linked)

-- the table of an answer that is due is what a world needs of its classes
pub due-links : (t : LineTable) (classes : List NamedClass) (methods : List MethodRec) (r : Result ClassTable LinkEnd)
    → IsDue (tables_of t classes methods) r → t ≡ outline classes t.roles → AreLines t → HaveSuperclasses t classes → HaveLines classes t
    → IfOk r (λ table. Links t classes methods table)
due-links t classes methods u due o are known lines = grind (arith, due-tells, links)
