-- An instance of a class, an interface or an array type is below the type that stands for it.
use Rattle.std.proofs.Common.{◌≡◌, ℕ, zero, suc, ◌<◌, Bool, true, false, if◌then◌else◌, ◌==◌, List, refl, sym, ap, subst, arith}
use Rattle.std.specs.Prelude.{length, Some, All}
use Rattle.std.proofs.lemmas.Bool.{false≢true, eqb-true}
use Rattle.std.proofs.lemmas.Option.{none-some}
use Rattle.jc_base.specs.declared.ty.Ty.{Ty}
use Rattle.jc_base.specs.declared.ty.Ty.TheVariants.{Class, ArrBool, ArrByte, ArrShort, ArrInt, ArrRef}
use Rattle.jc_base.specs.Class.{ClassTable, AreClasses, IsClass, is_interface, object, class_in_types}
use Rattle.jc_base.specs.Order.{Below, same, array_object, array_array, of_booleans, of_bytes}
use Rattle.jc_base.specs.Order.{of_shorts, of_ints, of_references, is_on_chain, is_below}
use Rattle.jc_base.specs.Interface.{is_or_extends, implements}
use Rattle.jc_base.specs.World.{Linked}
use Rattle.jc_base.proofs.Lists.{All-slice_get}
use Rattle.jc_base.proofs.Objects.{classes-are_objects}
use Rattle.jc_base.proofs.Subtypes.{Below-from_is_below}
use Rattle.jc_rules.specs.Rule.{seen}
use Rattle.vm_store.specs.declared.cell.ObjectKind.{ObjectKind}
use Rattle.vm_store.specs.declared.cell.ObjectKind.TheVariants.{Instance, Booleans, Bytes, Shorts, Ints, References}
use Rattle.vm_store.specs.Kind.{kind_of_handle, type_of_kind}
use Rattle.vm_step.specs.Instance.{is_subtype, is_instance}
use Rattle.law_sound.specs.State.{CanBeMade}

-- each object of a typed state is one that can be made
pub made-at : (w : Linked) (ks : List ObjectKind) (h : ℕ) (k : ObjectKind) → All (CanBeMade w) ks → kind_of_handle ks h ≡ Some k → CanBeMade w k
made-at w ks zero k all e = absurd (none-some k e)
made-at w ks (suc h) k all e = All-slice_get (CanBeMade w) ks h k all e

module _ (t : ClassTable) (are : AreClasses t) where
  seen-by : (c : ℕ) (b : Bool) → is_interface t c ≡ b → (if b then object t else c) ≡ class_in_types t c
  seen-by c b e = ap (λ x. if x then object t else c) (sym e)

  pub seen-itself : (c : ℕ) → IsClass t c → c ≡ class_in_types t c
  seen-itself c is = seen-by c false is.class

  object-seen : object t ≡ class_in_types t (object t)
  object-seen = seen-itself (object t) are.objects

  -- of two classes or interfaces by number
  sub-below :
      (c d : ℕ) (b e : Bool) → c < length t.records → is_interface t c ≡ b → is_interface t d ≡ e
      → (if e then (if b then is_or_extends t c d else implements t c d) else (if b then d == object t else is_on_chain t d c)) ≡ true
      → Below t (Class (if b then object t else c)) (Class (if e then object t else d))
  unfolding is_below
  sub-below c d true true lt i j h = same
  sub-below c d false true lt i j h = classes-are_objects t are c (record { number = lt; class = i })
  sub-below c d true false lt i j h = subst (λ x. Below t (Class (object t)) (Class x)) (sym (eqb-true d (object t) h)) same
  sub-below c d false false lt i j h = Below-from_is_below t are (Class c) (Class d) h

  pub subtype-below : (c d : ℕ) → c < length t.records → is_subtype t c d ≡ true → Below t (Class (class_in_types t c)) (Class (class_in_types t d))
  subtype-below c d lt h = sub-below c d (is_interface t c) (is_interface t d) lt refl refl h

  object-below : (k : ObjectKind) (d : ℕ) → Below t (type_of_kind t k) (Class (object t)) → (d == object t) ≡ true
      → Below t (type_of_kind t k) (Class (class_in_types t d))
  object-below k d b h = grind (arith, object-seen, eqb-true)

-- an object that can be made
pub instance-below :
    (w : Linked) → AreClasses w.classes → (k : ObjectKind) (ty : Ty) → CanBeMade w k → is_instance w.classes k ty ≡ true
    → Below w.classes (type_of_kind w.classes k) (seen w.classes ty)
instance-below w are (Instance c) (Class d) made h =
    grind (arith, seen-itself w.classes are c made.class, subtype-below w.classes are c d made.class.number h)
instance-below w are (References c) (ArrRef d) made h = array_array (subtype-below w.classes are c d made h)
instance-below w are (References c) (Class d) made h = object-below w.classes are (References c) d (array_object of_references refl) h
instance-below w are Booleans (Class d) made h = object-below w.classes are Booleans d (array_object of_booleans refl) h
instance-below w are Bytes (Class d) made h = object-below w.classes are Bytes d (array_object of_bytes refl) h
instance-below w are Shorts (Class d) made h = object-below w.classes are Shorts d (array_object of_shorts refl) h
instance-below w are Ints (Class d) made h = object-below w.classes are Ints d (array_object of_ints refl) h
instance-below w are Booleans ArrBool made h = same
instance-below w are Bytes ArrByte made h = same
instance-below w are Shorts ArrShort made h = same
instance-below w are Ints ArrInt made h = same
instance-below w are k ty made h = absurd (false≢true h)
