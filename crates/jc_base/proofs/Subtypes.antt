-- The computed order is the order of types.
use Rattle.std.proofs.Common.{arith}
use Rattle.std.proofs.Common.{◌≡◌, ℕ, inl, inr, true, refl, sym, subst}
use Rattle.std.specs.Prelude.{◌==◌, ◌↔◌, IsTrue}
use Rattle.std.proofs.lemmas.Bool.{false≢true, eqb-true, eq-eqb, and_parts}
use Rattle.jc_base.specs.declared.ty.Ty.{Ty}
use Rattle.jc_base.specs.declared.ty.Ty.TheVariants.{Bottom, Short, IntHigh, IntLow, Null, Class, ArrBool, ArrByte, ArrShort, ArrInt, ArrRef, Fresh, Top}
use Rattle.jc_base.specs.Class.{ClassTable, AreClasses, object}
use Rattle.jc_base.specs.Order.{Below, same, joined, nothing, anything, null_object, null_array, subclass, array_object, array_array, IsArray, of_booleans}
use Rattle.jc_base.specs.Order.{of_bytes, of_shorts, of_ints, of_references, is_below, is_on_chain, is_reference, is_above_arrays}
use Rattle.jc_base.proofs.Climbs.{climb, on_chain-here, on_chain-parent, on_chain-trans, on_object, on_alone, on_next}

-- ---- reflexive

pub is_below-refl : (t : ClassTable) (a : Ty) → is_below t a a ≡ true
unfolding is_below
is_below-refl t a = grind (arith, on_chain-here, eq-eqb)

pub is_below-top : (t : ClassTable) (a : Ty) → is_below t a Top ≡ true
unfolding is_below
is_below-top t a = grind (arith)

-- ---- transitive

pub top_below : (t : ClassTable) (c : Ty) → is_below t Top c ≡ true → c ≡ Top
unfolding is_below
top_below t c e = grind (arith, false≢true)

above_top : (t : ClassTable) (a c : Ty) → is_below t Top c ≡ true → is_below t a c ≡ true
above_top t a c e = subst (λ (x : Ty). is_below t a x ≡ true) (sym (top_below t c e)) (is_below-top t a)

-- what is above class object is above every array
above_object : (t : ClassTable) → AreClasses t → (d : ℕ) (c : Ty) → (d == object t) ≡ true → is_below t (Class d) c ≡ true
    → is_above_arrays t c ≡ true
unfolding is_below
above_object t are d c o h = grind (arith, eq-eqb, on_object, eqb-true, false≢true)

arrays_below : (t : ClassTable) {a : Ty} → IsArray a → (c : Ty) → is_above_arrays t c ≡ true → is_below t a c ≡ true
unfolding is_below
arrays_below t of_booleans (Class d) h = h
arrays_below t k (Class d) h = h
arrays_below t k Top h = refl
arrays_below t k c h = absurd (false≢true h)

null_array_above : (t : ClassTable) {a : Ty} → IsArray a → (c : Ty) → is_below t a c ≡ true → is_below t Null c ≡ true
unfolding is_below
null_array_above t of_booleans Bottom h = absurd (false≢true h)
null_array_above t k Bottom h = absurd (false≢true h)
null_array_above t k Short h = absurd (false≢true h)
null_array_above t k IntHigh h = absurd (false≢true h)
null_array_above t k IntLow h = absurd (false≢true h)
null_array_above t k (Fresh p d) h = absurd (false≢true h)
null_array_above t k c h = refl

class_below : (t : ClassTable) → AreClasses t → (c d : ℕ) (b : Ty) → is_on_chain t d c ≡ true → is_below t (Class d) b ≡ true
    → is_below t (Class c) b ≡ true
unfolding is_below
class_below t are c d b on h = grind (arith, on_chain-trans, false≢true)

pub is_below-trans : (t : ClassTable) → AreClasses t → (a b c : Ty) → is_below t a b ≡ true → is_below t b c ≡ true → is_below t a c ≡ true
unfolding is_below
is_below-trans t are Bottom b c p q = refl
is_below-trans t are a Top c p q = above_top t a c q
is_below-trans t are Short Short c p q = q
is_below-trans t are IntHigh IntHigh c p q = q
is_below-trans t are IntLow IntLow c p q = q
is_below-trans t are Null Null c p q = q
is_below-trans t are Null (Class d) c p q = grind (arith, false≢true)
is_below-trans t are Null ArrBool c p q = null_array_above t of_booleans c q
is_below-trans t are Null ArrByte c p q = null_array_above t of_bytes c q
is_below-trans t are Null ArrShort c p q = null_array_above t of_shorts c q
is_below-trans t are Null ArrInt c p q = null_array_above t of_ints c q
is_below-trans t are Null (ArrRef d) c p q = null_array_above t of_references c q
is_below-trans t are (Class a) (Class d) c p q = class_below t are a d c p q
is_below-trans t are ArrBool ArrBool c p q = q
is_below-trans t are ArrBool (Class d) c p q = arrays_below t of_booleans c (above_object t are d c p q)
is_below-trans t are ArrByte ArrByte c p q = q
is_below-trans t are ArrByte (Class d) c p q = arrays_below t of_bytes c (above_object t are d c p q)
is_below-trans t are ArrShort ArrShort c p q = q
is_below-trans t are ArrShort (Class d) c p q = arrays_below t of_shorts c (above_object t are d c p q)
is_below-trans t are ArrInt ArrInt c p q = q
is_below-trans t are ArrInt (Class d) c p q = arrays_below t of_ints c (above_object t are d c p q)
is_below-trans t are (ArrRef a) (ArrRef d) c p q = grind (arith, on_chain-trans, false≢true)
is_below-trans t are (ArrRef a) (Class d) c p q = arrays_below t of_references c (above_object t are d c p q)
is_below-trans t are (Fresh m a) (Fresh n d) c p q = grind (arith, and_parts, eqb-true)
is_below-trans t are a b c p q = absurd (false≢true p)

-- ---- the order is the computed one

array_objects : (t : ClassTable) {a : Ty} (c : ℕ) → IsArray a → c ≡ object t → is_below t a (Class c) ≡ true
unfolding is_below
array_objects t c of_booleans e = eq-eqb c (object t) e
array_objects t c k e = eq-eqb c (object t) e

null_arrays : (t : ClassTable) {a : Ty} → IsArray a → is_below t Null a ≡ true
unfolding is_below
null_arrays t of_booleans = refl
null_arrays t k = refl

class_classes : (t : ClassTable) (c d : ℕ) → is_on_chain t d c ≡ true → is_below t (Class c) (Class d) ≡ true
unfolding is_below
class_classes t c d e = e

array_arrays : (t : ClassTable) (c d : ℕ) → is_below t (Class c) (Class d) ≡ true → is_below t (ArrRef c) (ArrRef d) ≡ true
unfolding is_below
array_arrays t c d e = e

pub bottom_below : (t : ClassTable) (b : Ty) → is_below t Bottom b ≡ true
unfolding is_below
bottom_below t b = refl

null_objects : (t : ClassTable) (c : ℕ) → is_below t Null (Class c) ≡ true
unfolding is_below
null_objects t c = refl

pub is_below-from_Below : (t : ClassTable) → AreClasses t → {a b : Ty} → Below t a b → is_below t a b ≡ true
is_below-from_Below t are {a} same = is_below-refl t a
is_below-from_Below t are (joined {a} {b} {c} p q) = is_below-trans t are a b c (is_below-from_Below t are p) (is_below-from_Below t are q)
is_below-from_Below t are (nothing {b}) = bottom_below t b
is_below-from_Below t are (anything {a}) = is_below-top t a
is_below-from_Below t are (null_object {c}) = null_objects t c
is_below-from_Below t are (null_array {b} k) = null_arrays t k
is_below-from_Below t are (subclass {c} {p} e) = class_classes t c p (on_chain-parent t c p are e)
is_below-from_Below t are (array_object {a} {c} k e) = array_objects t c k e
is_below-from_Below t are (array_array {c} {d} h) = array_arrays t c d (is_below-from_Below t are h)

pub below_class : (t : ClassTable) → AreClasses t → (c d : ℕ) → is_on_chain t d c ≡ true → Below t (Class c) (Class d)
below_class t are = climb t are (λ c. (d : ℕ) → is_on_chain t d c ≡ true → Below t (Class c) (Class d))
    (λ c top alone d on. subst (λ (x : ℕ). Below t (Class c) (Class x)) (on_alone t d c alone on) same)
    (λ c p link next before d on. elim (on_next t d c p next on) [
      | inl here ↦ subst (λ (x : ℕ). Below t (Class c) (Class x)) here same
      | inr up ↦ joined (subclass link) (before d up)
    ])

above_arrays : (t : ClassTable) (a b : Ty) → IsArray a → is_above_arrays t b ≡ true → Below t a b
above_arrays t a (Class d) k h = array_object k (eqb-true d (object t) h)
above_arrays t a Top k h = anything
above_arrays t a b k h = absurd (false≢true h)

null_reference : (t : ClassTable) (b : Ty) → is_reference b ≡ true → Below t Null b
null_reference t (Class c) h = null_object
null_reference t ArrBool h = null_array of_booleans
null_reference t ArrByte h = null_array of_bytes
null_reference t ArrShort h = null_array of_shorts
null_reference t ArrInt h = null_array of_ints
null_reference t (ArrRef c) h = null_array of_references
null_reference t b h = absurd (false≢true h)

pub Below-from_is_below : (t : ClassTable) → AreClasses t → (a b : Ty) → is_below t a b ≡ true → Below t a b
unfolding is_below
Below-from_is_below t are Bottom b h = nothing
Below-from_is_below t are a Top h = anything
Below-from_is_below t are Short Short h = same
Below-from_is_below t are IntHigh IntHigh h = same
Below-from_is_below t are IntLow IntLow h = same
Below-from_is_below t are Null Null h = same
Below-from_is_below t are Null b h = null_reference t b h
Below-from_is_below t are (Class c) (Class d) h = below_class t are c d h
Below-from_is_below t are ArrBool ArrBool h = same
Below-from_is_below t are ArrBool b h = above_arrays t ArrBool b of_booleans h
Below-from_is_below t are ArrByte ArrByte h = same
Below-from_is_below t are ArrByte b h = above_arrays t ArrByte b of_bytes h
Below-from_is_below t are ArrShort ArrShort h = same
Below-from_is_below t are ArrShort b h = above_arrays t ArrShort b of_shorts h
Below-from_is_below t are ArrInt ArrInt h = same
Below-from_is_below t are ArrInt b h = above_arrays t ArrInt b of_ints h
Below-from_is_below t are (ArrRef c) (ArrRef d) h = array_array (below_class t are c d h)
Below-from_is_below t are (ArrRef c) b h = above_arrays t (ArrRef c) b of_references h
Below-from_is_below t are (Fresh m c) (Fresh n d) h =
    let e = and_parts (m == n) (c == d) h in
    let place : m ≡ n = eqb-true m n e.0 in
    let class : c ≡ d = eqb-true c d e.1 in
    subst (λ (x : ℕ). Below t (Fresh m c) (Fresh x d)) place (subst (λ (x : ℕ). Below t (Fresh m c) (Fresh m x)) class same)
Below-from_is_below t are a b h = absurd (false≢true h)

pub below_decided : (t : ClassTable) → AreClasses t → (a b : Ty) → IsTrue (is_below t a b) ↔ Below t a b
below_decided t are a b = (Below-from_is_below t are a b, is_below-from_Below t are)
