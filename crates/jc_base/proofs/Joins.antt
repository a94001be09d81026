-- The computed join is the least type above both, and a type rises seldom.
use Rattle.std.proofs.Common.{◌≡◌, ℕ, ◌+◌, ◌<◌, ◌≤◌, ◌⊎◌, inl, inr, Bool, true, false, ◌&&◌, length, Some, refl, sym, ap, subst}
use Rattle.std.proofs.Common.{◌∙◌, arith}
use Rattle.std.specs.Prelude.{if◌then◌else◌}
use Rattle.std.proofs.lemmas.Bool.{false≢true, true≢false, eqb-true, and_parts}
use Rattle.jc_base.specs.declared.ty.Ty.{Ty}
use Rattle.jc_base.specs.declared.ty.Ty.TheVariants.{Bottom, Short, IntHigh, IntLow, Null, Class, ArrBool, ArrByte, ArrShort, ArrInt, ArrRef, Fresh, Top}
use Rattle.jc_base.specs.Class.{ClassTable, IsClass, AreClasses, parent_of, height, object}
use Rattle.jc_base.specs.Order.{Below, same, joined, nothing, anything, null_object, null_array, subclass, array_object, array_array, IsArray, of_booleans}
use Rattle.jc_base.specs.Order.{of_bytes, of_shorts, of_ints, of_references, IsJoin, IsKnown, is_below, is_reference, is_above_arrays, common}
use Rattle.jc_base.specs.Order.{join_of, rises_left}
use Rattle.jc_base.proofs.Chains.{next_on_chain}
use Rattle.jc_base.proofs.Climbs.{on_chain-here, on_chain-object, on_chain-class, parent_of-class, chain-height, chain-not_empty, chain-alone}
use Rattle.jc_base.proofs.Meets.{IsNearest, common-nearest}
use Rattle.jc_base.proofs.Subtypes.{is_below-refl, is_below-top, is_below-from_Below, Below-from_is_below, below_class, bottom_below}

-- ---- two classes, and two arrays of classes

above_classes : (t : ClassTable) → AreClasses t → (c d n : ℕ) (u : Ty) → IsNearest t c d n → is_below t (Class c) u ≡ true
    → is_below t (Class d) u ≡ true → is_below t (Class n) u ≡ true
unfolding is_below
above_classes t are c d n u near p q = grind (arith, false≢true)

above_references : (t : ClassTable) → AreClasses t → (c d n : ℕ) (u : Ty) → IsNearest t c d n → is_below t (ArrRef c) u ≡ true
    → is_below t (ArrRef d) u ≡ true → is_below t (ArrRef n) u ≡ true
unfolding is_below
above_references t are c d n u near p q = grind (arith, false≢true)

join_of_classes : (t : ClassTable) → AreClasses t → (c d : ℕ) → IsClass t c → IsClass t d → IsJoin t (Class c) (Class d) (Class (common t c d))
join_of_classes t are c d c_is d_is =
    let near = common-nearest t are c d c_is d_is in
    record {
      left = below_class t are c (common t c d) near.left;
      right = below_class t are d (common t c d) near.right;
      least =
          λ u p q. Below-from_is_below t are (Class (common t c d)) u
          (above_classes t are c d (common t c d) u near (is_below-from_Below t are p) (is_below-from_Below t are q));
    }

join_of_arrays : (t : ClassTable) → AreClasses t → (c d : ℕ) → IsClass t c → IsClass t d → IsJoin t (ArrRef c) (ArrRef d) (ArrRef (common t c d))
join_of_arrays t are c d c_is d_is =
    let near = common-nearest t are c d c_is d_is in
    record {
      left = array_array (below_class t are c (common t c d) near.left);
      right = array_array (below_class t are d (common t c d) near.right);
      least =
          λ u p q. Below-from_is_below t are (ArrRef (common t c d)) u
          (above_references t are c d (common t c d) u near (is_below-from_Below t are p) (is_below-from_Below t are q));
    }

-- ---- the others

-- not both classes, and not both arrays of classes
abbrev AreOthers : Ty → Ty → Type 0
AreOthers (Class c) (Class d) = ⊥
AreOthers (ArrRef c) (ArrRef d) = ⊥
AreOthers a b = Unit {0}

-- how the types stand to one another: short, the halves of an int and fresh objects are above nothing but Bottom
data Sort : Ty → Type 0 where
  bottom : Sort Bottom
  top : Sort Top
  null : Sort Null
  single : {a : Ty} → ((t : ClassTable) (u : Ty) → is_below t a u ≡ true → (u ≡ a) ⊎ (u ≡ Top)) → Sort a
  object_or_array : {a : Ty} → is_reference a ≡ true → Sort a

single_short : (t : ClassTable) (u : Ty) → is_below t Short u ≡ true → (u ≡ Short) ⊎ (u ≡ Top)
unfolding is_below
single_short t u h = grind (arith, false≢true)

single_high : (t : ClassTable) (u : Ty) → is_below t IntHigh u ≡ true → (u ≡ IntHigh) ⊎ (u ≡ Top)
unfolding is_below
single_high t u h = grind (arith, false≢true)

single_low : (t : ClassTable) (u : Ty) → is_below t IntLow u ≡ true → (u ≡ IntLow) ⊎ (u ≡ Top)
unfolding is_below
single_low t u h = grind (arith, false≢true)

single_fresh : (p c : ℕ) (t : ClassTable) (u : Ty) → is_below t (Fresh p c) u ≡ true → (u ≡ Fresh p c) ⊎ (u ≡ Top)
unfolding is_below
single_fresh p c t u h = grind (arith, and_parts, eqb-true, false≢true)

sort_of : (a : Ty) → Sort a
sort_of Bottom = bottom
sort_of Short = single single_short
sort_of IntHigh = single single_high
sort_of IntLow = single single_low
sort_of Null = null
sort_of (Fresh p c) = single (single_fresh p c)
sort_of Top = top
sort_of a = object_or_array refl

null_is_below : (t : ClassTable) (b : Ty) → is_reference b ≡ true → is_below t Null b ≡ true
unfolding is_below
null_is_below t b h = grind (arith)

-- what is above two types that do not compare and are not both references is Top
only_top : (t : ClassTable) (a b u : Ty) → Sort a → Sort b → is_below t a b ≡ false → is_below t b a ≡ false
    → (is_reference a && is_reference b) ≡ false
    → is_below t a u ≡ true → is_below t b u ≡ true → u ≡ Top
only_top t a b u bottom sb ab ba r p q = absurd (true≢false (sym (bottom_below t b) ∙ ab))
only_top t a b u top sb ab ba r p q = absurd (true≢false (sym (is_below-top t b) ∙ ba))
only_top t a b u (single only) sb ab ba r p q = grind (arith, true≢false)
only_top t a b u null bottom ab ba r p q = absurd (true≢false (sym (bottom_below t a) ∙ ba))
only_top t a b u null top ab ba r p q = absurd (true≢false (sym (is_below-top t a) ∙ ab))
only_top t a b u null null ab ba r p q = absurd (true≢false (sym (is_below-refl t Null) ∙ ab))
only_top t a b u null (single only) ab ba r p q = grind (arith, true≢false)
only_top t a b u null (object_or_array h) ab ba r p q = absurd (true≢false (sym (null_is_below t b h) ∙ ab))
only_top t a b u (object_or_array h) bottom ab ba r p q = absurd (true≢false (sym (bottom_below t a) ∙ ba))
only_top t a b u (object_or_array h) top ab ba r p q = absurd (true≢false (sym (is_below-top t a) ∙ ab))
only_top t a b u (object_or_array h) null ab ba r p q = absurd (true≢false (sym (null_is_below t a h) ∙ ba))
only_top t a b u (object_or_array h) (single only) ab ba r p q = grind (arith, true≢false)
only_top t a b u (object_or_array h) (object_or_array k) ab ba r p q = absurd (true≢false (sym (ap (λ (x : Bool). x && is_reference b) h ∙ k) ∙ r))

-- how the references stand to one another
data Reference : Ty → Type 0 where
  class : {c : ℕ} → Reference (Class c)
  references : {c : ℕ} → Reference (ArrRef c)
  primitive : {a : Ty} → IsArray a → ((t : ClassTable) (u : Ty) → is_below t a u ≡ true → (u ≡ a) ⊎ (is_above_arrays t u ≡ true))
      → Reference a

above_booleans : (t : ClassTable) (u : Ty) → is_below t ArrBool u ≡ true → (u ≡ ArrBool) ⊎ (is_above_arrays t u ≡ true)
unfolding is_below
above_booleans t u h = grind (arith)

above_bytes : (t : ClassTable) (u : Ty) → is_below t ArrByte u ≡ true → (u ≡ ArrByte) ⊎ (is_above_arrays t u ≡ true)
unfolding is_below
above_bytes t u h = grind (arith)

above_shorts : (t : ClassTable) (u : Ty) → is_below t ArrShort u ≡ true → (u ≡ ArrShort) ⊎ (is_above_arrays t u ≡ true)
unfolding is_below
above_shorts t u h = grind (arith)

above_ints : (t : ClassTable) (u : Ty) → is_below t ArrInt u ≡ true → (u ≡ ArrInt) ⊎ (is_above_arrays t u ≡ true)
unfolding is_below
above_ints t u h = grind (arith)

reference_of : (a : Ty) → is_reference a ≡ true → Reference a
reference_of (Class c) h = class
reference_of ArrBool h = primitive of_booleans above_booleans
reference_of ArrByte h = primitive of_bytes above_bytes
reference_of ArrShort h = primitive of_shorts above_shorts
reference_of ArrInt h = primitive of_ints above_ints
reference_of (ArrRef c) h = references
reference_of a h = absurd (false≢true h)

-- what is above every array is above object
object_is_below : (t : ClassTable) (u : Ty) → is_above_arrays t u ≡ true → is_below t (Class (object t)) u ≡ true
unfolding is_below
object_is_below t u h = grind (arith, eqb-true, on_chain-here, false≢true)

-- what is above a class and an array is above every array
above_class_array : (t : ClassTable) (c d : ℕ) (u : Ty) → is_below t (Class c) u ≡ true → is_below t (ArrRef d) u ≡ true
    → is_above_arrays t u ≡ true
unfolding is_below
above_class_array t c d u p q = grind (arith, false≢true)

above_both : (t : ClassTable) (a b u : Ty) → AreOthers a b → Reference a → Reference b → is_below t a b ≡ false → is_below t b a ≡ false
    → is_below t a u ≡ true → is_below t b u ≡ true → is_above_arrays t u ≡ true
above_both t a b u others (primitive k only) rb ab ba p q = grind (arith, true≢false)
above_both t a b u others class (primitive k only) ab ba p q = grind (arith, true≢false)
above_both t a b u others references (primitive k only) ab ba p q = grind (arith, true≢false)
above_both t (Class c) (ArrRef d) u others class references ab ba p q = above_class_array t c d u p q
above_both t (ArrRef d) (Class c) u others references class ab ba p q = above_class_array t c d u q p
above_both t a b u others class class ab ba p q = absurd others
above_both t a b u others references references ab ba p q = absurd others

below_object : (t : ClassTable) → AreClasses t → (a : Ty) → IsKnown t a → Reference a → Below t a (Class (object t))
below_object t are (Class c) known class = below_class t are c (object t) (on_chain-object t are c known)
below_object t are a known references = array_object of_references refl
below_object t are a known (primitive k only) = array_object k refl

others_is : (t : ClassTable) → AreClasses t → (a b : Ty) → AreOthers a b → IsKnown t a → IsKnown t b → (x y z : Bool) → is_below t a b ≡ x
    → is_below t b a ≡ y → (is_reference a && is_reference b) ≡ z
    → IsJoin t a b (if x then b else if y then a else if z then Class (object t) else Top)
others_is t are a b others ka kb true y z ab ba r =
    record { left = Below-from_is_below t are a b ab; right = same; least = λ u p q. q }
others_is t are a b others ka kb false true z ab ba r =
    record { left = same; right = Below-from_is_below t are b a ba; least = λ u p q. p }
others_is t are a b others ka kb false false true ab ba r =
    let refs = and_parts (is_reference a) (is_reference b) r in
    let ra = reference_of a refs.0 in
    let rb = reference_of b refs.1 in
    record {
      left = below_object t are a ka ra;
      right = below_object t are b kb rb;
      least =
          λ u p q. Below-from_is_below t are (Class (object t)) u
          (object_is_below t u (above_both t a b u others ra rb ab ba (is_below-from_Below t are p) (is_below-from_Below t are q)));
    }
others_is t are a b others ka kb false false false ab ba r =
    record {
      left = anything;
      right = anything;
      least =
          λ u p q. subst (λ (x : Ty). Below t Top x)
          (sym (only_top t a b u (sort_of a) (sort_of b) ab ba r (is_below-from_Below t are p) (is_below-from_Below t are q))) same;
    }

others_known : (t : ClassTable) → AreClasses t → (a b : Ty) → IsKnown t a → IsKnown t b → (x y z : Bool)
    → IsKnown t (if x then b else if y then a else if z then Class (object t) else Top)
others_known t are a b ka kb x y z = grind (arith)

-- ---- the join

pub join_of-is : (t : ClassTable) → AreClasses t → (a b : Ty) → IsKnown t a → IsKnown t b → IsJoin t a b (join_of t a b)
unfolding join_of
join_of-is t are (Class c) (Class d) ka kb = join_of_classes t are c d ka kb
join_of-is t are (ArrRef c) (ArrRef d) ka kb = join_of_arrays t are c d ka kb
join_of-is t are a b ka kb = others_is t are a b tt ka kb (is_below t a b) (is_below t b a) (is_reference a && is_reference b) refl refl refl

pub join_of-known : (t : ClassTable) → AreClasses t → (a b : Ty) → IsKnown t a → IsKnown t b → IsKnown t (join_of t a b)
unfolding join_of
join_of-known t are (Class c) (Class d) ka kb = on_chain-class t are c (common t c d) ka (common-nearest t are c d ka kb).left
join_of-known t are (ArrRef c) (ArrRef d) ka kb = on_chain-class t are c (common t c d) ka (common-nearest t are c d ka kb).left
join_of-known t are a b ka kb = others_known t are a b ka kb (is_below t a b) (is_below t b a) (is_reference a && is_reference b)

-- ---- how often a type rises

rises-most : (t : ClassTable) (b : Ty) → (b ≡ Bottom) ⊎ (rises_left t b ≤ height t + 2)
unfolding rises_left
rises-most t b = grind (arith, chain-height)

rises-least : (t : ClassTable) (a : Ty) → (a ≡ Top) ⊎ (0 < rises_left t a)
unfolding rises_left
rises-least t a = grind (arith, chain-not_empty)

null_falls : (t : ClassTable) {b : Ty} → IsArray b → rises_left t b < rises_left t Null
unfolding rises_left
null_falls t (of_references {c}) = omega (arith, chain-height t c)
null_falls t k = omega (arith, chain-height t (object t), chain-not_empty t (object t))

array_falls : (t : ClassTable) → AreClasses t → {a : Ty} → IsArray a → rises_left t (Class (object t)) < rises_left t a
unfolding rises_left
array_falls t are k = grind (arith, length, chain-alone, chain-not_empty)

class_falls : (t : ClassTable) → AreClasses t → (c p : ℕ) → parent_of t c ≡ Some p → rises_left t (Class p) < rises_left t (Class c)
unfolding rises_left
class_falls t are c p e = omega (arith, ap length (next_on_chain t c p are (parent_of-class t c p e) e).chain_is)

null_class_falls : (t : ClassTable) (c : ℕ) → rises_left t (Class c) < rises_left t Null
unfolding rises_left
null_class_falls t c = omega (arith, chain-height t c)

array_array_falls : (t : ClassTable) (c d : ℕ) → (Class c ≡ Class d) ⊎ (rises_left t (Class d) < rises_left t (Class c)) → (ArrRef c ≡ ArrRef d)
    ⊎ (rises_left t (ArrRef d) < rises_left t (ArrRef c))
unfolding rises_left
array_array_falls t c d x = grind (arith)

bottom_falls : (t : ClassTable) (b : Ty) → (b ≡ Bottom) ⊎ (rises_left t b ≤ height t + 2) → (Bottom ≡ b) ⊎ (rises_left t b < rises_left t Bottom)
unfolding rises_left
bottom_falls t b x = grind (arith)

top_falls : (t : ClassTable) (a : Ty) → (a ≡ Top) ⊎ (0 < rises_left t a) → (a ≡ Top) ⊎ (rises_left t Top < rises_left t a)
unfolding rises_left
top_falls t a x = grind (arith)

falls-joined : (t : ClassTable) (a b c : Ty) → (a ≡ b) ⊎ (rises_left t b < rises_left t a) → (b ≡ c) ⊎ (rises_left t c < rises_left t b)
    → (a ≡ c) ⊎ (rises_left t c < rises_left t a)
falls-joined t a b c x second = grind (arith)

-- along the order a type stays or the number of rises that are left falls
pub rises-falls : (t : ClassTable) → AreClasses t → {a b : Ty} → Below t a b → (a ≡ b) ⊎ (rises_left t b < rises_left t a)
rises-falls t are same = inl refl
rises-falls t are (joined {a} {b} {c} p q) = falls-joined t a b c (rises-falls t are p) (rises-falls t are q)
rises-falls t are (nothing {b}) = bottom_falls t b (rises-most t b)
rises-falls t are (anything {a}) = top_falls t a (rises-least t a)
rises-falls t are (null_object {c}) = inr (null_class_falls t c)
rises-falls t are (null_array k) = inr (null_falls t k)
rises-falls t are (subclass {c} {p} e) = inr (class_falls t are c p e)
rises-falls t are (array_object {a} {c} k e) = inr (subst (λ (x : ℕ). rises_left t (Class x) < rises_left t a) (sym e) (array_falls t are k))
rises-falls t are (array_array {c} {d} h) = array_array_falls t c d (rises-falls t are h)

pub rises-bound : (t : ClassTable) (a : Ty) → rises_left t a ≤ height t + 3
unfolding rises_left
rises-bound t a = bound a (rises-most t a) where
  bound : (b : Ty) → (b ≡ Bottom) ⊎ (rises_left t b ≤ height t + 2) → rises_left t b ≤ height t + 3
  bound b (inl e) = subst (λ (x : Ty). rises_left t x ≤ height t + 3) (sym e) (omega arith)
  bound b (inr le) = omega arith

-- the order is antisymmetric
pub Below-antisym : (t : ClassTable) → AreClasses t → {a b : Ty} → Below t a b → Below t b a → a ≡ b
Below-antisym t are {a} {b} p q = meet (rises-falls t are p) (rises-falls t are q) where
  meet : (a ≡ b) ⊎ (rises_left t b < rises_left t a) → (b ≡ a) ⊎ (rises_left t a < rises_left t b) → a ≡ b
  meet (inl e) second = e
  meet (inr lt) (inl e) = sym e
  meet (inr lt) (inr gt) = absurd (omega arith)

-- a join rises with what it joins
pub IsJoin-monotone : (t : ClassTable) {a b c d j k : Ty} → Below t a c → Below t b d → IsJoin t a b j → IsJoin t c d k → Below t j k
IsJoin-monotone t {a} {b} {c} {d} {j} {k} p q low high = low.least k (joined p high.left) (joined q high.right)

-- there is one join
pub IsJoin-unique : (t : ClassTable) → AreClasses t → {a b j k : Ty} → IsJoin t a b j → IsJoin t a b k → j ≡ k
IsJoin-unique t are {a} {b} {j} {k} one other = Below-antisym t are (one.least k other.left other.right) (other.least j one.left one.right)

pub IsJoin-known : (t : ClassTable) → AreClasses t → {a b j : Ty} → IsKnown t a → IsKnown t b → IsJoin t a b j → IsKnown t j
IsJoin-known t are {a} {b} {j} ka kb is = subst (IsKnown t) (IsJoin-unique t are (join_of-is t are a b ka kb) is) (join_of-known t are a b ka kb)

-- a type that is above another is their join
pub IsJoin-above : (t : ClassTable) {a b : Ty} → Below t b a → IsJoin t a b a
IsJoin-above t h = record { left = same; right = h; least = λ u p q. p }

-- a join with what is not below has fewer rises left
pub IsJoin-rises : (t : ClassTable) → AreClasses t → {a b j : Ty} → IsJoin t a b j → ¬ (Below t b a) → rises_left t j < rises_left t a
IsJoin-rises t are {a} {b} {j} is n = by (rises-falls t are is.left) where
  by : (a ≡ j) ⊎ (rises_left t j < rises_left t a) → rises_left t j < rises_left t a
  by (inl e) = absurd (n (subst (Below t b) (sym e) is.right))
  by (inr lt) = lt
