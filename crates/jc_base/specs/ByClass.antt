-- What is found at once by the number of a class or an interface: where the numbers of its methods lie, and whether objects can be
-- made of it.
use Rattle.std.specs.Prelude.{◌≡◌, ◌≢◌, ◌↔◌, ℕ, ◌≤◌, ◌<◌, Bool, List, [], ◌∷◌, length, reverse}
use Rattle.std.specs.Prelude.{Option, Some, All, IfSome, IsSome, IsTrue, slice_get}
use Rattle.std.specs.Option.{option_flatten}
use Rattle.jc_base.specs.declared.record.Member.{Member}
use Rattle.jc_base.specs.declared.record.MethodRec.{MethodRec}
use Rattle.jc_base.specs.declared.record.StaticRec.{StaticRec}
use Rattle.jc_base.specs.declared.record.ArrayRec.{ArrayRec}
use Rattle.jc_base.specs.declared.method_bounds.MethodBounds.{MethodBounds}
use Rattle.jc_base.specs.declared.visible_bodies.VisibleBodies.{VisibleBodies}
use Rattle.jc_base.specs.Class.{ClassTable, IsClass, parent_of}
use Rattle.jc_base.specs.Dispatch.{HasBody, IsConcrete, package_of, visible_in}
use Rattle.jc_base.specs.World.{Linked}

-- the bounds by class, and by class whether objects can be made of it
pub record ClassLists : Type 0 where
  pub bounds : List MethodBounds
  pub concrete : List Bool

-- a linked world of these lists, in the order of its fields
abbrev pub listed : List (List ℕ) → List (List Member) → ClassTable → List MethodRec → List StaticRec → List ArrayRec
    → List (Option (List ℕ)) → Linked
listed i p t ms fs xs targets =
    record { infos = i; pools = p; classes = t; methods = ms; statics = fs; arrays = xs; indexes = targets }

-- each of the methods that is of a class has a number between the bounds
pub record AreBounds (methods : List MethodRec) (c : ℕ) (b : MethodBounds) : Type 0 where
  pub rise : b.first ≤ b.end
  pub inside : b.end ≤ length methods
  pub between : (n : ℕ) → IfSome (slice_get methods n) (λ m. m.class ≡ c → (b.first ≤ n) × (n < b.end))

-- the index of the classes of a table with these methods
pub record IsIndexOf (t : ClassTable) (methods : List MethodRec) (x : ClassLists) : Type 0 where
  pub bounds_count : length x.bounds ≡ length t.records
  pub bounds : (c : ℕ) → IfSome (slice_get x.bounds c) (AreBounds methods c)
  pub concrete_count : length x.concrete ≡ length t.records
  pub concrete : (c : ℕ) → IfSome (slice_get x.concrete c) (λ b. IsTrue b ↔ IsConcrete t methods c)

-- ---- while the bounds are found

-- the bounds hold for the first n of the methods
pub record HoldUpTo (methods : List MethodRec) (n c : ℕ) (b : MethodBounds) : Type 0 where
  pub rise : b.first ≤ b.end
  pub inside : b.end ≤ n
  pub between : (k : ℕ) → k < n → IfSome (slice_get methods k) (λ m. m.class ≡ c → (b.first ≤ k) × (k < b.end))

-- by class bounds that hold for the first n of the methods
pub record AreBoundsUpTo (methods : List MethodRec) (count n : ℕ) (bounds : List MethodBounds) : Type 0 where
  pub one_each : length bounds ≡ count
  pub hold : (c : ℕ) → IfSome (slice_get bounds c) (HoldUpTo methods n c)

-- ---- while the concrete classes are found

-- by class, of the first so many, whether objects can be made of it
pub record AreConcrete (t : ClassTable) (methods : List MethodRec) (n : ℕ) (concrete : List Bool) : Type 0 where
  pub one_each : length concrete ≡ n
  pub told : (c : ℕ) → IfSome (slice_get concrete c) (λ b. IsTrue b ↔ IsConcrete t methods c)

-- each package-visible list of a class has bodies only
abbrev pub AllHaveBodies : ClassTable → List MethodRec → ℕ → Type 0
AllHaveBodies t methods c = (home : ℕ) → All (HasBody methods) (visible_in t home c)

-- each package-visible list of a class that is of another package than the class has bodies only
abbrev pub OthersHaveBodies : ClassTable → List MethodRec → ℕ → Type 0
OthersHaveBodies t methods c = (home : ℕ) → package_of t c ≢ home → All (HasBody methods) (visible_in t home c)

-- what is known of the package-visible lists of a class
pub record IsKnownOf (t : ClassTable) (methods : List MethodRec) (c : ℕ) (k : VisibleBodies) : Type 0 where
  pub others : IsTrue k.others ↔ OthersHaveBodies t methods c
  pub all : IsTrue k.all ↔ AllHaveBodies t methods c

-- what stands in the slot of a class
unfoldable pub known_at : List (Option VisibleBodies) → ℕ → Option VisibleBodies
known_at slots c = option_flatten (slice_get slots c)

-- the slot of a class is filled
abbrev pub IsFilled : List (Option VisibleBodies) → ℕ → Type 0
IsFilled slots c = IsSome (known_at slots c)

-- one slot for each class, with what is known of the class or empty
pub record AreKnown (t : ClassTable) (methods : List MethodRec) (slots : List (Option VisibleBodies)) : Type 0 where
  pub count : length slots ≡ length t.records
  pub right : (c : ℕ) → IfSome (known_at slots c) (IsKnownOf t methods c)

-- the slot of a class was filled, and what was filled before stays so
pub record IsFilledOnce (t : ClassTable) (methods : List MethodRec) (old new : List (Option VisibleBodies)) (c : ℕ) : Type 0 where
  pub slots : AreKnown t methods new
  pub keeps : (d : ℕ) → IsFilled old d → IsFilled new d
  pub filled : IsFilled new c

-- each class below a number has its slot filled
pub record AreFilledBelow (t : ClassTable) (methods : List MethodRec) (slots : List (Option VisibleBodies)) (n : ℕ) : Type 0 where
  pub slots_known : AreKnown t methods slots
  pub filled : (c : ℕ) → c < n → IsClass t c → IsFilled slots c

-- classes, the highest first, of which each is the superclass of the next, from below `above` down to c
abbrev pub LeadsDown : ClassTable → ℕ → Option ℕ → List ℕ → Type 0
LeadsDown t c above [] = above ≡ Some c
LeadsDown t c above (x ∷ xs) = IsClass t x × (parent_of t x ≡ above) × LeadsDown t c (Some x) xs

-- the classes from c up to the one below `above`, whose slot is filled, or to the end of the chain
pub record IsClimb (t : ClassTable) (slots : List (Option VisibleBodies)) (c : ℕ) (path : List ℕ) : Type 0 where
  pub above : Option ℕ
  pub leads : LeadsDown t c above (reverse path)
  pub made : IfSome above (IsFilled slots)
