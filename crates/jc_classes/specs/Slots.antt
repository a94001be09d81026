-- The layouts of classes while they are made: a superclass's comes before its subclass's, whatever their numbers.
use Rattle.std.specs.Prelude.{◌≡◌, ℕ, ◌≤◌, ◌<◌, ◌++◌, List, length, Option, Some, IfSome, IsSome, slice_get}
use Rattle.std.specs.Option.{option_flatten}
use Rattle.jc_base.specs.Class.{list_of}
use Rattle.jc_classes.specs.Outline.{LineTable, chain}
use Rattle.jc_resolve.specs.declared.naming.NamedClass.{NamedClass}
use Rattle.jc_classes.specs.declared.overlay.ClassLayout.{ClassLayout}
use Rattle.jc_classes.specs.Layout.{class_layout}

-- the layout in the slot of a class
unfoldable pub slot_at : List (Option ClassLayout) → ℕ → Option ClassLayout
slot_at slots c = option_flatten (slice_get slots c)

-- the layout of a class is in its slot
abbrev pub IsFilled : LineTable → List NamedClass → List (Option ClassLayout) → ℕ → Type 0
IsFilled t classes slots c = slot_at slots c ≡ Some (class_layout t classes c)

-- one slot for each class, with the layout of the class or empty
pub record AreLayouts (t : LineTable) (classes : List NamedClass) (slots : List (Option ClassLayout)) : Type 0 where
  pub count : length slots ≡ length classes
  pub right : (c : ℕ) → IfSome (slot_at slots c) (λ l. l ≡ class_layout t classes c)

-- what is filled stays so
pub record KeepsFilled (t : LineTable) (classes : List NamedClass) (old new : List (Option ClassLayout)) : Type 0 where
  pub filled : (c : ℕ) → IsFilled t classes old c → IsFilled t classes new c

-- the classes from a class up to the one below `above`, whose slot is filled, or to the end of the chain
pub record IsClimb (t : LineTable) (slots : List (Option ClassLayout)) (c : ℕ) (path : List ℕ) (above : Option ℕ) : Type 0 where
  pub whole : path ++ list_of (chain t) above ≡ chain t c
  pub made : IfSome above (λ p. IsSome (slot_at slots p))
  pub known : IfSome above (λ p. p < length t.lines)

-- the layout of a class was made, and what was made before it stays
pub record IsMade (t : LineTable) (classes : List NamedClass) (old new : List (Option ClassLayout)) (c : ℕ) : Type 0 where
  pub slots : AreLayouts t classes new
  pub keeps : KeepsFilled t classes old new
  pub filled : IsFilled t classes new c

-- dispatch lists that are no longer than byte tables can make them
pub record HasShortLists (l : ClassLayout) : Type 0 where
  pub public : length l.public ≤ 510
  pub visible : length l.visible ≤ 510
