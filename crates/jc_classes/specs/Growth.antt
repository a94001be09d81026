-- What a class adds to the dispatch list of its superclass (JCVM 2.2, section 4.3.7.6).
use Rattle.std.specs.Prelude.{◌≡◌, ℕ, ◌<◌, ◌==◌, ◌&&◌, ◌⊎◌, not, Bool, true, false, List, length, Option, Some}
use Rattle.std.specs.Prelude.{None, slice_index_or}
use Rattle.jc_base.specs.declared.record.MethodRec.{MethodRec}
use Rattle.jc_classes.specs.Outline.{LineTable}
use Rattle.jc_resolve.specs.declared.naming.NamedClass.{NamedClass}
use Rattle.jc_classes.specs.Layout.{public_entries, visible_entries}
use Rattle.jc_classes.specs.Signatures.{entry_method}
use Rattle.jc_classes.specs.TableConditions.{layout_above, visible_above}

-- whether a method is of the class itself, not static, and no constructor
abbrev pub own_by : ℕ → Option MethodRec → Bool
own_by c None = false
own_by c (Some m) = (m.class == c) && (not m.is_static && not m.is_init)

abbrev pub is_own : List MethodRec → ℕ → Option ℕ → Bool
is_own methods c entry = own_by c (entry_method methods entry)

-- each entry of a list is inherited as it is, or has such a method
pub record AddsOwn (methods : List MethodRec) (c : ℕ) (inherited list : List (Option ℕ)) : Type 0 where
  pub each : (k : ℕ) → k < length list
      → ((k < length inherited) × (slice_index_or list k None ≡ slice_index_or inherited k None))
      ⊎ (is_own methods c (slice_index_or list k None) ≡ true)

-- a class that adds methods of its own alone to both of its dispatch lists
pub record GrowsLists (t : LineTable) (classes : List NamedClass) (methods : List MethodRec) (c : ℕ) : Type 0 where
  pub public : AddsOwn methods c (layout_above t classes c).public (public_entries t classes c)
  pub visible : AddsOwn methods c (visible_above t classes c) (visible_entries t classes c)
