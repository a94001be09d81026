-- The dispatch lists and the instance cells of each class (JCVM 2.2, sections 4.3.7.6 and 6.8.2).
use Rattle.std.specs.Prelude.{ℕ, ◌+◌, Bool, false, ◌==◌, if◌then◌else◌, List, [], length, map, sum_by, Option, Some, None}
use Rattle.std.specs.Prelude.{slice_get}
use Rattle.std.specs.List.{range_with_len, take_while}
use Rattle.jc_resolve.specs.NamedClasses.{no_table}
use Rattle.jc_base.specs.declared.ty.Ty.{Ty}
use Rattle.jc_classes.specs.Outline.{LineTable, chain, package_of}
use Rattle.jc_resolve.specs.declared.naming.DispatchTable.{DispatchTable}
use Rattle.jc_resolve.specs.declared.naming.NamedClass.{NamedClass}
use Rattle.jc_classes.specs.declared.overlay.ClassLayout.{ClassLayout}
use Rattle.jc_classes.specs.Entries.{dispatch_list, overlaid}

-- what a function gives of the class of a number, and else a default
abbrev pub of_class : {A : Type 0} → A → (NamedClass → A) → Option NamedClass → A
of_class d f None = d
of_class d f (Some k) = f k

-- the dispatch tables and the types of the own cells of the class of a number
unfoldable pub public_table : List NamedClass → ℕ → DispatchTable
public_table classes c = of_class no_table (λ k. k.public) (slice_get classes c)

unfoldable pub visible_table : List NamedClass → ℕ → DispatchTable
visible_table classes c = of_class no_table (λ k. k.visible) (slice_get classes c)

unfoldable pub own_of : List NamedClass → ℕ → List Ty
own_of classes c = of_class [] (λ k. k.own) (slice_get classes c)

-- a class and its superclasses up to the last before one of another package
unfoldable pub home_run : LineTable → ℕ → List ℕ
home_run t c = take_while (λ a. package_of t a == package_of t c) (chain t c)

-- the public dispatch list of a class, by the tables of its superclasses
unfoldable pub public_entries : LineTable → List NamedClass → ℕ → List (Option ℕ)
public_entries t classes c = dispatch_list (map (public_table classes) (chain t c))

-- the package-visible dispatch list of a class: tokens of a package count for its own classes alone
unfoldable pub visible_entries : LineTable → List NamedClass → ℕ → List (Option ℕ)
visible_entries t classes c = dispatch_list (map (visible_table classes) (home_run t c))

-- how many cells an instance has: those of the superclasses and the class's own
unfoldable pub instance_cells : LineTable → List NamedClass → ℕ → ℕ
instance_cells t classes c = sum_by (λ a. length (own_of classes a)) (chain t c)

-- the lists and the number of cells of a class
unfoldable pub class_layout : LineTable → List NamedClass → ℕ → ClassLayout
class_layout t classes c = record {
  public = public_entries t classes c;
  visible = visible_entries t classes c;
  cells = instance_cells t classes c;
}

-- those of all classes, by number
abbrev pub layouts : LineTable → List NamedClass → List ClassLayout
layouts t classes = map (class_layout t classes) (range_with_len 0 (length classes))

-- ---- the same step by step: what a class makes of its superclass's lists

abbrev pub nothing_above : ClassLayout
nothing_above = record { public = []; visible = []; cells = 0 }

abbrev pub above_or_nothing : Option ClassLayout → ClassLayout
above_or_nothing None = nothing_above
above_or_nothing (Some up) = up

unfoldable pub class_layout_from : NamedClass → ClassLayout → Bool → ClassLayout
class_layout_from k up home = record {
  public = overlaid k.public up.public;
  visible = overlaid k.visible (if home then up.visible else []);
  cells = length k.own + up.cells;
}

-- whether the superclass, where there is one, is of the package of a class
unfoldable pub at_home : LineTable → Option ℕ → ℕ → Bool
at_home t None c = false
at_home t (Some p) c = package_of t p == package_of t c
