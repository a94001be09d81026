-- The class table of classes of which nothing is at fault.
use Rattle.std.proofs.Common.{◌≡◌, ℕ, zero, suc, ◌+◌, ◌<◌, ◌≤◌, Bool, take, get_or, List, [], length, flat_map, Some, None}
use Rattle.std.proofs.Common.{Result, Ok, Err, refl, sym, ap, subst, ◌∙◌, arith}
use Rattle.std.specs.Prelude.{slice_get, nat_lt}
use Rattle.std.specs.List.{range_with_len}
use Rattle.std.proofs.lemmas.Bool.{ltb-false}
use Rattle.std.proofs.lemmas.List.{take_all}
use Rattle.jc_base.specs.declared.record.MethodRec.{MethodRec}
use Rattle.jc_base.specs.declared.record.ClassRec.{ClassRec}
use Rattle.jc_base.specs.Class.{ClassTable, AreClasses}
use Rattle.jc_resolve.specs.declared.fault.LinkFault.{LinkFault}
use Rattle.jc_resolve.specs.declared.fault.LinkEnd.{LinkEnd}
use Rattle.jc_resolve.specs.Due.{IsDue}
use Rattle.jc_resolve.specs.declared.naming.NamedClass.{NamedClass}
use Rattle.jc_resolve.specs.Fault.{link_place}
use Rattle.first_fault.specs.Least.{◌>>=◌}
use Rattle.first_fault.specs.First.{IsFirst, AllEmpty}
use Rattle.jc_resolve.proofs.Faultless.{faultless_at}
use Rattle.first_fault.proofs.FirstTold.{IsTold, things-told, refused-first, accepted-empty}
use Rattle.jc_classes.specs.declared.overlay.ClassLayout.{ClassLayout}
use Rattle.jc_classes.specs.Outline.{LineTable, AreLines, outline}
use Rattle.jc_classes.specs.Layout.{instance_cells, layouts}
use Rattle.jc_classes.specs.TableConditions.{long_fault}
use Rattle.jc_classes.specs.TableConditions.{long_instances, conditions}
use Rattle.jc_classes.specs.Tables.{records_from, class_tables, classes_agree, tables_of, TellsTableEnd}
use Rattle.jc_classes.proofs.Folds.{cells_are, layouts_count}
use Rattle.jc_classes.proofs.ClassLines.{IsOutline, tables-classes, records-length}

-- ---- no instance is too long

pub slice_get-numbers : (a n c : ℕ) → c < n → slice_get (range_with_len a n) c ≡ Some (a + c)
slice_get-numbers a zero c h = absurd (omega arith)
slice_get-numbers a (suc n) zero h = let same : a ≡ a + 0 = omega arith in ap Some same
slice_get-numbers a (suc n) (suc c) h = grind (arith, suc, slice_get-numbers (a + 1) n c (omega arith))

within_by : (t : LineTable) (classes : List NamedClass) (c : ℕ) (b : Bool) → nat_lt 32767 (instance_cells t classes c) ≡ b
    → long_fault t classes c ≡ None → instance_cells t classes c ≤ 32767
unfolding long_fault
within_by t classes c u e h = grind (arith, ltb-false)

pub cells_short : (t : LineTable) (classes : List NamedClass) (c : ℕ) → long_instances t classes ≡ [] → c < length classes
    → instance_cells t classes c ≤ 32767
cells_short t classes c none h = grind (arith, slice_get-numbers 0 (length classes) c h, within_by, faultless_at)

pub layout_cells_short : (t : LineTable) (classes : List NamedClass) (all : List ClassLayout) (c : ℕ) (l : ClassLayout) → all ≡ layouts t classes
    → long_instances t classes ≡ [] → c < length classes → l ≡ get_or all c l → l.cells ≤ 32767
layout_cells_short t classes all c l e none h at = rw (cells_are t classes all c l e h at) (cells_short t classes c none h)

pub least_of_records : (t : LineTable) (classes : List NamedClass) (n : ℕ) (records : List ClassRec) → length classes ≤ n
    → records ≡ take n (records_from t classes 0 classes) → records ≡ records_from t classes 0 classes
least_of_records t classes n records h e = e ∙ take_all n (records_from t classes 0 classes) (omega (arith, records-length t classes classes 0))

pub table_classes : (t : LineTable) (classes : List NamedClass) (records : List ClassRec) → t ≡ outline classes t.roles → AreLines t
    → records ≡ records_from t classes 0 classes → AreClasses (record { records = records; roles = t.roles })
table_classes t classes records o are e =
    let outlined : IsOutline t classes = record { is = o } in
    subst (λ (rs : List ClassRec). AreClasses (record { records = rs; roles = t.roles })) (sym e) (tables-classes t classes outlined are)

pub ruleset building = (layouts_count)

-- ---- the conditions one after the other

pub agree-told : (t : LineTable) (classes : List NamedClass) (methods : List MethodRec)
    → IsTold link_place (classes_agree t classes methods) (conditions t classes methods)
unfolding classes_agree
agree-told t classes methods = grind (arith, things-told, flat_map)

pub told_first : (t : LineTable) (classes : List NamedClass) (methods : List MethodRec) (f : LinkFault) → Err f ≡ classes_agree t classes methods
    → IsFirst link_place (conditions t classes methods) f
told_first t classes methods f e = refused-first link_place (conditions t classes methods) f (sym (agree-told t classes methods).same ∙ sym e)

pub told_empty : (t : LineTable) (classes : List NamedClass) (methods : List MethodRec) → Ok (tt {0}) ≡ classes_agree t classes methods
    → AllEmpty (conditions t classes methods)
told_empty t classes methods e = accepted-empty link_place (conditions t classes methods) (sym (agree-told t classes methods).same ∙ sym e)

told-by : (t : LineTable) (classes : List NamedClass) (methods : List MethodRec) (s : Result (Unit {0}) LinkFault) (r : Result ClassTable LinkEnd)
    → classes_agree t classes methods ≡ s → IsDue (s >>= λ _. Ok (class_tables t classes)) r → TellsTableEnd t classes methods r
told-by t classes methods u v e due = grind (arith, told_empty, told_first)

-- the answer that is due tells the table, or the first condition that is broken
pub due-tells : (t : LineTable) (classes : List NamedClass) (methods : List MethodRec) (r : Result ClassTable LinkEnd)
    → IsDue (tables_of t classes methods) r → TellsTableEnd t classes methods r
unfolding tables_of
due-tells t classes methods r due = told-by t classes methods (classes_agree t classes methods) r refl due

pub told_short : (t : LineTable) (classes : List NamedClass) (methods : List MethodRec) → Ok (tt {0}) ≡ classes_agree t classes methods
    → long_instances t classes ≡ []
told_short t classes methods e = none_long (told_empty t classes methods e)
  where
    none_long : AllEmpty (conditions t classes methods) → long_instances t classes ≡ []
    none_long (holes, (overrides, (unserved, (long, done)))) = long

-- what is asked one after the other is granted where each is
pub all_granted : (a b c d : Result (Unit {0}) LinkFault) → a ≡ Ok (tt {0}) → b ≡ Ok (tt {0}) → c ≡ Ok (tt {0}) → d ≡ Ok (tt {0})
    → Ok (tt {0}) ≡ (a >>= λ _. (b >>= λ _. (c >>= λ _. d)))
all_granted a b c d ea eb ec ed = rw (ea, eb, ec, ed) refl

pub ruleset telling = (told_first, told_empty, told_short, layouts_count)
