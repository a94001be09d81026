-- The lists of a class by those of its superclass.
use Rattle.std.proofs.Common.{◌≡◌, ℕ, ◌+◌, Bool, true, false, eqb-true, List, [], ◌∷◌}
use Rattle.std.proofs.Common.{length, map, sum_by, Option, Some, None, refl, sym, ap, arith}
use Rattle.std.proofs.Common.{◌∙◌}
use Rattle.std.specs.Prelude.{slice_get, ◌==◌, if◌then◌else◌}
use Rattle.std.specs.Option.{option_map}
use Rattle.std.specs.List.{take_while}
use Rattle.std.proofs.lemmas.List.Sums.{take_while-cons, sum_by-cons}
use Rattle.std.proofs.lemmas.Bool.{eq-eqb}
use Rattle.jc_base.specs.Class.{list_of}
use Rattle.jc_classes.specs.Outline.{LineTable, chain, package_of}
use Rattle.jc_classes.proofs.Bare.{chain-front}
use Rattle.jc_resolve.specs.declared.naming.NamedClass.{NamedClass}
use Rattle.jc_resolve.specs.declared.naming.DispatchTable.{DispatchTable}
use Rattle.jc_classes.specs.declared.overlay.ClassLayout.{ClassLayout}
use Rattle.jc_classes.specs.Entries.{dispatch_list, overlaid}
use Rattle.jc_classes.specs.Layout.{public_table, visible_table, own_of, home_run}
use Rattle.jc_classes.specs.Layout.{public_entries, visible_entries, instance_cells, class_layout}
use Rattle.jc_classes.specs.Layout.{class_layout_from, above_or_nothing, at_home}
use Rattle.jc_classes.proofs.Overlays.{overlaid-is}

abbrev pub above_of : LineTable → List NamedClass → Option ℕ → ClassLayout
above_of t classes above = above_or_nothing (option_map (class_layout t classes) above)

public_above : (t : LineTable) (classes : List NamedClass) (above : Option ℕ) → dispatch_list (map (public_table classes) (list_of (chain t) above))
    ≡ (above_of t classes above).public
unfolding dispatch_list class_layout public_entries
public_above t classes z = grind (arith)

cells_above : (t : LineTable) (classes : List NamedClass) (above : Option ℕ) → sum_by (λ a. length (own_of classes a)) (list_of (chain t) above)
    ≡ (above_of t classes above).cells
unfolding class_layout instance_cells
cells_above t classes None = refl
cells_above t classes (Some p) = refl

pub public_step : (t : LineTable) (classes : List NamedClass) (c : ℕ) (above : Option ℕ) (k : NamedClass)
    → chain t c ≡ c ∷ list_of (chain t) above → slice_get classes c ≡ Some k
    → public_entries t classes c ≡ overlaid k.public (above_of t classes above).public
unfolding public_entries public_table
public_step t classes c above k chains e =
    let table : public_table classes c ≡ k.public = rw e refl in
    ap (λ (cs : List ℕ). dispatch_list (map (public_table classes) cs)) chains
    ∙ sym (overlaid-is (public_table classes c) (map (public_table classes) (list_of (chain t) above)))
    ∙ ap (λ (x : DispatchTable). overlaid x (dispatch_list (map (public_table classes) (list_of (chain t) above)))) table
    ∙ ap (overlaid k.public) (public_above t classes above)

pub cells_step : (t : LineTable) (classes : List NamedClass) (c : ℕ) (above : Option ℕ) (k : NamedClass) → chain t c ≡ c ∷ list_of (chain t) above
    → slice_get classes c ≡ Some k
    → instance_cells t classes c ≡ length k.own + (above_of t classes above).cells
unfolding instance_cells own_of
cells_step t classes c above k chains e =
    let own : length (own_of classes c) ≡ length k.own = rw e refl in
    ap (sum_by (λ a. length (own_of classes a))) chains
    ∙ sum_by-cons (λ a. length (own_of classes a)) c (list_of (chain t) above)
    ∙ ap (λ (n : ℕ). n + sum_by (λ a. length (own_of classes a)) (list_of (chain t) above)) own
    ∙ ap (λ (n : ℕ). length k.own + n) (cells_above t classes above)

-- the run of the chain in the package begins with the class
run_step : (t : LineTable) (c : ℕ) (rest : List ℕ) → chain t c ≡ c ∷ rest
    → home_run t c ≡ c ∷ take_while (λ a. package_of t a == package_of t c) rest
unfolding home_run
run_step t c rest e = grind (arith, take_while-cons, eq-eqb)

same_home : (t : LineTable) (p c : ℕ) → package_of t p ≡ package_of t c → take_while (λ a. package_of t a == package_of t c) (chain t p)
    ≡ home_run t p
unfolding home_run
same_home t p c e = ap (λ (home : ℕ). take_while (λ a. package_of t a == home) (chain t p)) (sym e)

other_home : (t : LineTable) (p c : ℕ) → (package_of t p == package_of t c) ≡ false
    → take_while (λ a. package_of t a == package_of t c) (chain t p) ≡ []
other_home t p c e = grind (arith, chain-front t p, take_while-cons)

visible_by : (t : LineTable) (classes : List NamedClass) (p c : ℕ) (home : Bool) → (package_of t p == package_of t c) ≡ home
    → dispatch_list (map (visible_table classes) (take_while (λ a. package_of t a == package_of t c) (chain t p)))
    ≡ (if home then visible_entries t classes p else [])
unfolding visible_entries dispatch_list
visible_by t classes p c true e =
    ap (λ (cs : List ℕ). dispatch_list (map (visible_table classes) cs)) (same_home t p c (eqb-true (package_of t p) (package_of t c) e))
visible_by t classes p c false e = ap (λ (cs : List ℕ). dispatch_list (map (visible_table classes) cs)) (other_home t p c e)

visible_above : (t : LineTable) (classes : List NamedClass) (c : ℕ) (above : Option ℕ)
    → dispatch_list (map (visible_table classes) (take_while (λ a. package_of t a == package_of t c) (list_of (chain t) above)))
    ≡ (if at_home t above c then (above_of t classes above).visible else [])
unfolding dispatch_list class_layout at_home
visible_above t classes c None = refl
visible_above t classes c (Some p) = visible_by t classes p c (package_of t p == package_of t c) refl

pub visible_step : (t : LineTable) (classes : List NamedClass) (c : ℕ) (above : Option ℕ) (k : NamedClass)
    → chain t c ≡ c ∷ list_of (chain t) above → slice_get classes c ≡ Some k
    → visible_entries t classes c ≡ overlaid k.visible (if at_home t above c then (above_of t classes above).visible else [])
unfolding visible_entries visible_table
visible_step t classes c above k chains e =
    let table : visible_table classes c ≡ k.visible = rw e refl in
    let rest : List ℕ = take_while (λ a. package_of t a == package_of t c) (list_of (chain t) above) in
    ap (λ (cs : List ℕ). dispatch_list (map (visible_table classes) cs)) (run_step t c (list_of (chain t) above) chains)
    ∙ sym (overlaid-is (visible_table classes c) (map (visible_table classes) rest))
    ∙ ap (λ (x : DispatchTable). overlaid x (dispatch_list (map (visible_table classes) rest))) table
    ∙ ap (overlaid k.visible) (visible_above t classes c above)

-- what a class makes of its superclass's lists are its lists
pub layout_step : (t : LineTable) (classes : List NamedClass) (c : ℕ) (above : Option ℕ) (k : NamedClass)
    → chain t c ≡ c ∷ list_of (chain t) above → slice_get classes c ≡ Some k
    → class_layout t classes c ≡ class_layout_from k (above_or_nothing (option_map (class_layout t classes) above)) (at_home t above c)
unfolding class_layout class_layout_from
layout_step t classes c above k chains e = grind (arith, public_step, visible_step, cells_step)
