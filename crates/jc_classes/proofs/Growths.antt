-- A class that adds methods of its own to lists without open entries makes lists without open entries.
use Rattle.std.proofs.Common.{◌≡◌, ℕ, zero, suc, ◌+◌, ◌≤◌, ◌<◌, min, get_or, Bool, true, false, not, List, [], ◌∷◌, length}
use Rattle.std.proofs.Common.{flat_map, Option, Some, None, ◌⊎◌, refl, sym, ap, ◌∙◌, arith, inl, eqb-true}
use Rattle.std.specs.Prelude.{All, IfSome, is_some, ◌==◌, ◌||◌, if◌then◌else◌, filter_map, slice_get, option_map}
use Rattle.std.specs.List.{range_with_len, list_any}
use Rattle.std.proofs.lemmas.Bool.{cases_lt, false≢true, and_parts}
use Rattle.std.proofs.Math.Bool.{or-true}
use Rattle.jc_base.proofs.Lists.{All-slice_get}
use Rattle.jc_base.specs.declared.record.MethodRec.{MethodRec}
use Rattle.jc_base.specs.Class.{list_of}
use Rattle.jc_classes.specs.Outline.{LineTable, chain, is_on_chain, parent_of}
use Rattle.jc_classes.proofs.Bare.{on_chain-here}
use Rattle.first_fault.specs.Least.{lesser, least_from, least_of}
use Rattle.first_fault.proofs.LeastFaults.{least-at_fault, least-none}
use Rattle.jc_resolve.specs.declared.fault.LinkFault.{LinkFault}
use Rattle.jc_resolve.specs.declared.naming.DispatchTable.{DispatchTable}
use Rattle.jc_resolve.specs.declared.naming.NamedClass.{NamedClass}
use Rattle.jc_resolve.specs.Fault.{link_place}
use Rattle.jc_resolve.specs.Named.{IsSized}
use Rattle.jc_resolve.proofs.Faultless.{both_faultless}
use Rattle.jc_classes.specs.declared.overlay.ClassLayout.{ClassLayout}
use Rattle.jc_classes.specs.Entries.{reach, overlaid}
use Rattle.jc_classes.specs.Growth.{is_own, AddsOwn, GrowsLists}
use Rattle.jc_classes.specs.Layout.{above_or_nothing, at_home, class_layout, public_entries, visible_entries}
use Rattle.jc_classes.specs.Signatures.{entry_method}
use Rattle.jc_classes.specs.TableConditions.{entries_from, entries_in, hole_fault, may_stand, layout_above, visible_above}
use Rattle.jc_classes.proofs.FaultlessTables.{AllStand, all_stand, class_faultless}
use Rattle.jc_classes.proofs.Folds.{least_both}
use Rattle.jc_classes.proofs.Inherited.{IsOutside, kept, length-overlaid}
use Rattle.jc_classes.proofs.Steps.{public_step, visible_step}

-- ---- a list and what it is made of

pub public_made : (t : LineTable) (classes : List NamedClass) (c : ℕ) (above : Option ℕ) (k : NamedClass) (up : Option ClassLayout)
    → chain t c ≡ c ∷ list_of (chain t) above → slice_get classes c ≡ Some k → up ≡ option_map (class_layout t classes) above
    → public_entries t classes c ≡ overlaid k.public (above_or_nothing up).public
public_made t classes c above k up step at is = grind (arith, public_step)

pub visible_made : (t : LineTable) (classes : List NamedClass) (c : ℕ) (above : Option ℕ) (k : NamedClass) (up : Option ClassLayout)
    → chain t c ≡ c ∷ list_of (chain t) above → slice_get classes c ≡ Some k → up ≡ option_map (class_layout t classes) above
    → visible_entries t classes c ≡ overlaid k.visible (if at_home t above c then (above_or_nothing up).visible else [])
visible_made t classes c above k up step at is = grind (arith, visible_step)

pub class_sized : (classes : List NamedClass) (c : ℕ) (k : NamedClass) → All IsSized classes → slice_get classes c ≡ Some k → IsSized k
class_sized classes c k all at = All-slice_get IsSized classes c k all at

-- ---- entry by entry

-- outside the tokens of its table a list has what it inherits
pub kept_entry : (methods : List MethodRec) (c : ℕ) (table : DispatchTable) (inherited list : List (Option ℕ)) (k : ℕ)
    → list ≡ overlaid table inherited → IsOutside table k → k < length inherited
    → ((k < length inherited) × (get_or list k None ≡ get_or inherited k None)) ⊎ (is_own methods c (get_or list k None) ≡ true)
kept_entry methods c table inherited list k e out h = inl (h, ap (λ (xs : List (Option ℕ)). get_or xs k None) e ∙ kept table inherited k None out h)

-- what holds of each token from the first of the table up to its last
pub record AddsUpTo (methods : List MethodRec) (c first to : ℕ) (inherited list : List (Option ℕ)) : Type 0 where
  pub begun : first ≤ to
  pub each : (k : ℕ) → first ≤ k → k < to → k < length list
      → ((k < length inherited) × (get_or list k None ≡ get_or inherited k None)) ⊎ (is_own methods c (get_or list k None) ≡ true)

pub adds_all : (methods : List MethodRec) (c first to : ℕ) (table : DispatchTable) (inherited list : List (Option ℕ))
    → list ≡ overlaid table inherited → first ≡ min table.base (length inherited) → min (reach table) (length list) ≤ to
    → AddsUpTo methods c first to inherited list → AddsOwn methods c inherited list
adds_all methods c first to table inherited list e is past before = record {
  each = grind (arith, cases_lt, kept_entry, length-overlaid);
}

-- ---- entries that may stand in a list

on_above : (t : LineTable) (d c p : ℕ) → chain t c ≡ c ∷ chain t p → is_on_chain t d p ≡ true → is_on_chain t d c ≡ true
unfolding is_on_chain
on_above t d c p step on = ap (list_any (λ x. x == d)) step ∙ ap (λ (b : Bool). (c == d) || b) on ∙ or-true (c == d)

-- each entry of a list, by its token
pub record Stand (t : LineTable) (c : ℕ) (methods : List MethodRec) (list : List (Option ℕ)) : Type 0 where
  pub each : (k : ℕ) → k < length list → may_stand t c (entry_method methods (get_or list k None)) ≡ true

stand_at : (t : LineTable) (c : ℕ) (methods : List MethodRec) (list : List (Option ℕ)) (k : ℕ) → AllStand t c methods list → k < length list
    → may_stand t c (entry_method methods (get_or list k None)) ≡ true
stand_at t c methods [] k all h = absurd (omega arith)
stand_at t c methods (e ∷ es) zero all h = all.0
stand_at t c methods (e ∷ es) (suc k) all h = stand_at t c methods es k all.1 (omega arith)

-- those of a class by those of its superclass
grown_stand : (t : LineTable) (c : ℕ) (methods : List MethodRec) (inherited list : List (Option ℕ)) → Stand t c methods inherited
    → AddsOwn methods c inherited list → Stand t c methods list
grown_stand t c methods inherited list up adds = grind (arith, get_or, false≢true, not, eqb-true, and_parts, on_chain-here)

none_stand : (t : LineTable) (c : ℕ) (methods : List MethodRec) → Stand t c methods []
none_stand t c methods = record { each = λ k h. absurd (omega arith) }

seen_stand : (t : LineTable) (c p : ℕ) (methods : List MethodRec) (token : ℕ) (list : List (Option ℕ)) → chain t c ≡ c ∷ chain t p
    → filter_map (hole_fault t methods) (entries_from p token list) ≡ [] → Stand t c methods list
seen_stand t c p methods token list step none = grind (arith, get_or, stand_at, all_stand, false≢true, not, on_above, and_parts)

-- ---- the lists of the superclass

-- nothing is at fault in the lists of a class before
lists_seen : (t : LineTable) (classes : List NamedClass) (methods : List MethodRec) (n p : ℕ) (least : Option LinkFault) → least ≡ None
    → least ≡ least_of link_place (hole_fault t methods) (flat_map (entries_in t classes) (range_with_len 0 n)) → p < n
    → filter_map (hole_fault t methods) (entries_in t classes p) ≡ []
lists_seen t classes methods n p least none is h =
    let things = flat_map (entries_in t classes) (range_with_len 0 n) in
    class_faultless (hole_fault t methods) (entries_in t classes) n p
    (least-none link_place (filter_map (hole_fault t methods) things) (sym (least-at_fault link_place (hole_fault t methods) things None) ∙ sym is
    ∙ none)) h

public_above_stand : (t : LineTable) (classes : List NamedClass) (methods : List MethodRec) (c : ℕ) (above : Option ℕ)
    → IfSome above (λ p. filter_map (hole_fault t methods) (entries_in t classes p) ≡ []) → chain t c ≡ c ∷ list_of (chain t) above
    → Stand t c methods (above_or_nothing (option_map (class_layout t classes) above)).public
unfolding class_layout
public_above_stand t classes methods c v none step = grind (arith, none_stand, seen_stand, both_faultless)

visible_by : (t : LineTable) (c : ℕ) (methods : List MethodRec) (list : List (Option ℕ)) (home : Bool) → Stand t c methods list
    → Stand t c methods (if home then list else [])
visible_by t c methods list v all = grind (arith, none_stand)

visible_above_stand : (t : LineTable) (classes : List NamedClass) (methods : List MethodRec) (c : ℕ) (above : Option ℕ)
    → IfSome above (λ p. filter_map (hole_fault t methods) (entries_in t classes p) ≡ []) → chain t c ≡ c ∷ list_of (chain t) above
    → Stand t c methods (above_or_nothing (option_map (class_layout t classes) above)).visible
unfolding class_layout
visible_above_stand t classes methods c v none step = grind (arith, none_stand, seen_stand, both_faultless)

-- ---- no entry is open

no_hole : (t : LineTable) (methods : List MethodRec) (c token : ℕ) (m : Option ℕ) → may_stand t c (entry_method methods m) ≡ true
    → lesser link_place None (hole_fault t methods (record { class = c; token = token; method = m })) ≡ None
unfolding lesser hole_fault
no_hole t methods c token m e = rw e refl

no_holes : (t : LineTable) (methods : List MethodRec) (c token : ℕ) (list : List (Option ℕ))
    → ((k : ℕ) → k < length list → may_stand t c (entry_method methods (get_or list k None)) ≡ true)
    → least_from link_place None (hole_fault t methods) (entries_from c token list) ≡ None
no_holes t methods c token [] each = refl
no_holes t methods c token (m ∷ ms) each =
    ap (λ (o : Option LinkFault). least_from link_place o (hole_fault t methods) (entries_from c (token + 1) ms))
    (no_hole t methods c token m (each 0 (omega arith)))
    ∙ no_holes t methods c (token + 1) ms (λ k h. each (suc k) (omega arith))

seen_by : (t : LineTable) (classes : List NamedClass) (methods : List MethodRec) (c : ℕ) (above : Option ℕ)
    → ((p : ℕ) → p < c → filter_map (hole_fault t methods) (entries_in t classes p) ≡ []) → IfSome above (λ p. p < c)
    → IfSome above (λ p. filter_map (hole_fault t methods) (entries_in t classes p) ≡ [])
seen_by t classes methods c v each h = grind (arith)

none_if : (least : Option LinkFault) → is_some least ≡ false → least ≡ None
none_if x e = grind (arith, false≢true)

-- nothing is at fault in the lists of a class that grows
pub none_open : (t : LineTable) (classes : List NamedClass) (methods : List MethodRec) (c : ℕ) (least : Option LinkFault)
    → chain t c ≡ c ∷ list_of (chain t) (parent_of t c) → is_some least ≡ false
    → least ≡ least_of link_place (hole_fault t methods) (flat_map (entries_in t classes) (range_with_len 0 c)) → IfSome (parent_of t c) (λ p. p < c)
    → GrowsLists t classes methods c
    → None ≡ least_from link_place least (hole_fault t methods) (entries_in t classes c)
unfolding layout_above
none_open t classes methods c least step empty is after grows =
    let none = none_if least empty in
    let seen = seen_by t classes methods c (parent_of t c) (λ p h. lists_seen t classes methods c p least none is h) after in
    let public : Stand t c methods (public_entries t classes c) = grown_stand t c methods (layout_above t classes c).public (public_entries t classes c)
    (public_above_stand t classes methods c (parent_of t c) seen step) grows.public in
    let visible_up : Stand t c methods (visible_above t classes c) = visible_by t c methods (layout_above t classes c).visible (at_home t (parent_of t c) c)
    (visible_above_stand t classes methods c (parent_of t c) seen step) in
    let visible : Stand t c methods (visible_entries t classes c) = grown_stand t c methods (visible_above t classes c) (visible_entries t classes c)
    visible_up grows.visible in
    let fault = hole_fault t methods in
    sym (no_holes t methods c 128 (visible_entries t classes c) visible.each)
    ∙ ap (λ (o : Option LinkFault). least_from link_place o fault (entries_from c 128 (visible_entries t classes c)))
    (sym (no_holes t methods c 0 (public_entries t classes c) public.each))
    ∙ least_both fault (entries_from c 0 (public_entries t classes c)) (entries_from c 128 (visible_entries t classes c)) None
    ∙ ap (λ (o : Option LinkFault). least_from link_place o fault (entries_in t classes c)) (sym none)
