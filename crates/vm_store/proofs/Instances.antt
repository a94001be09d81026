-- The cells of a new instance, written class by class from its own up to those of object.
use Rattle.std.proofs.Common.{◌≡◌, ℕ, ◌+◌, ◌-◌, ◌<◌, ◌≤◌, List, [], ◌∷◌, ◌++◌, length, take, map, set, get_or, sym}
use Rattle.std.proofs.Common.{◌∙◌, ap, arith, length-take}
use Rattle.std.proofs.lemmas.List.{map-append, append_assoc, length-append, length-map, append-nil, map_more}
use Rattle.jc_base.specs.declared.ty.Ty.{Ty}
use Rattle.jc_base.specs.Class.{ClassTable, IsClass, IsNextOnChain, IsEndOfChain}
use Rattle.jc_base.specs.declared.record.ClassRec.{ClassRec}
use Rattle.jc_base.specs.Dispatch.{own_cells, cells_of, of_record}
use Rattle.std.specs.Prelude.{slice_get, Some}
use Rattle.jc_base.proofs.Dispatches.{cells-alone, cells-next}
use Rattle.vm_store.specs.Kind.{cell_kind}
use Rattle.vm_store.specs.Cells.{Cells, zero_cell}
use Rattle.vm_store.specs.Objects.{new_instance_cells}
use Rattle.vm_store.specs.Layout.{overwritten}
use Rattle.vm_store.proofs.Fills.{overwritten-before, overwritten-more, overwritten-nil}

abbrev pub zeros : {A : Type 0} → Cells A → List Ty → List A
zeros k types = map (λ ty. zero_cell k (cell_kind ty)) types

pub own_cells_is : (t : ClassTable) (c : ℕ) (r : ClassRec) → slice_get t.records c ≡ Some r → own_cells t c ≡ r.own
unfolding own_cells
own_cells_is t c r e = ap (of_record [] (λ x. x.own)) e

-- one cell more
pub zeros-more :
    {A : Type 0} (k : Cells A) (old cells : List A) (types : List Ty) (from n : ℕ) (v : A) (d : Ty)
    → cells ≡ overwritten old from (zeros k (take n types)) → n < length types → from + length types ≤ length old
    → v ≡ zero_cell k (cell_kind (get_or types n d)) → set cells (from + n) v ≡ overwritten old from (zeros k (take (n + 1) types))
zeros-more {A} k old cells types from n v d e lt room is =
    let f : Ty → A = λ ty. zero_cell k (cell_kind ty) in
    let len : length (zeros k (take n types)) ≡ n = length-map (take n types) f ∙ (omega (arith, length-take n types)) in
    ap (λ zs. set zs (from + n) v) e
    ∙ (overwritten-more old (zeros k (take n types)) from (from + n) v (ap (λ i. from + i) (sym len)) (omega arith)
    ∙ (ap (λ w. overwritten old from (zeros k (take n types) ++ w ∷ [])) is
    ∙ ap (overwritten old from) (sym (map_more f types n d lt))))

-- of the cells of class c those are written that its superclass `at` lacks, and `at` is still to be written
pub record IsFilledAbove {A : Type 0} (k : Cells A) (t : ClassTable) (old : List A) (from c at : ℕ) (cells : List A) : Type 0 where
  pub class : IsClass t at
  pub written : List A
  pub split : new_instance_cells k t c ≡ new_instance_cells k t at ++ written
  pub cells_are : cells ≡ overwritten old (from + length (cells_of t at)) written

pub filled-nothing : {A : Type 0} (k : Cells A) (t : ClassTable) (old : List A) (from c : ℕ) → IsClass t c → IsFilledAbove k t old from c c old
filled-nothing k t old from c class = grind (arith, append-nil, overwritten-nil, length)

-- the cells of `at` have room where those of c have
pub fits-above :
    {A : Type 0} (k : Cells A) (t : ClassTable) (old cells : List A) (from c at : ℕ)
    → IsFilledAbove k t old from c at cells → from + length (cells_of t c) ≤ length old → from + length (cells_of t at) ≤ length old
fits-above {A} k t old cells from c at filled room = grind (arith, length, length-map, length-append)

module _ {A : Type 0} (k : Cells A) (t : ClassTable) (old cells now : List A) (from c at place : ℕ) (filled : IsFilledAbove k t old from c at cells)
    (own : List Ty) (own_is : own_cells t at ≡ own)
    (written : now ≡ overwritten cells place (zeros k own))
  where
    -- the own cells of the class, before those that are written
    more :
        (above : List Ty) → cells_of t at ≡ above ++ own → place ≡ from + length above → from + length (cells_of t at) ≤ length old
        → now ≡ overwritten old (from + length above) (zeros k own ++ filled.written)
    more above e at_place room =
        let len : length (cells_of t at) ≡ length above + length own = ap length e ∙ length-append above own in
        let next : from + length (cells_of t at) ≡ place + length (zeros k own) = omega (arith, len, length-map own (λ ty. zero_cell k (cell_kind ty))) in
        written
        ∙ (ap (λ zs. overwritten zs place (zeros k own)) filled.cells_are
        ∙ (overwritten-before old (zeros k own) filled.written place (from + length (cells_of t at)) next room
        ∙ ap (λ n. overwritten old n (zeros k own ++ filled.written)) at_place))

    parts : (above : List Ty) → cells_of t at ≡ above ++ own → new_instance_cells k t c ≡ zeros k above ++ (zeros k own ++ filled.written)
    parts above e = grind (arith, map-append, append_assoc)

    pub filled-next :
        (p : ℕ) → IsNextOnChain t at p → place ≡ from + (length (cells_of t at) - length own) → from + length (cells_of t at) ≤ length old
        → IsFilledAbove k t old from c p now
    filled-next p next at_place room =
        let e : cells_of t at ≡ cells_of t p ++ own = cells-next t at p next ∙ ap (λ ts. cells_of t p ++ ts) own_is in
        let len : length (cells_of t at) ≡ length (cells_of t p) + length own = ap length e ∙ length-append (cells_of t p) own in
        record {
          class = next.class;
          written = zeros k own ++ filled.written;
          split = parts (cells_of t p) e;
          cells_are = more (cells_of t p) e (omega (arith, at_place, len)) room;
        }

    pub filled-whole :
        IsEndOfChain t at → place ≡ from + (length (cells_of t at) - length own) → from + length (cells_of t at) ≤ length old
        → now ≡ overwritten old from (new_instance_cells k t c)
    filled-whole end at_place room =
        let e : cells_of t at ≡ [] ++ own = cells-alone t at end.chain_is ∙ own_is in
        let len : length (cells_of t at) ≡ length own = ap length e in
        let here : from + 0 ≡ from = omega arith in
        more [] e (omega (arith, at_place, len)) room
        ∙ (ap (λ n. overwritten old n (zeros k own ++ filled.written)) here
        ∙ ap (overwritten old from) (sym (parts [] e)))
