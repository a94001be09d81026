-- A frame that catches an object, and an exception of which an object is made.
use Rattle.std.proofs.Common.{◌≡◌, ℕ, ◌+◌, Bool, true, false, ◌&&◌, if◌then◌else◌, List, ◌∷◌, length, refl, ap, [], ◌++◌, map, sym, ◌∙◌, subst}
use Rattle.std.specs.Prelude.{nat_lt, slice_index, nat_le, sum_by}
use Rattle.jc_base.specs.declared.record.Handler.{Handler}
use Rattle.jc_base.specs.Class.{ClassTable}
use Rattle.jc_base.specs.Dispatch.{cells_of}
use Rattle.jc_base.specs.World.{Linked}
use Rattle.vm_store.specs.declared.cell.Cell.{Cell}
use Rattle.vm_store.specs.declared.cell.ObjectKind.TheVariants.{Instance}
use Rattle.vm_store.specs.Cells.{tagged}
use Rattle.vm_store.specs.State.{Frame, State, Object}
use Rattle.vm_store.specs.Objects.{has_room, new_instance_cells, with_object, kinds}
use Rattle.vm_step.specs.declared.ending.Ending.TheVariants as endings
use Rattle.vm_step.specs.declared.ending.Fault.TheVariants.{StackFault}
use Rattle.vm_step.specs.declared.ending.Plain.TheVariants.{HeapFull}
use Rattle.vm_step.specs.declared.ending.Exception.{Exception}
use Rattle.vm_step.specs.Act.{role_of}
use Rattle.vm_step.specs.Methods.{max_stack_of}
use Rattle.vm_step.specs.Raising.{Outcome, running, ends, caught, caught_by, thrown, unwound, raised}
use Rattle.law_sound.specs.Frames.{Typings}
use Rattle.law_sound.specs.Soundness.{IsTypedOutcome}
use Rattle.law_sound.specs.State.{IsTypedState}
use Rattle.vm_store.specs.Kind.{kind_of_handle}
use Rattle.vm_step.specs.Calls.{class_with_methods, class_of}

module _ (v : Linked) (handle : ℕ) (s : State Cell) (h : Handler) (f : Frame Cell) (fs : List (Frame Cell)) where
  abbrev catching : State Cell
  catching = record s { frames = caught tagged h handle f ∷ fs }

  pub record IsCaughtIn (typings : Typings) : Type 0 where
    pub room : nat_lt (max_stack_of v f.method) 1 ≡ false
    pub goes : caught_by tagged v h handle s f fs ≡ running catching
    pub typed : IsTypedState v typings catching

  pub caught-in : (typings : Typings) → IsTypedOutcome v typings (caught_by tagged v h handle s f fs) → IsCaughtIn typings
  caught-in typings safe = go (nat_lt (max_stack_of v f.method) 1) refl safe
    where
      go : (b : Bool) → nat_lt (max_stack_of v f.method) 1 ≡ b
          → IsTypedOutcome v typings (if true && b then ends (endings.Faulted StackFault) s else running catching) → IsCaughtIn typings
      go true e h = absurd h
      go false e typed =
          record {
            room = e;
            goes = ap (λ b. if true && b then ends (endings.Faulted StackFault) s else running catching) e;
            typed = typed;
          }

  pub also-caught : nat_lt (max_stack_of v f.method) 1 ≡ false → caught_by tagged v h handle s f fs ≡ running catching
  also-caught e = ap (λ b. if true && b then ends (endings.Faulted StackFault) s else running catching) e

abbrev pub raised_by : Linked → ClassTable → Exception → State Cell → Outcome Cell
raised_by x t e s =
    if has_room s (length (cells_of t (slice_index t.roles (role_of e))))
    then thrown tagged x (length s.heap + 1)
    (with_object s (Instance (slice_index t.roles (role_of e))) (new_instance_cells tagged t (slice_index t.roles (role_of e))))
    else ends (endings.Plain HeapFull) s

-- where frames unwind alike, an object that is thrown, and one that is made of an exception, come to the same
module _ (v w : Linked) (same : v.classes ≡ w.classes) (Alike : Outcome Cell → Outcome Cell → Type 0) (fs gs : List (Frame Cell))
    (unwinds : (class handle : ℕ) (z u : State Cell) → u.heap ≡ z.heap → u.statics ≡ z.statics
    → Alike (unwound tagged v class handle z fs) (unwound tagged w class handle u gs))
    (full : (z u : State Cell) → u.heap ≡ z.heap → u.statics ≡ z.statics → Alike (ends (endings.Plain HeapFull) z) (ends (endings.Plain HeapFull) u))
  where
    pub throws-alike :
        (handle : ℕ) (z u : State Cell) → z.frames ≡ fs → u.frames ≡ gs → u.heap ≡ z.heap → u.statics ≡ z.statics
        → Alike (thrown tagged v handle z) (thrown tagged w handle u)
    throws-alike handle z u first second heap statics =
        let class : ℕ = class_of v.classes z handle in
        let classes : class_of w.classes u handle ≡ class =
        ap (λ (os : List (Object Cell)). class_with_methods w.classes (kind_of_handle (map (λ (o : Object Cell). o.kind) os) handle)) heap
        ∙ ap (λ (t : ClassTable). class_with_methods t (kind_of_handle (kinds z) handle)) (sym same) in
        let here : thrown tagged v handle z ≡ unwound tagged v class handle z fs = ap (unwound tagged v class handle z) first in
        let there : thrown tagged w handle u ≡ unwound tagged w class handle u gs =
        ap (λ c. unwound tagged w c handle u u.frames) classes ∙ ap (unwound tagged w class handle u) second in
        subst (λ o. Alike o (thrown tagged w handle u)) (sym here)
        (subst (Alike (unwound tagged v class handle z fs)) (sym there) (unwinds class handle z u heap statics))

    module _ (exception : Exception) (z u : State Cell) (first : z.frames ≡ fs) (second : u.frames ≡ gs) (heap : u.heap ≡ z.heap)
        (statics : u.statics ≡ z.statics) where
      abbrev class_raised : ℕ
      class_raised = slice_index v.classes.roles (role_of exception)

      abbrev made : State Cell → State Cell
      made s = with_object s (Instance class_raised) (new_instance_cells tagged v.classes class_raised)

      raised-by :
          (b : Bool)
          → Alike (if b then thrown tagged v (length z.heap + 1) (made z) else ends (endings.Plain HeapFull) z)
          (if b then thrown tagged w (length u.heap + 1) (made u) else ends (endings.Plain HeapFull) u)
      raised-by true =
          subst (λ n. Alike (thrown tagged v (length z.heap + 1) (made z)) (thrown tagged w n (made u)))
          (ap (λ (os : List (Object Cell)). length os + 1) (sym heap))
          (throws-alike (length z.heap + 1) (made z) (made u) first second
          (ap (λ (os : List (Object Cell)). os ++ record { kind = Instance class_raised; cells = new_instance_cells tagged v.classes class_raised } ∷ [])
          heap) statics)
      raised-by false = full z u heap statics

      pub raises-alike : Alike (raised tagged v exception z) (raised tagged w exception u)
      raises-alike =
          let size : ℕ = length (cells_of v.classes class_raised) in
          let classes : raised_by w w.classes exception u ≡ raised_by w v.classes exception u =
          ap (λ (t : ClassTable). raised_by w t exception u) (sym same) in
          let room : has_room u size ≡ has_room z size =
          ap (λ (os : List (Object Cell)). nat_lt (length os) 4096 && nat_le (sum_by (λ (o : Object Cell). length o.cells) os + size) 32768) heap in
          let other : raised tagged w exception u
          ≡ (if has_room z size then thrown tagged w (length u.heap + 1) (made u) else ends (endings.Plain HeapFull) u) =
          classes ∙ ap (λ b. if b then thrown tagged w (length u.heap + 1) (made u) else ends (endings.Plain HeapFull) u) room in
          subst (Alike (raised tagged v exception z)) (sym other) (raised-by (has_room z size))
