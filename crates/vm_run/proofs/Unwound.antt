-- An object that is thrown over frames, whatever frames the state has besides.
use Rattle.std.proofs.Common.{◌≡◌, ◌<◌, ◌+◌, ℕ, List, [], ◌∷◌, ◌++◌, length, true, refl, sym, ap, ◌∙◌, arith, add-one}
use Rattle.std.specs.Prelude.{Option, None, slice_index, if◌then◌else◌, option_map}
use Rattle.std.proofs.lemmas.Option.{slice_get-map}
use Rattle.jc_base.specs.declared.record.Handler.{Handler}
use Rattle.jc_base.specs.Class.{ClassTable}
use Rattle.jc_base.specs.Dispatch.{cells_of}
use Rattle.jc_base.specs.World.{Linked}
use Rattle.jc_base.proofs.Lists.{slice_get-farther}
use Rattle.vm_store.specs.declared.cell.ObjectKind.TheVariants.{Instance}
use Rattle.vm_store.specs.Cells.{Cells}
use Rattle.vm_store.specs.State.{Frame, State, Object, IsRunning, top, first_frame, other_frames, without_top}
use Rattle.vm_store.specs.Objects.{has_room, new_instance_cells, with_object}
use Rattle.vm_step.specs.declared.ending.Exception.{Exception}
use Rattle.vm_step.specs.declared.ending.Plain.TheVariants.{HeapFull}
use Rattle.vm_step.specs.declared.ending.Ending.TheVariants.{Plain}
use Rattle.vm_step.specs.Act.{role_of}
use Rattle.vm_step.specs.Calls.{class_with_methods, class_of}
use Rattle.vm_step.specs.Raising.{Outcome, ends, handler_for, caught_or, unwound, thrown, raised}

module _ {A : Type 0} (k : Cells A) (w : Linked) (class n : ℕ) where
  by-handler : (s : State A) (gs : List (Frame A)) (f : Frame A) (fs : List (Frame A)) (x y : Outcome A) (o : Option Handler)
      → x ≡ y → caught_or k w n (record s { frames = gs }) f fs x o ≡ caught_or k w n s f fs y o
  by-handler s gs f fs x y x2 e = grind (arith)

  pub over_same : (s : State A) (gs fs : List (Frame A)) → unwound k w class n (record s { frames = gs }) fs ≡ unwound k w class n s fs
  over_same s gs [] = refl
  over_same s gs (f ∷ fs) = grind (arith, by-handler, over_same s gs fs)

  pub unwound_dropped : (s : State A) → IsRunning s → handler_for w class (top s) ≡ None
      → unwound k w class n (without_top s) (without_top s).frames ≡ unwound k w class n s s.frames
  unwound_dropped s runs e = over_same s (other_frames s.frames) (other_frames s.frames) ∙ go s.frames runs e where
    go : (fs : List (Frame A)) → 0 < length fs → handler_for w class (first_frame fs) ≡ None → unwound k w class n s (other_frames fs)
        ≡ unwound k w class n s fs
    go [] r e = absurd (omega arith)
    go (f ∷ fs) r e = sym (ap (caught_or k w n s f fs (unwound k w class n s fs)) e)

-- ---- an exception's object

pub last-class : {A : Type 0} (t : ClassTable) (s : State A) (class : ℕ) (cells : List A)
    → class_of t (with_object s (Instance class) cells) (length s.heap + 1) ≡ class
last-class {A} t s class cells =
    let z : State A = with_object s (Instance class) cells in
    let made : Object A = record { kind = Instance class; cells = cells } in
    ap (class_of t z) (add-one (length s.heap)) ∙ ap (class_with_methods t)
    (slice_get-map (λ (x : Object A). x.kind) (s.heap ++ made ∷ []) (length s.heap)
    ∙ ap (option_map (λ (x : Object A). x.kind)) (slice_get-farther s.heap (made ∷ []) 0 (length s.heap) (omega arith)))

pub raised-is : {A : Type 0} (k : Cells A) (w : Linked) (exception : Exception) (s z : State A) (class h : ℕ)
    → class ≡ slice_index w.classes.roles (role_of exception) → has_room s (length (cells_of w.classes class)) ≡ true
    → h ≡ length s.heap + 1 → z ≡ with_object s (Instance class) (new_instance_cells k w.classes class)
    → unwound k w class h z z.frames ≡ raised k w exception s
raised-is {A} k w exception s z class h is room at e =
    let made : ℕ → State A = λ c. with_object s (Instance c) (new_instance_cells k w.classes c) in
    let Raised : ℕ → Outcome A = λ c. if has_room s (length (cells_of w.classes c)) then thrown k w (length s.heap + 1) (made c) else ends
    (Plain HeapFull) s in
    ap (λ (x : State A). unwound k w class h x x.frames) e
    ∙ (ap (λ (n : ℕ). unwound k w class n (made class) (made class).frames) at
    ∙ (ap (λ (c : ℕ). unwound k w c (length s.heap + 1) (made class) (made class).frames)
    (sym (last-class w.classes s class (new_instance_cells k w.classes class)))
    ∙ (ap (λ b. if b then thrown k w (length s.heap + 1) (made class) else ends (Plain HeapFull) s) (sym room)
    ∙ ap Raised is)))
