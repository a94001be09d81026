-- Writes of fields of `this`, wherever the home of local 0 is.
use Rattle.std.proofs.Common.{◌≡◌, ℕ, ◌==◌, Bool, true, false, List, [], ◌∷◌, refl}
use Rattle.std.proofs.Common.{arith}
use Rattle.std.proofs.lemmas.Bool.Decides.{nat_tests}
use Rattle.std.specs.Prelude.{Some}
use Rattle.jc_base.specs.Laws.{IsOrderOfTypes}
use Rattle.jc_base.specs.World.{Linked, IsWorld}
use Rattle.jc_decode.specs.declared.insn.Placed.{Placed}
use Rattle.jc_decode.specs.declared.symbols.Item.TheVariants.{Plain}
use Rattle.jc_ops.specs.declared.operation.Holder.TheVariants as holders
use Rattle.jc_ops.specs.declared.operation.InstanceField.{InstanceField}
use Rattle.jc_ops.specs.declared.operation.Operation.TheVariants as ops
use Rattle.jc_ops.specs.declared.operation.Sort.TheVariants as sorts
use Rattle.jc_ops.specs.Sound.{OperationsAreDecided, OperationsAreSound}
use Rattle.vm_store.specs.declared.cell.Cell.{Cell}
use Rattle.vm_store.specs.Cells.{tagged}
use Rattle.vm_store.specs.State.{Frame, Object}
use Rattle.vm_step.specs.Step.{Steps}
use Rattle.law_alike.specs.Likeness.{StepsAreAlike}
use Rattle.xf_homes.specs.declared.home.Home.{Home}
use Rattle.xf_homes.specs.Source.{Source}
use Rattle.xf_homes.specs.Plan.{local, register}
use Rattle.xf_emission.specs.Group.{body, stays}
use Rattle.law_rewritten_typing.specs.Whole.{DerivedAreWhole}
use Rattle.law_homes.specs.Moves.{IsExecutable}
use Rattle.law_homes.specs.Premises.{AreMoveLaws}
use Rattle.law_groups.specs.Body.{AreAtBody, BodyRuns}
use Rattle.law_groups.specs.Fields.{ThisWritesRun}
use Rattle.law_groups.proofs.Reading.{IsHomeOf}
use Rattle.law_groups.proofs.FieldCells.{asked-this, last-held, read-this}
use Rattle.law_groups.proofs.This.{ReadsThis, stays-run, this-home}
use Rattle.law_groups.proofs.ThisWrites.{write-moved}

writes-this : (v : Linked) (f : InstanceField) → ReadsThis v (ops.FieldWrite f holders.This)
writes-this v f = grind (arith, asked-this, read-this)

kept-body :
    (s : Source) (i : Placed) (f : InstanceField) (h : Home) → local s i.place 0 ≡ Some h → stays s h ≡ true
    → body s i (ops.FieldWrite f holders.This) ≡ Plain i.insn ∷ []
unfolding body
kept-body s i f h at e = grind (arith)

module _
    (v : Linked) (world : IsWorld v) (decided : OperationsAreDecided v) (alike_steps : StepsAreAlike v)
    (laws : (w : Linked) → IsExecutable w → AreMoveLaws v w) (types : IsOrderOfTypes v.classes) (source_sound : OperationsAreSound v)
    (whole : DerivedAreWhole v) where
  pub this-writes-run : ThisWritesRun v
  this-writes-run w s place i f z t o laid b step fine typed_after =
      by-frames z.frames z.heap z.statics b step
    where
      home : IsHomeOf s i.place 0 sorts.Reference
      home =
          this-home v w s place laid types whole i (ops.FieldWrite f holders.This) f.class (λ k asked. last-held v.classes k f.ty f.class asked.1)
          b.stands b.reached b.does

      is-zero : (n : ℕ) → (n == 0) ≡ true → n ≡ 0
      is-zero n e = grind (arith, nat_tests, e)

      by-frames :
          (fs : List (Frame Cell)) (heap : List (Object Cell)) (statics : List Cell)
          → AreAtBody v w s place i (ops.FieldWrite f holders.This) (record { frames = fs; heap = heap; statics = statics }) t
          → Steps tagged v (record { frames = fs; heap = heap; statics = statics }) o
          → BodyRuns v w s place i (ops.FieldWrite f holders.This) (record { frames = fs; heap = heap; statics = statics }) t o
      by-frames [] heap statics b step = absurd (let lt = b.typed.runs in omega (arith, lt))
      by-frames (g ∷ below) heap statics b step = by (stays s (record { slot = 0; ty = home.ty })) refl
        where
          by :
              (d : Bool) → stays s (record { slot = 0; ty = home.ty }) ≡ d
              → BodyRuns v w s place i (ops.FieldWrite f holders.This) (record { frames = g ∷ below; heap = heap; statics = statics }) t o
          by true e =
              stays-run v alike_steps w s place i (ops.FieldWrite f holders.This)
              (record { frames = g ∷ below; heap = heap; statics = statics }) t o home.ty laid b (writes-this v f) home.among
              (is-zero (register s (record { slot = 0; ty = home.ty })) e) (kept-body s i f (record { slot = 0; ty = home.ty }) home.at e) step fine
          by false e =
              write-moved laid world decided laws types source_sound i f g below heap statics t o b home e step fine
