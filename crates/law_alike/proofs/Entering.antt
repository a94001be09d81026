-- Before its first step a run finds the same objects, static fields and arguments in worlds that differ in the code of methods alone.
use Rattle.std.proofs.Common.{◌≡◌, ℕ, List, [], length, sym, ap, ◌∙◌, arith}
use Rattle.std.specs.Prelude.{Option, option_map, slice_get}
use Rattle.std.proofs.lemmas.Option.{slice_get-map}
use Rattle.jc_base.specs.declared.ty.Ty.{Ty}
use Rattle.jc_base.specs.declared.record.MethodRec.{MethodRec}
use Rattle.jc_base.specs.World.{Linked}
use Rattle.vm_store.specs.declared.cell.Cell.{Cell}
use Rattle.vm_store.specs.Cells.{tagged}
use Rattle.vm_store.specs.State.{State}
use Rattle.vm_step.specs.Arguments.{Argument}
use Rattle.vm_step.specs.Methods.{of_method}
use Rattle.vm_step.specs.Start.{cells_handed, initial, parameters, with_arrays}
use Rattle.law_laid.specs.Apart.{apart_from_code, IsSameBut}

parameters-apart : (o : Option MethodRec) → of_method [] parameters (option_map apart_from_code o) ≡ of_method [] parameters o
parameters-apart x = grind (arith)

module _ (v w : Linked) (same : IsSameBut v w) (entry : ℕ) (args : List Argument) where
  abbrev types_in : Linked → List Ty
  types_in x = of_method [] parameters (slice_get x.methods entry)

  -- the cells that the method of the entry is handed
  abbrev pub handed_in : Linked → List Cell
  handed_in x = cells_handed tagged (length x.arrays) args (types_in x)

  -- the state under its frame
  abbrev pub made_in : Linked → State Cell
  made_in x = with_arrays tagged args (initial tagged x)

  types-same : types_in w ≡ types_in v
  types-same =
      let methods : option_map apart_from_code (slice_get v.methods entry) ≡ option_map apart_from_code (slice_get w.methods entry) =
      sym (slice_get-map apart_from_code v.methods entry)
      ∙ (ap (λ ms. slice_get ms entry) same.methods ∙ slice_get-map apart_from_code w.methods entry) in
      sym (parameters-apart (slice_get w.methods entry)) ∙ (ap (of_method [] parameters) (sym methods) ∙ parameters-apart (slice_get v.methods entry))

  initial-same : initial tagged w ≡ initial tagged v
  initial-same = grind (arith)

  pub made-same : made_in w ≡ made_in v
  made-same = ap (with_arrays tagged args) initial-same

  pub handed-same : handed_in w ≡ handed_in v
  handed-same = grind (arith, types-same)
