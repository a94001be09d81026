-- What the readers of a run of verified code answer, of the words that it leaves.
use Rattle.std.proofs.Common.{arith}
use Rattle.std.proofs.Common.{◌≡◌, ◌<◌, ℕ, ℤ, List, length, Option, Some, sym, ap, subst, ◌∙◌}
use Rattle.std.specs.Prelude.{slice_get, option_map, option_and_then}
use Rattle.std.proofs.lemmas.Option.{slice_get-map}
use Rattle.jc_base.specs.declared.ty.Ty.{Ty}
use Rattle.jc_base.specs.World.{Linked}
use Rattle.vm_store.specs.declared.cell.Cell.{Cell}
use Rattle.vm_store.specs.Cells.{Cells, tagged, words}
use Rattle.vm_store.specs.State.{State, Object}
use Rattle.vm_store.specs.Objects.{object_at}
use Rattle.vm_step.specs.declared.ending.Value.{Value}
use Rattle.vm_offend.specs.declared.words.Counts.{Counts}
use Rattle.vm_offend.specs.Reads.{AreObjectsOf, AreStaticsOf}
use Rattle.vm_defend.specs.Reading.{numbers_of_kind, static_value, array_kind, array_length, array_value}
use Rattle.vm_text.specs.Left.{NumberArray, Readout, numbers_in, number_array, left_by}
use Rattle.vm_text.specs.Lent.{lent_state, IsLentRun}
use Rattle.vm_text.proofs.Alike.{left_alike}
use Rattle.vm_text.proofs.Arrays.{value_told, count_told}

-- what is read of the words is what is read of the state whose words they are
lent_alike : (w accepted : Linked) (heap statics : List ℕ) (counts : Counts) (lent : IsLentRun w accepted heap statics counts)
    → left_by words w (lent_state heap statics counts) ≡ left_by tagged w lent.state
lent_alike w accepted heap statics counts lent = left_alike w (lent_state heap statics counts) lent.state lent.objects lent.fields

pub field_of : (w accepted : Linked) (heap statics : List ℕ) (counts : Counts) (n : ℕ) (value : Value) → IsLentRun w accepted heap statics counts
    → ((s : State Cell) → AreStaticsOf statics s → static_value tagged accepted n s ≡ Some value)
    → slice_get (left_by words w (lent_state heap statics counts)).statics n ≡ Some value
field_of w accepted heap statics counts n value lent read = grind (arith, lent_alike w accepted heap statics counts lent, slice_get-map)

ty_in : (k : Cells Cell) (o : Object Cell) (ty : Option Ty) → ty ≡ option_map (λ (a : NumberArray). a.ty) (option_map (numbers_in k o) ty)
ty_in k o x = grind (arith)

ty_at : (o : Option (Object Cell))
    → option_and_then (λ (x : Object Cell). numbers_of_kind x.kind) o ≡ option_map (λ (a : NumberArray). a.ty) (option_and_then (number_array tagged) o)
ty_at x = grind (arith, ty_in)

pub kind_of : (w accepted : Linked) (heap statics : List ℕ) (counts : Counts) (h : ℕ) (ty : Option Ty) → IsLentRun w accepted heap statics counts
    → ((s : State Cell) → AreObjectsOf heap counts s → array_kind s h ≡ ty)
    → ty ≡ option_map (λ (a : NumberArray). a.ty) ((left_by words w (lent_state heap statics counts)).array h)
kind_of w accepted heap statics counts h ty lent read =
    sym (read lent.state lent.objects) ∙ ty_at (object_at lent.state h)
    ∙ ap (λ (l : Readout). option_map (λ (a : NumberArray). a.ty) (l.array h)) (sym (lent_alike w accepted heap statics counts lent))

pub length_of : (w accepted : Linked) (heap statics : List ℕ) (counts : Counts) (h : ℕ) (count : Option ℕ) → IsLentRun w accepted heap statics counts
    → ((s : State Cell) → AreObjectsOf heap counts s → array_length s h ≡ count)
    → count ≡ option_map (λ (a : NumberArray). length a.elements) ((left_by words w (lent_state heap statics counts)).array h)
length_of w accepted heap statics counts h count lent read =
    sym (read lent.state lent.objects) ∙ count_told tagged lent.state h
    ∙ ap (λ (l : Readout). option_map (λ (a : NumberArray). length a.elements) (l.array h)) (sym (lent_alike w accepted heap statics counts lent))

pub number_of : (w accepted : Linked) (heap statics : List ℕ) (counts : Counts) (h i : ℕ) (number : Option ℤ) → IsLentRun w accepted heap statics counts
    → ((s : State Cell) → AreObjectsOf heap counts s → array_value tagged s h i ≡ number)
    → number ≡ option_and_then (λ (a : NumberArray). slice_get a.elements i) ((left_by words w (lent_state heap statics counts)).array h)
number_of w accepted heap statics counts h i number lent read =
    sym (read lent.state lent.objects) ∙ value_told tagged lent.state h i
    ∙ ap (λ (l : Readout). option_and_then (λ (a : NumberArray). slice_get a.elements i) (l.array h)) (sym (lent_alike w accepted heap statics counts lent))

-- a number of a field of the world is one of the world that was accepted
pub field_below : (w accepted : Linked) (heap statics : List ℕ) (counts : Counts) (n : ℕ) → IsLentRun w accepted heap statics counts
    → n < length w.statics → n < length accepted.statics
field_below w accepted heap statics counts n lent below = subst (λ v. n < length v.statics) (sym lent.world) below
