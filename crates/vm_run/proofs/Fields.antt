-- Static fields whose initial values are written one after another.
use Rattle.std.proofs.Common.{◌≡◌, ◌<◌, ◌≤◌, ◌+◌, ℕ, List, [], ◌∷◌, length, refl, sym, ap, arith, Some}
use Rattle.std.specs.Prelude.{slice_get}
use Rattle.jc_base.specs.declared.ty.Kind.{Kind}
use Rattle.jc_base.specs.declared.ty.Kind.TheVariants as fields
use Rattle.jc_base.specs.declared.ty.Ty.{Ty}
use Rattle.jc_base.specs.declared.record.ArrayRec.{ArrayRec}
use Rattle.jc_base.specs.Class.{ClassTable}
use Rattle.jc_base.specs.Cell.{width, AreInitialWords}
use Rattle.vm_store.specs.Cells.{Cells}
use Rattle.vm_arithmetic.specs.Arithmetic.{short_of_word}
use Rattle.vm_step.specs.Start.{field_cells}

pub field-size : {A : Type 0} (k : Cells A) (kind : Kind) (words : List ℕ) → length words ≡ width kind
    → length (field_cells k kind words) ≡ width kind
field-size k fields.Int (a ∷ b ∷ ws) e = refl
field-size k fields.Ref (a ∷ []) e = refl
field-size k fields.Byte (a ∷ []) e = refl
field-size k fields.Short (a ∷ []) e = refl
field-size k kind words e = absurd (omega arith)

-- as many words as the kind has cells
pub words-size : (t : ClassTable) (arrays : List ArrayRec) (kind : Kind) (ty : Ty) (words : List ℕ) → AreInitialWords t arrays kind ty words
    → length words ≡ width kind
words-size t arrays kind ty words h = grind (arith)

pub reference-cells : {A : Type 0} (k : Cells A) (kind : Kind) (words : List ℕ) (first : ℕ) → kind ≡ fields.Ref → length words ≡ width kind
    → slice_get words 0 ≡ Some first
    → k.reference first ∷ [] ≡ field_cells k kind words
reference-cells k fields.Ref (a ∷ []) first e size at = let same : a ≡ first = cc in ap (λ h. k.reference h ∷ []) (sym same)
reference-cells k fields.Ref words first e size at = absurd (omega arith)
reference-cells k kind words first e size at = absurd (cc)

pub short-cells : {A : Type 0} (k : Cells A) (kind : Kind) (words : List ℕ) (first : ℕ) → (kind ≡ fields.Ref → ⊥)
    → (kind ≡ fields.Int → ⊥) → length words ≡ width kind
    → slice_get words 0 ≡ Some first → k.short (short_of_word first) ∷ [] ≡ field_cells k kind words
short-cells k fields.Ref words first r i size at = absurd (r refl)
short-cells k fields.Int words first r i size at = absurd (i refl)
short-cells k fields.Byte (a ∷ []) first r i size at = let same : a ≡ first = cc in ap (λ h. k.short (short_of_word h) ∷ []) (sym same)
short-cells k fields.Short (a ∷ []) first r i size at = let same : a ≡ first = cc in ap (λ h. k.short (short_of_word h) ∷ []) (sym same)
short-cells k kind words first r i size at = absurd (omega arith)

pub kind-inside : (kind : Kind) (at n : ℕ) → at + width kind ≤ n → at < n
kind-inside kind at n h = grind (arith)
