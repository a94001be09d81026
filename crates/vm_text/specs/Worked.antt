-- Worked cases of what runs leave.
use Rattle.std.specs.Prelude.{◌≡◌, pos, negsuc, [], ◌∷◌, Some, codes, refl}
use Rattle.std.specs.Fmt.{digits}
use Rattle.jc_base.specs.declared.ty.Ty.TheVariants.{ArrByte, ArrInt}
use Rattle.vm_store.specs.declared.cell.ObjectKind.TheVariants.{Ints}
use Rattle.vm_store.specs.Cells.{words}
use Rattle.vm_step.specs.declared.ending.Value.TheVariants.{Short, Ref}
use Rattle.vm_step.specs.declared.ending.Plain.TheVariants.{Returned, Spent}
use Rattle.vm_step.specs.declared.ending.Ending.TheVariants.{Plain}
use Rattle.vm_text.specs.Left.{Readout, number_array}
use Rattle.vm_text.specs.Text.{left_text}

-- one static field, and an array of three bytes wherever one asks
abbrev sample : Readout
sample =
    record
    { statics = Short (pos 7) ∷ []; array = λ h. Some (record { ty = ArrByte; elements = pos 5 ∷ pos 2 ∷ negsuc 0 ∷ [] }) }

returned : left_text sample (Plain (Returned (Ref 1))) ≡ codes "returned reference 1\narray 1 byte 3 5 2 -1\nstatic 0 short 7\n"
unfolding digits
returned = refl

-- an array is told where it is returned alone
spent : left_text sample (Plain Spent) ≡ codes "spent\nstatic 0 short 7\n"
unfolding digits
spent = refl

-- an int has its high word first
ints :
    number_array words (record { kind = Ints; cells = 0 ∷ 5 ∷ 65535 ∷ 65535 ∷ [] })
    ≡ Some (record { ty = ArrInt; elements = pos 5 ∷ negsuc 0 ∷ [] })
ints = refl
