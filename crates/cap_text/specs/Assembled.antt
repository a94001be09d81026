-- The lines for a package that is written with the methods of a listing, and for a listing that is at fault.
use Rattle.std.specs.Prelude.{ℕ, List, [], ◌∷◌, codes}
use Rattle.std.specs.List.{concat}
use Rattle.cap_listing.specs.declared.fault.AsmFault.{AsmFault}
use Rattle.cap_listing.specs.declared.fault.AsmFault.TheVariants.{NotListing, OtherMethod, Registers}
use Rattle.cap_listing.specs.declared.fault.AsmFault.TheVariants.{HandlerRange, CodeLength, TooManyHandlers}
use Rattle.cap_text.specs.Fault.{name_1, name_2}

-- the text is no listing from this line on, or the listing does not fit the package
abbrev pub asm_fault_text : AsmFault → List ℕ
asm_fault_text (NotListing line) = name_1 (codes "NotListing") line
asm_fault_text (OtherMethod n) = name_1 (codes "OtherMethod") n
asm_fault_text (Registers n count) = name_2 (codes "Registers") n count
asm_fault_text (HandlerRange n number) = name_2 (codes "HandlerRange") n number
asm_fault_text (CodeLength n length) = name_2 (codes "CodeLength") n length
asm_fault_text (TooManyHandlers count) = name_1 (codes "TooManyHandlers") count

abbrev pub not_assembled_line : AsmFault → List ℕ
not_assembled_line fault = concat (codes "malformed package 0 " ∷ asm_fault_text fault ∷ codes "\n" ∷ [])
