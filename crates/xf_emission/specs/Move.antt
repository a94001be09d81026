-- Loads and stores of homes: all that rewritten code does beside what the source does (JCVM 2.2, section 7.5).
use Rattle.std.specs.Prelude.{ℕ, pos, List, [], ◌∷◌, map, reverse}
use Rattle.jc_base.specs.declared.ty.Ty.{Ty}
use Rattle.jc_base.specs.declared.ty.Ty.TheVariants.{Short, IntHigh}
use Rattle.jc_decode.specs.declared.insn.Insn.{Insn}
use Rattle.jc_decode.specs.declared.symbols.Item.{Item}
use Rattle.jc_decode.specs.declared.symbols.Item.TheVariants.{Plain}
use Rattle.xf_homes.specs.declared.home.Home.{Home}
use Rattle.xf_homes.specs.Source.{Source}
use Rattle.xf_homes.specs.Plan.{register}
use Rattle.xf_emission.specs.Mnemonics.{aload, sload, iload, astore, sstore, istore}

-- an instruction of two bytes, with an operand
abbrev pub with_byte : ℕ → ℕ → Insn
with_byte op x = record { op = op; x = pos x; y = pos 0; z = pos 0; len = 2 }

abbrev pub load_op : Ty → ℕ
load_op Short = sload
load_op IntHigh = iload
load_op ty = aload

abbrev pub store_op : Ty → ℕ
store_op Short = sstore
store_op IntHigh = istore
store_op ty = astore

abbrev pub load : Source → Home → Item
load s h = Plain (with_byte (load_op h.ty) (register s h))

abbrev pub store : Source → Home → Item
store s h = Plain (with_byte (store_op h.ty) (register s h))

-- a value goes from one home to another
abbrev pub copy : Source → Home → Home → List Item
copy s from to = load s from ∷ store s to ∷ []

-- the values of homes go on the stack, that of the first to the bottom
abbrev pub loads : Source → List Home → List Item
loads s hs = map (load s) hs

-- the values of a stack go into homes, that of the top into the last
unfoldable pub spill : Source → List Home → List Item
spill s hs = map (store s) (reverse hs)
