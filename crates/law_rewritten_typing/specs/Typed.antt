-- The card typing of a rewritten method: each home's registers have the home's type.
use Rattle.std.specs.Prelude.{ℕ, List, [], ◌∷◌, flat_map}
use Rattle.jc_base.specs.declared.ty.Ty.{Ty}
use Rattle.jc_base.specs.declared.ty.Ty.TheVariants.{IntHigh, IntLow}
use Rattle.jc_base.specs.World.{Linked}
use Rattle.jc_decode.specs.declared.symbols.Symbols.{Symbols}
use Rattle.jc_control.specs.Method.{Method}
use Rattle.card_typing.specs.Typing.{TypingIn}
use Rattle.xf_homes.specs.declared.home.Home.{Home}
use Rattle.law_laid.specs.Laid.{code_in_symbols}

-- the cells of a value of a type
abbrev pub cells_of_value : Ty → List Ty
cells_of_value IntHigh = IntHigh ∷ IntLow ∷ []
cells_of_value ty = ty ∷ []

-- the types of the registers of homes, which follow one another
abbrev pub registers_of : List Home → List Ty
registers_of homes = flat_map (λ h. cells_of_value h.ty) homes

-- the symbols have a card typing whose registers have the types of the homes
pub record HasTypingByHomes (w : Linked) (m : Method) (homes : List Home) (symbols : Symbols) : Type 0 where
  pub stacks : ℕ → List Ty
  pub typing : TypingIn w (code_in_symbols m.rec m.code symbols) (registers_of homes) stacks
