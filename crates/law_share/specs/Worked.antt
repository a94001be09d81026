-- Worked cases of variables and of the registers that they share.
use Rattle.std.specs.Prelude.{◌≡◌, ℕ, [], ◌∷◌}
use Rattle.std.proofs.Common.{refl, arith}
use Rattle.jc_base.specs.declared.ty.Ty.TheVariants.{Short, IntHigh, IntLow}
use Rattle.law_share.specs.Variable.{Variable, AreVariables, no_variables, one_register, two_registers}
use Rattle.law_share.specs.Sharing.{IsNumbered, numbered_argument, numbered_variable, end_of}

abbrev short_at : ℕ → Variable
short_at x = record { register = x; width = 1; ty = Short }

abbrev int_at : ℕ → Variable
int_at x = record { register = x; width = 2; ty = IntHigh }

-- a short and an int behind two arguments
two_variables : AreVariables 2 (Short ∷ IntHigh ∷ IntLow ∷ []) (short_at 2 ∷ int_at 3 ∷ [])
two_variables = one_register tt (two_registers no_variables)

-- two shorts that share a register end one register behind the arguments
shared_end : end_of 1 (record { variable = short_at 1; at = 1 } ∷ record { variable = short_at 2; at = 1 } ∷ []) ≡ 2
shared_end = refl

-- an argument keeps its number
argument_stays : IsNumbered 1 (record { variable = short_at 1; at = 1 } ∷ record { variable = short_at 2; at = 1 } ∷ []) 0 0
argument_stays = numbered_argument (omega arith)

-- the low half of an int goes with the high half
low_half : IsNumbered 2 (record { variable = int_at 3; at = 2 } ∷ []) 4 3
low_half =
    numbered_variable (record { variable = int_at 3; at = 2 }) (0, omega arith, refl)
    (record { from = omega arith; before = omega arith })
