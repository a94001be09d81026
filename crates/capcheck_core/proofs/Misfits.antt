-- An argument that is read from a word, among all that are.
use Rattle.std.proofs.Common.{◌≡◌, ◌<◌, ℕ, zero, suc, ℤ, List, [], ◌∷◌, length, get_or, Some, map, sym, ap, arith}
use Rattle.std.specs.Prelude.{slice_get, IsSomeAnd}
use Rattle.std.proofs.lemmas.Option.{slice_get-map}
use Rattle.cap_text.specs.declared.word.OwnedArg.{OwnedArg}
use Rattle.cap_text.specs.Word.{argument_read}
use Rattle.capcheck_core.specs.Shorts.{IsShort}

pub misfit_at : (args : List OwnedArg) (n : ℕ) (arg : OwnedArg) → slice_get args n ≡ Some arg
    → ((value : ℤ) → IsShort (argument_read arg) value → ⊥)
    → IsSomeAnd (slice_get (map argument_read args) n) (λ a. (value : ℤ) → IsShort a value → ⊥)
misfit_at args n arg is none = grind (arith, map, slice_get-map)

pub element_at : {X : Type 0} (xs : List X) (n : ℕ) (x : X) → n < length xs → x ≡ get_or xs n x → slice_get xs n ≡ Some x
element_at [] n x below is = absurd (omega (arith, below))
element_at (y ∷ ys) zero x below is = ap Some (sym is)
element_at (y ∷ ys) (suc n) x below is = element_at ys n x (omega (arith, below)) is
