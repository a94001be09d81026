-- The shortest code of some items: a jump is wide only where its target is too far.
use Rattle.std.specs.Prelude.{◌≡◌, ◌<◌, ℕ, ℤ, pos, ◌-ℤ◌, true, false, List, [], ◌∷◌, Some, IsTrue, slice_get}
use Rattle.std.proofs.Common.{refl}
use Rattle.jc_decode.specs.declared.symbols.Item.{Item}
use Rattle.jc_decode.specs.declared.symbols.Symbols.{Symbols}
use Rattle.jc_decode.specs.declared.symbols.Laid.{Laid}
use Rattle.jc_decode.specs.Forms.{is_near}
use Rattle.jc_decode.specs.Standing.{StandsAt}
use Rattle.xf_layout.specs.declared.form.Form.{Form}
use Rattle.xf_layout.specs.declared.form.Form.TheVariants.{Fixed, Jump, Mark}
use Rattle.xf_layout.specs.Form.{AreForms, begins, length_of_forms, label_place, instruction_place}

-- how far the k-th item is from a label
abbrev pub distance : List Form → ℕ → ℕ → ℤ
distance forms k l = pos (label_place forms l) -ℤ pos (begins forms k)

-- each short jump leads from 128 bytes back to 127 bytes ahead
abbrev pub Fit : List Form → Type 0
Fit forms = (k l : ℕ) → slice_get forms k ≡ Some (Jump l false) → IsTrue (is_near (distance forms k l))

-- each jump that is wide among the first forms is wide among the others
abbrev pub NoWider : List Form → List Form → Type 0
NoWider forms others = (k l : ℕ) → slice_get forms k ≡ Some (Jump l true) → slice_get others k ≡ Some (Jump l true)

-- the wide jumps are the least set with which every other jump fits
pub record IsShortest (items : List Item) (forms : List Form) : Type 0 where
  pub chosen : AreForms items forms
  pub fit : Fit forms
  pub least : (others : List Form) → AreForms items others → Fit others → NoWider forms others

-- the code stands for the symbols, in the shortest forms of their items
abbrev pub StandsShortest : List ℕ → Symbols → Laid → Type 0
StandsShortest source symbols laid =
    (forms : List Form) × IsShortest symbols.items forms × StandsAt (instruction_place forms) source symbols laid

-- in every choice of forms with which the short jumps fit, the code is above the 32,767 bytes that a method may have
abbrev pub ReachesTooFar : List Item → Type 0
ReachesTooFar items = (forms : List Form) → AreForms items forms → Fit forms → 32767 < length_of_forms forms

-- a jump over 125 bytes fits, one over 126 does not; back over 128 bytes one fits, over 129 it does not
abbrev ahead : ℕ → List Form
ahead n = Jump 1 false ∷ Fixed n ∷ Mark 1 ∷ []

abbrev farther : ℕ → List Form
farther n = Mark 1 ∷ Fixed n ∷ Jump 1 false ∷ []

near_ahead : is_near (distance (ahead 125) 0 1) ≡ true
near_ahead = refl

far_ahead : is_near (distance (ahead 126) 0 1) ≡ false
far_ahead = refl

near_after : is_near (distance (farther 128) 2 1) ≡ true
near_after = refl

far_after : is_near (distance (farther 129) 2 1) ≡ false
far_after = refl
