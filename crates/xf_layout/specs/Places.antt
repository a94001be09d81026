-- Where labels stand, by their numbers.
use Rattle.std.specs.Prelude.{◌<◌, ◌+◌, ℕ, List, [], ◌∷◌, All, slice_set}
use Rattle.xf_layout.specs.declared.form.Form.{Form}
use Rattle.xf_layout.specs.declared.form.Form.TheVariants.{Fixed, Jump, Mark}
use Rattle.xf_layout.specs.Form.{form_bytes}

-- the places of labels, with that of the label here, if there is one
abbrev pub noted_one : Form → ℕ → List ℕ → List ℕ
noted_one (Mark l) at places = slice_set places l at
noted_one (Fixed n) at places = places
noted_one (Jump l wide) at places = places

-- the places of labels, with those among these forms from a place on
abbrev pub noted : List Form → ℕ → List ℕ → List ℕ
noted [] at places = places
noted (f ∷ fs) at places = noted fs (at + form_bytes f) (noted_one f at places)

-- a label's number is below this one
abbrev pub IsInRoom : ℕ → Form → Type 0
IsInRoom room (Fixed n) = Unit {0}
IsInRoom room (Jump l wide) = Unit {0}
IsInRoom room (Mark l) = l < room

abbrev pub FormsFit : ℕ → List Form → Type 0
FormsFit room forms = All (IsInRoom room) forms
