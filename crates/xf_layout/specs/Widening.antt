-- One turn of widening: each short jump whose target is too far becomes wide. No public promise rests on it.
use Rattle.std.specs.Prelude.{◌+◌, ℕ, pos, ◌-ℤ◌, Bool, false, not, ◌||◌, List, [], ◌∷◌}
use Rattle.jc_decode.specs.declared.symbols.Item.{Item}
use Rattle.jc_decode.specs.declared.symbols.Item.TheVariants.{Plain, Branch, Switch, Label}
use Rattle.jc_decode.specs.Forms.{length_of, short_form, is_near}
use Rattle.xf_layout.specs.declared.form.Form.{Form}
use Rattle.xf_layout.specs.declared.form.Form.TheVariants.{Fixed, Jump, Mark}
use Rattle.xf_layout.specs.Form.{form_bytes}

-- an item in its shortest form
abbrev pub shortest : Item → Form
shortest (Plain i) = Fixed (length_of (short_form i))
shortest (Branch op l) = Jump l false
shortest (Switch i at labels) = Fixed (length_of i)
shortest (Label l) = Mark l

abbrev pub is_wide : Form → Bool
is_wide (Fixed n) = false
is_wide (Jump l wide) = wide
is_wide (Mark l) = false

abbrev pub is_short_jump : Form → Bool
is_short_jump (Fixed n) = false
is_short_jump (Jump l wide) = not wide
is_short_jump (Mark l) = false

-- the form at a place, where labels stand at these places
abbrev pub widened_form : (ℕ → ℕ) → ℕ → Form → Form
widened_form place at (Fixed n) = Fixed n
widened_form place at (Jump l wide) = Jump l (wide || not (is_near (pos (place l) -ℤ pos at)))
widened_form place at (Mark l) = Mark l

abbrev pub widened : (ℕ → ℕ) → ℕ → List Form → List Form
widened place at [] = []
widened place at (f ∷ fs) = widened_form place at f ∷ widened place (at + form_bytes f) fs
