-- What a plan says of some items: their forms, which are the shortest where the code is not too long, and where labels then
-- stand. No public promise rests on it.
use Rattle.std.specs.Prelude.{◌≡◌, ◌≤◌, ℕ, List, slice_index}
use Rattle.jc_decode.specs.declared.symbols.Item.{Item}
use Rattle.jc_decode.specs.Symbols.{IsOnce}
use Rattle.xf_layout.specs.declared.form.Form.{Form}
use Rattle.xf_layout.specs.declared.plan.LayoutPlan.{LayoutPlan}
use Rattle.xf_layout.specs.Form.{AreForms, length_of_forms, label_place}
use Rattle.xf_layout.specs.Shortest.{Fit, NoWider}

pub record IsLayoutPlan (items : List Item) (p : LayoutPlan) : Type 0 where
  pub forms : AreForms items p.forms.items
  pub least : (others : List Form) → AreForms items others → Fit others → NoWider p.forms.items others
  pub end : p.end ≡ length_of_forms p.forms.items
  pub fit : p.end ≤ 32767 → Fit p.forms.items
  pub places : (l : ℕ) → IsOnce items l → slice_index p.places l ≡ label_place p.forms.items l
