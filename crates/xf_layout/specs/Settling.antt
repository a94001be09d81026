-- Jumps that become wide one by one, each because it leads too far among the forms at that moment. No public promise rests on it.
use Rattle.std.specs.Prelude.{◌≡◌, ◌≤◌, ◌<◌, ◌+◌, ℕ, List, Some, slice_get}
use Rattle.jc_decode.specs.declared.symbols.Item.{Item}
use Rattle.xf_layout.specs.declared.form.Form.{Form}
use Rattle.xf_layout.specs.declared.form.Form.TheVariants.{Mark}
use Rattle.xf_layout.specs.Form.{AreForms, begins}
use Rattle.xf_layout.specs.Places.{FormsFit}
use Rattle.xf_layout.specs.Shortest.{Fit, NoWider}

-- no short jump of the k-th item leads to the label: more than 127 bytes ahead, or more than 128 back
pub record LeadsFar (forms : List Form) (k label : ℕ) : Type 0 where
  pub mark : ℕ
  pub there : slice_get forms mark ≡ Some (Mark label)
  pub ahead : k ≤ mark → begins forms k + 127 < begins forms mark
  pub back : mark < k → begins forms mark + 128 < begins forms k

-- the forms after some jumps became wide: of the same items, no wider than any with which all jumps fit, and with the same labels
pub record Settles (items : List Item) (old new : List Form) : Type 0 where
  pub forms : AreForms items old → AreForms items new
  pub least :
      AreForms items old
      → (others : List Form) → AreForms items others → Fit others → NoWider old others
      → NoWider new others
  pub room : (n : ℕ) → FormsFit n old → FormsFit n new
