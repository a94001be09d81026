-- A label stands for the number of the instructions before it.
use Rattle.std.proofs.Common.{◌≡◌, ℕ, suc, false, List, [], ◌∷◌, ◌++◌, length, refl, ap}
use Rattle.std.specs.Prelude.{All}
use Rattle.std.specs.List.{filter}
use Rattle.std.proofs.lemmas.Bool.{eq-eqb}
use Rattle.std.proofs.lemmas.List.Elements.{All-head, All-tail}
use Rattle.jc_decode.specs.declared.symbols.Item.{Item}
use Rattle.jc_decode.specs.declared.symbols.Item.TheVariants.{Plain, Branch, Switch, Label}
use Rattle.jc_decode.specs.Symbols.{place_of, is_label, is_instruction}

pub label-between : (before after : List Item) (l : ℕ) → All (λ i. is_label l i ≡ false) before
    → place_of l (before ++ (Label l ∷ after)) ≡ length (filter is_instruction before)
label-between [] after l none = rw (eq-eqb l l refl) refl
label-between (Plain i ∷ before) after l none = ap suc (label-between before after l (All-tail (λ i. is_label l i ≡ false) (Plain i) before none))
label-between (Branch op m ∷ before) after l none = ap suc (label-between before after l (All-tail (λ i. is_label l i ≡ false) (Branch op m) before none))
label-between (Switch i at labels ∷ before) after l none =
    ap suc (label-between before after l (All-tail (λ i. is_label l i ≡ false) (Switch i at labels) before none))
label-between (Label m ∷ before) after l none =
    rw (All-head (λ i. is_label l i ≡ false) (Label m) before none)
    (label-between before after l (All-tail (λ i. is_label l i ≡ false) (Label m) before none))
