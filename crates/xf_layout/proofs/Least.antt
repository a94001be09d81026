-- The turns of widening, from the shortest form of each item to the least set of wide jumps with which every other one fits.
use Rattle.std.proofs.Common.{◌≡◌, ◌<◌, ℕ, true, false, Option, Some, None, List, [], ◌∷◌, length, sym, ◌∙◌, arith, All}
use Rattle.std.proofs.Common.{map}
use Rattle.std.specs.Prelude.{slice_get, slice_index}
use Rattle.std.specs.Option.{option_map}
use Rattle.std.proofs.lemmas.Option.{slice_get-map}
use Rattle.jc_decode.specs.declared.symbols.Item.{Item}
use Rattle.jc_decode.specs.declared.symbols.Item.TheVariants.{Plain, Branch, Switch, Label}
use Rattle.jc_decode.specs.Symbols.{IsItem, IsOnce}
use Rattle.xf_layout.specs.declared.form.Form.{Form}
use Rattle.xf_layout.specs.declared.form.Form.TheVariants.{Jump}
use Rattle.xf_layout.specs.Form.{IsForm, AreForms, length_of_forms, label_place}
use Rattle.xf_layout.specs.Shortest.{Fit, NoWider, ReachesTooFar}
use Rattle.xf_layout.specs.Widening.{shortest}
use Rattle.xf_layout.specs.Places.{noted, FormsFit}
use Rattle.xf_layout.proofs.Below.{below-from, end-below}
use Rattle.xf_layout.proofs.Turns.{ArePlaced}
use Rattle.xf_layout.proofs.Notes.{count-marks, noted-once, jump-once}

form-shortest : (i : Item) → IsForm i (shortest i)
form-shortest x = grind (arith)

pub forms-shortest : (items : List Item) → AreForms items (map shortest items)
forms-shortest [] = tt
forms-shortest (i ∷ is) = (form-shortest i, forms-shortest is)

pub shortest-least : (items : List Item) (others : List Form) → NoWider (map shortest items) others
shortest-least items others k l e = by_item (slice_get items k) (sym (slice_get-map shortest items k) ∙ e)
  where
    by_item : (o : Option Item) → option_map shortest o ≡ Some (Jump l true) → slice_get others k ≡ Some (Jump l true)
    by_item None h = absurd (cc)
    by_item (Some (Plain i)) h = absurd (cc)
    by_item (Some (Branch op m)) h = absurd (let e : false ≡ true = cc in cc)
    by_item (Some (Switch i at labels)) h = absurd (cc)
    by_item (Some (Label m)) h = absurd (cc)

-- where the labels are noted that are there once
place-noted : (items : List Item) (fs : List Form) (ps : List ℕ) → AreForms items fs → FormsFit (length ps) fs
    → (l : ℕ) → IsOnce items l → slice_index (noted fs 0 ps) l ≡ label_place fs l
place-noted items fs ps forms room l once = grind (arith, noted-once fs 0 ps l room (count-marks l items fs forms ∙ once))

-- the same of what a call noted
pub places-after : (items : List Item) (fs gs : List Form) (ps new : List ℕ) → new ≡ noted gs 0 ps → gs ≡ fs → AreForms items fs
    → FormsFit (length ps) fs → (l : ℕ) → IsOnce items l → slice_index new l ≡ label_place fs l
places-after items fs gs ps new is same forms room l once = grind (arith, place-noted)

pub jumps-after : (source : List ℕ) (items : List Item) (fs gs : List Form) (ps new : List ℕ) → new ≡ noted gs 0 ps → gs ≡ fs
    → All (IsItem source items) items → AreForms items fs → FormsFit (length ps) fs → ArePlaced (slice_index new) fs
jumps-after source items fs gs ps new is same ok forms room =
    record { at = λ k l w e. places-after items fs gs ps new is same forms room l (jump-once source items items fs ok forms k l w e) }

-- where the code is too long with as few wide jumps as there can be, it always is
pub long-always : (items : List Item) (fs : List Form) → AreForms items fs
    → ((others : List Form) → AreForms items others → Fit others → NoWider fs others) → 32767 < length_of_forms fs → ReachesTooFar items
long-always items fs forms least long others p fit = grind (arith, end-below, below-from)
