-- The switches are the opcodes from 115 to 118.
use Rattle.std.proofs.Common.{◌≡◌, ◌∙◌, ℕ, ◌<◌, List, Bool, false, sym, refl, ap, arith, get_or}
use Rattle.std.specs.List.{range_with_len}
use Rattle.std.specs.Prelude.{map}
use Rattle.std.proofs.lemmas.List.FromFn.{get_or-map-range_with_len}
use Rattle.jc_decode.specs.Layout.{layout_of, opcode}
use Rattle.jc_decode.specs.Cases.{is_switch, is_from_115}

switches-are : map is_switch (range_with_len 0 256) ≡ map is_from_115 (range_with_len 0 256)
unfolding layout_of opcode
switches-are = refl

pub switches-at : (op : ℕ) (b : Bool) → op < 256 → b ≡ is_from_115 op → b ≡ is_switch op
switches-at op b h is =
    is ∙ sym (get_or-map-range_with_len is_from_115 0 256 op op false h (omega arith))
    ∙ ap (λ (t : List Bool). get_or t op false) (sym switches-are)
    ∙ get_or-map-range_with_len is_switch 0 256 op op false h (omega arith)

pub ruleset switch_facts = (switches-at)
