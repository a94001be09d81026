-- The code of a method whose registers have other numbers, with a label at each place and one at the end (JCVM 2.2, section 7.5).
use Rattle.std.specs.Prelude.{◌≡◌, ℕ, pos, if◌then◌else◌, List, [], ◌∷◌, length, map, slice_index_or}
use Rattle.std.proofs.Common.{refl}
use Rattle.jc_base.specs.declared.record.Handler.{Handler}
use Rattle.jc_decode.specs.declared.insn.Placed.{Placed}
use Rattle.jc_decode.specs.declared.symbols.Item.{Item}
use Rattle.jc_decode.specs.declared.symbols.Item.TheVariants.{Plain, Branch, Switch, Label}
use Rattle.jc_decode.specs.declared.symbols.Range.{Range}
use Rattle.jc_decode.specs.declared.symbols.Symbols.{Symbols}
use Rattle.jc_decode.specs.Cases.{cases, is_switch}
use Rattle.jc_decode.specs.Forms.{wide}
use Rattle.jc_decode.specs.Decoding.{decoded}
use Rattle.jc_decode.specs.Layout.{layout_of, opcode}
use Rattle.jc_decode.specs.Listing.{is_branch, at_most, listing, listing_from, targets}
use Rattle.jc_control.specs.Method.{Method}
use Rattle.vm_step.specs.Settled.{place_number}
use Rattle.law_renumbered.specs.Instruction.{renumbered_instruction}

-- the places to which an instruction may lead, which are the numbers of their labels
abbrev pub labels_of : List ℕ → Placed → List ℕ
labels_of code i = map place_number (targets code i)

-- the item of an instruction
abbrev pub item_of : List ℕ → (ℕ → ℕ) → Placed → Item
item_of code reg i =
    if is_switch i.insn.op then Switch i.insn i.place (labels_of code i)
    else if is_branch i.insn.op then Branch (wide i.insn.op) (slice_index_or (labels_of code i) 0 0)
    else Plain (renumbered_instruction reg i.insn)

-- each instruction of a list behind the label of its place, and the label of the end of the code
abbrev pub items_from : List ℕ → (ℕ → ℕ) → List Placed → List Item
items_from code reg [] = Label (length code) ∷ []
items_from code reg (i ∷ is) = Label i.place ∷ item_of code reg i ∷ items_from code reg is

abbrev pub range_of : Handler → Range
range_of h = record { «from» = h.start; to = h.end; entry = h.entry; pool = h.index }

-- the method with these numbers of its registers, and so many beyond its arguments
abbrev pub renumbered_method : Method → (ℕ → ℕ) → ℕ → Symbols
renumbered_method m reg locals = record {
  items = items_from m.code reg (listing m.code);
  ranges = map range_of m.rec.handlers;
  max_stack = m.rec.max_stack;
  nargs = m.rec.nargs;
  max_locals = locals;
}

-- sload_3, ifeq over its own two bytes, return; register 3 becomes register 1
a_branch : items_from (31 ∷ 96 ∷ 2 ∷ 122 ∷ []) (λ x. 1) (listing (31 ∷ 96 ∷ 2 ∷ 122 ∷ []))
    ≡ Label 0 ∷ Plain (record { op = 22; x = pos 1; y = pos 0; z = pos 0; len = 1 })
    ∷ Label 1 ∷ Branch 152 3
    ∷ Label 3 ∷ Plain (record { op = 122; x = pos 0; y = pos 0; z = pos 0; len = 1 })
    ∷ Label 4 ∷ []
unfolding listing listing_from at_most decoded targets cases layout_of opcode
a_branch = refl

-- a handler over the first two, which catches everything at the third
a_range : range_of (record { start = 0; end = 3; entry = 3; index = 0; class = 5 })
    ≡ record { «from» = 0; to = 3; entry = 3; pool = 0 }
a_range = refl
