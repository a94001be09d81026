-- Code whose jumps go to labels, read as the code of a method. Its places are the numbers of its
-- instructions, from 0. A label takes no place: it stands for that of the first instruction after it, or
-- for the end, which is the number of all instructions.
use Rattle.std.specs.Prelude.{◌≡◌, ◌≤◌, ℕ, suc, pos, ◌+◌, ◌-◌, ℤ, List, [], ◌∷◌, map, sum_by, length}
use Rattle.std.specs.Prelude.{count_by, All, Ok, Bool, false, not, ◌==◌, IsTrue, if◌then◌else◌, true}
use Rattle.std.proofs.Common.{refl}
use Rattle.jc_decode.specs.declared.insn.Insn.{Insn}
use Rattle.jc_decode.specs.declared.symbols.Item.{Item}
use Rattle.jc_decode.specs.declared.symbols.Item.TheVariants.{Plain, Branch, Switch, Label}
use Rattle.jc_decode.specs.declared.symbols.Range.{Range}
use Rattle.jc_decode.specs.declared.symbols.LaidHandler.{LaidHandler}
use Rattle.jc_decode.specs.Layout.{layout_of, opcode}
use Rattle.jc_decode.specs.Cases.{cases, is_switch, with_default}
use Rattle.jc_decode.specs.Decoding.{decoded}
use Rattle.jc_decode.specs.Encoding.{IsAllowed}
use Rattle.jc_decode.specs.Listing.{jumps}
use Rattle.jc_decode.specs.Forms.{length_of, plain_length, is_wide_jump}

-- the number of instructions before a label, the place that it stands for
abbrev pub place_of : ℕ → List Item → ℕ
place_of l [] = 0
place_of l (Label m ∷ items) = if m == l then 0 else place_of l items
place_of l (Plain i ∷ items) = suc (place_of l items)
place_of l (Branch op m ∷ items) = suc (place_of l items)
place_of l (Switch i at labels ∷ items) = suc (place_of l items)

-- an instruction of code that is read so
pub record Step : Type 0 where
  -- of a jump but for the distance
  pub insn : Insn
  -- the places to which it may lead; of a switch the default's, then those of its cases in order
  pub targets : List ℕ
  -- of a switch, the values of its cases in order
  pub keys : List ℤ

-- the jump of this opcode; no distance is known
abbrev pub jump : ℕ → Insn
jump op = record { op = op; x = pos 0; y = pos 0; z = pos 0; len = 3 }

-- the instructions among some items of the code `all`; the switches are those of the code `source`
abbrev pub steps_in : List ℕ → List Item → List Item → List Step
steps_in source all [] = []
steps_in source all (Label l ∷ items) = steps_in source all items
steps_in source all (Plain i ∷ items) = record { insn = i; targets = []; keys = [] } ∷ steps_in source all items
steps_in source all (Branch op l ∷ items) =
    record { insn = jump op; targets = place_of l all ∷ []; keys = [] } ∷ steps_in source all items
steps_in source all (Switch i at labels ∷ items) =
    record { insn = i; targets = map (λ l. place_of l all) labels; keys = map (λ c. c.key) (cases source at i) }
    ∷ steps_in source all items

-- the code as the list of its instructions: the n-th stands at place n
abbrev pub steps : List ℕ → List Item → List Step
steps source items = steps_in source items items

-- what a handler covers and where it enters, where each label stands for a place
abbrev pub handler : (ℕ → ℕ) → Range → LaidHandler
handler place r =
    record { start = place r.from; length = place r.to - place r.from; entry = place r.entry; pool = r.pool }

-- the handlers of the code, in table order
abbrev pub handlers : List Item → List Range → List LaidHandler
handlers items ranges = map (handler (λ l. place_of l items)) ranges

-- whether an item is this label
abbrev pub is_label : ℕ → Item → Bool
is_label l (Label m) = m == l
is_label l (Plain i) = false
is_label l (Branch op m) = false
is_label l (Switch i at labels) = false

-- the label stands at exactly one place
abbrev pub IsOnce : List Item → ℕ → Type 0
IsOnce items l = count_by (is_label l) items ≡ 1

-- what may be an item of the code `all`: an instruction that names no place; a jump in its wide form; a switch
-- of the source but for its default, with a label for the default and one for each case
abbrev pub IsItem : List ℕ → List Item → Item → Type 0
IsItem source all (Plain i) = IsAllowed i × IsTrue (not (jumps i.op))
IsItem source all (Branch op l) = IsTrue (is_wide_jump op) × IsOnce all l
IsItem source all (Switch i at labels) =
    IsTrue (is_switch i.op) × (with_default i.x (decoded source at) ≡ Ok i)
    × (length labels ≡ length (cases source at i) + 1) × All (IsOnce all) labels
IsItem source all (Label l) = Unit {0}

-- what may be a range of it: it does not end before it begins
pub record IsRange (all : List Item) (r : Range) : Type 0 where
  pub from : IsOnce all r.from
  pub to : IsOnce all r.to
  pub entry : IsOnce all r.entry
  pub order : place_of r.from all ≤ place_of r.to all

-- the bytes of an item where each load and store has its operand and each jump is wide
abbrev pub plain_bytes : Item → ℕ
plain_bytes (Plain i) = plain_length i
plain_bytes (Branch op l) = 3
plain_bytes (Switch i at labels) = length_of i
plain_bytes (Label l) = 0

-- the plain size of a list of items
abbrev pub plain_size : List Item → ℕ
plain_size items = sum_by plain_bytes items

-- whether an item is an instruction
abbrev pub is_instruction : Item → Bool
is_instruction (Label l) = false
is_instruction (Plain i) = true
is_instruction (Branch op l) = true
is_instruction (Switch i at labels) = true

-- a loop: label 4, sinc 1 by 1, goto_w 4, label 9; a label before an instruction stands for its place, one at the end
-- for the end
abbrev loop_items : List Item
loop_items = Label 4 ∷ Plain (record { op = 89; x = pos 1; y = pos 1; z = pos 0; len = 3 }) ∷ Branch 168 4 ∷ Label 9 ∷ []

first : place_of 4 loop_items ≡ 0
first = refl

end : place_of 9 loop_items ≡ 2
end = refl

loop_steps : map (λ s. s.targets) (steps [] loop_items) ≡ [] ∷ (0 ∷ []) ∷ []
loop_steps = refl

loop_size : plain_size loop_items ≡ 6
unfolding layout_of opcode
loop_size = refl
