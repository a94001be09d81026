-- Conditional branches and switches: where they lead in rewritten code, and the stubs that stand on their edges.
use Rattle.std.specs.Prelude.{◌≡◌, ◌<◌, ◌≤◌, pos, negsuc, All, length, ℕ, ℤ, unsigned_abs, suc, ◌+◌, ◌-◌}
use Rattle.std.specs.Prelude.{◌/◌, Bool, nat_le, nat_lt, List, [], ◌∷◌, ◌++◌, filter, fold, Ok, if◌then◌else◌}
use Rattle.std.specs.List.{list_any, position_or_len}
use Rattle.std.specs.Ordering.{int_eq}
use Rattle.jc_decode.specs.declared.insn.Placed.{Placed}
use Rattle.jc_decode.specs.declared.symbols.Item.{Item}
use Rattle.jc_decode.specs.declared.symbols.Item.TheVariants.{Branch, Switch, Label}
use Rattle.jc_decode.specs.Decoding.{decoded}
use Rattle.jc_decode.specs.Forms.{wide}
use Rattle.jc_decode.specs.Listing.{targets}
use Rattle.jc_ops.specs.declared.operation.Operation.{Operation}
use Rattle.jc_ops.specs.declared.operation.Operation.TheVariants as ops
use Rattle.xf_homes.specs.declared.home.Home.{Home}
use Rattle.xf_homes.specs.Home.{register_count}
use Rattle.xf_homes.specs.Source.{Source}
use Rattle.xf_homes.specs.Plan.{stack_homes, depth}
use Rattle.xf_emission.specs.declared.origin.Origin.TheVariants.{After}
use Rattle.xf_emission.specs.Mnemonics.{goto_w}
use Rattle.xf_emission.specs.Move.{loads, spill}
use Rattle.xf_emission.specs.Edge.{copies, cell_copies}

-- ---- labels

-- a group begins with the label of its place, whose number is that place, and after the last stands that of the code's end. The stub of
-- the n-th way of the branch at a place, and that of the n-th handler, have numbers above all places: no two branches have ways whose
-- numbers are equal, since each target takes two bytes
abbrev pub stub_label : ℕ → ℕ → ℕ
stub_label p n = 32768 + (p / 2 + n)

abbrev pub handler_label : ℕ → ℕ
handler_label n = 49152 + n

-- ---- ways

-- the ways that a branch is taken: its targets, each once, at its first turn. A target is a place of the code, so that a switch goes one
-- way for all cases that lead to one place
abbrev pub with_target : List ℤ → ℤ → List ℤ
with_target ts t = if list_any (int_eq t) ts then ts else ts ++ t ∷ []

unfoldable pub each_once : List ℤ → List ℤ
each_once ts = fold with_target [] ts

-- which of the ways a target is
abbrev pub way_of : List ℤ → ℤ → ℕ
way_of ts t = position_or_len (int_eq t) (each_once ts)

-- ---- operands

-- the slot at which the operands of a branch begin, of so many cells
abbrev pub operands_slot : Source → ℕ → ℕ → ℕ
operands_slot s p n = register_count s.method.rec + (depth s p - n)

-- the homes of the cells under the operands, and of the operands
unfoldable pub under : Source → ℕ → ℕ → List Home
under s p n = filter (λ h. nat_lt h.slot (operands_slot s p n)) (stack_homes s p)

unfoldable pub operands : Source → ℕ → ℕ → List Home
operands s p n = filter (λ h. nat_le (operands_slot s p n) h.slot) (stack_homes s p)

-- the stack is deeper than the operands, and so is kept in its own homes
abbrev pub has_under : Source → ℕ → ℕ → Bool
has_under s p n = nat_lt n (depth s p)

abbrev pub spill_if : Bool → Source → ℕ → ℕ → List Item
spill_if over s p n = if over then spill s (stack_homes s p) ++ loads s (operands s p n) else []

-- ---- edges

-- what has to be copied where the branch at p, with operands of n cells, is taken to q: cells, then locals
unfoldable pub branch_copies : Source → ℕ → Operation → ℕ → ℕ → List Item
branch_copies s p op n q = cell_copies s (under s p n) (stack_homes s q) ++ copies s (After p op) q

-- the place of a target, which in a well-formed method is one
abbrev pub place : ℤ → ℕ
place t = unsigned_abs t

abbrev pub label_by : ℕ → ℕ → List Item → ℕ
label_by q stub [] = q
label_by q stub (i ∷ is) = stub

-- the k-th way: the target's own label where nothing has to be copied, and else that of a stub
unfoldable pub lead : Source → ℕ → Operation → ℕ → ℕ → ℤ → ℕ
lead s p op n k t = label_by (place t) (stub_label p k) (branch_copies s p op n (place t))

-- of targets that are among all of a branch
abbrev pub leads : Source → ℕ → Operation → ℕ → List ℤ → List ℤ → List ℕ
leads s p op n all [] = []
leads s p op n all (t ∷ ts) = lead s p op n (way_of all t) t ∷ leads s p op n all ts

abbrev pub first_label : List ℕ → ℕ
first_label [] = 0
first_label (l ∷ ls) = l

-- the branch itself, in its wide form, or the switch, whose labels are these
abbrev pub jump_to : Placed → Operation → List ℕ → Item
jump_to i (ops.Switch width) labels = Switch i.insn i.place labels
jump_to i op labels = Branch (wide i.insn.op) (first_label labels)

-- a conditional branch or switch with operands of n cells
unfoldable pub branch : Source → Placed → Operation → ℕ → List Item
branch s i op n =
    spill_if (has_under s i.place n) s i.place n
    ++ jump_to i op (leads s i.place op n (targets s.method.code i) (targets s.method.code i)) ∷ []

-- ---- stubs

abbrev pub goto : ℕ → Item
goto q = Branch goto_w q

abbrev pub stub_of : ℕ → ℕ → List Item → List Item
stub_of stub q [] = []
stub_of stub q (i ∷ is) = Label stub ∷ (i ∷ is) ++ goto q ∷ []

-- the stub of the k-th way, where something has to be copied
unfoldable pub stub : Source → ℕ → Operation → ℕ → ℕ → ℤ → List Item
stub s p op n k t = stub_of (stub_label p k) (place t) (branch_copies s p op n (place t))

-- of ways from the k-th on
abbrev pub stubs_of : Source → ℕ → Operation → ℕ → ℕ → List ℤ → List Item
stubs_of s p op n k [] = []
stubs_of s p op n k (t ∷ ts) = stub s p op n k t ++ stubs_of s p op n (suc k) ts

-- ---- how many targets

-- a target that is the place of an instruction of a method's code, which has at most 32,767 bytes
abbrev pub IsNearBy : ℤ → Type 0
IsNearBy (pos q) = q < 32768
IsNearBy (negsuc n) = ⊥

-- an instruction of a code with targets in it, and few enough of them for the numbers of their stubs
pub record AreLed (code : List ℕ) (i : Placed) : Type 0 where
  pub decodes : decoded code i.place ≡ Ok i.insn
  pub short : length code ≤ 32767
  pub places : All IsNearBy (targets code i)
  pub few : i.place / 2 + length (targets code i) ≤ 32768
