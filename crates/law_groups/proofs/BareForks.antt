-- A conditional branch or a switch with no cells under its operands: its step in laid code, and where that leads.
use Rattle.std.proofs.Common.{◌≡◌, ℕ, zero, suc, ◌+◌, ◌≤◌, false, List, ◌∙◌}
use Rattle.std.proofs.Common.{[], ◌∷◌, refl, ap, arith}
use Rattle.std.specs.Prelude.{ℤ, Option, Some, None, Ok, nat_lt, slice_get}
use Rattle.std.specs.List.{filter}
use Rattle.std.proofs.lemmas.Bool.Decides.{nat_tests}
use Rattle.jc_base.specs.declared.ty.Ty.{Ty}
use Rattle.jc_base.specs.Each.{Each}
use Rattle.jc_decode.specs.declared.insn.Insn.{Insn}
use Rattle.jc_decode.specs.declared.insn.Placed.{Placed}
use Rattle.jc_decode.specs.declared.symbols.Item.TheVariants.{Switch}
use Rattle.jc_decode.specs.Forms.{wide}
use Rattle.jc_decode.specs.Listing.{targets}
use Rattle.jc_decode.specs.Symbols.{jump}
use Rattle.jc_ops.specs.declared.operation.Operation.{Operation}
use Rattle.jc_ops.specs.declared.operation.Operation.TheVariants as ops
use Rattle.xf_homes.specs.declared.home.Home.{Home}
use Rattle.xf_homes.specs.Home.{register_count}
use Rattle.xf_homes.specs.Value.{value_in_cells}
use Rattle.xf_homes.specs.Walk.{operands_of}
use Rattle.xf_homes.specs.Source.{Source}
use Rattle.xf_homes.specs.Plan.{stack_homes, cells_from, depth, home_of, stack_of, with_home_of}
use Rattle.xf_emission.specs.Group.{body}
use Rattle.xf_emission.specs.Jump.{branch, has_under, jump_to, lead, leads, operands_slot}
use Rattle.xf_emission.specs.Jump.{under, way_of}

-- ---- the body

-- which have operands
pub body-branch :
    (s : Source) (i : Placed) (op : Operation) (n : ℕ)
    → operands_of s.world (Ok op) ≡ Some n
    → body s i op ≡ branch s i op n
unfolding body
body-branch s i z n e = grind (arith)

pub branch-alone :
    (s : Source) (i : Placed) (op : Operation) (n : ℕ)
    → has_under s i.place n ≡ false
    → branch s i op n ≡ jump_to i op (leads s i.place op n (targets s.method.code i) (targets s.method.code i)) ∷ []
unfolding branch
branch-alone s i op n e = grind (arith)

-- ---- no cells under the operands

cells-above : (slot : ℕ) (ts : List Ty) (i n : ℕ) → Each (λ (h : Home). slot ≤ h.slot) (cells_from slot ts i n)
cells-above slot ts i zero = tt
cells-above slot ts i (suc n) = by (value_in_cells ts i) (cells-above slot ts (suc i) n)
  where
    by :
        (o : Option Ty)
        → Each (λ (h : Home). slot ≤ h.slot) (cells_from slot ts (suc i) n)
        → Each (λ (h : Home). slot ≤ h.slot) (with_home_of (home_of (slot + i) o) (cells_from slot ts (suc i) n))
    by None rest = rest
    by (Some ty) rest = (omega arith, rest)

none-below : (c : ℕ) (hs : List Home) → Each (λ (h : Home). c ≤ h.slot) hs → filter (λ (h : Home). nat_lt h.slot c) hs ≡ []
none-below c [] all = refl
none-below c (h ∷ hs) all = grind (arith, nat_tests, none-below c hs all.1)

pub under-none : (s : Source) (p n : ℕ) → has_under s p n ≡ false → under s p n ≡ []
unfolding under stack_homes
under-none s p n e =
    let deep : depth s p ≤ n = grind (arith, nat_tests, e) in
    let c : operands_slot s p n ≡ register_count s.method.rec = omega (arith, deep) in
    ap (λ k. filter (λ (h : Home). nat_lt h.slot k) (cells_from (register_count s.method.rec) (stack_of (s.frames p)) 0 (depth s p))) c
    ∙ none-below (register_count s.method.rec) _ (cells-above (register_count s.method.rec) (stack_of (s.frames p)) 0 (depth s p))

-- ---- the step

abbrev pub labels_of : Source → Placed → Operation → ℕ → List ℕ
labels_of s i op n = leads s i.place op n (targets s.method.code i) (targets s.method.code i)

-- of the k-th target
pub lead-at :
    (s : Source) (p : ℕ) (op : Operation) (n k : ℕ) (whole ts : List ℤ) (t : ℤ)
    → slice_get ts k ≡ Some t
    → slice_get (leads s p op n whole ts) k ≡ Some (lead s p op n (way_of whole t) t)
lead-at s p op n k whole [] t e = absurd (cc)
lead-at s p op n zero whole (u ∷ ts) t e = grind (arith)
lead-at s p op n (suc k) whole (u ∷ ts) t e = lead-at s p op n k whole ts t e

-- the instruction of the step of a branch or a switch
abbrev pub jump_insn : Placed → Operation → Insn
jump_insn i (ops.Switch width) = i.insn
jump_insn i op = jump (wide i.insn.op)
