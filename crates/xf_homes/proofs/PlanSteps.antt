-- Steps along cells and places.
use Rattle.std.proofs.Common.{◌≡◌, ℕ, suc, ◌+◌, ◌-◌, ◌<◌, true, false, List, [], ◌++◌, Option}
use Rattle.std.proofs.Common.{arith, append_assoc}
use Rattle.std.specs.Prelude.{is_some}
use Rattle.jc_base.specs.declared.ty.Ty.{Ty}
use Rattle.jc_rules.specs.Demand.{Frame}
use Rattle.xf_homes.specs.declared.home.Home.{Home}
use Rattle.xf_homes.specs.Value.{value_in_cells}
use Rattle.xf_homes.specs.Plan.{cells_from, home_of, with_home_of, first_of}

cells-first : (slot : ℕ) (cells : List Ty) (n len : ℕ) → n < len
    → cells_from slot cells n (len - n) ≡ with_home_of (home_of (slot + n) (value_in_cells cells n)) (cells_from slot cells (n + 1) (len - (n + 1)))
cells-first slot cells n len lt = grind (arith, suc)

split-first : (o : Option Home) (rest : List Home) → with_home_of o rest ≡ with_home_of o [] ++ rest
split-first x rest = grind (arith)

-- the next cell
pub cells-next : (homes now whole : List Home) (slot : ℕ) (cells : List Ty) (n len : ℕ) (o : Option Home) → n < len
    → o ≡ home_of (slot + n) (value_in_cells cells n)
    → now ≡ homes ++ with_home_of o [] → homes ++ cells_from slot cells n (len - n) ≡ whole → now ++ cells_from slot cells (n + 1) (len - (n + 1))
    ≡ whole
cells-next homes now whole slot cells n len o lt is pushed inv = grind (arith, append_assoc, cells-first, split-first)

-- ---- places

pub first-here : (frames : ℕ → Option Frame) (at end : ℕ) → at < end → is_some (frames at) ≡ true → first_of frames at (end - at) ≡ at
first-here frames at end lt is = grind (arith, suc)

pub first-later : (frames : ℕ → Option Frame) (at end : ℕ) → at < end → is_some (frames at) ≡ false
    → first_of frames at (end - at) ≡ first_of frames (at + 1) (end - (at + 1))
first-later frames at end lt is = grind (arith, suc)
