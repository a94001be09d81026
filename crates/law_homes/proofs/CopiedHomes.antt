-- A copy keeps every home that holds its value.
use Rattle.std.proofs.Common.{◌≡◌, ℕ, zero, suc, ◌+◌, ◌<◌, ◌≤◌, ◌⊎◌, inl, inr, List, length, set, length-set}
use Rattle.std.proofs.Common.{arith}
use Rattle.std.specs.Prelude.{slice_get}
use Rattle.std.proofs.lemmas.Option.{slice_get-get_or}
use Rattle.jc_ops.specs.declared.operation.Sort.{Sort}
use Rattle.jc_ops.specs.declared.operation.Sort.TheVariants as sorts
use Rattle.vm_store.specs.declared.cell.Cell.{Cell}
use Rattle.vm_store.specs.Cells.{tagged}
use Rattle.vm_store.specs.State.{Frame, nth}
use Rattle.xf_homes.specs.declared.home.Home.{Home}
use Rattle.xf_homes.specs.Value.{type_width}
use Rattle.xf_homes.specs.Source.{Source}
use Rattle.xf_homes.specs.Plan.{register}
use Rattle.law_homes.specs.Held.{HoldsValue}
use Rattle.law_homes.specs.Laws.{AreApart}
use Rattle.law_homes.specs.Moves.{size, copied, CopiesKeepHomes}
use Rattle.jc_base.proofs.Lists.{slice_get-set_here, slice_get-set_other}

-- ---- registers after a copy

-- a number beside some is none of them
pub beside : (to n k : ℕ) → (k < to) ⊎ (to + n ≤ k) → (j : ℕ) → j < n → to + j ≡ k → ⊥
beside to n k (inl lt) j small e = omega (arith, lt, e)
beside to n k (inr le) j small e = omega (arith, le, small, e)

first-copied :
    (rs : List Cell) (from to : ℕ) → from + 1 ≤ length rs → to + 1 ≤ length rs
    → slice_get (set rs to (nth tagged rs from)) (to + 0) ≡ slice_get rs (from + 0)
first-copied rs from to there inside = grind (arith, slice_get-set_here, slice_get-get_or)

pub copied-count : (sort : Sort) (from to : ℕ) (rs : List Cell) → length (copied tagged sort from to rs) ≡ length rs
copied-count x from to rs = grind (arith, length-set)

-- another register is as it was
copied-other :
    (sort : Sort) (from to : ℕ) (rs : List Cell) (n : ℕ) → (n < to) ⊎ (to + size sort ≤ n)
    → slice_get (copied tagged sort from to rs) n ≡ slice_get rs n
copied-other x from to rs n out = grind (arith, slice_get-set_other, beside)

-- one that was written has what the other had
copied-here :
    (sort : Sort) (from to : ℕ) (rs : List Cell) (k : ℕ) → k < size sort → from + size sort ≤ length rs → to + size sort ≤ length rs
    → slice_get (copied tagged sort from to rs) (to + k) ≡ slice_get rs (from + k)
copied-here sorts.Reference from to rs zero lt there inside = first-copied rs from to there inside
copied-here sorts.Reference from to rs (suc k) lt there inside = absurd (omega (arith, lt))
copied-here sorts.Short from to rs zero lt there inside = first-copied rs from to there inside
copied-here sorts.Short from to rs (suc k) lt there inside = absurd (omega (arith, lt))
copied-here sorts.Int from to rs zero lt there inside = grind (arith, slice_get-set_other, slice_get-set_here, slice_get-get_or)
copied-here sorts.Int from to rs (suc zero) lt there inside = grind (arith, length-set, slice_get-set_here, slice_get-get_or)
copied-here sorts.Int from to rs (suc (suc k)) lt there inside = absurd (omega (arith, lt))

-- ---- homes

held-after :
    (s : Source) (values : List Cell) (g : Frame Cell) (h k : Home) (sort : Sort)
    → HoldsValue s values g h → h.slot ≡ k.slot → type_width h.ty ≡ size sort → type_width k.ty ≡ size sort
    → register s k + type_width k.ty ≤ length g.registers
    → HoldsValue s values (record g { registers = copied tagged sort (register s h) (register s k) g.registers }) k
held-after s values g h k sort held slot wide also inside = grind (arith, copied-count, copied-here)

held-still :
    (s : Source) (values : List Cell) (g : Frame Cell) (h k m : Home) (sort : Sort)
    → type_width k.ty ≡ size sort → HoldsValue s values g m → AreApart (register s m) (type_width m.ty) (register s k) (type_width k.ty)
    → HoldsValue s values (record g { registers = copied tagged sort (register s h) (register s k) g.registers }) m
held-still s values g h k m sort also held apart =
    let count = copied-count sort (register s h) (register s k) g.registers in
    let there = held.there in
    record {
      known = held.known;
      there = omega (arith, there, count);
      equal = grind (arith, copied-other);
    }
  where
    out : (n : ℕ) → n < type_width m.ty → AreApart (register s m) (type_width m.ty) (register s k) (type_width k.ty)
        → (register s m + n < register s k) ⊎ (register s k + size sort ≤ register s m + n)
    out n lt (inl before) = inl (omega (arith, before, lt))
    out n lt (inr after) = inr (omega (arith, after, also))

pub copies-keep-homes : CopiesKeepHomes
copies-keep-homes s values g h k m sort held slot wide also inside (inl same) =
    grind (arith, held-after s values g h k sort held slot wide also inside)
copies-keep-homes s values g h k m sort held slot wide also inside (inr other) =
    held-still s values g h k m sort also other.0 other.1
