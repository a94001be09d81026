-- The code's table of rows is the definition's, up to the last instruction's opcode.
use Rattle.std.proofs.Common.{◌≡◌, ℕ, ◌<◌, ◌≤◌, ◌-◌, List, ◌++◌, refl, sym, ◌∙◌, ap, length, get_or, replicate, subst, arith}
use Rattle.std.proofs.lemmas.List.{get_or_default, get_or_append_left, get_or-append_right, get_or-replicate}
use Rattle.jc_ops.specs.declared.operation.Constant.TheVariants as constants
use Rattle.jc_ops.specs.declared.operation.Operation.TheVariants as ops
use Rattle.jc_ops.specs.declared.row.TheConstants.{ROWS}
use Rattle.jc_ops.specs.declared.row.Row.{Row}
use Rattle.jc_ops.specs.declared.row.Row.TheVariants as rows
use Rattle.jc_ops.specs.Row.{table, row_at, unused, by_sort, by_width, by_kind, first_four, by_register, literals, binaries, orders_all, branching}

-- those of no instruction
after : List Row
after = replicate 71 unused

ROWS-table : ROWS ++ after ≡ table
unfolding table by_sort by_width by_kind first_four by_register literals binaries orders_all branching unused after
ROWS-table = refl

pub length-table : length table ≡ 256
unfolding after
length-table = sym (ap length ROWS-table)

-- what stands in the table at an opcode is its row, whatever is read past the end
pub ROWS-row_at : (op : ℕ) (other : Row) → op < 185 → get_or ROWS op other ≡ row_at op
unfolding row_at
ROWS-row_at op other h =
    let inside : op < length table = subst (λ n. op < n) (sym length-table) (omega (arith, h)) in
    sym (get_or_append_left ROWS after other op h)
    ∙ ap (λ rs. get_or rs op other) ROWS-table
    ∙ get_or_default table op other unused inside

-- past it stands what does nothing
pub past-row_at : (op : ℕ) → 185 ≤ op → op < 256 → rows.Plain (ops.Constant constants.Nothing) ≡ row_at op
unfolding row_at unused after
past-row_at op past inside =
    let left : op - 185 < 71 = omega (arith, past, inside) in
    sym (get_or-replicate 71 (op - 185) unused unused left)
    ∙ sym (get_or-append_right ROWS after 185 op unused refl past)
    ∙ ap (λ rs. get_or rs op unused) ROWS-table
