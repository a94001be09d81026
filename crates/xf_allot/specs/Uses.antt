-- The registers that an operation reads and those that it writes, as sets (Aho, Lam, Sethi and Ullman, section 9.2.5).
use Rattle.std.specs.Prelude.{◌↔◌, ℕ, ◌+◌, ◌<◌, ◌≤◌}
use Rattle.jc_base.specs.World.{Linked}
use Rattle.jc_ops.specs.declared.operation.Holder.TheVariants as holders
use Rattle.jc_ops.specs.declared.operation.Operation.{Operation}
use Rattle.jc_ops.specs.declared.operation.Operation.TheVariants as ops
use Rattle.jc_ops.specs.declared.operation.Sort.{Sort}
use Rattle.jc_ops.specs.declared.operation.Sort.TheVariants as sorts
use Rattle.jc_ops.specs.declared.operation.Width.{Width}
use Rattle.jc_ops.specs.declared.operation.Width.TheVariants as widths
use Rattle.law_share.specs.Live.{Reads, Writes}
use Rattle.xf_allot.specs.declared.uses.Span.{Span}
use Rattle.xf_live.specs.declared.graph.Uses.{Uses}
use Rattle.xf_live.specs.Set.{Has}

-- the sets have what the operation reads and what it writes
pub record AreUsesOf (w : Linked) (op : Operation) (u : Uses) : Type 0 where
  pub reads : (x : ℕ) → Has u.reads x ↔ Reads w op x
  pub writes : (x : ℕ) → Has u.writes x ↔ Writes w op x

-- ---- registers one after the other

pub record IsIn (span : Span) (x : ℕ) : Type 0 where
  pub from : span.first ≤ x
  pub before : x < span.first + span.count

abbrev pub words : Sort → ℕ
words sorts.Int = 2
words s = 1

abbrev pub size : Width → ℕ
size widths.Short = 1
size widths.Int = 2

abbrev pub span : ℕ → ℕ → Span
span first count = record { first = first; count = count }

abbrev pub read_by : Operation → Span
read_by (ops.Load s x) = span x (words s)
read_by (ops.Increment width x amount) = span x (size width)
read_by (ops.FieldRead field holders.This) = span 0 1
read_by (ops.FieldWrite field holders.This) = span 0 1
read_by op = span 0 0

abbrev pub written_by : Operation → Span
written_by (ops.Store s x) = span x (words s)
written_by (ops.Increment width x amount) = span x (size width)
written_by op = span 0 0
