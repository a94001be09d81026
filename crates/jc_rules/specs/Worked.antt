-- Worked cases of the rules, against the operand stack lines of JCVM 2.2, section 7.5.
use Rattle.std.specs.Prelude.{◌≡◌, ℕ, pos, [], ◌∷◌, ◌++◌, map, replicate, Result, Ok, Err}
use Rattle.std.specs.List.{range_with_len}
use Rattle.std.proofs.Common.{refl}
use Rattle.jc_base.specs.declared.ty.Ty.{Ty}
use Rattle.jc_base.specs.declared.ty.Ty.TheVariants.{IntHigh, IntLow, Class, Fresh}
use Rattle.jc_base.specs.declared.record.MethodRec.{MethodRec}
use Rattle.jc_base.specs.World.{Linked}
use Rattle.jc_decode.specs.declared.insn.Insn.{Insn}
use Rattle.jc_ops.specs.declared.fault.RuleFault.{RuleFault}
use Rattle.jc_ops.specs.declared.operation.Want.TheVariants.{Value, Receiver}
use Rattle.jc_ops.specs.declared.operation.Sort.TheVariants as sorts
use Rattle.jc_ops.specs.declared.operation.Move.TheVariants as moves
use Rattle.jc_ops.specs.declared.operation.Operation.{Operation}
use Rattle.jc_ops.specs.declared.operation.Operation.TheVariants as ops
use Rattle.jc_ops.specs.Row.{table, row_at, unused, by_sort, by_width, by_kind, first_four, by_register, literals, binaries, orders_all}
use Rattle.jc_ops.specs.Row.{branching}
use Rattle.jc_ops.specs.Resolve.{resolved}
use Rattle.jc_rules.specs.declared.demand.Demand.TheVariants.{Registers, Cell}
use Rattle.jc_rules.specs.declared.effect.Cells.TheVariants as given
use Rattle.jc_rules.specs.Effect.{changed}
use Rattle.jc_rules.specs.Demand.{Frame}
use Rattle.jc_rules.specs.Rule.{demands, effect, ready_with}
use Rattle.jc_rules.specs.Footprint.{footprint}

abbrev instruction : ℕ → Insn
instruction op = record { op = op; x = pos 0; y = pos 0; z = pos 0; len = 1 }

module _ (w : Linked) (m : MethodRec) (f : Frame) where
  -- how many cells go and how many come
  counts_of : Result Operation RuleFault → ℕ × ℕ
  counts_of (Ok op) = ((footprint w op).taken, (footprint w op).given)
  counts_of (Err fault) = (0, 0)

  -- of an instruction of an opcode that names no pool entry, with operands 0
  counts_at : ℕ → ℕ × ℕ
  counts_at op = counts_of (resolved w m 0 (instruction op) (row_at op))

  -- nop, constants, loads, array reads, stores, array writes
  first_counts : map counts_at (range_with_len 0 59) ≡
      (0, 0) ∷ replicate 8 (0, 1) ++ replicate 7 (0, 2) ++ replicate 2 (0, 1) ++ replicate 3 (0, 2)
      ++ replicate 2 (0, 1) ++ (0, 2) ∷ replicate 8 (0, 1) ++ replicate 4 (0, 2)
      ++ replicate 3 (2, 1) ++ (2, 2) ∷ replicate 2 (1, 0) ++ (2, 0) ∷ replicate 8 (1, 0) ++ replicate 4 (2, 0)
      ++ replicate 3 (3, 0) ++ (4, 0) ∷ []
  unfolding counts_at counts_of row_at table by_sort by_width by_kind first_four by_register literals binaries orders_all branching unused
  first_counts = refl

  -- pop, pop2, dup, dup2; arithmetic from sadd to ixor, increments, conversions and icmp
  second_counts : map counts_at (range_with_len 59 4 ++ range_with_len 65 31) ≡
      (1, 0) ∷ (2, 0) ∷ (0, 1) ∷ (0, 2)
      ∷ (2, 1) ∷ (4, 2) ∷ (2, 1) ∷ (4, 2) ∷ (2, 1) ∷ (4, 2) ∷ (2, 1) ∷ (4, 2) ∷ (2, 1) ∷ (4, 2) ∷ (1, 1) ∷ (2, 2)
      ∷ (2, 1) ∷ (4, 2) ∷ (2, 1) ∷ (4, 2) ∷ (2, 1) ∷ (4, 2) ∷ (2, 1) ∷ (4, 2) ∷ (2, 1) ∷ (4, 2) ∷ (2, 1) ∷ (4, 2)
      ∷ (0, 0) ∷ (0, 0) ∷ (1, 1) ∷ (1, 2) ∷ (2, 1) ∷ (2, 1) ∷ (4, 1) ∷ []
  unfolding counts_at counts_of row_at table by_sort by_width by_kind first_four by_register literals binaries orders_all branching unused
  second_counts = refl

  -- the conditionals and goto, short and wide; the switches
  third_counts : map counts_at (range_with_len 96 17 ++ range_with_len 152 17 ++ range_with_len 115 4) ≡
      replicate 8 (1, 0) ++ replicate 8 (2, 0) ++ (0, 0) ∷ replicate 8 (1, 0) ++ replicate 8 (2, 0) ++ (0, 0)
      ∷ (1, 0) ∷ (2, 0) ∷ (1, 0) ∷ (2, 0) ∷ []
  unfolding counts_at counts_of row_at table by_sort by_width by_kind first_four by_register literals binaries orders_all branching unused
  third_counts = refl

  -- newarray, arraylength, athrow, sinc_w, iinc_w
  last_counts : map counts_at (144 ∷ 146 ∷ 147 ∷ 150 ∷ 151 ∷ []) ≡ (1, 1) ∷ (1, 1) ∷ (1, 0) ∷ (0, 0) ∷ (0, 0) ∷ []
  unfolding counts_at counts_of row_at table by_sort by_width by_kind first_four by_register literals binaries orders_all branching unused
  last_counts = refl

  -- dup_x and swap_x have their numbers in two nibbles
  moves_named :
      map (λ op. resolved w m 0 (record { op = op; x = pos 18; y = pos 0; z = pos 0; len = 2 }) (row_at op)) (63 ∷ 64 ∷ [])
      ≡ Ok (ops.Move (moves.CopyUnder 1 2)) ∷ Ok (ops.Move (moves.Exchange 1 2)) ∷ []
  unfolding row_at table by_sort by_width by_kind first_four by_register literals binaries orders_all branching unused
  moves_named = refl

  -- istore_1 names two registers, and takes the low half first
  istore_named : resolved w m 0 (instruction 52) (row_at 52) ≡ Ok (ops.Store sorts.Int 1)
  unfolding row_at table by_sort by_width by_kind first_four by_register literals binaries orders_all branching unused
  istore_named = refl

  istore_asks : demands w (ops.Store sorts.Int 1) ≡ Registers 1 2 ∷ Cell 0 (Value IntLow) ∷ Cell 1 (Value IntHigh) ∷ []
  istore_asks = refl

  -- dup_x with m = 1 and n = 2 puts the top cell under the first two
  under_two : (a b c : Ty) → changed (effect w (ops.Move (moves.CopyUnder 1 2)) f).change (a ∷ b ∷ c ∷ [])
      ≡ a ∷ b ∷ a ∷ c ∷ []
  under_two a b c = refl

  -- swap_x with m = 1 and n = 2
  exchange_two : (a b c d : Ty) → changed (effect w (ops.Move (moves.Exchange 1 2)) f).change (a ∷ b ∷ c ∷ d ∷ [])
      ≡ b ∷ c ∷ a ∷ d ∷ []
  exchange_two a b c d = refl

-- a constructor readies both copies of the object that the `new` at place 3 made
readies_copies :
    changed
    (ready_with 1 given.Nothing (Fresh 3 5) (Receiver 5))
    (Fresh 3 5 ∷ Fresh 3 5 ∷ Fresh 4 5 ∷ [])
    ≡ Class 5 ∷ Fresh 4 5 ∷ []
readies_copies = refl
