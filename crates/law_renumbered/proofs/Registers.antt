-- An instruction whose register has another number has the operation with that number.
use Rattle.std.proofs.Common.{◌≡◌, ℕ, ◌<◌, ◌%◌, ◌∙◌, Bool, true, false, if◌then◌else◌, List, [], ◌∷◌, ◌++◌, map, refl, sym, ap, arith}
use Rattle.std.specs.Prelude.{ℤ, Option, Some, Result, Ok, Err}
use Rattle.std.specs.List.{range_with_len}
use Rattle.std.proofs.lemmas.Bool.Decides.{nat_tests}
use Rattle.jc_base.specs.declared.record.Member.{Member}
use Rattle.jc_base.specs.declared.record.Member.TheVariants.{ClassOf}
use Rattle.jc_base.specs.declared.record.MethodRec.{MethodRec}
use Rattle.jc_base.specs.Dispatch.{is_concrete}
use Rattle.jc_base.specs.World.{Linked}
use Rattle.jc_decode.specs.declared.insn.Insn.{Insn}
use Rattle.jc_decode.specs.Cases.{is_switch}
use Rattle.jc_decode.specs.Forms.{wide}
use Rattle.jc_decode.specs.Layout.{layout_of, opcode}
use Rattle.jc_decode.specs.Listing.{falls, jumps, is_branch}
use Rattle.jc_decode.specs.Symbols.{jump}
use Rattle.jc_ops.specs.declared.fault.RuleFault.{RuleFault}
use Rattle.jc_ops.specs.declared.fault.RuleFault.TheVariants.{NotConcrete}
use Rattle.jc_ops.specs.declared.operation.Operation.{Operation}
use Rattle.jc_ops.specs.declared.operation.Operation.TheVariants as ops
use Rattle.jc_ops.specs.Row.{table, row_at, unused, by_sort, by_width, by_kind, first_four, by_register, literals, binaries, orders_all, branching}
use Rattle.jc_ops.specs.Resolve.{resolved, on, new_object}
use Rattle.jc_ops.specs.declared.operation.Holder.TheVariants as holders
use Rattle.jc_ops.specs.declared.operation.TypeTest.TheVariants as tests
use Rattle.law_share.specs.Renumbered.{renumbered}
use Rattle.law_laid.proofs.Forms.{past-switch, past-row}
use Rattle.law_renumbered.specs.Instruction.{uses_register, renumbered_instruction}
use Rattle.jc_decode.proofs.Passed.{at-op, by-size}

-- the instruction that stands for another in symbols
abbrev pub stated : (ℕ → ℕ) → Insn → Insn
stated reg i = if is_switch i.op then i else if is_branch i.op then jump (wide i.op) else renumbered_instruction reg i

abbrev pub renumbered_result : (ℕ → ℕ) → Result Operation RuleFault → Result Operation RuleFault
renumbered_result reg (Ok op) = Ok (renumbered reg op)
renumbered_result reg (Err fault) = Err fault

-- a number of a register as a byte tells it
abbrev pub in_byte : (ℕ → ℕ) → ℕ → ℕ
in_byte reg x = reg x % 256

-- ---- opcode by opcode

module _ (reg : ℕ → ℕ) (x y z : ℤ) (len : ℕ) where
  abbrev insn : ℕ → Insn
  insn op = record { op = op; x = x; y = y; z = z; len = len }

  table-falls : map (λ op. falls (stated reg (insn op)).op) (range_with_len 0 256) ≡ map falls (range_with_len 0 256)
  unfolding layout_of opcode
  table-falls = refl

  table-jumps : map (λ op. jumps (stated reg (insn op)).op) (range_with_len 0 256) ≡ map jumps (range_with_len 0 256)
  unfolding layout_of opcode
  table-jumps = refl

  module _ (w : Linked) (m : MethodRec) (place : ℕ) where
    abbrev result : Insn → Result Operation RuleFault
    result i = resolved w m place i (row_at i.op)

    table-results : map (λ op. result (stated reg (insn op))) (range_with_len 0 256)
        ≡ map (λ op. if uses_register op then renumbered_result (in_byte reg) (result (insn op)) else result (insn op)) (range_with_len 0 256)
    unfolding layout_of opcode row_at table by_sort by_width by_kind first_four by_register literals binaries orders_all branching unused
    table-results = refl

    -- what names a member is no load, no store and no increment
    made-stays : {X : Type 0} (f : ℕ → ℕ) (make : X → Operation) → ((x : X) → renumbered f (make x) ≡ make x) → (r : Result X RuleFault)
        → renumbered_result f (on make r) ≡ on make r
    made-stays f make same x = grind (arith)

    new-stays : (f : ℕ → ℕ) (pool : ℕ) (o : Option Member) → renumbered_result f (new_object w place pool o) ≡ new_object w place pool o
    new-stays f pool (Some (ClassOf c)) = by (is_concrete w.classes w.methods c)
      where
        by : (b : Bool) → renumbered_result f (if b then Ok (ops.New place c) else Err (NotConcrete c))
            ≡ (if b then Ok (ops.New place c) else Err (NotConcrete c))
        by true = refl
        by false = refl
    new-stays f pool _ = refl

    also : {X : Type 0} {a b : X} {xs ys : List X} → a ≡ b → xs ≡ ys → a ∷ xs ≡ b ∷ ys
    also p q = cc

    behind : {X : Type 0} {xs ys us vs : List X} → xs ≡ ys → us ≡ vs → xs ++ us ≡ ys ++ vs
    behind p q = cc

    abbrev kept : ℕ → Result Operation RuleFault
    kept op = if uses_register op then result (insn op) else renumbered_result (in_byte reg) (result (insn op))

    four : {X : Type 0} (make : X → Operation) → ((x : X) → renumbered (in_byte reg) (make x) ≡ make x) → (a b c d : Result X RuleFault)
        → renumbered_result (in_byte reg) (on make a) ∷ renumbered_result (in_byte reg) (on make b)
        ∷ renumbered_result (in_byte reg) (on make c) ∷ renumbered_result (in_byte reg) (on make d) ∷ []
        ≡ on make a ∷ on make b ∷ on make c ∷ on make d ∷ []
    four make same a b c d = grind (arith, also, made-stays)

    -- so many opcodes from this one on, but for those that name a register
    abbrev Stay : ℕ → ℕ → Type 0
    Stay op n = map kept (range_with_len op n) ≡ map (λ o. result (insn o)) (range_with_len op n)

    stay-plain : Stay 0 119
    unfolding row_at table by_sort by_width by_kind first_four by_register literals binaries orders_all branching unused
    stay-plain = refl

    stay-returns : Stay 119 4
    unfolding row_at table by_sort by_width by_kind first_four by_register literals binaries orders_all branching unused
    stay-returns = four ops.Return (λ x. refl) _ _ _ _

    stay-static-reads : Stay 123 4
    unfolding row_at table by_sort by_width by_kind first_four by_register literals binaries orders_all branching unused
    stay-static-reads = four ops.StaticRead (λ x. refl) _ _ _ _

    stay-static-writes : Stay 127 4
    unfolding row_at table by_sort by_width by_kind first_four by_register literals binaries orders_all branching unused
    stay-static-writes = four ops.StaticWrite (λ x. refl) _ _ _ _

    stay-reads : Stay 131 4
    unfolding row_at table by_sort by_width by_kind first_four by_register literals binaries orders_all branching unused
    stay-reads = four (λ f. ops.FieldRead f holders.Stack) (λ x. refl) _ _ _ _

    stay-writes : Stay 135 4
    unfolding row_at table by_sort by_width by_kind first_four by_register literals binaries orders_all branching unused
    stay-writes = four (λ f. ops.FieldWrite f holders.Stack) (λ x. refl) _ _ _ _

    stay-calls : Stay 139 4
    unfolding row_at table by_sort by_width by_kind first_four by_register literals binaries orders_all branching unused
    stay-calls = four ops.Call (λ x. refl) _ _ _ _

    stay-objects : Stay 143 3
    unfolding row_at table by_sort by_width by_kind first_four by_register literals binaries orders_all branching unused
    stay-objects = also (new-stays (in_byte reg) _ _) (also refl (also (made-stays (in_byte reg) ops.NewArray (λ x. refl) _) refl))

    stay-tests : Stay 146 4
    unfolding row_at table by_sort by_width by_kind first_four by_register literals binaries orders_all branching unused
    stay-tests = grind (arith, also, made-stays)

    stay-wide : Stay 150 19
    unfolding row_at table by_sort by_width by_kind first_four by_register literals binaries orders_all branching unused
    stay-wide = refl

    stay-reads-wide : Stay 169 4
    unfolding row_at table by_sort by_width by_kind first_four by_register literals binaries orders_all branching unused
    stay-reads-wide = four (λ f. ops.FieldRead f holders.Stack) (λ x. refl) _ _ _ _

    stay-reads-this : Stay 173 4
    unfolding row_at table by_sort by_width by_kind first_four by_register literals binaries orders_all branching unused
    stay-reads-this = four (λ f. ops.FieldRead f holders.This) (λ x. refl) _ _ _ _

    stay-writes-wide : Stay 177 4
    unfolding row_at table by_sort by_width by_kind first_four by_register literals binaries orders_all branching unused
    stay-writes-wide = four (λ f. ops.FieldWrite f holders.Stack) (λ x. refl) _ _ _ _

    stay-writes-this : Stay 181 4
    unfolding row_at table by_sort by_width by_kind first_four by_register literals binaries orders_all branching unused
    stay-writes-this = four (λ f. ops.FieldWrite f holders.This) (λ x. refl) _ _ _ _

    stay-unused : Stay 185 71
    unfolding row_at table by_sort by_width by_kind first_four by_register literals binaries orders_all branching unused
    stay-unused = refl

    stay-all : Stay 0 256
    stay-all =
        behind stay-plain (behind stay-returns (behind stay-static-reads (behind stay-static-writes
        (behind stay-reads (behind stay-writes (behind stay-calls (behind stay-objects (behind stay-tests (behind stay-wide
        (behind stay-reads-wide (behind stay-reads-this (behind stay-writes-wide (behind stay-writes-this stay-unused)))))))))))))

    both-ways : (b : Bool) (r s g : Result Operation RuleFault) → r ≡ (if b then g else s) → (if b then s else g) ≡ s → r ≡ g
    both-ways x r s g p q = grind (arith)

-- ---- instructions whose opcode is no byte

neither : {X : Type 0} (a b c : Bool) (x y z i : X) → a ≡ false → b ≡ false → c ≡ false → (if a then x else if b then y else if c then z else i) ≡ i
neither x b c x2 y z i p q r = grind (arith)

past-stated : (reg : ℕ → ℕ) (i : Insn) → 255 < i.op → stated reg i ≡ i
past-stated reg i lt = grind (arith, nat_tests, neither, past-switch)

-- ---- instructions

module _ (reg : ℕ → ℕ) (i : Insn) where
  pub falls-stated : falls (stated reg i).op ≡ falls i.op
  falls-stated = by-size i.op
      (λ lt. at-op (λ op. falls (stated reg (insn reg i.x i.y i.z i.len op)).op) falls (table-falls reg i.x i.y i.z i.len) i.op lt true)
      (λ lt. ap (λ j. falls j.op) (past-stated reg i lt))

  pub jumps-stated : jumps (stated reg i).op ≡ jumps i.op
  jumps-stated = by-size i.op
      (λ lt. at-op (λ op. jumps (stated reg (insn reg i.x i.y i.z i.len op)).op) jumps (table-jumps reg i.x i.y i.z i.len) i.op lt true)
      (λ lt. ap (λ j. jumps j.op) (past-stated reg i lt))

  module _ (w : Linked) (m : MethodRec) (place : ℕ) where
    abbrev does : Insn → Result Operation RuleFault
    does j = resolved w m place j (row_at j.op)

    unused-stays : renumbered_result (in_byte reg) (resolved w m place i unused) ≡ resolved w m place i unused
    unfolding unused
    unused-stays = refl

    -- it does what the other does, in the register with the new number
    pub does-stated : does (stated reg i) ≡ renumbered_result (in_byte reg) (does i)
    does-stated = by-size i.op
        (λ lt. both-ways reg i.x i.y i.z i.len w m place (uses_register i.op) (does (stated reg i)) (does i) (renumbered_result (in_byte reg) (does i))
        (at-op (λ op. does (stated reg (insn reg i.x i.y i.z i.len op)))
        (λ op. if uses_register op then renumbered_result (in_byte reg) (does (insn reg i.x i.y i.z i.len op)) else does (insn reg i.x i.y i.z i.len op))
        (table-results reg i.x i.y i.z i.len w m place) i.op lt (does i))
        (at-op (kept reg i.x i.y i.z i.len w m place) (λ op. does (insn reg i.x i.y i.z i.len op)) (stay-all reg i.x i.y i.z i.len w m place) i.op lt (does i)))
        (λ lt. ap does (past-stated reg i lt)
        ∙ (ap (λ row. resolved w m place i row) (past-row i.op lt) ∙ (sym unused-stays
        ∙ ap (λ row. renumbered_result (in_byte reg) (resolved w m place i row)) (sym (past-row i.op lt)))))
