-- A body that returns zero, beside a method that returns five.
use Rattle.std.proofs.Common.{◌≡◌, ℕ, List, [], ◌∷◌, refl, sym, ap, subst, arith}
use Rattle.std.specs.Prelude.{Contains, Some, Ok, pos, slice_index_or}
use Rattle.jc_base.specs.declared.ty.Ty.TheVariants.{Short}
use Rattle.jc_base.specs.declared.record.MethodRec.{MethodRec}
use Rattle.jc_base.specs.Class.{parent_of, chain, chain_over}
use Rattle.jc_base.specs.Order.{is_below, is_on_chain, same}
use Rattle.jc_base.specs.World.{Linked}
use Rattle.jc_decode.specs.Cases.{cases}
use Rattle.jc_decode.specs.Decoding.{decoded}
use Rattle.jc_decode.specs.Layout.{layout_of, opcode}
use Rattle.jc_decode.specs.Listing.{at_most, listing, listing_from, targets}
use Rattle.jc_decode.specs.Standing.{AreSteps}
use Rattle.jc_decode.specs.Symbols.{steps as steps_of_items}
use Rattle.jc_control.specs.Control.{IsReached, begins, falls_through, follows}
use Rattle.jc_control.specs.WellFormed.{HasInstruction}
use Rattle.jc_ops.specs.declared.operation.Constant.TheVariants as constants
use Rattle.jc_ops.specs.declared.operation.Operation.TheVariants as ops
use Rattle.jc_ops.specs.Row.{table, row_at, unused, by_sort, by_width, by_kind, first_four, by_register, literals, binaries, orders_all, branching}
use Rattle.jc_ops.specs.Resolve.{Resolves}
use Rattle.jc_rules.specs.Flow.{more_cells, no_cells}
use Rattle.vm_store.specs.declared.cell.Cell.{Cell}
use Rattle.vm_store.specs.Cells.{tagged}
use Rattle.vm_store.specs.State.{Object, State}
use Rattle.vm_step.specs.declared.ending.Ending.{Ending}
use Rattle.vm_step.specs.declared.ending.Ending.TheVariants as endings
use Rattle.vm_step.specs.declared.ending.Plain.TheVariants.{Returned}
use Rattle.vm_step.specs.declared.ending.Value.{Value}
use Rattle.vm_step.specs.declared.ending.Value.TheVariants as values
use Rattle.vm_step.specs.Methods.{instruction_at}
use Rattle.vm_step.specs.Numbers.{short_at}
use Rattle.vm_step.specs.Raising.{ended, running}
use Rattle.vm_step.specs.Step.{Steps}
use Rattle.law_groups.specs.Laid.{AreLaidIn}
use Rattle.law_groups.specs.Beside.{IsTypedAt}
use Rattle.xf_tests.specs.Refused.{ZeroIsRefused, coded, five, method_of, with_opcode, world_of, zero_body}
use Rattle.xf_tests.proofs.Unlike.{Ends, Returns, alone, ends_after, ends_now, returns_after, returns_now, unlike}
use Rattle.xf_tests.proofs.Refusing.{does, frame, number, returned-number}

-- ---- both worlds

abbrev zero-world : Linked
zero-world = five.world

abbrev zero-code : List ℕ
zero-code = 3 ∷ 120 ∷ []

abbrev zero-method : MethodRec
zero-method = coded (method_of [] Short) (8 ∷ 120 ∷ []) 0 1

abbrev zero-laid-method : MethodRec
zero-laid-method = coded (method_of [] Short) zero-code 0 2

abbrev zero-laid-world : Linked
zero-laid-world = world_of zero-laid-method zero-code

abbrev zero-place : ℕ → ℕ
zero-place n = slice_index_or (0 ∷ 1 ∷ 2 ∷ []) n 0

abbrev zero-heap : List (Object Cell)
zero-heap = []

-- what the source returns, how the target ends, and what both leave
abbrev zero-value : Value
zero-value = values.Short (short_at tagged (number 5 ∷ []) 0)

abbrev zero-ending : Ending
zero-ending = endings.Plain (Returned (values.Short (short_at tagged (number 0 ∷ []) 0)))

abbrev zero-end : State Cell
zero-end = record { frames = []; heap = zero-heap; statics = [] }

-- ---- the instructions of both codes

zero-source-listing : listing (8 ∷ 120 ∷ []) ≡ record { place = 0; insn = with_opcode 8 }
    ∷ record { place = 1; insn = with_opcode 120 }
    ∷ []
unfolding listing listing_from at_most decoded layout_of opcode
zero-source-listing = refl

zero-target-listing : listing zero-code ≡ record { place = 0; insn = with_opcode 3 }
    ∷ record { place = 1; insn = with_opcode 120 }
    ∷ []
unfolding listing listing_from at_most decoded layout_of opcode
zero-target-listing = refl

-- ---- the symbols are laid

zero-steps : AreSteps zero-code zero-place 0 (steps_of_items (8 ∷ 120 ∷ []) zero_body.items)
    (record { place = 0; insn = with_opcode 3 }
    ∷ record { place = 1; insn = with_opcode 120 }
    ∷ [])
unfolding targets cases layout_of opcode
zero-steps = (
  refl,
  refl,
  record { same = refl; leads = refl; keyed = refl },
  (
    refl,
    refl,
    record { same = refl; leads = refl; keyed = refl },
    tt,
  ),
)

zero-laid : AreLaidIn zero-world zero-laid-world five.method zero_body zero-place
zero-laid = record {
  same = record { pools = refl; classes = refl; methods = refl; statics = refl; arrays = refl };
  target = record { number = 0; rec = zero-laid-method; code = zero-code };
  is_target = record { rec = refl; code = refl; filled = omega arith };
  number = refl;
  laid = record { code = zero-code; handlers = []; max_stack = 2; nargs = 0; max_locals = 0 };
  has = record { same = refl; code = refl; nargs = refl; max_locals = refl; max_stack = refl; handlers = refl };
  stands = record {
    begins = refl;
    instructions =
        subst (AreSteps zero-code zero-place 0 (steps_of_items (8 ∷ 120 ∷ []) zero_body.items))
        (sym zero-target-listing) zero-steps;
    ends = refl;
    handlers = refl;
    max_stack = refl;
    nargs = refl;
    max_locals = refl;
  };
}

-- ---- the way of the source

zero-reached-0 : IsReached five.method 0
zero-reached-0 = begins

zero-stands-0 : HasInstruction (8 ∷ 120 ∷ []) (record { place = 0; insn = with_opcode 8 })
zero-stands-0 =
    subst (λ is. Contains is (record { place = 0; insn = with_opcode 8 }))
    (sym zero-source-listing) (0, omega arith, refl)

zero-reached-1 : IsReached five.method 1
zero-reached-1 = follows zero-stands-0 zero-reached-0 (falls_through refl)

-- on which each state is typed

zero-typed-0 : IsTypedAt zero-world five (alone (frame 0 [] []) zero-heap [])
unfolding parent_of
zero-typed-0 = record {
  runs = omega arith;
  method = refl;
  reached = zero-reached-0;
  below = record { regs = no_cells; stack = no_cells };
  objects_stay = λ e. refl;
  statics_stay = λ e. refl;
}

zero-typed-1 : IsTypedAt zero-world five (alone (frame 1 [] (number 5 ∷ [])) zero-heap [])
unfolding parent_of
zero-typed-1 = record {
  runs = omega arith;
  method = refl;
  reached = zero-reached-1;
  below = record { regs = no_cells; stack = more_cells same no_cells };
  objects_stay = λ e. refl;
  statics_stay = λ e. refl;
}

-- ---- the steps of the source

zero-there-0 : instruction_at (8 ∷ 120 ∷ []) 0 ≡ Some (record { place = 0; insn = with_opcode 8 })
unfolding instruction_at listing listing_from at_most decoded layout_of opcode
zero-there-0 = refl

zero-names-0 : Resolves zero-world zero-method 0 (with_opcode 8) (Ok (ops.Constant (constants.Short (pos 5))))
unfolding row_at table by_sort by_width by_kind first_four by_register literals binaries orders_all branching unused
zero-names-0 = refl

zero-step-0 :
    Steps tagged zero-world (alone (frame 0 [] []) zero-heap [])
    (running (alone (frame 1 [] (number 5 ∷ [])) zero-heap []))
unfolding is_below is_on_chain chain chain_over parent_of instruction_at listing listing_from at_most decoded layout_of opcode
zero-step-0 =
    does zero-world zero-method (frame 0 [] []) zero-heap
    (record { place = 0; insn = with_opcode 8 }) (ops.Constant (constants.Short (pos 5))) refl zero-there-0 zero-names-0

zero-there-1 : instruction_at (8 ∷ 120 ∷ []) 1 ≡ Some (record { place = 1; insn = with_opcode 120 })
unfolding instruction_at listing listing_from at_most decoded layout_of opcode
zero-there-1 = refl

zero-names-1 : Resolves zero-world zero-method 1 (with_opcode 120) (Ok (ops.Return (Some Short)))
unfolding row_at table by_sort by_width by_kind first_four by_register literals binaries orders_all branching unused
zero-names-1 = refl

zero-step-1 :
    Steps tagged zero-world (alone (frame 1 [] (number 5 ∷ [])) zero-heap [])
    (ended (endings.Plain (Returned zero-value)) zero-end)
unfolding is_below is_on_chain chain chain_over parent_of instruction_at listing listing_from at_most decoded layout_of opcode
zero-step-1 =
    does zero-world zero-method (frame 1 [] (number 5 ∷ [])) zero-heap
    (record { place = 1; insn = with_opcode 120 }) (ops.Return (Some Short)) refl zero-there-1 zero-names-1

-- ---- the steps of the target

zero-laid-there-0 : instruction_at zero-code 0 ≡ Some (record { place = 0; insn = with_opcode 3 })
unfolding instruction_at listing listing_from at_most decoded layout_of opcode
zero-laid-there-0 = refl

zero-laid-names-0 :
    Resolves zero-laid-world zero-laid-method 0 (with_opcode 3)
    (Ok (ops.Constant (constants.Short (pos 0))))
unfolding row_at table by_sort by_width by_kind first_four by_register literals binaries orders_all branching unused
zero-laid-names-0 = refl

zero-laid-step-0 :
    Steps tagged zero-laid-world (alone (frame 0 [] []) zero-heap [])
    (running (alone (frame 1 [] (number 0 ∷ [])) zero-heap []))
unfolding is_below is_on_chain chain chain_over parent_of instruction_at listing listing_from at_most decoded layout_of opcode
zero-laid-step-0 =
    does zero-laid-world zero-laid-method (frame 0 [] []) zero-heap
    (record { place = 0; insn = with_opcode 3 }) (ops.Constant (constants.Short (pos 0))) refl zero-laid-there-0 zero-laid-names-0

zero-laid-there-1 : instruction_at zero-code 1 ≡ Some (record { place = 1; insn = with_opcode 120 })
unfolding instruction_at listing listing_from at_most decoded layout_of opcode
zero-laid-there-1 = refl

zero-laid-names-1 : Resolves zero-laid-world zero-laid-method 1 (with_opcode 120) (Ok (ops.Return (Some Short)))
unfolding row_at table by_sort by_width by_kind first_four by_register literals binaries orders_all branching unused
zero-laid-names-1 = refl

zero-laid-step-1 :
    Steps tagged zero-laid-world (alone (frame 1 [] (number 0 ∷ [])) zero-heap [])
    (ended zero-ending zero-end)
unfolding is_below is_on_chain chain chain_over parent_of instruction_at listing listing_from at_most decoded layout_of opcode
zero-laid-step-1 =
    does zero-laid-world zero-laid-method (frame 1 [] (number 0 ∷ [])) zero-heap
    (record { place = 1; insn = with_opcode 120 }) (ops.Return (Some Short)) refl zero-laid-there-1 zero-laid-names-1

-- ---- both runs

zero-returns : Returns zero-world five zero-heap [] zero-value (frame 0 [] [])
zero-returns =
    returns_after refl zero-typed-0 zero-step-0
    (returns_now refl zero-typed-1 _ zero-step-1)

zero-ends : Ends zero-laid-world zero-ending zero-end (alone (frame 0 [] []) zero-heap [])
zero-ends =
    ends_after zero-laid-step-0 (ends_now zero-laid-step-1)

zero-differs : zero-ending ≡ endings.Plain (Returned zero-value) → ⊥
zero-differs e = let n : 0 ≡ 5 = ap returned-number e in omega (arith, n)

pub zero-is-refused : ZeroIsRefused
zero-is-refused matches =
    unlike zero-world zero-laid-world five zero-place zero-heap [] zero-value zero-ending _ zero-differs
    (matches zero-laid-world zero-place zero-laid) ([]) refl zero-returns zero-ends
