-- A body that puts a stack back at the target of a conditional alone, beside what it stands for: it ends in a fault.
use Rattle.std.proofs.Common.{◌≡◌, ℕ, List, [], ◌∷◌, refl, sym, subst, arith}
use Rattle.std.specs.Prelude.{Contains, Some, Ok, pos, slice_index_or}
use Rattle.jc_base.specs.declared.ty.Ty.TheVariants.{Short}
use Rattle.jc_base.specs.declared.record.MethodRec.{MethodRec}
use Rattle.jc_base.specs.Class.{parent_of, chain, chain_over}
use Rattle.jc_base.specs.Order.{is_below, is_on_chain, same}
use Rattle.jc_base.specs.World.{Linked}
use Rattle.jc_decode.specs.declared.insn.Insn.{Insn}
use Rattle.jc_decode.specs.Cases.{cases}
use Rattle.jc_decode.specs.Decoding.{decoded}
use Rattle.jc_decode.specs.Layout.{layout_of, opcode}
use Rattle.jc_decode.specs.Listing.{at_most, listing, listing_from, targets}
use Rattle.jc_decode.specs.Standing.{AreSteps}
use Rattle.jc_decode.specs.Symbols.{steps as steps_of_items}
use Rattle.jc_control.specs.Control.{IsReached, begins, falls_through, follows}
use Rattle.jc_control.specs.WellFormed.{HasInstruction}
use Rattle.jc_ops.specs.declared.operation.Branch.TheVariants as branches
use Rattle.jc_ops.specs.declared.operation.Constant.TheVariants as constants
use Rattle.jc_ops.specs.declared.operation.Operation.TheVariants as ops
use Rattle.jc_ops.specs.declared.operation.Order.TheVariants as orders
use Rattle.jc_ops.specs.declared.operation.Sort.TheVariants as sorts
use Rattle.jc_ops.specs.Row.{table, row_at, unused, by_sort, by_width, by_kind, first_four, by_register, literals, binaries, orders_all, branching}
use Rattle.jc_ops.specs.Resolve.{Resolves}
use Rattle.jc_rules.specs.Flow.{more_cells, no_cells}
use Rattle.vm_store.specs.declared.cell.Cell.{Cell}
use Rattle.vm_store.specs.declared.cell.Cell.TheVariants as cells
use Rattle.vm_store.specs.Cells.{tagged}
use Rattle.vm_store.specs.State.{Object, State}
use Rattle.vm_step.specs.declared.ending.Ending.{Ending}
use Rattle.vm_step.specs.declared.ending.Ending.TheVariants as endings
use Rattle.vm_step.specs.declared.ending.Fault.TheVariants.{StackFault}
use Rattle.vm_step.specs.declared.ending.Plain.TheVariants.{Returned}
use Rattle.vm_step.specs.declared.ending.Value.{Value}
use Rattle.vm_step.specs.declared.ending.Value.TheVariants as values
use Rattle.vm_step.specs.Methods.{instruction_at}
use Rattle.vm_step.specs.Numbers.{short_at}
use Rattle.vm_step.specs.Raising.{ended, running}
use Rattle.vm_step.specs.Step.{Steps}
use Rattle.xf_emission.specs.Move.{with_byte}
use Rattle.law_groups.specs.Laid.{AreLaidIn}
use Rattle.law_groups.specs.Beside.{IsTypedAt}
use Rattle.xf_tests.specs.Refused.{MissingReloadIsRefused, coded, forking, forking_code, method_of, unloaded_body, with_opcode, world_of}
use Rattle.xf_tests.proofs.Unlike.{Ends, Returns, alone, ends_after, ends_now, returns_after, returns_now, unlike}
use Rattle.xf_tests.proofs.Refusing.{does, frame, number}

-- ---- both worlds

abbrev reload-world : Linked
reload-world = forking.world

abbrev reload-code : List ℕ
reload-code = 4 ∷ 3 ∷ 41 ∷ 1 ∷ 41 ∷ 0 ∷ 22 ∷ 1 ∷ 153 ∷ 0 ∷ 4 ∷ 120 ∷ 22 ∷ 0 ∷ 120 ∷ []

abbrev reload-method : MethodRec
reload-method = coded (method_of [] Short) forking_code 0 2

abbrev reload-laid-method : MethodRec
reload-laid-method = coded (method_of [] Short) reload-code 2 3

abbrev reload-laid-world : Linked
reload-laid-world = world_of reload-laid-method reload-code

abbrev reload-place : ℕ → ℕ
reload-place n = slice_index_or (0 ∷ 1 ∷ 2 ∷ 4 ∷ 6 ∷ 8 ∷ 11 ∷ 12 ∷ 14 ∷ 15 ∷ []) n 0

abbrev reload-heap : List (Object Cell)
reload-heap = []

-- what the source returns, how the target ends, and what both leave
abbrev reload-value : Value
reload-value = values.Short (short_at tagged (number 1 ∷ []) 0)

abbrev reload-ending : Ending
reload-ending = endings.Faulted StackFault

abbrev reload-end : State Cell
reload-end = record { frames = []; heap = reload-heap; statics = [] }

-- the conditional, in both codes
abbrev reload-branch : Insn
reload-branch = record { op = 97; x = pos 3; y = pos 0; z = pos 0; len = 2 }

abbrev reload-laid-branch : Insn
reload-laid-branch = record { op = 153; x = pos 4; y = pos 0; z = pos 0; len = 3 }

-- ---- the instructions of both codes

reload-source-listing : listing forking_code ≡ record { place = 0; insn = with_opcode 4 }
    ∷ record { place = 1; insn = with_opcode 3 }
    ∷ record { place = 2; insn = reload-branch }
    ∷ record { place = 4; insn = with_opcode 120 }
    ∷ record { place = 5; insn = with_opcode 120 }
    ∷ []
unfolding listing listing_from at_most decoded layout_of opcode
reload-source-listing = refl

reload-target-listing : listing reload-code ≡ record { place = 0; insn = with_opcode 4 }
    ∷ record { place = 1; insn = with_opcode 3 }
    ∷ record { place = 2; insn = with_byte 41 1 }
    ∷ record { place = 4; insn = with_byte 41 0 }
    ∷ record { place = 6; insn = with_byte 22 1 }
    ∷ record { place = 8; insn = reload-laid-branch }
    ∷ record { place = 11; insn = with_opcode 120 }
    ∷ record { place = 12; insn = with_byte 22 0 }
    ∷ record { place = 14; insn = with_opcode 120 }
    ∷ []
unfolding listing listing_from at_most decoded layout_of opcode
reload-target-listing = refl

-- ---- the symbols are laid

reload-steps : AreSteps reload-code reload-place 0 (steps_of_items forking_code unloaded_body.items)
    (record { place = 0; insn = with_opcode 4 }
    ∷ record { place = 1; insn = with_opcode 3 }
    ∷ record { place = 2; insn = with_byte 41 1 }
    ∷ record { place = 4; insn = with_byte 41 0 }
    ∷ record { place = 6; insn = with_byte 22 1 }
    ∷ record { place = 8; insn = reload-laid-branch }
    ∷ record { place = 11; insn = with_opcode 120 }
    ∷ record { place = 12; insn = with_byte 22 0 }
    ∷ record { place = 14; insn = with_opcode 120 }
    ∷ [])
unfolding targets cases layout_of opcode
reload-steps = (
  refl,
  refl,
  record { same = refl; leads = refl; keyed = refl },
  (
    refl,
    refl,
    record { same = refl; leads = refl; keyed = refl },
    (
      refl,
      refl,
      record { same = refl; leads = refl; keyed = refl },
      (
        refl,
        refl,
        record { same = refl; leads = refl; keyed = refl },
        (
          refl,
          refl,
          record { same = refl; leads = refl; keyed = refl },
          (
            refl,
            refl,
            record { same = refl; leads = refl; keyed = refl },
            (
              refl,
              refl,
              record { same = refl; leads = refl; keyed = refl },
              (
                refl,
                refl,
                record { same = refl; leads = refl; keyed = refl },
                (
                  refl,
                  refl,
                  record { same = refl; leads = refl; keyed = refl },
                  tt,
                ),
              ),
            ),
          ),
        ),
      ),
    ),
  ),
)

reload-laid : AreLaidIn reload-world reload-laid-world forking.method unloaded_body reload-place
reload-laid = record {
  same = record { pools = refl; classes = refl; methods = refl; statics = refl; arrays = refl };
  target = record { number = 0; rec = reload-laid-method; code = reload-code };
  is_target = record { rec = refl; code = refl; filled = omega arith };
  number = refl;
  laid = record { code = reload-code; handlers = []; max_stack = 3; nargs = 0; max_locals = 2 };
  has = record { same = refl; code = refl; nargs = refl; max_locals = refl; max_stack = refl; handlers = refl };
  stands = record {
    begins = refl;
    instructions =
        subst (AreSteps reload-code reload-place 0 (steps_of_items forking_code unloaded_body.items))
        (sym reload-target-listing) reload-steps;
    ends = refl;
    handlers = refl;
    max_stack = refl;
    nargs = refl;
    max_locals = refl;
  };
}

-- ---- the way of the source

reload-reached-0 : IsReached forking.method 0
reload-reached-0 = begins

reload-stands-0 : HasInstruction forking_code (record { place = 0; insn = with_opcode 4 })
reload-stands-0 =
    subst (λ is. Contains is (record { place = 0; insn = with_opcode 4 }))
    (sym reload-source-listing) (0, omega arith, refl)

reload-reached-1 : IsReached forking.method 1
reload-reached-1 = follows reload-stands-0 reload-reached-0 (falls_through refl)

reload-stands-1 : HasInstruction forking_code (record { place = 1; insn = with_opcode 3 })
reload-stands-1 =
    subst (λ is. Contains is (record { place = 1; insn = with_opcode 3 }))
    (sym reload-source-listing) (1, omega arith, refl)

reload-reached-2 : IsReached forking.method 2
reload-reached-2 = follows reload-stands-1 reload-reached-1 (falls_through refl)

reload-stands-2 : HasInstruction forking_code (record { place = 2; insn = reload-branch })
reload-stands-2 =
    subst (λ is. Contains is (record { place = 2; insn = reload-branch }))
    (sym reload-source-listing) (2, omega arith, refl)

reload-reached-4 : IsReached forking.method 4
reload-reached-4 = follows reload-stands-2 reload-reached-2 (falls_through refl)

-- on which each state is typed

reload-typed-0 : IsTypedAt reload-world forking (alone (frame 0 [] []) reload-heap [])
unfolding parent_of
reload-typed-0 = record {
  runs = omega arith;
  method = refl;
  reached = reload-reached-0;
  below = record { regs = no_cells; stack = no_cells };
  objects_stay = λ e. refl;
  statics_stay = λ e. refl;
}

reload-typed-1 : IsTypedAt reload-world forking (alone (frame 1 [] (number 1 ∷ [])) reload-heap [])
unfolding parent_of
reload-typed-1 = record {
  runs = omega arith;
  method = refl;
  reached = reload-reached-1;
  below = record { regs = no_cells; stack = more_cells same no_cells };
  objects_stay = λ e. refl;
  statics_stay = λ e. refl;
}

reload-typed-2 :
    IsTypedAt reload-world forking (alone (frame 2 [] (number 0 ∷ number 1 ∷ [])) reload-heap [])
unfolding parent_of
reload-typed-2 = record {
  runs = omega arith;
  method = refl;
  reached = reload-reached-2;
  below = record { regs = no_cells; stack = more_cells same (more_cells same no_cells) };
  objects_stay = λ e. refl;
  statics_stay = λ e. refl;
}

reload-typed-4 : IsTypedAt reload-world forking (alone (frame 4 [] (number 1 ∷ [])) reload-heap [])
unfolding parent_of
reload-typed-4 = record {
  runs = omega arith;
  method = refl;
  reached = reload-reached-4;
  below = record { regs = no_cells; stack = more_cells same no_cells };
  objects_stay = λ e. refl;
  statics_stay = λ e. refl;
}

-- ---- the steps of the source

reload-there-0 : instruction_at forking_code 0 ≡ Some (record { place = 0; insn = with_opcode 4 })
unfolding instruction_at listing listing_from at_most decoded layout_of opcode
reload-there-0 = refl

reload-names-0 : Resolves reload-world reload-method 0 (with_opcode 4) (Ok (ops.Constant (constants.Short (pos 1))))
unfolding row_at table by_sort by_width by_kind first_four by_register literals binaries orders_all branching unused
reload-names-0 = refl

reload-step-0 :
    Steps tagged reload-world (alone (frame 0 [] []) reload-heap [])
    (running (alone (frame 1 [] (number 1 ∷ [])) reload-heap []))
unfolding is_below is_on_chain chain chain_over parent_of instruction_at listing listing_from at_most decoded layout_of opcode
reload-step-0 =
    does reload-world reload-method (frame 0 [] []) reload-heap
    (record { place = 0; insn = with_opcode 4 }) (ops.Constant (constants.Short (pos 1))) refl reload-there-0 reload-names-0

reload-there-1 : instruction_at forking_code 1 ≡ Some (record { place = 1; insn = with_opcode 3 })
unfolding instruction_at listing listing_from at_most decoded layout_of opcode
reload-there-1 = refl

reload-names-1 : Resolves reload-world reload-method 1 (with_opcode 3) (Ok (ops.Constant (constants.Short (pos 0))))
unfolding row_at table by_sort by_width by_kind first_four by_register literals binaries orders_all branching unused
reload-names-1 = refl

reload-step-1 :
    Steps tagged reload-world (alone (frame 1 [] (number 1 ∷ [])) reload-heap [])
    (running (alone (frame 2 [] (number 0 ∷ number 1 ∷ [])) reload-heap []))
unfolding is_below is_on_chain chain chain_over parent_of instruction_at listing listing_from at_most decoded layout_of opcode
reload-step-1 =
    does reload-world reload-method (frame 1 [] (number 1 ∷ [])) reload-heap
    (record { place = 1; insn = with_opcode 3 }) (ops.Constant (constants.Short (pos 0))) refl reload-there-1 reload-names-1

reload-there-2 : instruction_at forking_code 2 ≡ Some (record { place = 2; insn = reload-branch })
unfolding instruction_at listing listing_from at_most decoded layout_of opcode
reload-there-2 = refl

reload-names-2 : Resolves reload-world reload-method 2 (reload-branch) (Ok (ops.Branch (branches.Zero orders.NotEqual)))
unfolding row_at table by_sort by_width by_kind first_four by_register literals binaries orders_all branching unused
reload-names-2 = refl

reload-step-2 :
    Steps tagged reload-world (alone (frame 2 [] (number 0 ∷ number 1 ∷ [])) reload-heap [])
    (running (alone (frame 4 [] (number 1 ∷ [])) reload-heap []))
unfolding is_below is_on_chain chain chain_over parent_of instruction_at listing listing_from at_most decoded layout_of opcode
reload-step-2 =
    does reload-world reload-method (frame 2 [] (number 0 ∷ number 1 ∷ [])) reload-heap
    (record { place = 2; insn = reload-branch }) (ops.Branch (branches.Zero orders.NotEqual)) refl reload-there-2 reload-names-2

reload-there-4 : instruction_at forking_code 4 ≡ Some (record { place = 4; insn = with_opcode 120 })
unfolding instruction_at listing listing_from at_most decoded layout_of opcode
reload-there-4 = refl

reload-names-4 : Resolves reload-world reload-method 4 (with_opcode 120) (Ok (ops.Return (Some Short)))
unfolding row_at table by_sort by_width by_kind first_four by_register literals binaries orders_all branching unused
reload-names-4 = refl

reload-step-4 :
    Steps tagged reload-world (alone (frame 4 [] (number 1 ∷ [])) reload-heap [])
    (ended (endings.Plain (Returned reload-value)) reload-end)
unfolding is_below is_on_chain chain chain_over parent_of instruction_at listing listing_from at_most decoded layout_of opcode
reload-step-4 =
    does reload-world reload-method (frame 4 [] (number 1 ∷ [])) reload-heap
    (record { place = 4; insn = with_opcode 120 }) (ops.Return (Some Short)) refl reload-there-4 reload-names-4

-- ---- the steps of the target

reload-laid-there-0 : instruction_at reload-code 0 ≡ Some (record { place = 0; insn = with_opcode 4 })
unfolding instruction_at listing listing_from at_most decoded layout_of opcode
reload-laid-there-0 = refl

reload-laid-names-0 :
    Resolves reload-laid-world reload-laid-method 0 (with_opcode 4)
    (Ok (ops.Constant (constants.Short (pos 1))))
unfolding row_at table by_sort by_width by_kind first_four by_register literals binaries orders_all branching unused
reload-laid-names-0 = refl

reload-laid-step-0 :
    Steps tagged reload-laid-world (alone (frame 0 (cells.Empty ∷ cells.Empty ∷ []) []) reload-heap [])
    (running (alone (frame 1 (cells.Empty ∷ cells.Empty ∷ []) (number 1 ∷ [])) reload-heap []))
unfolding is_below is_on_chain chain chain_over parent_of instruction_at listing listing_from at_most decoded layout_of opcode
reload-laid-step-0 =
    does reload-laid-world reload-laid-method (frame 0 (cells.Empty ∷ cells.Empty ∷ []) []) reload-heap
    (record { place = 0; insn = with_opcode 4 }) (ops.Constant (constants.Short (pos 1))) refl reload-laid-there-0 reload-laid-names-0

reload-laid-there-1 : instruction_at reload-code 1 ≡ Some (record { place = 1; insn = with_opcode 3 })
unfolding instruction_at listing listing_from at_most decoded layout_of opcode
reload-laid-there-1 = refl

reload-laid-names-1 :
    Resolves reload-laid-world reload-laid-method 1 (with_opcode 3)
    (Ok (ops.Constant (constants.Short (pos 0))))
unfolding row_at table by_sort by_width by_kind first_four by_register literals binaries orders_all branching unused
reload-laid-names-1 = refl

reload-laid-step-1 :
    Steps tagged reload-laid-world (alone (frame 1 (cells.Empty ∷ cells.Empty ∷ []) (number 1 ∷ [])) reload-heap [])
    (running (alone (frame 2 (cells.Empty ∷ cells.Empty ∷ []) (number 0 ∷ number 1 ∷ [])) reload-heap []))
unfolding is_below is_on_chain chain chain_over parent_of instruction_at listing listing_from at_most decoded layout_of opcode
reload-laid-step-1 =
    does reload-laid-world reload-laid-method (frame 1 (cells.Empty ∷ cells.Empty ∷ []) (number 1 ∷ [])) reload-heap
    (record { place = 1; insn = with_opcode 3 }) (ops.Constant (constants.Short (pos 0))) refl reload-laid-there-1 reload-laid-names-1

reload-laid-there-2 : instruction_at reload-code 2 ≡ Some (record { place = 2; insn = with_byte 41 1 })
unfolding instruction_at listing listing_from at_most decoded layout_of opcode
reload-laid-there-2 = refl

reload-laid-names-2 : Resolves reload-laid-world reload-laid-method 2 (with_byte 41 1) (Ok (ops.Store sorts.Short 1))
unfolding row_at table by_sort by_width by_kind first_four by_register literals binaries orders_all branching unused
reload-laid-names-2 = refl

reload-laid-step-2 :
    Steps tagged reload-laid-world (alone (frame 2 (cells.Empty ∷ cells.Empty ∷ []) (number 0 ∷ number 1 ∷ [])) reload-heap [])
    (running (alone (frame 4 (cells.Empty ∷ number 0 ∷ []) (number 1 ∷ [])) reload-heap []))
unfolding is_below is_on_chain chain chain_over parent_of instruction_at listing listing_from at_most decoded layout_of opcode
reload-laid-step-2 =
    does reload-laid-world reload-laid-method (frame 2 (cells.Empty ∷ cells.Empty ∷ []) (number 0 ∷ number 1 ∷ [])) reload-heap
    (record { place = 2; insn = with_byte 41 1 }) (ops.Store sorts.Short 1) refl reload-laid-there-2 reload-laid-names-2

reload-laid-there-4 : instruction_at reload-code 4 ≡ Some (record { place = 4; insn = with_byte 41 0 })
unfolding instruction_at listing listing_from at_most decoded layout_of opcode
reload-laid-there-4 = refl

reload-laid-names-4 : Resolves reload-laid-world reload-laid-method 4 (with_byte 41 0) (Ok (ops.Store sorts.Short 0))
unfolding row_at table by_sort by_width by_kind first_four by_register literals binaries orders_all branching unused
reload-laid-names-4 = refl

reload-laid-step-4 :
    Steps tagged reload-laid-world (alone (frame 4 (cells.Empty ∷ number 0 ∷ []) (number 1 ∷ [])) reload-heap [])
    (running (alone (frame 6 (number 1 ∷ number 0 ∷ []) []) reload-heap []))
unfolding is_below is_on_chain chain chain_over parent_of instruction_at listing listing_from at_most decoded layout_of opcode
reload-laid-step-4 =
    does reload-laid-world reload-laid-method (frame 4 (cells.Empty ∷ number 0 ∷ []) (number 1 ∷ [])) reload-heap
    (record { place = 4; insn = with_byte 41 0 }) (ops.Store sorts.Short 0) refl reload-laid-there-4 reload-laid-names-4

reload-laid-there-6 : instruction_at reload-code 6 ≡ Some (record { place = 6; insn = with_byte 22 1 })
unfolding instruction_at listing listing_from at_most decoded layout_of opcode
reload-laid-there-6 = refl

reload-laid-names-6 : Resolves reload-laid-world reload-laid-method 6 (with_byte 22 1) (Ok (ops.Load sorts.Short 1))
unfolding row_at table by_sort by_width by_kind first_four by_register literals binaries orders_all branching unused
reload-laid-names-6 = refl

reload-laid-step-6 :
    Steps tagged reload-laid-world (alone (frame 6 (number 1 ∷ number 0 ∷ []) []) reload-heap [])
    (running (alone (frame 8 (number 1 ∷ number 0 ∷ []) (number 0 ∷ [])) reload-heap []))
unfolding is_below is_on_chain chain chain_over parent_of instruction_at listing listing_from at_most decoded layout_of opcode
reload-laid-step-6 =
    does reload-laid-world reload-laid-method (frame 6 (number 1 ∷ number 0 ∷ []) []) reload-heap
    (record { place = 6; insn = with_byte 22 1 }) (ops.Load sorts.Short 1) refl reload-laid-there-6 reload-laid-names-6

reload-laid-there-8 : instruction_at reload-code 8 ≡ Some (record { place = 8; insn = reload-laid-branch })
unfolding instruction_at listing listing_from at_most decoded layout_of opcode
reload-laid-there-8 = refl

reload-laid-names-8 :
    Resolves reload-laid-world reload-laid-method 8 (reload-laid-branch)
    (Ok (ops.Branch (branches.Zero orders.NotEqual)))
unfolding row_at table by_sort by_width by_kind first_four by_register literals binaries orders_all branching unused
reload-laid-names-8 = refl

reload-laid-step-8 :
    Steps tagged reload-laid-world (alone (frame 8 (number 1 ∷ number 0 ∷ []) (number 0 ∷ [])) reload-heap [])
    (running (alone (frame 11 (number 1 ∷ number 0 ∷ []) []) reload-heap []))
unfolding is_below is_on_chain chain chain_over parent_of instruction_at listing listing_from at_most decoded layout_of opcode
reload-laid-step-8 =
    does reload-laid-world reload-laid-method (frame 8 (number 1 ∷ number 0 ∷ []) (number 0 ∷ [])) reload-heap
    (record { place = 8; insn = reload-laid-branch }) (ops.Branch (branches.Zero orders.NotEqual)) refl reload-laid-there-8 reload-laid-names-8

reload-laid-there-11 : instruction_at reload-code 11 ≡ Some (record { place = 11; insn = with_opcode 120 })
unfolding instruction_at listing listing_from at_most decoded layout_of opcode
reload-laid-there-11 = refl

reload-laid-names-11 : Resolves reload-laid-world reload-laid-method 11 (with_opcode 120) (Ok (ops.Return (Some Short)))
unfolding row_at table by_sort by_width by_kind first_four by_register literals binaries orders_all branching unused
reload-laid-names-11 = refl

reload-laid-step-11 :
    Steps tagged reload-laid-world (alone (frame 11 (number 1 ∷ number 0 ∷ []) []) reload-heap [])
    (ended reload-ending reload-end)
unfolding is_below is_on_chain chain chain_over parent_of instruction_at listing listing_from at_most decoded layout_of opcode
reload-laid-step-11 =
    does reload-laid-world reload-laid-method (frame 11 (number 1 ∷ number 0 ∷ []) []) reload-heap
    (record { place = 11; insn = with_opcode 120 }) (ops.Return (Some Short)) refl reload-laid-there-11 reload-laid-names-11

-- ---- both runs

reload-returns : Returns reload-world forking reload-heap [] reload-value (frame 0 [] [])
reload-returns =
    returns_after refl reload-typed-0 reload-step-0
    (returns_after refl reload-typed-1 reload-step-1
    (returns_after refl reload-typed-2 reload-step-2
    (returns_now refl reload-typed-4 _ reload-step-4)))

reload-ends :
    Ends reload-laid-world reload-ending reload-end (alone
    (frame 0 (cells.Empty ∷ cells.Empty ∷ []) []) reload-heap [])
reload-ends =
    ends_after reload-laid-step-0
    (ends_after reload-laid-step-1
    (ends_after reload-laid-step-2
    (ends_after reload-laid-step-4
    (ends_after reload-laid-step-6
    (ends_after reload-laid-step-8
    (ends_now reload-laid-step-11))))))

reload-differs : reload-ending ≡ endings.Plain (Returned reload-value) → ⊥
reload-differs e = absurd cc

pub missing-reload-is-refused : MissingReloadIsRefused
missing-reload-is-refused matches =
    unlike reload-world reload-laid-world forking reload-place reload-heap []
    reload-value reload-ending _ reload-differs
    (matches reload-laid-world reload-place reload-laid) ([]) refl reload-returns reload-ends
