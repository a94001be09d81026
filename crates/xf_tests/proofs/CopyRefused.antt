-- A body that falls into a place without copies, beside what it stands for: it returns null in place of an object.
use Rattle.std.proofs.Common.{◌≡◌, ℕ, List, [], ◌∷◌, refl, sym, ap, subst, arith}
use Rattle.std.specs.Prelude.{Contains, Some, Ok, pos, negsuc, slice_index_or}
use Rattle.jc_base.specs.declared.ty.Ty.TheVariants.{Class}
use Rattle.jc_base.specs.declared.record.MethodRec.{MethodRec}
use Rattle.jc_base.specs.Class.{parent_of, chain, chain_over}
use Rattle.jc_base.specs.Order.{is_below, is_on_chain, null_object, same, subclass}
use Rattle.jc_base.specs.World.{Linked}
use Rattle.jc_decode.specs.declared.insn.Insn.{Insn}
use Rattle.jc_decode.specs.Cases.{cases}
use Rattle.jc_decode.specs.Decoding.{decoded}
use Rattle.jc_decode.specs.Layout.{layout_of, opcode}
use Rattle.jc_decode.specs.Listing.{at_most, listing, listing_from, targets}
use Rattle.jc_decode.specs.Standing.{AreSteps}
use Rattle.jc_decode.specs.Symbols.{steps as steps_of_items}
use Rattle.jc_control.specs.Control.{IsReached, begins, falls_through, follows}
use Rattle.jc_control.specs.WellFormed.{HasInstruction}
use Rattle.jc_ops.specs.declared.operation.Branch.TheVariants as branches
use Rattle.jc_ops.specs.declared.operation.Constant.TheVariants as constants
use Rattle.jc_ops.specs.declared.operation.Operation.TheVariants as ops
use Rattle.jc_ops.specs.declared.operation.Sameness.TheVariants as sameness
use Rattle.jc_ops.specs.declared.operation.Sort.TheVariants as sorts
use Rattle.jc_ops.specs.Row.{table, row_at, unused, by_sort, by_width, by_kind, first_four, by_register, literals, binaries, orders_all, branching}
use Rattle.jc_ops.specs.Resolve.{Resolves}
use Rattle.jc_rules.specs.Flow.{more_cells, no_cells}
use Rattle.vm_store.specs.declared.cell.Cell.{Cell}
use Rattle.vm_store.specs.declared.cell.Cell.TheVariants as cells
use Rattle.vm_store.specs.declared.cell.ObjectKind.TheVariants.{Instance}
use Rattle.vm_store.specs.Cells.{tagged}
use Rattle.vm_store.specs.State.{Object, State}
use Rattle.vm_step.specs.declared.ending.Ending.{Ending}
use Rattle.vm_step.specs.declared.ending.Ending.TheVariants as endings
use Rattle.vm_step.specs.declared.ending.Plain.TheVariants.{Returned}
use Rattle.vm_step.specs.declared.ending.Value.{Value}
use Rattle.vm_step.specs.declared.ending.Value.TheVariants as values
use Rattle.vm_step.specs.Methods.{instruction_at}
use Rattle.vm_step.specs.Numbers.{handle_at}
use Rattle.vm_step.specs.Raising.{ended, running}
use Rattle.vm_step.specs.Step.{Steps}
use Rattle.xf_emission.specs.Move.{with_byte}
use Rattle.law_groups.specs.Laid.{AreLaidIn}
use Rattle.law_groups.specs.Beside.{IsTypedAt}
use Rattle.xf_tests.specs.Refused.{MissingCopyIsRefused, coded, method_of, uncopied_body, widening, widening_code, with_opcode, world_of}
use Rattle.xf_tests.proofs.Unlike.{Ends, Returns, alone, ends_after, ends_now, returns_after, returns_now, unlike}
use Rattle.xf_tests.proofs.Refusing.{does, frame, returned-number}

-- ---- both worlds

abbrev copy-world : Linked
copy-world = widening.world

abbrev copy-code : List ℕ
copy-code = 21 ∷ 1 ∷ 159 ∷ 0 ∷ 7 ∷ 0 ∷ 21 ∷ 2 ∷ 119 ∷ 21 ∷ 1 ∷ 40 ∷ 2 ∷ 168 ∷ 255 ∷ 249 ∷ []

abbrev copy-method : MethodRec
copy-method = coded (method_of (Class 1 ∷ Class 0 ∷ []) (Class 0)) widening_code 0 1

abbrev copy-laid-method : MethodRec
copy-laid-method = coded (method_of (Class 1 ∷ Class 0 ∷ []) (Class 0)) copy-code 1 2

abbrev copy-laid-world : Linked
copy-laid-world = world_of copy-laid-method copy-code

abbrev copy-place : ℕ → ℕ
copy-place n = slice_index_or (0 ∷ 2 ∷ 5 ∷ 6 ∷ 8 ∷ 9 ∷ 11 ∷ 13 ∷ 16 ∷ []) n 0

abbrev copy-heap : List (Object Cell)
copy-heap = record { kind = Instance 1; cells = [] } ∷ []

-- what the source returns, how the target ends, and what both leave
abbrev copy-value : Value
copy-value = values.Ref (handle_at tagged (cells.Ref 1 ∷ []) 0)

abbrev copy-ending : Ending
copy-ending = endings.Plain (Returned (values.Ref (handle_at tagged (cells.Ref 0 ∷ []) 0)))

abbrev copy-end : State Cell
copy-end = record { frames = []; heap = copy-heap; statics = [] }

-- the conditional, in both codes
abbrev copy-branch : Insn
copy-branch = record { op = 103; x = pos 5; y = pos 0; z = pos 0; len = 2 }

abbrev copy-laid-branch : Insn
copy-laid-branch = record { op = 159; x = pos 7; y = pos 0; z = pos 0; len = 3 }

-- ---- the instructions of both codes

copy-source-listing : listing widening_code ≡ record { place = 0; insn = with_opcode 25 }
    ∷ record { place = 1; insn = copy-branch }
    ∷ record { place = 3; insn = with_opcode 0 }
    ∷ record { place = 4; insn = with_opcode 24 }
    ∷ record { place = 5; insn = with_opcode 119 }
    ∷ record { place = 6; insn = with_opcode 25 }
    ∷ record { place = 7; insn = with_opcode 43 }
    ∷ record { place = 8; insn = record { op = 112; x = negsuc 3; y = pos 0; z = pos 0; len = 2 } }
    ∷ []
unfolding listing listing_from at_most decoded layout_of opcode
copy-source-listing = refl

copy-target-listing : listing copy-code ≡ record { place = 0; insn = with_byte 21 1 }
    ∷ record { place = 2; insn = copy-laid-branch }
    ∷ record { place = 5; insn = with_opcode 0 }
    ∷ record { place = 6; insn = with_byte 21 2 }
    ∷ record { place = 8; insn = with_opcode 119 }
    ∷ record { place = 9; insn = with_byte 21 1 }
    ∷ record { place = 11; insn = with_byte 40 2 }
    ∷ record { place = 13; insn = record { op = 168; x = negsuc 6; y = pos 0; z = pos 0; len = 3 } }
    ∷ []
unfolding listing listing_from at_most decoded layout_of opcode
copy-target-listing = refl

-- ---- the symbols are laid

copy-steps : AreSteps copy-code copy-place 0 (steps_of_items widening_code uncopied_body.items)
    (record { place = 0; insn = with_byte 21 1 }
    ∷ record { place = 2; insn = copy-laid-branch }
    ∷ record { place = 5; insn = with_opcode 0 }
    ∷ record { place = 6; insn = with_byte 21 2 }
    ∷ record { place = 8; insn = with_opcode 119 }
    ∷ record { place = 9; insn = with_byte 21 1 }
    ∷ record { place = 11; insn = with_byte 40 2 }
    ∷ record { place = 13; insn = record { op = 168; x = negsuc 6; y = pos 0; z = pos 0; len = 3 } }
    ∷ [])
unfolding targets cases layout_of opcode
copy-steps = (
  refl,
  refl,
  record { same = refl; leads = refl; keyed = refl },
  (
    refl,
    refl,
    record { same = refl; leads = refl; keyed = refl },
    (
      refl,
      refl,
      record { same = refl; leads = refl; keyed = refl },
      (
        refl,
        refl,
        record { same = refl; leads = refl; keyed = refl },
        (
          refl,
          refl,
          record { same = refl; leads = refl; keyed = refl },
          (
            refl,
            refl,
            record { same = refl; leads = refl; keyed = refl },
            (
              refl,
              refl,
              record { same = refl; leads = refl; keyed = refl },
              (
                refl,
                refl,
                record { same = refl; leads = refl; keyed = refl },
                tt,
              ),
            ),
          ),
        ),
      ),
    ),
  ),
)

copy-laid : AreLaidIn copy-world copy-laid-world widening.method uncopied_body copy-place
copy-laid = record {
  same = record { pools = refl; classes = refl; methods = refl; statics = refl; arrays = refl };
  target = record { number = 0; rec = copy-laid-method; code = copy-code };
  is_target = record { rec = refl; code = refl; filled = omega arith };
  number = refl;
  laid = record { code = copy-code; handlers = []; max_stack = 2; nargs = 2; max_locals = 1 };
  has = record { same = refl; code = refl; nargs = refl; max_locals = refl; max_stack = refl; handlers = refl };
  stands = record {
    begins = refl;
    instructions =
        subst (AreSteps copy-code copy-place 0 (steps_of_items widening_code uncopied_body.items))
        (sym copy-target-listing) copy-steps;
    ends = refl;
    handlers = refl;
    max_stack = refl;
    nargs = refl;
    max_locals = refl;
  };
}

-- ---- the way of the source

copy-reached-0 : IsReached widening.method 0
copy-reached-0 = begins

copy-stands-0 : HasInstruction widening_code (record { place = 0; insn = with_opcode 25 })
copy-stands-0 =
    subst (λ is. Contains is (record { place = 0; insn = with_opcode 25 }))
    (sym copy-source-listing) (0, omega arith, refl)

copy-reached-1 : IsReached widening.method 1
copy-reached-1 = follows copy-stands-0 copy-reached-0 (falls_through refl)

copy-stands-1 : HasInstruction widening_code (record { place = 1; insn = copy-branch })
copy-stands-1 =
    subst (λ is. Contains is (record { place = 1; insn = copy-branch }))
    (sym copy-source-listing) (1, omega arith, refl)

copy-reached-3 : IsReached widening.method 3
copy-reached-3 = follows copy-stands-1 copy-reached-1 (falls_through refl)

copy-stands-3 : HasInstruction widening_code (record { place = 3; insn = with_opcode 0 })
copy-stands-3 =
    subst (λ is. Contains is (record { place = 3; insn = with_opcode 0 }))
    (sym copy-source-listing) (2, omega arith, refl)

copy-reached-4 : IsReached widening.method 4
copy-reached-4 = follows copy-stands-3 copy-reached-3 (falls_through refl)

copy-stands-4 : HasInstruction widening_code (record { place = 4; insn = with_opcode 24 })
copy-stands-4 =
    subst (λ is. Contains is (record { place = 4; insn = with_opcode 24 }))
    (sym copy-source-listing) (3, omega arith, refl)

copy-reached-5 : IsReached widening.method 5
copy-reached-5 = follows copy-stands-4 copy-reached-4 (falls_through refl)

-- on which each state is typed

copy-typed-0 :
    IsTypedAt copy-world widening (alone (frame 0 (cells.Ref 1 ∷ cells.Ref 0 ∷ []) []) copy-heap [])
unfolding parent_of
copy-typed-0 = record {
  runs = omega arith;
  method = refl;
  reached = copy-reached-0;
  below = record { regs = more_cells same (more_cells null_object no_cells); stack = no_cells };
  objects_stay = λ e. refl;
  statics_stay = λ e. refl;
}

copy-typed-1 :
    IsTypedAt copy-world widening (alone (frame 1 (cells.Ref 1 ∷ cells.Ref 0 ∷ []) (cells.Ref 0 ∷ [])) copy-heap [])
unfolding parent_of
copy-typed-1 = record {
  runs = omega arith;
  method = refl;
  reached = copy-reached-1;
  below = record { regs = more_cells same (more_cells null_object no_cells); stack = more_cells null_object no_cells };
  objects_stay = λ e. refl;
  statics_stay = λ e. refl;
}

copy-typed-3 :
    IsTypedAt copy-world widening (alone (frame 3 (cells.Ref 1 ∷ cells.Ref 0 ∷ []) []) copy-heap [])
unfolding parent_of
copy-typed-3 = record {
  runs = omega arith;
  method = refl;
  reached = copy-reached-3;
  below = record { regs = more_cells same (more_cells null_object no_cells); stack = no_cells };
  objects_stay = λ e. refl;
  statics_stay = λ e. refl;
}

copy-typed-4 :
    IsTypedAt copy-world widening (alone (frame 4 (cells.Ref 1 ∷ cells.Ref 0 ∷ []) []) copy-heap [])
unfolding parent_of
copy-typed-4 = record {
  runs = omega arith;
  method = refl;
  reached = copy-reached-4;
  below = record { regs = more_cells (subclass refl) (more_cells null_object no_cells); stack = no_cells };
  objects_stay = λ e. refl;
  statics_stay = λ e. refl;
}

copy-typed-5 :
    IsTypedAt copy-world widening (alone (frame 5 (cells.Ref 1 ∷ cells.Ref 0 ∷ []) (cells.Ref 1 ∷ [])) copy-heap [])
unfolding parent_of
copy-typed-5 = record {
  runs = omega arith;
  method = refl;
  reached = copy-reached-5;
  below = record { regs = more_cells (subclass refl) (more_cells null_object no_cells); stack = more_cells (subclass refl) no_cells };
  objects_stay = λ e. refl;
  statics_stay = λ e. refl;
}

-- ---- the steps of the source

copy-there-0 : instruction_at widening_code 0 ≡ Some (record { place = 0; insn = with_opcode 25 })
unfolding instruction_at listing listing_from at_most decoded layout_of opcode
copy-there-0 = refl

copy-names-0 : Resolves copy-world copy-method 0 (with_opcode 25) (Ok (ops.Load sorts.Reference 1))
unfolding row_at table by_sort by_width by_kind first_four by_register literals binaries orders_all branching unused
copy-names-0 = refl

copy-step-0 :
    Steps tagged copy-world (alone (frame 0 (cells.Ref 1 ∷ cells.Ref 0 ∷ []) []) copy-heap [])
    (running (alone (frame 1 (cells.Ref 1 ∷ cells.Ref 0 ∷ []) (cells.Ref 0 ∷ [])) copy-heap []))
unfolding is_below is_on_chain chain chain_over parent_of instruction_at listing listing_from at_most decoded layout_of opcode
copy-step-0 =
    does copy-world copy-method (frame 0 (cells.Ref 1 ∷ cells.Ref 0 ∷ []) []) copy-heap
    (record { place = 0; insn = with_opcode 25 }) (ops.Load sorts.Reference 1) refl copy-there-0 copy-names-0

copy-there-1 : instruction_at widening_code 1 ≡ Some (record { place = 1; insn = copy-branch })
unfolding instruction_at listing listing_from at_most decoded layout_of opcode
copy-there-1 = refl

copy-names-1 : Resolves copy-world copy-method 1 (copy-branch) (Ok (ops.Branch (branches.Null sameness.Different)))
unfolding row_at table by_sort by_width by_kind first_four by_register literals binaries orders_all branching unused
copy-names-1 = refl

copy-step-1 :
    Steps tagged copy-world (alone (frame 1 (cells.Ref 1 ∷ cells.Ref 0 ∷ []) (cells.Ref 0 ∷ [])) copy-heap [])
    (running (alone (frame 3 (cells.Ref 1 ∷ cells.Ref 0 ∷ []) []) copy-heap []))
unfolding is_below is_on_chain chain chain_over parent_of instruction_at listing listing_from at_most decoded layout_of opcode
copy-step-1 =
    does copy-world copy-method (frame 1 (cells.Ref 1 ∷ cells.Ref 0 ∷ []) (cells.Ref 0 ∷ [])) copy-heap
    (record { place = 1; insn = copy-branch }) (ops.Branch (branches.Null sameness.Different)) refl copy-there-1 copy-names-1

copy-there-3 : instruction_at widening_code 3 ≡ Some (record { place = 3; insn = with_opcode 0 })
unfolding instruction_at listing listing_from at_most decoded layout_of opcode
copy-there-3 = refl

copy-names-3 : Resolves copy-world copy-method 3 (with_opcode 0) (Ok (ops.Constant constants.Nothing))
unfolding row_at table by_sort by_width by_kind first_four by_register literals binaries orders_all branching unused
copy-names-3 = refl

copy-step-3 :
    Steps tagged copy-world (alone (frame 3 (cells.Ref 1 ∷ cells.Ref 0 ∷ []) []) copy-heap [])
    (running (alone (frame 4 (cells.Ref 1 ∷ cells.Ref 0 ∷ []) []) copy-heap []))
unfolding is_below is_on_chain chain chain_over parent_of instruction_at listing listing_from at_most decoded layout_of opcode
copy-step-3 =
    does copy-world copy-method (frame 3 (cells.Ref 1 ∷ cells.Ref 0 ∷ []) []) copy-heap
    (record { place = 3; insn = with_opcode 0 }) (ops.Constant constants.Nothing) refl copy-there-3 copy-names-3

copy-there-4 : instruction_at widening_code 4 ≡ Some (record { place = 4; insn = with_opcode 24 })
unfolding instruction_at listing listing_from at_most decoded layout_of opcode
copy-there-4 = refl

copy-names-4 : Resolves copy-world copy-method 4 (with_opcode 24) (Ok (ops.Load sorts.Reference 0))
unfolding row_at table by_sort by_width by_kind first_four by_register literals binaries orders_all branching unused
copy-names-4 = refl

copy-step-4 :
    Steps tagged copy-world (alone (frame 4 (cells.Ref 1 ∷ cells.Ref 0 ∷ []) []) copy-heap [])
    (running (alone (frame 5 (cells.Ref 1 ∷ cells.Ref 0 ∷ []) (cells.Ref 1 ∷ [])) copy-heap []))
unfolding is_below is_on_chain chain chain_over parent_of instruction_at listing listing_from at_most decoded layout_of opcode
copy-step-4 =
    does copy-world copy-method (frame 4 (cells.Ref 1 ∷ cells.Ref 0 ∷ []) []) copy-heap
    (record { place = 4; insn = with_opcode 24 }) (ops.Load sorts.Reference 0) refl copy-there-4 copy-names-4

copy-there-5 : instruction_at widening_code 5 ≡ Some (record { place = 5; insn = with_opcode 119 })
unfolding instruction_at listing listing_from at_most decoded layout_of opcode
copy-there-5 = refl

copy-names-5 : Resolves copy-world copy-method 5 (with_opcode 119) (Ok (ops.Return (Some (Class 0))))
unfolding row_at table by_sort by_width by_kind first_four by_register literals binaries orders_all branching unused
copy-names-5 = refl

copy-step-5 :
    Steps tagged copy-world (alone (frame 5 (cells.Ref 1 ∷ cells.Ref 0 ∷ []) (cells.Ref 1 ∷ [])) copy-heap [])
    (ended (endings.Plain (Returned copy-value)) copy-end)
unfolding is_below is_on_chain chain chain_over parent_of instruction_at listing listing_from at_most decoded layout_of opcode
copy-step-5 =
    does copy-world copy-method (frame 5 (cells.Ref 1 ∷ cells.Ref 0 ∷ []) (cells.Ref 1 ∷ [])) copy-heap
    (record { place = 5; insn = with_opcode 119 }) (ops.Return (Some (Class 0))) refl copy-there-5 copy-names-5

-- ---- the steps of the target

copy-laid-there-0 : instruction_at copy-code 0 ≡ Some (record { place = 0; insn = with_byte 21 1 })
unfolding instruction_at listing listing_from at_most decoded layout_of opcode
copy-laid-there-0 = refl

copy-laid-names-0 : Resolves copy-laid-world copy-laid-method 0 (with_byte 21 1) (Ok (ops.Load sorts.Reference 1))
unfolding row_at table by_sort by_width by_kind first_four by_register literals binaries orders_all branching unused
copy-laid-names-0 = refl

copy-laid-step-0 :
    Steps tagged copy-laid-world (alone (frame 0 (cells.Ref 1 ∷ cells.Ref 0 ∷ cells.Empty ∷ []) []) copy-heap [])
    (running (alone (frame 2 (cells.Ref 1 ∷ cells.Ref 0 ∷ cells.Empty ∷ []) (cells.Ref 0 ∷ [])) copy-heap []))
unfolding is_below is_on_chain chain chain_over parent_of instruction_at listing listing_from at_most decoded layout_of opcode
copy-laid-step-0 =
    does copy-laid-world copy-laid-method (frame 0 (cells.Ref 1 ∷ cells.Ref 0 ∷ cells.Empty ∷ []) []) copy-heap
    (record { place = 0; insn = with_byte 21 1 }) (ops.Load sorts.Reference 1) refl copy-laid-there-0 copy-laid-names-0

copy-laid-there-2 : instruction_at copy-code 2 ≡ Some (record { place = 2; insn = copy-laid-branch })
unfolding instruction_at listing listing_from at_most decoded layout_of opcode
copy-laid-there-2 = refl

copy-laid-names-2 :
    Resolves copy-laid-world copy-laid-method 2 (copy-laid-branch)
    (Ok (ops.Branch (branches.Null sameness.Different)))
unfolding row_at table by_sort by_width by_kind first_four by_register literals binaries orders_all branching unused
copy-laid-names-2 = refl

copy-laid-step-2 :
    Steps tagged copy-laid-world (alone (frame 2 (cells.Ref 1 ∷ cells.Ref 0 ∷ cells.Empty ∷ []) (cells.Ref 0 ∷ [])) copy-heap [])
    (running (alone (frame 5 (cells.Ref 1 ∷ cells.Ref 0 ∷ cells.Empty ∷ []) []) copy-heap []))
unfolding is_below is_on_chain chain chain_over parent_of instruction_at listing listing_from at_most decoded layout_of opcode
copy-laid-step-2 =
    does copy-laid-world copy-laid-method (frame 2 (cells.Ref 1 ∷ cells.Ref 0 ∷ cells.Empty ∷ []) (cells.Ref 0 ∷ [])) copy-heap
    (record { place = 2; insn = copy-laid-branch }) (ops.Branch (branches.Null sameness.Different)) refl copy-laid-there-2 copy-laid-names-2

copy-laid-there-5 : instruction_at copy-code 5 ≡ Some (record { place = 5; insn = with_opcode 0 })
unfolding instruction_at listing listing_from at_most decoded layout_of opcode
copy-laid-there-5 = refl

copy-laid-names-5 : Resolves copy-laid-world copy-laid-method 5 (with_opcode 0) (Ok (ops.Constant constants.Nothing))
unfolding row_at table by_sort by_width by_kind first_four by_register literals binaries orders_all branching unused
copy-laid-names-5 = refl

copy-laid-step-5 :
    Steps tagged copy-laid-world (alone (frame 5 (cells.Ref 1 ∷ cells.Ref 0 ∷ cells.Empty ∷ []) []) copy-heap [])
    (running (alone (frame 6 (cells.Ref 1 ∷ cells.Ref 0 ∷ cells.Empty ∷ []) []) copy-heap []))
unfolding is_below is_on_chain chain chain_over parent_of instruction_at listing listing_from at_most decoded layout_of opcode
copy-laid-step-5 =
    does copy-laid-world copy-laid-method (frame 5 (cells.Ref 1 ∷ cells.Ref 0 ∷ cells.Empty ∷ []) []) copy-heap
    (record { place = 5; insn = with_opcode 0 }) (ops.Constant constants.Nothing) refl copy-laid-there-5 copy-laid-names-5

copy-laid-there-6 : instruction_at copy-code 6 ≡ Some (record { place = 6; insn = with_byte 21 2 })
unfolding instruction_at listing listing_from at_most decoded layout_of opcode
copy-laid-there-6 = refl

copy-laid-names-6 : Resolves copy-laid-world copy-laid-method 6 (with_byte 21 2) (Ok (ops.Load sorts.Reference 2))
unfolding row_at table by_sort by_width by_kind first_four by_register literals binaries orders_all branching unused
copy-laid-names-6 = refl

copy-laid-step-6 :
    Steps tagged copy-laid-world (alone (frame 6 (cells.Ref 1 ∷ cells.Ref 0 ∷ cells.Empty ∷ []) []) copy-heap [])
    (running (alone (frame 8 (cells.Ref 1 ∷ cells.Ref 0 ∷ cells.Empty ∷ []) (cells.Ref 0 ∷ [])) copy-heap []))
unfolding is_below is_on_chain chain chain_over parent_of instruction_at listing listing_from at_most decoded layout_of opcode
copy-laid-step-6 =
    does copy-laid-world copy-laid-method (frame 6 (cells.Ref 1 ∷ cells.Ref 0 ∷ cells.Empty ∷ []) []) copy-heap
    (record { place = 6; insn = with_byte 21 2 }) (ops.Load sorts.Reference 2) refl copy-laid-there-6 copy-laid-names-6

copy-laid-there-8 : instruction_at copy-code 8 ≡ Some (record { place = 8; insn = with_opcode 119 })
unfolding instruction_at listing listing_from at_most decoded layout_of opcode
copy-laid-there-8 = refl

copy-laid-names-8 : Resolves copy-laid-world copy-laid-method 8 (with_opcode 119) (Ok (ops.Return (Some (Class 0))))
unfolding row_at table by_sort by_width by_kind first_four by_register literals binaries orders_all branching unused
copy-laid-names-8 = refl

copy-laid-step-8 :
    Steps tagged copy-laid-world (alone (frame 8 (cells.Ref 1 ∷ cells.Ref 0 ∷ cells.Empty ∷ []) (cells.Ref 0 ∷ [])) copy-heap [])
    (ended copy-ending copy-end)
unfolding is_below is_on_chain chain chain_over parent_of instruction_at listing listing_from at_most decoded layout_of opcode
copy-laid-step-8 =
    does copy-laid-world copy-laid-method (frame 8 (cells.Ref 1 ∷ cells.Ref 0 ∷ cells.Empty ∷ []) (cells.Ref 0 ∷ [])) copy-heap
    (record { place = 8; insn = with_opcode 119 }) (ops.Return (Some (Class 0))) refl copy-laid-there-8 copy-laid-names-8

-- ---- both runs

copy-returns :
    Returns copy-world widening copy-heap [] copy-value
    (frame 0 (cells.Ref 1 ∷ cells.Ref 0 ∷ []) [])
copy-returns =
    returns_after refl copy-typed-0 copy-step-0
    (returns_after refl copy-typed-1 copy-step-1
    (returns_after refl copy-typed-3 copy-step-3
    (returns_after refl copy-typed-4 copy-step-4
    (returns_now refl copy-typed-5 _ copy-step-5))))

copy-ends :
    Ends copy-laid-world copy-ending copy-end (alone
    (frame 0 (cells.Ref 1 ∷ cells.Ref 0 ∷ cells.Empty ∷ []) []) copy-heap [])
copy-ends =
    ends_after copy-laid-step-0
    (ends_after copy-laid-step-2
    (ends_after copy-laid-step-5
    (ends_after copy-laid-step-6
    (ends_now copy-laid-step-8))))

copy-differs : copy-ending ≡ endings.Plain (Returned copy-value) → ⊥
copy-differs e = let n : 0 ≡ 1 = ap returned-number e in omega (arith, n)

pub missing-copy-is-refused : MissingCopyIsRefused
missing-copy-is-refused matches =
    unlike copy-world copy-laid-world widening copy-place copy-heap [] copy-value copy-ending _ copy-differs
    (matches copy-laid-world copy-place copy-laid) (cells.Ref 1 ∷ cells.Ref 0 ∷ []) refl copy-returns copy-ends
