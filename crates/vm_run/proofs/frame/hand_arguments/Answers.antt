use Rattle.std.proofs.Common.{◌≡◌, ◌<◌, ◌≤◌, ◌+◌, ℕ, List, [], length, drop, get_or, sym, ap, ◌∙◌, subst}
use Rattle.std.proofs.Common.{arith, refl, true, false}
use Rattle.std.specs.Prelude.{filter}
use Rattle.jc_base.specs.declared.ty.Ty.TheVariants.{Bottom}
use Rattle.vm_store.specs.State.{State, top, with_top}
use Rattle.vm_store.specs.Layout.{overwritten}
use Rattle.vm_step.specs.Arguments.{argument_of}
use Rattle.vm_step.specs.Start.{argument_cells, arrays_made, cells_handed, is_parameter}
use Rattle.vm_store.proofs.Fills.{overwritten-nil}
use Rattle.vm_run.proofs.Sums.{there-inside}
use Rattle.vm_run.proofs.WritesInOrder.{length-overwritten}
use Rattle.vm_run.proofs.Handing.{handed-size, fits-next, count-next, room-next, left-next, written-next, made-next, framed-next, framed-itself, framed-runs}
use Rattle.vm_run.proofs.Handing.{framed-first, handed-none, none-left}
use Rattle.vm_run.proofs.frame.hand_arguments.Goals as goal

pub types-init : goal.types-init
types-init g c =
    let k = g.S.Cell.CellForm.cells in
    let s : State g.row.S-Cell.Denot = g.S.Store.state c.args.store.now in
    record {
      going = c.requires.running;
      frame = framed-first s c.requires.running;
      size = refl;
      written = refl;
      room = let e = handed-size k 0 c.args.objects c.args.args.now c.requires.whole c.requires.count c.requires.fit in omega arith;
      count = c.requires.count;
      fit = c.requires.fit;
      handles = omega arith;
      some = omega arith;
      well = c.requires.well;
      fixed = refl;
    }

pub hand_argument-x-requires-clause-fits : goal.hand_argument-x-requires-clause-fits
hand_argument-x-requires-clause-fits g c =
    (fits-next g.S.Cell.CellForm.cells c.args.args.now c.args.types.now c.types.n c.types.ty-index c.types.made (argument_of c.at-arg.result)
    c.at-arg.ensures c.types-test.true
    (sym c.is_parameter.ensures ∙ c.if-not-is_parameter.false) c.types.invariant.fit).0

pub hand_argument-x-requires-clause-there : goal.hand_argument-x-requires-clause-there
hand_argument-x-requires-clause-there g c =
    let room = room-next g.S.Cell.CellForm.cells c.args.args.now c.args.types.now c.types.n c.types.ty-index c.types.made (argument_of c.at-arg.result)
    c.at-arg.ensures c.types-test.true
    (sym c.is_parameter.ensures ∙ c.if-not-is_parameter.false) c.types.x c.types.invariant.room in
    omega (arith, room, c.requires.registers, c.types.invariant.size)

pub hand_argument-x-requires-clause-few : goal.hand_argument-x-requires-clause-few
hand_argument-x-requires-clause-few g c =
    let room = room-next g.S.Cell.CellForm.cells c.args.args.now c.args.types.now c.types.n c.types.ty-index c.types.made (argument_of c.at-arg.result)
    c.at-arg.ensures c.types-test.true
    (sym c.is_parameter.ensures ∙ c.if-not-is_parameter.false) c.types.x c.types.invariant.room in
    omega (arith, room, c.requires.few)

pub types-preserved : goal.types-preserved
types-preserved g c =
    let k = g.S.Cell.CellForm.cells in
    let Z : Type 0 = State g.row.S-Cell.Denot in
    let s : Z = g.S.Store.state c.args.store.now in
    let z : Z = g.S.Store.state c.types.store in
    let y : Z = g.S.Store.state c.hand_argument-x.new.store in
    let args = c.args.args.now in
    let tys = c.args.types.now in
    let n = c.types.n in
    let i = c.types.ty-index in
    let arg = argument_of c.at-arg.result in
    let begins : is_parameter (get_or tys i Bottom) ≡ true = sym c.is_parameter.ensures ∙ c.if-not-is_parameter.false in
    let own = argument_cells k c.types.made arg (get_or tys i Bottom) in
    let room = room-next k args tys n i c.types.made arg c.at-arg.ensures c.types-test.true begins c.types.x c.types.invariant.room in
    let fits = fits-next k args tys n i c.types.made arg c.at-arg.ensures c.types-test.true begins c.types.invariant.fit in
    let regs : List g.row.S-Cell.Denot = (top z).registers in
    let framed : y ≡ with_top s (record (top s) { registers = overwritten regs c.types.x own }) =
    framed-next s z y regs (overwritten regs c.types.x own) c.types.invariant.frame c.hand_argument-x.ensures.state in
    let now : (top y).registers ≡ overwritten regs c.types.x own = ap (λ (x : Z). (top x).registers) framed in
    let less : c.types.x + length own ≤ length regs = omega (arith, room, c.requires.registers, c.types.invariant.size) in
    let made : c.types.made + c.arrays_made-made.result ≡ c.types.made + arrays_made arg = ap (λ (m : ℕ). c.types.made + m) c.arrays_made-made.ensures in
    let rest : ℕ → List g.row.S-Cell.Denot = λ m. cells_handed k m (drop (n + 1) args) (filter is_parameter (drop (i + 1) tys)) in
    let more : n < length args = there-inside args n arg c.at-arg.ensures in
    record {
      going = framed-runs s y (overwritten regs c.types.x own) framed;
      frame = framed-itself s y (overwritten regs c.types.x own) framed;
      size = ap length now ∙ (length-overwritten regs own c.types.x less ∙ c.types.invariant.size);
      written = ap (λ (rs : List g.row.S-Cell.Denot). overwritten rs c.hand_argument-x.result (rest (c.types.made + c.arrays_made-made.result))) now
          ∙ (ap (λ (m : ℕ). overwritten (overwritten regs c.types.x own) c.hand_argument-x.result (rest m)) made
          ∙ (written-next k args tys n i c.types.made arg c.at-arg.ensures c.types-test.true begins regs c.types.x c.hand_argument-x.result
          c.hand_argument-x.ensures.next
          (omega (arith, less, c.hand_argument-x.ensures.next))
          ∙ c.types.invariant.written));
      room = ap (λ (m : ℕ). c.hand_argument-x.result + length (rest m)) made
          ∙ left-next k args tys n i c.types.made arg c.at-arg.ensures c.types-test.true begins c.types.x c.hand_argument-x.result
          c.hand_argument-x.ensures.next c.types.invariant.room;
      count = count-next k args tys n i c.types.made arg c.at-arg.ensures c.types-test.true begins c.types.invariant.count;
      fit = fits.1;
      handles = subst (λ (m : ℕ). m ≤ c.args.objects + (n + 1)) (sym made) (made-next arg c.types.made c.args.objects n c.types.invariant.handles);
      some = omega arith;
      well = c.hand_argument-x.ensures.well;
      fixed = c.hand_argument-x.ensures.fixed ∙ c.types.invariant.fixed;
    }

pub returns-clause-state : goal.returns-clause-state
returns-clause-state g c =
    let k = g.S.Cell.CellForm.cells in
    let s : State g.row.S-Cell.Denot = g.S.Store.state c.args.store.now in
    let regs : List g.row.S-Cell.Denot = (top (g.S.Store.state c.types.store)).registers in
    let left = filter is_parameter (drop c.types.ty-index c.args.types.now) in
    let nothing : cells_handed k c.types.made (drop c.types.n c.args.args.now) left ≡ [] =
    handed-none k c.types.made (drop c.types.n c.args.args.now) left (none-left c.args.types.now c.types.ty-index c.types-test.false) in
    let all = overwritten-nil regs c.types.x ∙ (ap (overwritten regs c.types.x) (sym nothing) ∙ c.types.invariant.written) in
    c.types.invariant.frame ∙ ap (λ (rs : List g.row.S-Cell.Denot). with_top s (record (top s) { registers = rs })) all
