use Rattle.std.proofs.Common.{List, ◌++◌, All, drop, reverse, subst, sym}
use Rattle.jc_base.proofs.Lists.{All-turned}
use Rattle.jc_base.specs.Order.{IsKnown}
use Rattle.jc_base.specs.declared.ty.Ty.{Ty}
use Rattle.jc_rules.specs.Demand.{Frame}
use Rattle.jc_rules.specs.Held.{parted, frame_of_span}
use Rattle.jc_rules.specs.Typing.{IsMerged}
use Rattle.jc_rules.proofs.Spans.{own-part, own-part_new, other-parts}
use Rattle.jc_rules.proofs.typing.merge_span.Goals as goal

pub merge_cells-requires-clause-own_stack_known : goal.merge_cells-requires-clause-own_stack_known
merge_cells-requires-clause-own_stack_known c =
    let a = c.split_at_mut-from in let b = c.split_at_mut-own in let s = c.args.span in
    let own = own-part c.args.cells.now a.result.0.now a.result.1.now b.result.0.now b.result.1.now s a.ensures.value b.ensures.value a.ensures.front_len
    b.ensures.front_len in
    All-turned (IsKnown c.args.classes.now) (drop s.registers b.result.0.now)
    (subst (λ (xs : List Ty). All (IsKnown c.args.classes.now) (reverse (drop s.registers xs))) own c.requires.own_stack_known)

pub returns-clause-merged : goal.returns-clause-merged
returns-clause-merged c =
    let a = c.split_at_mut-from in let b = c.split_at_mut-own in let s = c.args.span in
    let f : Frame = record { regs = c.args.regs.now; stack = reverse c.args.stack.now } in
    let own = own-part c.args.cells.now a.result.0.now a.result.1.now b.result.0.now b.result.1.now s a.ensures.value b.ensures.value a.ensures.front_len
    b.ensures.front_len in
    let new = own-part_new c.args.cells.now a.result.0.now a.result.1.now b.result.0.now b.result.1.now s a.ensures.value b.ensures.value
    a.ensures.front_len b.ensures.front_len
    c.merge_cells.new.cells c.merge_cells.ensures.len in
    subst
    (λ (xs : List Ty). IsMerged c.args.classes.now (parted s.registers xs) f
    (frame_of_span (a.result.0.now ++ (c.merge_cells.new.cells ++ b.result.1.now)) s) c.merge_cells.result) (sym own)
    (subst (λ (xs : List Ty). IsMerged c.args.classes.now (parted s.registers b.result.0.now) f (parted s.registers xs) c.merge_cells.result) (sym new)
    c.merge_cells.ensures.merged)

pub returns-clause-elsewhere : goal.returns-clause-elsewhere
returns-clause-elsewhere c =
    let a = c.split_at_mut-from in let b = c.split_at_mut-own in
    other-parts c.args.cells.now a.result.0.now a.result.1.now b.result.0.now b.result.1.now c.args.span a.ensures.value b.ensures.value a.ensures.front_len
    b.ensures.front_len
    c.merge_cells.new.cells c.merge_cells.ensures.len
