use Rattle.std.proofs.Common.{◌≡◌, ◌≤◌, length, All, IsSomeAnd, Option, Some, None, Ok, Err, slice_get, refl, subst, sym, ◌∙◌, ap, arith}
use Rattle.std.proofs.lemmas.Result.{err_from_is_err_and}
use Rattle.jc_base.specs.Laws.{IsOrderOfTypes}
use Rattle.jc_base.specs.Order.{IsKnown}
use Rattle.jc_base.specs.declared.record.MethodRec.{MethodRec}
use Rattle.jc_base.specs.World.{Linked}
use Rattle.jc_decode.specs.declared.insn.Insn.{Insn}
use Rattle.jc_ops.specs.declared.fault.RuleFault.{RuleFault}
use Rattle.jc_ops.specs.declared.operation.Site.{Site}
use Rattle.jc_ops.specs.Resolve.{Resolves}
use Rattle.jc_rules.specs.declared.effect.Mode.TheVariants.{Card}
use Rattle.jc_rules.specs.Stack.{cells}
use Rattle.jc_rules.specs.Effect.{cells_needed, in_stack_order, depth_after, StoresInRegisters, raises_register}
use Rattle.jc_rules.specs.Demand.{Frame}
use Rattle.jc_rules.specs.Apply.{frame_of, HasDeclaredLengths, Refuses, unresolved, refused_by}
use Rattle.jc_rules.proofs.Stacks.{length-cells}
use Rattle.jc_rules.proofs.Effects.{cells-kept, changed-known, length-changed}
use Rattle.jc_rules.proofs.Plans.{planned-suits, plan-applies, room-known, site-known, method-inside, method-room}
use Rattle.jc_rules.proofs.Cards.{store-rises}
use Rattle.jc_rules.proofs.Raising.{RoseTo}
use Rattle.jc_rules.proofs.rule.apply.Goals as goal

-- an instruction without operation is refused
refuses-unresolved : (w : Linked) (site : Site) (i : Insn) (before : Frame) (fault : RuleFault) (o : Option MethodRec)
    → slice_get w.methods site.method ≡ o → IsSomeAnd o (λ m. Resolves w m site.place i (Err fault)) → Refuses w site i before fault
refuses-unresolved w site i before fault None e h = absurd h
refuses-unresolved w site i before fault (Some m) e h = record { method = m; is_method = e; rule = unresolved h }

pub returns-in_err-operation-clause-refuses : goal.returns-in_err-operation-clause-refuses
returns-in_err-operation-clause-refuses c =
    let p = err_from_is_err_and c.from_residual.result c.from_residual.ensures.1 in
    rw (p.1, p.2)
    (refuses-unresolved c.args.world.now c.args.site c.args.insn (frame_of c.args.regs.now c.args.stack.now c.args.depth) c.in_err-operation.field-0.0
    (slice_get c.args.world.now.methods c.args.site.method) refl c.in_err-operation.ensures.resolves)

pub method-requires : goal.method-requires
method-requires c = method-inside c.args.world.now c.args.site.method (λ m. HasDeclaredLengths m c.args.regs.now c.args.stack.now c.args.depth) c.requires.room

pub plan-requires-clause-frame : goal.plan-requires-clause-frame
unfolding cells
plan-requires-clause-frame c =
    room-known c.args.world.now c.classes-classes.ensures.links c.args.site.method c.args.regs.now c.args.stack.now c.args.depth c.requires.room
    c.requires.regs_known c.requires.stack_known

pub plan-requires-clause-known : goal.plan-requires-clause-known
plan-requires-clause-known c = site-known c.args.world.now c.args.site.place c.args.site.method c.in_ok-operation.operation c.in_ok-operation.ensures.sound

pub returns-in_err-effect-clause-refuses : goal.returns-in_err-effect-clause-refuses
unfolding cells
returns-in_err-effect-clause-refuses c =
    let p = err_from_is_err_and c.from_residual-in_err-effect.result c.from_residual-in_err-effect.ensures.1 in
    let resolves : Resolves c.args.world.now c.method.result.now c.args.site.place c.args.insn (Ok c.in_ok-operation.operation) =
    subst (λ o. IsSomeAnd o (λ m. Resolves c.args.world.now m c.args.site.place c.args.insn (Ok c.in_ok-operation.operation))) c.method.ensures.is
    c.in_ok-operation.ensures.resolves in
    rw (p.1, p.2)
    (record { method = c.method.result.now; is_method = c.method.ensures.is; rule = refused_by resolves c.in_err-effect.ensures })

pub change_stack-depth-requires-clause-there : goal.change_stack-depth-requires-clause-there
unfolding cells
change_stack-depth-requires-clause-there c =
    let declared : HasDeclaredLengths c.method.result.now c.args.regs.now c.args.stack.now c.args.depth =
    method-room c.args.world.now c.args.site.method c.method.result.now (λ m. HasDeclaredLengths m c.args.regs.now c.args.stack.now c.args.depth)
    c.method.ensures.is c.requires.room in
    let inside : c.args.depth ≤ length c.args.stack.now = omega (arith, declared.within, declared.cells) in
    subst (λ n. cells_needed c.in_ok-effect.effect.change ≤ n) (length-cells c.args.stack.now c.args.depth inside)
    (planned-suits c.args.world.now c.classes-classes.ensures.links c.args.site c.in_ok-operation.operation c.args.regs.now c.args.stack.now c.args.depth
    c.method.result.now.max_stack c.in_ok-effect.effect c.requires.room c.requires.regs_known c.requires.stack_known c.in_ok-operation.ensures.sound
    c.in_ok-effect.ensures).there

pub change_regs-rose-requires-clause-inside : goal.change_regs-rose-requires-clause-inside
unfolding cells
change_regs-rose-requires-clause-inside c =
    (planned-suits c.args.world.now c.classes-classes.ensures.links c.args.site c.in_ok-operation.operation c.args.regs.now c.args.stack.now c.args.depth
    c.method.result.now.max_stack c.in_ok-effect.effect c.requires.room c.requires.regs_known c.requires.stack_known c.in_ok-operation.ensures.sound
    c.in_ok-effect.ensures).inside

pub change_regs-rose-requires-clause-stored_known : goal.change_regs-rose-requires-clause-stored_known
unfolding cells
change_regs-rose-requires-clause-stored_known c =
    subst (λ t. All (IsKnown t) (in_stack_order c.in_ok-effect.effect.store.cells)) (sym c.classes-classes.ensures.is)
    (cells-kept c.args.world.now.classes c.in_ok-effect.effect.store.cells
    (planned-suits c.args.world.now c.classes-classes.ensures.links c.args.site c.in_ok-operation.operation c.args.regs.now c.args.stack.now c.args.depth
    c.method.result.now.max_stack c.in_ok-effect.effect c.requires.room c.requires.regs_known c.requires.stack_known c.in_ok-operation.ensures.sound
    c.in_ok-effect.ensures).stored)

pub returns-clause-stack_known : goal.returns-clause-stack_known
unfolding cells
returns-clause-stack_known c =
    subst (All (IsKnown c.args.world.now.classes)) (sym c.change_stack-depth.ensures.stack)
    (changed-known c.args.world.now.classes c.in_ok-effect.effect.change (cells c.args.stack.now c.args.depth)
    (planned-suits c.args.world.now c.classes-classes.ensures.links c.args.site c.in_ok-operation.operation c.args.regs.now c.args.stack.now c.args.depth
    c.method.result.now.max_stack c.in_ok-effect.effect c.requires.room c.requires.regs_known c.requires.stack_known c.in_ok-operation.ensures.sound
    c.in_ok-effect.ensures).change
    c.requires.stack_known)

pub returns-clause-rises : goal.returns-clause-rises
returns-clause-rises c = λ card.
    let t = c.args.world.now.classes in
    let e = c.in_ok-effect.effect in
    let stored : StoresInRegisters t c.args.mode e.store c.args.regs.now c.change_regs-rose.new.regs =
    subst (λ x. StoresInRegisters x c.args.mode e.store c.args.regs.now c.change_regs-rose.new.regs) c.classes-classes.ensures.is
    c.change_regs-rose.ensures.value in
    let rose : c.change_regs-rose.result ≡ raises_register t Card e.store c.args.regs.now =
    c.change_regs-rose.ensures.rose ∙ ap (λ x. raises_register x c.args.mode e.store c.args.regs.now) c.classes-classes.ensures.is
    ∙ ap (λ mode. raises_register t mode e.store c.args.regs.now) card in
    subst (RoseTo t c.args.regs.now c.change_regs-rose.new.regs) (sym rose)
    (store-rises t (subst IsOrderOfTypes c.classes-classes.ensures.is c.types_are_ordered.ensures.order) e.store.register e.store.cells c.args.regs.now
    c.change_regs-rose.new.regs
    (subst (λ mode. StoresInRegisters t mode e.store c.args.regs.now c.change_regs-rose.new.regs) card stored))

pub returns-clause-applies : goal.returns-clause-applies
unfolding cells
returns-clause-applies c =
    let w = c.args.world.now in
    let op = c.in_ok-operation.operation in
    let k = room-known c.args.world.now c.classes-classes.ensures.links c.args.site.method c.args.regs.now c.args.stack.now c.args.depth c.requires.room
    c.requires.regs_known c.requires.stack_known in
    let declared : HasDeclaredLengths c.method.result.now c.args.regs.now c.args.stack.now c.args.depth =
    method-room w c.args.site.method c.method.result.now (λ m. HasDeclaredLengths m c.args.regs.now c.args.stack.now c.args.depth) c.method.ensures.is
    c.requires.room in
    let inside : c.args.depth ≤ length c.args.stack.now = omega (arith, declared.within, declared.cells) in
    let before : Frame = frame_of c.args.regs.now c.args.stack.now c.args.depth in
    let e = c.in_ok-effect.effect in
    let there : cells_needed e.change ≤ length before.stack =
    (planned-suits c.args.world.now c.classes-classes.ensures.links c.args.site c.in_ok-operation.operation c.args.regs.now c.args.stack.now
    c.args.depth c.method.result.now.max_stack c.in_ok-effect.effect c.requires.room c.requires.regs_known c.requires.stack_known
    c.in_ok-operation.ensures.sound c.in_ok-effect.ensures).there in
    let count : length (cells c.change_stack-depth.new.stack c.change_stack-depth.result) ≡ c.change_stack-depth.result =
    ap length c.change_stack-depth.ensures.stack
    ∙ length-changed e.change before.stack there
    ∙ ap (depth_after e.change) (length-cells c.args.stack.now c.args.depth inside)
    ∙ sym c.change_stack-depth.ensures.depth in
    let resolves : Resolves w c.method.result.now c.args.site.place c.args.insn (Ok op) =
    subst (λ o. IsSomeAnd o (λ m. Resolves w m c.args.site.place c.args.insn (Ok op))) c.method.ensures.is c.in_ok-operation.ensures.resolves in
    record {
      method = c.method.result.now;
      is_method = c.method.ensures.is;
      rule = record {
        operation = op;
        resolves = resolves;
        does = plan-applies w c.classes-classes.ensures.links c.method.result.now.max_stack op c.args.mode before
            (frame_of c.change_regs-rose.new.regs c.change_stack-depth.new.stack c.change_stack-depth.result) e _ k
            (site-known w c.args.site.place c.args.site.method op c.in_ok-operation.ensures.sound) c.in_ok-effect.ensures
            (subst (λ t. StoresInRegisters t c.args.mode e.store c.args.regs.now c.change_regs-rose.new.regs) c.classes-classes.ensures.is
            c.change_regs-rose.ensures.value)
            c.change_stack-depth.ensures.stack
            c.falls.ensures
            c.ends.ensures
            (sym count)
            c.wrote.ensures
            (c.change_regs-rose.ensures.rose ∙ ap (λ t. raises_register t c.args.mode e.store c.args.regs.now) c.classes-classes.ensures.is);
      };
    }
