use Rattle.std.proofs.Common.{◌≡◌, ◌∙◌, List, Option, IsSomeAnd, IfSome, All, length, reverse, set, subst, sym, true}
use Rattle.jc_base.specs.Order.{IsKnown}
use Rattle.jc_rules.specs.Demand.{Frame}
use Rattle.jc_rules.specs.Typing.{state_at, Clashes}
use Rattle.jc_flow.specs.Found.{Found, HasKnown, Lands, AreFlags}
use Rattle.jc_flow.proofs.Landing.{known-there, some-so, lands_same, lands_risen, lands_not}
use Rattle.jc_flow.proofs.table.StateTable.put.Goals as goal

pub merge-requires-clause-count : goal.merge-requires-clause-count
merge-requires-clause-count c =
    let n = length c.args.regs.now in let t = c.args.classes.now in let o = state_at c.self.inside.typing c.args.place in
    some-so (HasKnown t n) (λ f. n ≡ length f.regs) o (λ f h. h.count)
    (known-there t n o (sym c.reached.ensures ∙ c.if-not-reached.false)
    (subst (λ (x : Found). IfSome (state_at x.states c.args.place) (HasKnown t n)) (sym c.self.view_is) c.requires.held_known))

pub merge-requires-clause-own_regs_known : goal.merge-requires-clause-own_regs_known
merge-requires-clause-own_regs_known c =
    let n = length c.args.regs.now in let t = c.args.classes.now in let o = state_at c.self.inside.typing c.args.place in
    some-so (HasKnown t n) (λ f. All (IsKnown t) f.regs) o (λ f h. h.regs)
    (known-there t n o (sym c.reached.ensures ∙ c.if-not-reached.false)
    (subst (λ (x : Found). IfSome (state_at x.states c.args.place) (HasKnown t n)) (sym c.self.view_is) c.requires.held_known))

pub merge-requires-clause-own_stack_known : goal.merge-requires-clause-own_stack_known
merge-requires-clause-own_stack_known c =
    let n = length c.args.regs.now in let t = c.args.classes.now in let o = state_at c.self.inside.typing c.args.place in
    some-so (HasKnown t n) (λ f. All (IsKnown t) f.stack) o (λ f h. h.stack)
    (known-there t n o (sym c.reached.ensures ∙ c.if-not-reached.false)
    (subst (λ (x : Found). IfSome (state_at x.states c.args.place) (HasKnown t n)) (sym c.self.view_is) c.requires.held_known))

pub returns-in-Same : goal.returns-in-Same
returns-in-Same c =
    let f : Frame = record { regs = c.args.regs.now; stack = reverse c.args.stack.now } in
    subst (λ (x : Found). Lands c.args.classes.now x c.args.place f (record { states = c.merge.new.self; pending = c.self.inside.pending.items }))
    c.self.view_is
    (lands_same c.args.classes.now c.self.inside.typing c.merge.new.self c.self.inside.pending.items c.args.place f c.in-Same.ensures)

pub returns-in-Risen : goal.returns-in-Risen
returns-in-Risen c =
    let f : Frame = record { regs = c.args.regs.now; stack = reverse c.args.stack.now } in
    rw c.wait-in-Risen.ensures
    (subst
    (λ (x : Found). Lands c.args.classes.now x c.args.place f
    (record { states = c.merge.new.self; pending = set c.self.inside.pending.items c.args.place true })) c.self.view_is
    (lands_risen c.args.classes.now c.self.inside.typing c.merge.new.self c.self.inside.pending.items c.args.place f c.in-Risen.ensures))

pub returns-in-Clashing : goal.returns-in-Clashing
returns-in-Clashing c =
    let f : Frame = record { regs = c.args.regs.now; stack = reverse c.args.stack.now } in
    subst (λ (x : Found). IsSomeAnd (state_at x.states c.args.place) (λ g. Clashes c.args.classes.now g f)) c.self.view_is
    (lands_not c.args.classes.now c.self.inside.typing c.merge.new.self c.self.inside.pending.items c.args.place f c.in-Clashing.ensures)

pub invariant_of-self : goal.invariant_of-self
invariant_of-self c =
    subst (λ (xs : List (Option Frame)). AreFlags (length xs) c.self.inside.pending.items c.self.inside.low) (sym c.in_err-put.ensures.kept)
    c.self.invariant
