use Rattle.std.proofs.Common.{◌≡◌, ◌∙◌, ℕ, true, List, Option, Some, None, ap, subst, sym}
use Rattle.std.specs.Prelude.{◌↔◌}
use Rattle.jc_base.specs.declared.ty.Ty.{Ty}
use Rattle.jc_rules.specs.declared.typing.Span.{Span}
use Rattle.jc_rules.specs.Demand.{Frame}
use Rattle.jc_rules.specs.Held.{AreOfOneGroup, frame_of_span, frames_at, span_at}
use Rattle.jc_rules.specs.Typing.{state_at, HaveSameRegisters}
use Rattle.jc_rules.proofs.Spans.{frame-there, none-there}
use Rattle.jc_rules.proofs.typing.Typing.has_same_registers.Goals as goal

-- of two places with spans
same-spans :
    (cells : List Ty) (spans : List (Option Span)) (now : List (Option Frame)) (p q : ℕ) (s u : Span)
    → frames_at cells spans ≡ now
    → span_at spans p ≡ Some s
    → span_at spans q ≡ Some u
    → ((frame_of_span cells s).regs ≡ (frame_of_span cells u).regs) ↔ HaveSameRegisters (state_at now p) (state_at now q)
same-spans cells spans now p q s u is here there =
    let f = frame_of_span cells s in
    let regs = f.regs ≡ (frame_of_span cells u).regs in
    subst (λ o. regs ↔ HaveSameRegisters o (state_at now q)) (sym (frame-there cells spans now p s is here))
    (subst (λ o. regs ↔ HaveSameRegisters (Some f) o) (sym (frame-there cells spans now q u is there)) ((λ e. e), (λ e. e)))

none-second : (f : Option Frame) → ¬ HaveSameRegisters f None
none-second None same = same
none-second (Some f) same = same

pub returns-in_default : goal.returns-in_default
returns-in_default c =
    let i = c.self.inside in
    let none = ap (λ (xs : List (Option Span)). span_at xs c.args.place) (sym c.deref.ensures.value) ∙ sym c.in_default.ensures in
    let state = none-there i.cells.items i.spans.items c.args.self.now c.args.place c.self.view_is none in
    ((λ yes. absurd (cc)), (λ same. absurd (subst (λ f. HaveSameRegisters f (state_at c.args.self.now c.args.other)) state same)))

pub returns-in_default-span_of : goal.returns-in_default-span_of
returns-in_default-span_of c =
    let i = c.self.inside in
    let none = ap (λ (xs : List (Option Span)). span_at xs c.args.other) (sym c.deref-2.ensures.value) ∙ sym c.in_default-span_of.ensures in
    let state = none-there i.cells.items i.spans.items c.args.self.now c.args.other c.self.view_is none in
    let first = state_at c.args.self.now c.args.place in
    ((λ yes. absurd (cc)), (λ same. absurd (none-second first (subst (λ g. HaveSameRegisters first g) state same))))

pub returns-then-are_of_one_group : goal.returns-then-are_of_one_group
returns-then-are_of_one_group c =
    let i = c.self.inside in let s = c.in-Some.span in let u = c.in-Some-span_of.beside in
    let here = ap (λ (xs : List (Option Span)). span_at xs c.args.place) (sym c.deref.ensures.value) ∙ sym c.in-Some.ensures in
    let there = ap (λ (xs : List (Option Span)). span_at xs c.args.other) (sym c.deref-2.ensures.value) ∙ sym c.in-Some-span_of.ensures in
    let same = same-spans i.cells.items i.spans.items c.args.self.now c.args.place c.args.other s u c.self.view_is here there in
    let yes = c.if-are_of_one_group.true in
    let group = subst (λ gs. AreOfOneGroup gs c.args.place c.args.other) c.deref-3.ensures.value (c.are_of_one_group.ensures yes) in
    ((λ _. same.0 (c.self.invariant.told c.args.place c.args.other group.0 s u here there group.1 group.2)), (λ _. yes))

pub returns-else-are_of_one_group : goal.returns-else-are_of_one_group
returns-else-are_of_one_group c =
    let i = c.self.inside in let s = c.in-Some.span in let u = c.in-Some-span_of.beside in
    let here = ap (λ (xs : List (Option Span)). span_at xs c.args.place) (sym c.deref.ensures.value) ∙ sym c.in-Some.ensures in
    let there = ap (λ (xs : List (Option Span)). span_at xs c.args.other) (sym c.deref-2.ensures.value) ∙ sym c.in-Some-span_of.ensures in
    let same = same-spans i.cells.items i.spans.items c.args.self.now c.args.place c.args.other s u c.self.view_is here there in
    let held = subst (λ (xs : List Ty). (c.same_registers.result ≡ true) ↔ ((frame_of_span xs s).regs ≡ (frame_of_span xs u).regs))
    c.deref-else-are_of_one_group.ensures.value c.same_registers.ensures in
    ((λ yes. same.0 (held.0 yes)), (λ are. held.1 (same.1 are)))
