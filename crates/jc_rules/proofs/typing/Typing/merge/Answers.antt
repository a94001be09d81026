use Rattle.std.proofs.Common.{◌≡◌, ℕ, ◌∙◌, List, Option, Some, IsSomeAnd, All, length, take, drop, reverse, set, ap, sym, subst}
use Rattle.std.proofs.lemmas.List.{with_items_is}
use Rattle.jc_base.specs.declared.ty.Ty.{Ty}
use Rattle.jc_base.specs.Order.{IsKnown}
use Rattle.jc_rules.specs.Demand.{Frame}
use Rattle.jc_rules.specs.declared.typing.Span.{Span}
use Rattle.jc_rules.specs.Held.{frame_of_span, span_at, frames_at}
use Rattle.jc_rules.specs.Typing.{IsMerged}
use Rattle.jc_rules.proofs.Spans.{frame-there, none-there, frame-registers, frames-changed}
use Rattle.jc_rules.proofs.typing.Typing.merge.Goals as goal

pub merge_span-requires-clause-count : goal.merge_span-requires-clause-count
merge_span-requires-clause-count c =
    let i = c.self.inside in let s = c.in-Some.span in
    let there = ap (λ (xs : List (Option Span)). span_at xs c.args.place) (sym c.deref.ensures.value) ∙ sym c.in-Some.ensures in
    let held = frame-there i.cells.items i.spans.items c.args.self.now c.args.place s c.self.view_is there in
    subst (λ (o : Option Frame). IsSomeAnd o (λ f. length c.args.regs.now ≡ length f.regs)) held c.requires.count
    ∙ frame-registers i.cells.items s (c.self.invariant.apart.within c.args.place s there)

pub merge_span-requires-clause-own_regs_known : goal.merge_span-requires-clause-own_regs_known
merge_span-requires-clause-own_regs_known c =
    let i = c.self.inside in let s = c.in-Some.span in
    let there = ap (λ (xs : List (Option Span)). span_at xs c.args.place) (sym c.deref.ensures.value) ∙ sym c.in-Some.ensures in
    let held = frame-there i.cells.items i.spans.items c.args.self.now c.args.place s c.self.view_is there in
    subst (λ (xs : List Ty). All (IsKnown c.args.classes.now) (frame_of_span xs s).regs) (sym c.deref_mut.ensures.value)
    (subst (λ (o : Option Frame). IsSomeAnd o (λ f. All (IsKnown c.args.classes.now) f.regs)) held c.requires.own_regs_known)

pub merge_span-requires-clause-own_stack_known : goal.merge_span-requires-clause-own_stack_known
merge_span-requires-clause-own_stack_known c =
    let i = c.self.inside in let s = c.in-Some.span in
    let there = ap (λ (xs : List (Option Span)). span_at xs c.args.place) (sym c.deref.ensures.value) ∙ sym c.in-Some.ensures in
    let held = frame-there i.cells.items i.spans.items c.args.self.now c.args.place s c.self.view_is there in
    subst (λ (xs : List Ty). All (IsKnown c.args.classes.now) (frame_of_span xs s).stack) (sym c.deref_mut.ensures.value)
    (subst (λ (o : Option Frame). IsSomeAnd o (λ f. All (IsKnown c.args.classes.now) f.stack)) held c.requires.own_stack_known)

pub unreachable-requires : goal.unreachable-requires
unreachable-requires c =
    let i = c.self.inside in
    let there = ap (λ (xs : List (Option Span)). span_at xs c.args.place) (sym c.deref.ensures.value) ∙ sym c.in-None.ensures in
    subst (λ (o : Option Frame). IsSomeAnd o (λ f. length c.args.regs.now ≡ length f.regs))
    (none-there i.cells.items i.spans.items c.args.self.now c.args.place c.self.view_is there) c.requires.count

pub returns : goal.returns
returns c =
    let i = c.self.inside in let s = c.in-Some.span in
    let new = c.merge_span.new.cells in
    let there = ap (λ (xs : List (Option Span)). span_at xs c.args.place) (sym c.deref.ensures.value) ∙ sym c.in-Some.ensures in
    let stays : (b n : ℕ) → _ → take n (drop b new) ≡ take n (drop b i.cells.items) =
    λ b n h. c.merge_span.ensures.elsewhere b n h ∙ ap (λ (xs : List Ty). take n (drop b xs)) c.deref_mut.ensures.value in
    record {
      held = frame_of_span i.cells.items s;
      joined = frame_of_span new s;
      there = frame-there i.cells.items i.spans.items c.args.self.now c.args.place s c.self.view_is there;
      set =
          ap (λ (xs : List Ty). frames_at xs i.spans.items) (with_items_is i.cells new (c.merge_span.ensures.len ∙ c.deref_mut.ensures.len))
          ∙ frames-changed i.cells.items new i.spans.items c.args.place s c.self.invariant.apart there stays
          ∙ ap (λ (xs : List (Option Frame)). set xs c.args.place (Some (frame_of_span new s))) c.self.view_is;
      merged =
          subst (λ (xs : List Ty). IsMerged c.args.classes.now (frame_of_span xs s) (record { regs = c.args.regs.now; stack = reverse c.args.stack.now })
          (frame_of_span new s) c.merge_span.result)
          c.deref_mut.ensures.value c.merge_span.ensures.merged;
    }
