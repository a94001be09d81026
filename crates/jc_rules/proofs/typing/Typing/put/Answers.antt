use Rattle.std.proofs.Common.{◌≡◌, ℕ, ◌∙◌, ◌<◌, List, ◌++◌, Option, Some, length, reverse, set, ap, sym, subst, refl}
use Rattle.std.specs.Prelude.{option_map}
use Rattle.std.proofs.lemmas.List.{length-map, length-append}
use Rattle.jc_base.specs.declared.ty.Ty.{Ty}
use Rattle.jc_rules.specs.Demand.{Frame}
use Rattle.jc_rules.specs.declared.typing.Span.{Span}
use Rattle.jc_rules.specs.Held.{AreSpans, TellRegisters, frame_of_span, frames_at}
use Rattle.jc_rules.proofs.Spans.{frame-put, frames-put, frames-more, holds-on-err, spans-put}
use Rattle.jc_rules.proofs.Groups.{none-told}
use Rattle.jc_rules.proofs.typing.Typing.put.Goals as goal

pub returns-in_err-append-clause-kept : goal.returns-in_err-append-clause-kept
returns-in_err-append-clause-kept c =
    let i = c.self.inside in let kept = c.append.ensures.kept in
    holds-on-err c.from_residual.result _
    (ap (λ (xs : List Ty). frames_at xs i.spans.items) kept.1 ∙ frames-more i.cells.items kept.0 i.spans.items c.self.invariant.apart ∙ c.self.view_is)

pub returns-clause-put : goal.returns-clause-put
returns-clause-put c =
    let i = c.self.inside in let p = c.args.place in let regs = c.args.regs.now in let stack = c.args.stack.now in
    let s : Span = record { at = c.len-at.result; registers = length regs; depth = length stack } in
    let f : Frame = record { regs = regs; stack = reverse stack } in
    let lt : p < length i.spans.items =
    subst (λ (n : ℕ). p < n) (length-map i.spans.items (option_map (frame_of_span i.cells.items)))
    (subst (λ (xs : List (Option Frame)). p < length xs) (sym c.self.view_is) c.requires.place) in
    let at : s.at ≡ length i.cells.items = c.len-at.ensures ∙ i.cells.ok.0 in
    ap (λ (xs : List Ty). frames_at xs (set i.spans.items p (Some s))) c.in_ok-append.ensures.value
    ∙ frames-put i.cells.items (regs ++ stack) i.spans.items c.self.invariant.apart p lt s at (length-append regs stack) c.requires.few f
    (frame-put i.cells.items regs stack s at refl refl)
    ∙ ap (λ (xs : List (Option Frame)). set xs p (Some f)) c.self.view_is

pub invariant_of-self-2 : goal.invariant_of-self-2
invariant_of-self-2 c =
    let i = c.self.inside in let p = c.args.place in let regs = c.args.regs.now in let stack = c.args.stack.now in
    let s : Span = record { at = c.len-at.result; registers = length regs; depth = length stack } in
    let lt : p < length i.spans.items =
    subst (λ (n : ℕ). p < n) (length-map i.spans.items (option_map (frame_of_span i.cells.items)))
    (subst (λ (xs : List (Option Frame)). p < length xs) (sym c.self.view_is) c.requires.place) in
    let at : s.at ≡ length i.cells.items = c.len-at.ensures ∙ i.cells.ok.0 in
    record {
      apart =
          subst (λ (xs : List Ty). AreSpans xs (set i.spans.items p (Some s))) (sym c.in_ok-append.ensures.value)
          (spans-put i.cells.items (regs ++ stack) i.spans.items c.self.invariant.apart p lt s at (length-append regs stack) c.requires.few);
      told =
          subst (TellRegisters c.append.new.cells.items (set i.spans.items p (Some s))) (sym c.clear.ensures.items)
          (none-told c.append.new.cells.items (set i.spans.items p (Some s)));
    }
