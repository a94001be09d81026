use Rattle.std.proofs.Common.{◌∙◌, List, Option, Some, ap, sym}
use Rattle.jc_base.specs.declared.ty.Ty.{Ty}
use Rattle.jc_rules.specs.declared.typing.Span.{Span}
use Rattle.jc_rules.specs.Held.{frame_of_span, span_at}
use Rattle.jc_rules.proofs.Spans.{frame-there, none-there}
use Rattle.jc_rules.proofs.typing.Typing.state.Goals as goal

pub returns-in-Some : goal.returns-in-Some
returns-in-Some c =
    let there = ap (λ (xs : List (Option Span)). span_at xs c.args.place) (sym c.deref.ensures.value) ∙ sym c.in-Some.ensures in
    ap Some (c.lend.ensures ∙ ap (λ (xs : List Ty). frame_of_span xs c.in-Some.span) c.deref-in-Some.ensures.value)
    ∙ sym (frame-there c.self.inside.cells.items c.self.inside.spans.items c.args.self.now c.args.place c.in-Some.span c.self.view_is there)

pub returns-in-None : goal.returns-in-None
returns-in-None c =
    sym (none-there c.self.inside.cells.items c.self.inside.spans.items c.args.self.now c.args.place c.self.view_is
    (ap (λ (xs : List (Option Span)). span_at xs c.args.place) (sym c.deref.ensures.value) ∙ sym c.in-None.ensures))
