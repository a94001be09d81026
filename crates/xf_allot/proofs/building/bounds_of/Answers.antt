use Rattle.std.proofs.Common.{◌≡◌, ◌<◌, ◌+◌, Bool, List, [], true, false, length, take, get_or, sym, ap, ◌∙◌, arith, subst}
use Rattle.std.proofs.Math.ListN.{set}
use Rattle.std.proofs.lemmas.List.{length-replicate, length-set}
use Rattle.std.proofs.lemmas.List.Elements.{All-get_or}
use Rattle.jc_base.specs.declared.record.Handler.{Handler}
use Rattle.jc_control.specs.Flags.{Marks}
use Rattle.jc_control.specs.WellFormed.{IsHandlerOf}
use Rattle.xf_allot.specs.Graph.{IsBound}
use Rattle.xf_allot.proofs.Adding.{bounds-none, bounds-more, bounds-all, handler-near}
use Rattle.xf_allot.proofs.building.bounds_of.Goals as goal

abbrev blank : Handler
blank = record { start = 0; end = 0; entry = 0; index = 0; class = 0 }

pub handlers-init : goal.handlers-init
handlers-init c =
    let count = length c.args.subject.now.code.bytes.now + 1 in
    let made = c.in_ok-bounds.ensures in
    record {
      size = ap length c.set.ensures ∙ (length-set c.in_ok-bounds.bounds 0 true ∙ (ap length made ∙ length-replicate count false));
      marks = subst (Marks (IsBound [])) (sym (c.set.ensures ∙ ap (λ (fs : List Bool). set fs 0 true) made)) (bounds-none count (omega arith));
    }

pub set-requires-in-handlers : goal.set-requires-in-handlers
set-requires-in-handlers c =
    let same = c.as_slice-handler-items.ensures in
    let code = c.args.subject.now.code.bytes.now in
    let hs = c.args.subject.now.rec.now.handlers in
    let n = c.handlers.handler-index in
    let inside : n < length hs = (let long = ap length same in let lt = c.handlers-test.true in omega (arith, long, lt)) in
    let near = handler-near code c.args.subject.now.listed (get_or hs n blank)
    (All-get_or (IsHandlerOf code) hs n blank inside c.requires.subject.formed.handlers) in
    subst (λ (xs : List Handler). (get_or xs n blank).start < length c.handlers.bounds) (sym same)
    (let start = near.0 in let size = c.handlers.invariant.size in omega (arith, start, size))

pub set-requires-in-handlers-2 : goal.set-requires-in-handlers-2
set-requires-in-handlers-2 c =
    let same = c.as_slice-handler-items.ensures in
    let code = c.args.subject.now.code.bytes.now in
    let hs = c.args.subject.now.rec.now.handlers in
    let n = c.handlers.handler-index in
    let inside : n < length hs = (let long = ap length same in let lt = c.handlers-test.true in omega (arith, long, lt)) in
    let near = handler-near code c.args.subject.now.listed (get_or hs n blank)
    (All-get_or (IsHandlerOf code) hs n blank inside c.requires.subject.formed.handlers) in
    let stays = ap length c.set-in-handlers.ensures ∙ length-set c.handlers.bounds (get_or c.as_slice-handler-items.result.now n blank).start true in
    subst (λ (xs : List Handler). (get_or xs n blank).end < length c.set-in-handlers.new.self) (sym same)
    (let end = near.1 in let size = c.handlers.invariant.size in omega (arith, end, size, stays))

pub handlers-preserved : goal.handlers-preserved
handlers-preserved c =
    let same = c.as_slice-handler-items.ensures in
    let code = c.args.subject.now.code.bytes.now in
    let items = c.as_slice-handler-items.result.now in
    let hs = c.args.subject.now.rec.now.handlers in
    let n = c.handlers.handler-index in
    let old = c.handlers.bounds in
    let inside : n < length hs = (let long = ap length same in let lt = c.handlers-test.true in omega (arith, long, lt)) in
    let near = handler-near code c.args.subject.now.listed (get_or hs n blank)
    (All-get_or (IsHandlerOf code) hs n blank inside c.requires.subject.formed.handlers) in
    let size = c.handlers.invariant.size in
    let start = near.0 in
    let end = near.1 in
    let is : c.set-in-handlers-2.new.self ≡ set (set old (get_or hs n blank).start true) (get_or hs n blank).end true =
    (c.set-in-handlers-2.ensures ∙ ap (λ (fs : List Bool). set fs (get_or items n blank).end true) c.set-in-handlers.ensures)
    ∙ ap (λ (xs : List Handler). set (set old (get_or xs n blank).start true) (get_or xs n blank).end true) same in
    record {
      size =
          ap length is
          ∙ (length-set (set old (get_or hs n blank).start true) (get_or hs n blank).end true
          ∙ (length-set old (get_or hs n blank).start true ∙ size));
      marks =
          subst (Marks (IsBound (take (n + 1) hs))) (sym is)
          (bounds-more hs n blank old inside (omega (arith, start, size)) (omega (arith, end, size)) c.handlers.invariant.marks);
    }

pub returns : goal.returns
returns c =
    bounds-all c.args.subject.now.rec.now.handlers c.handlers.handler-index c.handlers.bounds
    (let long = ap length c.as_slice-handler-items.ensures in let ge = c.handlers-test.false in omega (arith, long, ge)) c.handlers.invariant.marks
