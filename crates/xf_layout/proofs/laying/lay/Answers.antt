use Rattle.std.proofs.Common.{◌≡◌, ◌∙◌, ◌≤◌, List, All, map, arith, refl, sym, ap, subst}
use Rattle.std.specs.Prelude.{slice_index}
use Rattle.std.proofs.lemmas.List.Elements.{All-weaker}
use Rattle.jc_decode.specs.declared.symbols.Item.{Item}
use Rattle.jc_decode.specs.declared.symbols.Range.{Range}
use Rattle.jc_decode.specs.declared.symbols.Laid.{Laid}
use Rattle.jc_decode.specs.Symbols.{IsItem, IsRange, handler, plain_size}
use Rattle.xf_layout.specs.Form.{instruction_place}
use Rattle.xf_layout.specs.Plan.{IsLayoutPlan}
use Rattle.xf_layout.specs.Laid.{IsPlacedRange}
use Rattle.xf_layout.proofs.Least.{long-always}
use Rattle.xf_layout.proofs.Reached.{range-placed, items-end}
use Rattle.xf_layout.proofs.Whole.{laid-items, stands-at}
use Rattle.xf_layout.proofs.laying.lay.Goals as goal

pub of-requires-clause-items : goal.of-requires-clause-items
of-requires-clause-items c =
    let source = c.args.source.bytes.now in
    (source, subst (λ (xs : List Item). All (IsItem source xs) xs) (sym c.as_slice-items.ensures) c.requires.items)

pub returns-then-plan-gt-LONGEST_CODE-clause-long : goal.returns-then-plan-gt-LONGEST_CODE-clause-long
returns-then-plan-gt-LONGEST_CODE-clause-long c n e =
    let items = c.args.symbols.now.items in
    let p = c.in_ok-plan.plan in
    let plan = subst (λ (xs : List Item). IsLayoutPlan xs p) c.as_slice-items.ensures c.in_ok-plan.ensures in
    let size : c.plain_size.result ≡ n = cc in (
      long-always items p.forms.items plan.forms plan.least (omega (arith, plan.end, c.if-plan-gt-LONGEST_CODE.true)),
      sym size ∙ c.plain_size.ensures ∙ ap plain_size c.as_slice-items.ensures,
    )

pub handlers-requires : goal.handlers-requires
handlers-requires c =
    let items = c.args.symbols.now.items in
    let p = c.in_ok-plan.plan in
    let plan = subst (λ (xs : List Item). IsLayoutPlan xs p) c.as_slice-items.ensures c.in_ok-plan.ensures in
    let few : p.end ≤ 32767 = omega (arith, c.if-plan-gt-LONGEST_CODE.false) in
    let placed = range-placed items p plan few in
    let all = All-weaker (IsRange items) (IsPlacedRange p.places) placed c.args.symbols.now.ranges c.requires.ranges in
    subst (λ (rs : List Range). All (IsPlacedRange p.places) rs) (sym c.as_slice.ensures) all

pub returns-clause-stands : goal.returns-clause-stands
returns-clause-stands c =
    let source = c.args.source.bytes.now in
    let symbols = c.args.symbols.now in
    let p = c.in_ok-plan.plan in
    let plan = subst (λ (xs : List Item). IsLayoutPlan xs p) c.as_slice-items.ensures c.in_ok-plan.ensures in
    let stand = laid-items source p _ symbols.items _ c.of-2.result c.as_slice-items.ensures c.of-2.ensures c.in_ok-code.ensures in
    let handled = c.of-3.ensures ∙ c.in_ok-handlers.ensures ∙ ap (map (handler (slice_index p.places))) c.as_slice.ensures in
    let laid : Laid = record {
      code = c.of-2.result;
      handlers = c.of-3.result;
      max_stack = symbols.max_stack;
      nargs = symbols.nargs;
      max_locals = symbols.max_locals;
    } in (
      instruction_place p.forms.items,
      stands-at source symbols p laid plan c.listing_is_one.ensures c.nothing_past_the_end.ensures c.requires.items c.requires.ranges
          stand handled refl refl refl,
    )

pub returns-clause-shortest : goal.returns-clause-shortest
returns-clause-shortest c =
    let source = c.args.source.bytes.now in
    let symbols = c.args.symbols.now in
    let p = c.in_ok-plan.plan in
    let plan = subst (λ (xs : List Item). IsLayoutPlan xs p) c.as_slice-items.ensures c.in_ok-plan.ensures in
    let few : p.end ≤ 32767 = omega (arith, c.if-plan-gt-LONGEST_CODE.false) in
    let stand = laid-items source p _ symbols.items _ c.of-2.result c.as_slice-items.ensures c.of-2.ensures c.in_ok-code.ensures in
    let handled = c.of-3.ensures ∙ c.in_ok-handlers.ensures ∙ ap (map (handler (slice_index p.places))) c.as_slice.ensures in
    let laid : Laid = record {
      code = c.of-2.result;
      handlers = c.of-3.result;
      max_stack = symbols.max_stack;
      nargs = symbols.nargs;
      max_locals = symbols.max_locals;
    } in (
      p.forms.items,
      record { chosen = plan.forms; fit = plan.fit few; least = plan.least },
      stands-at source symbols p laid plan c.listing_is_one.ensures c.nothing_past_the_end.ensures c.requires.items c.requires.ranges
          stand handled refl refl refl,
    )

pub returns-clause-few : goal.returns-clause-few
returns-clause-few c =
    let source = c.args.source.bytes.now in
    let items = c.args.symbols.now.items in
    let p = c.in_ok-plan.plan in
    let plan = subst (λ (xs : List Item). IsLayoutPlan xs p) c.as_slice-items.ensures c.in_ok-plan.ensures in
    let stand = laid-items source p _ items _ c.of-2.result c.as_slice-items.ensures c.of-2.ensures c.in_ok-code.ensures in
    let e = items-end source (slice_index p.places) c.of-2.result 0 items p.forms.items stand in
    omega (arith, e, plan.end, c.if-plan-gt-LONGEST_CODE.false)
