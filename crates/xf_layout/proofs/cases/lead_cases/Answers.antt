use Rattle.std.proofs.Common.{◌≡◌, ◌∙◌, ◌<◌, List, ℕ, length, get_or, take, arith, rules, sym, ap}
use Rattle.std.specs.Prelude.{FitsSigned, slice_index, pos, ◌-ℤ◌}
use Rattle.std.specs.Int.{w16}
use Rattle.std.proofs.lemmas.Int.{to_z-of_z}
use Rattle.std.proofs.lemmas.List.{take_more, length-take-le, get_or_default}
use Rattle.jc_decode.specs.Cases.{cases}
use Rattle.xf_layout.specs.Laid.{led}
use Rattle.xf_layout.proofs.Led.{next-led, length-led}
use Rattle.xf_layout.proofs.cases.lead_cases.Goals as goal

pub set_case-requires-clause-counted : goal.set_case-requires-clause-counted
set_case-requires-clause-counted c =
    let done = ap length c.cases.invariant.cases in
    let same = length-led (slice_index c.args.places.now) c.args.here (take c.cases.n c.args.labels.now) (cases c.args.bytes.now 0 c.args.switch) in
    omega (arith, done, same, c.requires.count)

pub cases-preserved : goal.cases-preserved
cases-preserved c =
    let labels = c.args.labels.now in
    let n = c.cases.n in
    let place = slice_index c.args.places.now in
    let old = cases c.args.bytes.now 0 c.args.switch in
    let inside : n < length labels = omega arith in
    let end : n ≡ length (take n labels) = sym (length-take-le n labels (omega arith)) in
    let fits : FitsSigned w16 c.distance-offset.result = search rules in
    let at : c.at.result ≡ place (get_or labels n 0) = c.at.ensures ∙ ap place (get_or_default labels n _ 0 inside) in
    let to = to_z-of_z w16 c.distance-offset.result fits ∙ c.distance-offset.ensures ∙ ap (λ (m : ℕ). pos m -ℤ pos c.args.here) at in
    let all = next-led place c.args.here (take n labels) (get_or labels n 0) old (cases c.cases.bytes 0 c.args.switch)
    (cases c.set_case.new.code 0 c.args.switch) _ n
    end c.cases.invariant.cases to c.set_case.ensures.changed c.set_case.ensures.others in
    record {
      decoded = c.set_case.ensures.insn;
      cases = all ∙ ap (λ (ls : List ℕ). led place c.args.here ls old) (sym (take_more labels n 0 inside));
    }
