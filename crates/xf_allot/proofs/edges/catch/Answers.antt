use Rattle.std.proofs.Common.{◌≡◌, ◌<◌, ◌-◌, ℕ, List, length, get_or, true, false, rules, arith, sym, ap, ◌∙◌, subst, MatchBool}
use Rattle.std.proofs.lemmas.Bool.{false≢true}
use Rattle.jc_base.specs.declared.record.Handler.{Handler}
use Rattle.jc_control.specs.Control.{Covers}
use Rattle.jc_control.specs.Flags.{flag}
use Rattle.jc_control.specs.Subject.{method}
use Rattle.xf_allot.specs.Graph.{Adds, IsBound, IsCatch, IsEnter, IsEntryOf}
use Rattle.xf_allot.proofs.Adding.{IsOne, adds-none, catch-entered, catch-passed, enter-added, entries-none, entries-more, entries-all}
use Rattle.xf_live.proofs.Oks.{on-ok}
use Rattle.xf_allot.proofs.edges.catch.Goals as goal

abbrev blank : Handler
blank = record { start = 0; end = 0; entry = 0; index = 0; class = 0 }

pub returns-then-not-has : goal.returns-then-not-has
returns-then-not-has c =
    let m = method c.args.subject.now in
    let place = c.args.place in
    let node = c.catching-node.result in
    let old = c.args.edges.now.items in
    let new = c.lead.new.edges.items in
    let clear : flag c.args.bounds.now place ≡ false = search (rules, sym c.has.ensures ∙ c.if-not-has.true) in
    let none : ¬ (IsBound m.rec.handlers place) = λ bound. false≢true (sym clear ∙ (c.requires.bounds place).1 bound) in
    let at = c.catching-node.ensures in
    on-ok (Adds (IsOne node (node - 1)) old new) (Adds (IsCatch m place) old new) c.lead.result
    (λ adds. catch-passed m place (node - 1) old new none (omega (arith, at))
    (subst (λ (n : ℕ). Adds (IsOne n (node - 1)) old new) at adds)) c.lead.ensures

pub handlers-init : goal.handlers-init
handlers-init c = record { adds = entries-none c.args.place c.catching-node.result c.args.edges.now.items }

pub handlers-preserved-then-not-covers : goal.handlers-preserved-then-not-covers
handlers-preserved-then-not-covers c =
    let same = c.as_slice-handler-items.ensures in
    let hs = c.args.subject.now.rec.now.handlers in
    let n = c.handlers.handler-index in
    let place = c.args.place in
    let node = c.catching-node.result in
    let edges = c.handlers.edges.items in
    let h = get_or hs n blank in
    let inside : n < length hs = (let long = ap length same in let lt = c.handlers-test.true in omega (arith, long, lt)) in
    let apart : ¬ (Covers h place) = subst (λ (xs : List Handler). ¬ (Covers (get_or xs n blank) place)) same
    (subst (λ b. MatchBool b (Covers (get_or c.as_slice-handler-items.result.now n blank) place) (¬ (Covers (get_or c.as_slice-handler-items.result.now n blank) place))) c.if-not-covers.true c.covers.ensures) in
    record {
      adds = entries-more hs n blank place node c.args.edges.now.items edges edges inside c.handlers.invariant.adds
          (adds-none (IsEnter h place node) edges (λ e enter. apart enter.covers));
    }

pub handlers-preserved : goal.handlers-preserved
handlers-preserved c =
    let same = c.as_slice-handler-items.ensures in
    let hs = c.args.subject.now.rec.now.handlers in
    let n = c.handlers.handler-index in
    let place = c.args.place in
    let node = c.catching-node.result in
    let old = c.handlers.edges.items in
    let new = c.lead-in-handlers.new.edges.items in
    let inside : n < length hs = (let long = ap length same in let lt = c.handlers-test.true in omega (arith, long, lt)) in
    record {
      adds = entries-more hs n blank place node c.args.edges.now.items old new inside c.handlers.invariant.adds
          (subst (λ (xs : List Handler). Adds (IsEnter (get_or xs n blank) place node) old new) same
          (enter-added (get_or c.as_slice-handler-items.result.now n blank) place node old new
          (subst (λ b. MatchBool b (Covers (get_or c.as_slice-handler-items.result.now n blank) place) (¬ (Covers (get_or c.as_slice-handler-items.result.now n blank) place))) c.if-not-covers.false c.covers.ensures) c.in_ok-lead.ensures));
    }

pub returns : goal.returns
returns c =
    let m = method c.args.subject.now in
    let place = c.args.place in
    let old = c.args.edges.now.items in
    let new = c.handlers.edges.items in
    let flagged : flag c.args.bounds.now place ≡ true = search (rules, sym c.has.ensures ∙ c.if-not-has.false) in
    let same = c.as_slice-handler-items.ensures in
    let adds = entries-all m.rec.handlers c.handlers.handler-index place c.catching-node.result old new
    (let long = ap length same in let ge = c.handlers-test.false in omega (arith, long, ge)) c.handlers.invariant.adds in
    catch-entered m place old new ((c.requires.bounds place).0 flagged)
    (subst (λ (n : ℕ). Adds (IsEntryOf m.rec.handlers place n) old new) c.catching-node.ensures adds)
