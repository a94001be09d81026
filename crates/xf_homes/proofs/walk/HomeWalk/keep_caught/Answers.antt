use Rattle.std.proofs.Common.{◌≡◌, ◌+◌, drop, sym, ◌∙◌, ap, subst, not, true}
use Rattle.xf_homes.specs.Subject.{frames_of}
use Rattle.xf_homes.specs.Asked.{knows}
use Rattle.xf_homes.specs.Walk.{caught_events, with_home_of_value, with_events}
use Rattle.xf_homes.proofs.Asking.{kept_as_known, kept_none, known_after}
use Rattle.xf_homes.proofs.Steps.{handlers-step, handlers-end}
use Rattle.xf_homes.proofs.walk.HomeWalk.keep_caught.Goals as goal
use Rattle.xf_homes.proofs.walk.HomeWalk.keep_caught.Goals.{then-is_none-via-then-is_none, then-is_none-via-else-is_none+then-same_value}

pub handlers-preserved-then-is_none : goal.handlers-preserved-then-is_none
handlers-preserved-then-is_none c =
    let s = c.args.self.now in
    let hs = c.args.handlers.now in
    let homes = c.handlers.homes.keys in
    let value = c.caught-value.result in
    let rest = caught_events (frames_of s) c.args.place c.args.x (c.handlers.handler-index + 1) (drop (c.handlers.handler-index + 1) hs) in
    let same : homes ≡ with_home_of_value homes c.args.x value = elim c.then-is_none.branch [
      | then-is_none-via-then-is_none w ↦ kept_none homes c.args.x value (c.is_none.ensures ∙ ap not w.if-is_none.true)
      | then-is_none-via-else-is_none+then-same_value w ↦
          kept_as_known homes c.args.x value c.handlers.known (w.same_value.ensures w.if-same_value.true) c.handlers.invariant.known
    ] in
    record {
      kept =
          ap (λ xs. with_events xs rest) same
          ∙ sym (handlers-step homes (frames_of s) c.args.place c.args.x c.handlers.handler-index hs _ value c.handlers-test.true c.caught-value.ensures)
          ∙ c.handlers.invariant.kept;
      known = c.handlers.invariant.known;
    }

pub handlers-preserved : goal.handlers-preserved
handlers-preserved c =
    let s = c.args.self.now in
    let hs = c.args.handlers.now in
    let value = c.caught-value.result in
    record {
      kept =
          ap (λ xs. with_events xs (caught_events (frames_of s) c.args.place c.args.x (c.handlers.handler-index + 1) (drop (c.handlers.handler-index + 1) hs)))
          c.in_ok-keep_value.ensures
          ∙ sym (handlers-step c.handlers.homes.keys (frames_of s) c.args.place c.args.x c.handlers.handler-index hs _ value
          c.handlers-test.true c.caught-value.ensures)
          ∙ c.handlers.invariant.kept;
      known =
          subst (λ ks. knows ks c.args.x value ≡ true) (sym c.in_ok-keep_value.ensures) (known_after c.handlers.homes.keys c.args.x value);
    }

pub returns : goal.returns
returns c =
    let s = c.args.self.now in
    let hs = c.args.handlers.now in
    sym (handlers-end c.handlers.homes.keys (frames_of s) c.args.place c.args.x c.handlers.handler-index hs c.handlers-test.false)
    ∙ c.handlers.invariant.kept
