use Rattle.std.proofs.Common.{◌≡◌, [], ◌<◌, ◌≤◌, ◌-◌, ◌+◌, rules, ap, arith, subst, sym, ◌∙◌}
use Rattle.xf_homes.specs.Home.{register_count}
use Rattle.xf_homes.specs.Subject.{frames_of}
use Rattle.xf_homes.specs.Asked.{HandlersAreAsked}
use Rattle.xf_homes.specs.Walk.{local_events, locals_events, with_events}
use Rattle.xf_homes.proofs.Asking.{asked-alike, last-known, last-more, no-handlers, still-kept}
use Rattle.xf_homes.proofs.Steps.{local-step, locals-step, locals-end}
use Rattle.xf_homes.proofs.walk.HomeWalk.keep_needed.Goals as goal

pub locals-init : goal.locals-init
locals-init c =
    let s = c.args.self.now in
    record {
      same = search rules;
      known = last-known (frames_of s) (register_count s.rec.now) c.args.homes.now.keys s.rec.now.handlers c.args.last c.requires;
    }

pub returns-then-is_still : goal.returns-then-is_still
returns-then-is_still c =
    let s = c.args.self.now in
    let homes = c.args.homes.now.keys in
    let count = register_count s.rec.now in
    let asked = subst (λ hs. HandlersAreAsked hs c.args.place c.args.last c.asked-handlers.result.now) c.as_slice.ensures c.asked-handlers.ensures in
    let none : c.asked-handlers.result.now ≡ [] = no-handlers _ _ c.is_empty.ensures c.if-is_empty.true in
    still-kept (frames_of s) homes c.args.place c.args.last count (c.is_still.ensures c.if-is_still.true)
    (last-known (frames_of s) count homes s.rec.now.handlers c.args.last c.requires)
    ∙ ap (λ hs. with_events homes (locals_events (frames_of s) hs c.args.place 0 count)) (sym none)
    ∙ asked-alike (frames_of s) count homes c.args.place c.args.last s.rec.now.handlers c.asked-handlers.result.now asked c.requires

pub keep_own-requires : goal.keep_own-requires
keep_own-requires c =
    let inside : c.locals.x < register_count c.args.self.now.rec.now = omega arith in
    c.locals.invariant.known c.locals.x inside

pub locals-preserved : goal.locals-preserved
locals-preserved c =
    let s = c.args.self.now in
    let count = register_count s.rec.now in
    let hs = c.asked-handlers.result.now in
    let inside : c.locals.x < count = omega arith in
    let step = local-step c.locals.homes.keys c.keep_own.new.homes.keys c.keep_caught.new.homes.keys (frames_of s) hs c.args.place c.locals.x
    c.in_ok-keep_own.ensures c.in_ok-keep_caught.ensures in
    record {
      same =
          ap (λ xs. with_events xs (locals_events (frames_of s) hs c.args.place (c.locals.x + 1) (count - (c.locals.x + 1)))) step
          ∙ sym (locals-step c.locals.homes.keys (frames_of s) hs c.args.place c.locals.x count inside)
          ∙ c.locals.invariant.same;
      known =
          last-more (frames_of s) count c.locals.homes.keys c.keep_caught.new.homes.keys (local_events (frames_of s) hs c.args.place c.locals.x)
          c.args.last step c.locals.invariant.known;
    }

pub returns : goal.returns
returns c =
    let s = c.args.self.now in
    let count = register_count s.rec.now in
    let hs = c.asked-handlers.result.now in
    let past : count ≤ c.locals.x = omega (arith, c.locals-test.false, c.registers-x-end.ensures.is) in
    let asked = subst (λ hs. HandlersAreAsked hs c.args.place c.args.last c.asked-handlers.result.now) c.as_slice.ensures c.asked-handlers.ensures in
    locals-end c.locals.homes.keys (frames_of s) hs c.args.place c.locals.x count past
    ∙ c.locals.invariant.same
    ∙ asked-alike (frames_of s) count c.args.homes.now.keys c.args.place c.args.last s.rec.now.handlers hs asked c.requires
