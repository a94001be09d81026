use Rattle.std.proofs.Common.{flat_map, sym, ◌∙◌, ap, subst}
use Rattle.jc_decode.specs.Instructions.{rest_of}
use Rattle.xf_homes.specs.Home.{register_count}
use Rattle.xf_homes.specs.Asked.{LocalsAreKnown}
use Rattle.xf_homes.specs.Subject.{walked, frames_of}
use Rattle.xf_homes.specs.Walk.{code_events, place_events, with_events}
use Rattle.xf_homes.proofs.Asking.{known-after, none-known}
use Rattle.xf_homes.proofs.Steps.{places-step, places-end}
use Rattle.xf_homes.proofs.walk.HomeWalk.find.Goals as goal

pub walk-init : goal.walk-init
unfolding code_events
walk-init c =
    let s = c.args.self.now in
    let events = place_events s.world.now (walked s) (frames_of s) s.control.now.leaders in
    record {
      same =
          ap (λ is. with_events c.args.homes.now.keys (flat_map events is)) (ap rest_of c.into_iter-placed-iterator.ensures.into_iter_gives
          ∙ c.of-placed-items.ensures.instructions);
      known = none-known (frames_of s) (register_count s.rec.now) c.args.homes.now.keys s.rec.now.handlers;
    }

pub walk-preserved : goal.walk-preserved
walk-preserved c =
    let s = c.args.self.now in
    let events = place_events s.world.now (walked s) (frames_of s) s.control.now.leaders in
    record {
      same =
          ap (λ xs. with_events xs (flat_map events (rest_of c.next.new.self))) c.in_ok-keep_place.ensures
          ∙ sym (places-step c.walk.homes.keys events (rest_of c.walk.placed-iterator) c.in-Some.placed (rest_of c.next.new.self) c.in-Some.ensures.steps)
          ∙ c.walk.invariant.same;
      known =
          subst (λ last. LocalsAreKnown (frames_of s) (register_count s.rec.now) c.keep_place.new.homes.keys s.rec.now.handlers last)
          (sym c.last_after-last.ensures)
          (known-after c.types_are_ordered.ensures.same s.world.now (walked s) (frames_of s) s.control.now.leaders c.walk.homes.keys
          c.keep_place.new.homes.keys c.in-Some.placed c.walk.last c.walk.invariant.known
          c.in_ok-keep_place.ensures);
    }

pub returns : goal.returns
returns c =
    let s = c.args.self.now in
    let events = place_events s.world.now (walked s) (frames_of s) s.control.now.leaders in
    places-end c.walk.homes.keys events (rest_of c.walk.placed-iterator) c.in-None.ensures.steps.0
    ∙ c.walk.invariant.same
