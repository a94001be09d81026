-- Each field is asked with the nearest of the starts that were counted.
use Rattle.std.proofs.Common.{List, ap, sym, map, ◌∙◌}
use Rattle.offset_set.specs.Tallies.{tallied}
use Rattle.cap_components.specs.Order.{lesser, least_from}
use Rattle.cap_package.specs.Places.{place_seen}
use Rattle.cap_package.specs.StaticChecks.{ImagePlace}
use Rattle.cap_package.specs.StaticPlaces.{places_left}
use Rattle.cap_package.specs.Reaches.{static_start, static_reach}
use Rattle.cap_package.proofs.Overlaps.{static_reaches}
use Rattle.cap_package.proofs.statics.statics_apart.Goals as goal

pub places-preserved : goal.places-preserved
places-preserved c =
    let starts = map static_start (places_left c.args.places) in
    ap (λ least. least_from least (static_reach starts) (places_left c.next.new.self))
    (c.keep_lesser.ensures ∙ ap (lesser c.places.least) (c.reaches.ensures
    ∙ static_reaches (tallied c.static_starts-starts.result) starts (place_seen c.in-Some.place) c.nearest-next.result
    c.static_starts-starts.ensures c.nearest-next.ensures))
    ∙ ap (λ (ps : List ImagePlace). least_from c.places.least (static_reach starts) ps) (sym c.in-Some.ensures.steps)
    ∙ c.places.invariant
