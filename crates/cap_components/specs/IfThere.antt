-- A record that may be absent, seen by a view.
use Rattle.std.specs.Prelude.{Option, option_map}

abbrev pub seen_if : {R X : Type 0} → (R → X) → Option R → Option X
seen_if view r = option_map view r
