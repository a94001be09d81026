use Rattle.std.proofs.Common.{◌≡◌, Ok, take}
use Rattle.std.specs.Prelude.{slice_index}
use Rattle.jc_decode.specs.Decoding.{decoded}
use Rattle.jc_decode.specs.Cases.{cases}
use Rattle.xf_layout.specs.Laid.{led}
use Rattle.xf_layout.proofs.cases.lead_cases.Given as goal

abbrev pub invariant-cases : goal.invariant-cases
invariant-cases l = record {
  decoded : decoded l.bytes 0 ≡ Ok l.switch;
  cases : cases l.bytes 0 l.switch ≡ led (slice_index l.places) l.here (take l.n l.labels) (cases l.fn.bytes 0 l.switch);
}
