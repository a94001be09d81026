use Rattle.std.specs.Prelude.{◌-◌}
use Rattle.jc_decode.specs.Decoding.{key_at}
use Rattle.jc_decode.proofs.KeySearches.{IsNarrowed}
use Rattle.jc_decode.proofs.key_search.place_of_key.Given as goal

abbrev pub invariant-halves : goal.invariant-halves
invariant-halves l = IsNarrowed (key_at l.form l.code.bytes.now l.table) l.count l.key l.low l.high

abbrev pub decreases-halves : goal.decreases-halves
decreases-halves l = l.high - l.low
