-- Lists by number.
use Rattle.std.proofs.lemmas.List.FromFn.{map-range_with_len_more}

pub ruleset ranges = map-range_with_len_more
