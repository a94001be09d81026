use Rattle.std.proofs.Common.{◌≡◌, ℕ, List, ◌++◌, take, None}
use Rattle.cap_load.specs.Loaded.{StandsFor}
use Rattle.cap_load.proofs.loader.Loader.feed.Given as goal

abbrev pub invariant-bytes : goal.invariant-bytes
invariant-bytes l = record {
  stands : (bytes : List ℕ) → StandsFor l.fn.self bytes → StandsFor l.self (bytes ++ take l.byte-index l.piece);
  none : l.self.fault ≡ None;
  room : l.self.room ≡ l.fn.self.room;
}
