use Rattle.std.proofs.Common.{◌≡◌, ◌≤◌, ◌+◌, ◌-◌, ◌++◌, length, take}
use Rattle.jc_decode.specs.Listing.{listing, listing_from}
use Rattle.jc_decode.specs.PoolIndex.{bytes_of_index}
use Rattle.cap_laying.specs.Distances.{distances, last_of}
use Rattle.cap_laying.specs.Indices.{indices}
use Rattle.cap_laying.specs.Telling.{IsFew}
use Rattle.cap_laying.proofs.indices.tell_indices.Given as goal

abbrev pub invariant-walk : goal.invariant-walk
invariant-walk l = record {
  within : l.at ≤ length l.code.bytes.now;
  order : l.told.last ≤ l.start + l.at;
  few : IsFew l.told;
  bytes : l.told.bytes.items ++ distances l.told.last (indices (bytes_of_index l.width) l.start (listing_from l.code.bytes.now l.at))
      ≡ l.initial.told.bytes.items ++ distances l.initial.told.last (indices (bytes_of_index l.width) l.start (listing l.code.bytes.now));
  begun : take (length l.initial.told.bytes.items) l.told.bytes.items ≡ l.initial.told.bytes.items;
  last : last_of l.told.last (indices (bytes_of_index l.width) l.start (listing_from l.code.bytes.now l.at)) ≡ last_of l.initial.told.last
      (indices (bytes_of_index l.width) l.start (listing l.code.bytes.now));
}

abbrev pub decreases-walk : goal.decreases-walk
decreases-walk l = length l.code.bytes.now - l.at
