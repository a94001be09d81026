use Rattle.std.specs.Prelude.{◌≡◌, ◌-◌, length}
use Rattle.jc_decode.specs.Listing.{end_from, listing_from, listing_end}
use Rattle.jc_control.proofs.scan.code_end.Given as goal

-- the list from here ends where the whole list does
abbrev pub invariant-walk : goal.invariant-walk
invariant-walk l = end_from l.at (listing_from l.fn.code.bytes.now l.at) ≡ listing_end l.fn.code.bytes.now

abbrev pub decreases-walk : goal.decreases-walk
decreases-walk l = length l.fn.code.bytes.now - l.at
