use Rattle.std.proofs.Common.{◌≡◌, ℤ, List, length, map}
use Rattle.std.specs.Fmt.{signed_decimal}
use Rattle.cap_listing.specs.Words.{joined}
use Rattle.cap_listing.specs.Numbers.{AreShown}
use Rattle.cap_listing.proofs.Candidates.{IsLeft}
use Rattle.cap_listing.proofs.recognized.numbers_in.Given as goal

-- if the words write numbers, these were read and the rest writes the others
abbrev pub invariant-words : goal.invariant-words
invariant-words l = (ns : List ℤ) → AreShown ns → l.fn.words ≡ joined (map signed_decimal ns) → IsLeft l.numbers.items l.rest ns

abbrev pub decreases-words : goal.decreases-words
decreases-words l = length l.rest
