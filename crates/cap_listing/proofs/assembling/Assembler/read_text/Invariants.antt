use Rattle.std.proofs.Common.{length}
use Rattle.cap_listing.specs.Assembler.{state_of, IsFew}
use Rattle.cap_listing.proofs.Progress.{HasReadTo}
use Rattle.cap_listing.proofs.assembling.Assembler.read_text.Given as goal

-- so many lines were read
abbrev pub invariant-lines : goal.invariant-lines
invariant-lines l = record { few : IsFew l.self; so_far : HasReadTo l.fn.text l.rest l.number (state_of l.self) }

abbrev pub decreases-lines : goal.decreases-lines
decreases-lines l = length l.rest
