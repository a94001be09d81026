use Rattle.std.proofs.Common.{inl, inr}
use Rattle.cap_listing.proofs.Candidates.{digits-read, digits-unread}
use Rattle.cap_listing.proofs.recognized.bytes_of_digits.Goals as goal

pub returns-in-Ok : goal.returns-in-Ok
returns-in-Ok c bytes are e = digits-read c.args.digits.now _ bytes c.in-Ok.ensures.ok are e

pub returns-in_default : goal.returns-in_default
returns-in_default c bytes are e = elim c.in-Err.ensures.err [
  | inl memory ↦ absurd (c.in_default.not-OutOfMemory memory)
  | inr is ↦ absurd (digits-unread c.args.digits.now bytes c.in-Err.end is are e)
]
