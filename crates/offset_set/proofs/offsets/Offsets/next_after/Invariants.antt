use Rattle.std.proofs.Common.{◌-◌, ◌*◌, ◌<◌, ◌≤◌}
use Rattle.offset_set.proofs.BitLaws.{IsFree}
use Rattle.offset_set.proofs.offsets.Offsets.next_after.Given as goal

-- no offset above the given one stands in a word before this one
abbrev pub invariant-words : goal.invariant-words
invariant-words l = IsFree l.self.words l.offset (64 * l.word) × (l.offset < 64 * l.word) × (l.word ≤ 1024)

abbrev pub decreases-words : goal.decreases-words
decreases-words l = 1024 - l.word
