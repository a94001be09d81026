-- An info has at most as many bytes as its two bytes of size can tell.
use Rattle.std.proofs.Common.{ℕ, ◌≤◌, List, length, take, drop, arith}
use Rattle.std.proofs.lemmas.List.{length-take}
use Rattle.cap_bytes.specs.Spelling.{Spells, Stands}
use Rattle.cap_frame.specs.Frame.{component}

pub info-short : (tag : ℕ) (file info : List ℕ) → Stands (component tag) file info → length info ≤ 65535
unfolding Stands Spells
info-short tag file info h = grind (arith, take, drop, length, length-take)
