use Rattle.std.specs.Prelude.{◌≡◌, map, take}
use Rattle.jc_link.specs.Words.{signed}
use Rattle.jc_link.proofs.image.signed_words.Given as goal

abbrev pub invariant-bytes : goal.invariant-bytes
invariant-bytes l = l.words.items ≡ map signed (take l.byte-index l.bytes)
