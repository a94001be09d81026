-- Pieces of text that are written one after the other.
use Rattle.std.proofs.Common.{ℕ, List, [], ◌++◌, length-append, sym, subst, append_assoc, arith}
use Rattle.std.proofs.lemmas.List.{append-nil}
use Rattle.cap_text.specs.Room.{Roomed, Writes}

pub both : (before middle after : Roomed) (xs ys : List ℕ) → Writes before middle xs → Writes middle after ys → Writes before after (xs ++ ys)
both before middle after xs ys first second = grind (arith, length-append, append_assoc)

pub last : (before after : Roomed) (xs : List ℕ) → Writes before after xs → Writes before after (xs ++ [])
last before after xs only = subst (Writes before after) (sym (append-nil xs)) only
