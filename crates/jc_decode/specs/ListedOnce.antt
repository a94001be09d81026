-- A code has its listing in one way: what is said of a listing is a proposition, which a struct may hold.
use Rattle.std.specs.Prelude.{ℕ, ◌+◌, List, [], ◌∷◌, Result}
use Rattle.std.proofs.Props.{props}
use Rattle.jc_decode.specs.declared.insn.Insn.{Insn}
use Rattle.jc_decode.specs.declared.insn.Placed.{Placed}
use Rattle.jc_decode.specs.declared.insn.CodeEnd.{CodeEnd}
use Rattle.jc_decode.specs.Decoding.{decoded}
use Rattle.jc_decode.specs.Listing.{listing, ListsFound}
use Rattle.jc_decode.specs.Laws.{AreListed}

pub ListsFound-once : (found : ℕ → Result Insn CodeEnd) (at : ℕ) (ps : List Placed) → IsProp (ListsFound found at ps)
ListsFound-once found at [] = hlevel props
ListsFound-once found at (p ∷ ps) = hlevel (props, ListsFound-once found (at + p.insn.len) ps)

pub AreListed-once : (code : List ℕ) → IsProp (AreListed code)
AreListed-once code = hlevel (props, ListsFound-once (decoded code) 0 (listing code))
