-- The exact target index of a method's code: the ascending list of the places to which its branches and switches lead and at
-- which an instruction begins (Leroy 2002, section 3).
use Rattle.std.specs.Prelude.{◌≡◌, ◌↔◌, ℕ, List, Some, Contains}
use Rattle.jc_base.specs.Index.{IsAscending}
use Rattle.jc_base.specs.World.{Linked, index_of}
use Rattle.jc_decode.specs.Listing.{listing}
use Rattle.jc_decode.specs.Places.{IsTargetIn}
use Rattle.jc_control.specs.Method.{Method}
use Rattle.jc_control.specs.WellFormed.{IsPlace}

-- an instruction of the code leads to this place, and one begins there
pub record IsPlacedTarget (code : List ℕ) (q : ℕ) : Type 0 where
  pub target : IsTargetIn code (listing code) q
  pub place : IsPlace code q

-- the ascending list of these places and of nothing else
pub record IsExactIndex (code index : List ℕ) : Type 0 where
  pub ascending : IsAscending index
  pub targets : (q : ℕ) → Contains index q ↔ IsPlacedTarget code q

-- the target index that a method has in a world is the exact one of its code
pub record HasExactIndex (w : Linked) (m : Method) : Type 0 where
  pub index : List ℕ
  pub indexed : index_of w m.number ≡ Some index
  pub exact : IsExactIndex m.code index
