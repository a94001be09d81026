-- How often an index suffices: the methods of a world over whose index a card typing exists.
use Rattle.std.specs.Prelude.{◌≡◌, ◌↔◌, ℕ, ◌<◌, List, length, Some, slice_get, Contains}
use Rattle.jc_base.specs.Index.{IsAscending}
use Rattle.jc_base.specs.declared.record.MethodRec.{MethodRec}
use Rattle.jc_base.specs.World.{Linked, index_of}
use Rattle.jc_control.specs.Method.{method_with}
use Rattle.card_verify.specs.IndexTyping.{HasIndexTyping}

-- the method of this number has code and an index, over which a card typing exists
pub record IsByIndex (w : Linked) (number : ℕ) : Type 0 where
  pub rec : MethodRec
  pub is : slice_get w.methods number ≡ Some rec
  pub has_code : 0 < rec.code_len
  pub index : List ℕ
  pub indexed : index_of w number ≡ Some index
  pub typing : HasIndexTyping w (method_with w number rec) index

-- so many methods are such, of those before a number: their numbers make a list
pub record CountsByIndex (w : Linked) (before count : ℕ) : Type 0 where
  pub numbers : List ℕ
  pub ascending : IsAscending numbers
  pub exactly : (n : ℕ) → Contains numbers n ↔ (n < before) × IsByIndex w n
  pub count_is : count ≡ length numbers

-- so many methods of the world are such
abbrev pub IsCountByIndex : Linked → ℕ → Type 0
IsCountByIndex w count = CountsByIndex w (length w.methods) count
