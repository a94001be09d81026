-- The info of a target index.
use Rattle.std.specs.Prelude.{ℕ, ◌*◌, List, ◌==◌}
use Rattle.cap_bytes.specs.Grammar.{Grammar, give, number, piece, finish, u2, that, repeat, ◌>>=◌}
use Rattle.jc_base.specs.Index.{words_of_bytes}

-- the places of one method: how many, and each in two bytes
abbrev pub list_info : Grammar (List ℕ)
list_info = do
  count ← u2
  bytes ← piece (count * 2)
  give (words_of_bytes bytes)

-- the info for so many methods with code: their number, and a list for each
abbrev pub index_info : ℕ → Grammar (List (List ℕ))
index_info methods = do
  count ← number 2 (that (λ n. n == methods))
  lists ← repeat methods list_info
  end ← finish
  give lists
