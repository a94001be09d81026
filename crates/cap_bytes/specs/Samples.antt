-- Worked cases of a grammar: digits after a byte that counts them, in bytes that spell them and in
-- bytes that don't, with the offsets of a file that has three bytes before.
use Rattle.std.specs.Prelude.{◌≡◌, ℕ, List, [], ◌∷◌, Ok, Err, nat_le, refl}
use Rattle.cap_bytes.specs.declared.fault.FormKind.TheVariants.{BadValue, Cut, Trailing}
use Rattle.cap_bytes.specs.Grammar.{Grammar, give, number, finish, that, counted, ◌>>=◌}
use Rattle.cap_bytes.specs.Spelling.{info_of}
use Rattle.cap_bytes.specs.Reading.{reading}

abbrev digits : Grammar (List ℕ)
digits = do
  ds ← counted (number 1 (that (λ n. nat_le n 9)))
  end ← finish
  give ds

two_digits : reading (info_of 4) digits (2 ∷ 7 ∷ 3 ∷ []) ≡ Ok (7 ∷ 3 ∷ [])
unfolding reading
two_digits = refl

-- the second is missing: the fault names the end of the file
one_of_two : reading (info_of 4) digits (2 ∷ 7 ∷ []) ≡ Err (record { part = 4; at = 5; kind = Cut })
unfolding reading
one_of_two = refl

-- no digit: the fault names the item
no_digit : reading (info_of 4) digits (2 ∷ 11 ∷ []) ≡ Err (record { part = 4; at = 4; kind = BadValue })
unfolding reading
no_digit = refl

-- a byte after the last digit
one_more : reading (info_of 4) digits (1 ∷ 7 ∷ 0 ∷ []) ≡ Err (record { part = 4; at = 5; kind = Trailing })
unfolding reading
one_more = refl
