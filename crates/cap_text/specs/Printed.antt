-- A fault by its name and its numbers, as it is printed.
use Rattle.std.specs.Prelude.{ℕ, List, [], ◌∷◌, codes, decimal}
use Rattle.std.specs.List.{concat}
use Rattle.cap_text.specs.Fault.{name_1, name_2, name_3}
use Rattle.cap_text.specs.declared.printed.Printed.{Printed}
use Rattle.cap_text.specs.declared.printed.Printed.TheVariants.{Alone, One, Two, Three, Kind}

abbrev pub printed_text : Printed → List ℕ
printed_text (Alone name) = name.now
printed_text (One name a) = name_1 name.now a
printed_text (Two name a b) = name_2 name.now a b
printed_text (Three name a b c) = name_3 name.now a b c
printed_text (Kind name a b kind) =
    concat (name.now ∷ codes " " ∷ decimal a ∷ codes " " ∷ decimal b ∷ codes " " ∷ kind.now ∷ [])
