-- The records of classes as they are built.
use Rattle.std.proofs.Common.{◌≡◌, ℕ, ◌+◌, ◌<◌, take, get_or, List, [], ◌∷◌, ◌++◌, length, Option, Some, None, sym, ap, ◌∙◌}
use Rattle.std.specs.Prelude.{filter_map}
use Rattle.std.proofs.lemmas.List.{take_more}
use Rattle.jc_classes.proofs.Fills.{there_more, there_same}

pub listed_more : (entries : List (Option ℕ)) (i m : ℕ) (d : Option ℕ) (list : List ℕ) → i < length entries → get_or entries i d ≡ Some m
    → list ≡ filter_map (λ o. o) (take i entries) → list ++ (m ∷ []) ≡ filter_map (λ o. o) (take (i + 1) entries)
listed_more entries i m d list h e before =
    there_more (take i entries) (get_or entries i d) m list e before ∙ ap (filter_map (λ o. o)) (sym (take_more entries i d h))

pub listed_same : (entries : List (Option ℕ)) (i : ℕ) (d : Option ℕ) (list : List ℕ) → i < length entries → get_or entries i d ≡ None
    → list ≡ filter_map (λ o. o) (take i entries) → list ≡ filter_map (λ o. o) (take (i + 1) entries)
listed_same entries i d list h e before =
    there_same (take i entries) (get_or entries i d) list e before ∙ ap (filter_map (λ o. o)) (sym (take_more entries i d h))

pub ruleset listing = (listed_more, listed_same)
