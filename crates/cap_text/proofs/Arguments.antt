-- Lists of argument words, read one by one.
use Rattle.std.proofs.Common.{ℕ, List, [], ◌∷◌, ◌++◌}
use Rattle.cap_text.specs.Word.{IsArgWord, AreArgWords}
use Rattle.vm_step.specs.Arguments.{Argument}

-- one more word and its argument
pub words_and_one : (words : List (List ℕ)) (args : List Argument) (word : List ℕ) (arg : Argument) → AreArgWords words args → IsArgWord word arg
    → AreArgWords (words ++ word ∷ []) (args ++ arg ∷ [])
words_and_one [] [] word arg before one = (one, tt)
words_and_one [] (a ∷ args) word arg before one = absurd before
words_and_one (w ∷ words) [] word arg before one = absurd before
words_and_one (w ∷ words) (a ∷ args) word arg before one = (before.0, words_and_one words args word arg before.1 one)

-- a word that writes no argument spoils the list
pub spoiled : (words : List (List ℕ)) (word : List ℕ) (rest : List (List ℕ)) → ((a : Argument) → IsArgWord word a → ⊥)
    → (args : List Argument) → AreArgWords (words ++ word ∷ rest) args → ⊥
spoiled [] word rest none [] all = all
spoiled [] word rest none (a ∷ args) all = none a all.0
spoiled (w ∷ words) word rest none [] all = all
spoiled (w ∷ words) word rest none (a ∷ args) all = spoiled words word rest none args all.1
