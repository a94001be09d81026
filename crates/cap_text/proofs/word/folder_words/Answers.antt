-- each word that is left is visited
use Rattle.std.proofs.Common.{rules, tests, refl}
use Rattle.std.proofs.lemmas.Iterator.{cases_from_all}
use Rattle.std.proofs.lemmas.Iterator.Consumers.{YieldsList-from_first}
use Rattle.cap_files.specs.WordsLeft.{words_left}
use Rattle.cap_text.specs.Word.{IsFolderWord}
use Rattle.cap_text.proofs.Folders.{tells_folders}
use Rattle.cap_text.proofs.word.folder_words.Goals as goal

pub returns-then-folder_word : goal.returns-then-folder_word
returns-then-folder_word c =
    let rest = words_left c.next.new.self in
    let names : IsFolderWord c.in-Some.first.now = search rules in
    let visit = cases_from_all c.all.new.self _ c.all.result IsFolderWord (λ w. IsFolderWord w → ⊥) c.all.ensures.ran
    (YieldsList-from_first (λ y. y.now) words_left rest refl) (λ x q k. search (rules, tests)) (λ x q k. search (rules, tests)) in
    tells_folders c.all.result _ c.in-Some.first.now rest c.in-Some.ensures.steps names visit
