-- the next package is read, and the command goes on with the others
use Rattle.std.proofs.Common.{◌++◌, ℕ, List, [], ◌∷◌, Some, Ok, refl, sym, subst}
use Rattle.std.proofs.lemmas.Result.{err_from_is_err_and}
use Rattle.cap_files.specs.WordsLeft.{words_left}
use Rattle.capcheck_core.specs.declared.load.Source.{Source}
use Rattle.capcheck_core.specs.LentCard.{words_of}
use Rattle.capcheck_core.specs.Outside.{outside}
use Rattle.capcheck_core.specs.OverLoads.{AnswersOverRest, GoesOver}
use Rattle.capcheck_core.specs.Place.{Place, places, source_before}
use Rattle.capcheck_core.proofs.PackageLoads.{goes_end, goes_on, stops_at_roles}
use Rattle.capcheck_core.proofs.world.+folders.Goals as goal

-- the next package and those after it
abbrev place_of : Source → List ℕ → List (List ℕ) → Place
place_of last dir others = record { dir = dir; source = source_before last others }

pub over_parts-returns-in_err-roles-clause-answers : goal.over_parts-returns-in_err-roles-clause-answers
over_parts-returns-in_err-roles-clause-answers g t c =
    let before = g.F.Folder.folders c.args.folder.now in
    let others = words_left c.args.rest.others in
    let p = err_from_is_err_and c.from_residual-in_err-roles.result c.from_residual-in_err-roles.ensures.1 in
    rw (p.1, p.2)
    (stops_at_roles (g.S.LastStep.own c.args.step.now) before (words_of c.args.card.now) (place_of c.args.rest.last c.args.rest.dir.now others)
    (places c.args.rest.last others) c.args.packages
    c.args.rest.roles before (g.F.Folder.folders c.roles_beside.new.folder) c.args.parts.now c.in_ok-read.read _ refl c.requires.parts c.in_ok-read.ensures
    c.in_err-roles.ensures.loads c.in_err-roles.ensures.folders)

pub over_parts-returns-in-Some-clause-answers : goal.over_parts-returns-in-Some-clause-answers
over_parts-returns-in-Some-clause-answers g t c =
    let own = g.S.LastStep.own c.args.step.now in
    let last = c.args.rest.last in
    let others = words_left c.args.rest.others in
    let now = outside (g.F.Folder.folders c.roles_beside.new.folder) (words_of c.args.card.now) in
    let after = outside (g.F.Folder.folders c.over_rest.new.folder) (words_of c.over_rest.new.card) in
    let goes = subst (λ ds. GoesOver own (places last ds) c.push.new.self (Some c.in_ok-roles.roles) now after c.over_rest.result)
    (sym c.in-Some.ensures.steps) c.over_rest.ensures.answers in
    goes_on own (g.F.Folder.folders c.args.folder.now) (words_of c.args.card.now) (place_of last c.args.rest.dir.now others) (places last others)
    c.args.packages
    c.args.rest.roles (g.F.Folder.folders c.roles_beside.new.folder) after c.args.parts.now c.in_ok-read.read c.in_ok-roles.roles c.over_rest.result
    c.requires.begun
    c.requires.parts c.in_ok-read.ensures c.in_ok-roles.ensures.loads c.in_ok-roles.ensures.folders
    (subst (λ ps. GoesOver own (places last others) ps (Some c.in_ok-roles.roles) now after c.over_rest.result) c.in_ok-push.ensures.ok goes)

pub over_parts-returns-in-None-clause-answers : goal.over_parts-returns-in-None-clause-answers
over_parts-returns-in-None-clause-answers g t c =
    let own = g.S.LastStep.own c.args.step.now in
    let last = c.args.rest.last in
    let others = words_left c.args.rest.others in
    let made = c.args.packages ++ c.in_ok-read.read ∷ [] in
    let now = outside (g.F.Folder.folders c.roles_beside.new.folder) (words_of c.args.card.now) in
    let after = outside (g.F.Folder.folders c.over_packages.new.folder) (words_of c.over_packages.new.card) in
    let ends = goes_end own c.push.new.self c.in_ok-roles.roles now after c.over_packages.result c.over_packages.ensures.answers in
    goes_on own (g.F.Folder.folders c.args.folder.now) (words_of c.args.card.now) (place_of last c.args.rest.dir.now others) (places last others)
    c.args.packages
    c.args.rest.roles (g.F.Folder.folders c.roles_beside.new.folder) after c.args.parts.now c.in_ok-read.read c.in_ok-roles.roles (Ok c.over_packages.result)
    c.requires.begun c.requires.parts c.in_ok-read.ensures c.in_ok-roles.ensures.loads c.in_ok-roles.ensures.folders
    (subst (λ ds. AnswersOverRest own (places last ds) made (Some c.in_ok-roles.roles) now after c.over_packages.result) (sym c.in-None.ensures.steps.0)
    (subst (λ ps. AnswersOverRest own [] ps (Some c.in_ok-roles.roles) now after c.over_packages.result) c.in_ok-push.ensures.ok ends))
