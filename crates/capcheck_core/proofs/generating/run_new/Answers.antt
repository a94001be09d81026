-- the new world is that of the parts, its methods begin, and of their runs is told
use Rattle.std.proofs.Common.{◌≡◌, rules, sym, subst, to_z, of_z, w32}
use Rattle.std.proofs.lemmas.Int.{to_z-of_z}
use Rattle.std.specs.Prelude.{IfOk, string_bytes}
use Rattle.cap_text.specs.Generate.{generate_text}
use Rattle.capcheck_core.specs.Generate.{IsKeptOrBegun}
use Rattle.capcheck_core.specs.LentCard.{words_of}
use Rattle.capcheck_core.specs.Outside.{card_words}
use Rattle.capcheck_core.proofs.Generates.{carded_there, entries_there, told_of}
use Rattle.capcheck_core.proofs.generating.run_new.Goals as goal

pub sum_of-requires-clause-carded : goal.sum_of-requires-clause-carded
sum_of-requires-clause-carded c = carded_there c.args._seed c.args.world.now c.args.new.now c.args._parts.now c.args.made_size c.requires.made

pub sum_of-requires-clause-entries : goal.sum_of-requires-clause-entries
sum_of-requires-clause-entries c =
    entries_there c.args._seed c.args.world.now c.args.new.now c.args._parts.now c.args.made_size c.requires.linked c.classes-whole.ensures.links
    c.requires.made
    c.starts_refuse_alike.ensures.refused c.starts_refuse_alike.ensures.numbered

pub returns-in-Ok-clause-answers : goal.returns-in-Ok-clause-answers
returns-in-Ok-clause-answers c =
    let same : to_z w32 (of_z w32 c.in-Ok.sum) ≡ c.in-Ok.sum = to_z-of_z w32 c.in-Ok.sum (search rules) in
    told_of c.args._seed c.args.world.now c.args.new.now c.args._parts.now (words_of c.args.card.now)
    (card_words c.sum_of.new.ram c.sum_of.new.heap c.sum_of.new.statics) c.args.size c.args.made_size
    c.in-Ok.sum c.generated.result c.done.result c.requires.made c.requires.size c.in-Ok.ensures.runs
    (subst (λ z. IfOk c.generated.result (λ t. string_bytes t ≡ generate_text c.args.size c.args.made_size z)) same c.generated.ensures) c.done.ensures

pub returns-in-Err-clause-answers : goal.returns-in-Err-clause-answers
returns-in-Err-clause-answers c =
    let w = c.args.new.now in
    let before = words_of c.args.card.now in
    let after = card_words c.sum_of.new.ram c.sum_of.new.heap c.sum_of.new.statics in
    (c.requires.made.made, subst (λ v. IsKeptOrBegun v before after) (sym c.requires.made.world) c.in-Err.ensures.begun)
