use Rattle.std.proofs.Common.{sym, ap, ◌∙◌, drop, Some}
use Rattle.std.specs.Prelude.{slice_get}
use Rattle.std.proofs.lemmas.List.{length-set}
use Rattle.std.proofs.lemmas.Option.{slice_get-get_or}
use Rattle.jc_base.proofs.Lists.{list_at-slice_get}
use Rattle.cap_index.proofs.Taken.{taken-with}
use Rattle.cap_index.proofs.of_methods.next_index.Goals as goal

pub returns-then-has_code : goal.returns-then-has_code
returns-then-has_code c =
    let lists = c.args.lists.now.items in
    let k = c.args.method.now.package in
    let here = list_at-slice_get lists k c.index_mut.result.now (slice_get-get_or lists k c.index_mut.result.now c.requires
    ∙ ap Some (sym c.index_mut.ensures.value)) in
    taken-with lists c.args.method.now c.next.new.self c.next.result c.requires (sym c.if-has_code.ensures)
    (c.next.ensures.first ∙ ap (λ xs. slice_get xs 0) (sym here)) (c.next.ensures.rest ∙ ap (drop 1) (sym here)) (length-set lists k c.next.new.self)
