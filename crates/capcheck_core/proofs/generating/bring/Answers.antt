-- the generated package alone is brought into the form; where a store fails, the Header is the last; else all is stored, and of it is told
use Rattle.std.specs.Prelude.{Some}
use Rattle.std.proofs.Common.{refl, subst}
use Rattle.cap_gen.specs.Linked.{roles}
use Rattle.cap_text.specs.Generate.{generate_request}
use Rattle.jc_link.specs.World.{IsLinked}
use Rattle.xf_pack.specs.Transformed.{IsTransformed}
use Rattle.capcheck_core.specs.Generate.{generated}
use Rattle.capcheck_core.specs.LentCard.{words_of}
use Rattle.capcheck_core.specs.Outside.{outside}
use Rattle.capcheck_core.specs.Transform.{StopsBefore}
use Rattle.capcheck_core.proofs.Transforms.{has_header, brought_in_part}
use Rattle.capcheck_core.proofs.Generates.{all_told, unbrought}
use Rattle.capcheck_core.proofs.generating.bring.Goals as goal

pub in_order-requires : goal.in_order-requires
in_order-requires g c = has_header c.in-Ok.parts c.in-Ok.ensures.made.keeps.made c.in-Ok.ensures.made.keeps.stands

pub run_stored-requires-clause-linked : goal.run_stored-requires-clause-linked
run_stored-requires-clause-linked g c = subst (λ ps. IsLinked ps roles c.args.world.now) c.requires.packages c.requires.linked

pub run_stored-requires-clause-made : goal.run_stored-requires-clause-made
run_stored-requires-clause-made g c = subst (λ ps. IsTransformed ps roles c.args.world.now c.in-Ok.parts) c.requires.packages c.in-Ok.ensures.made

pub returns-in-Ok-store_parts-clause-answers : goal.returns-in-Ok-store_parts-clause-answers
returns-in-Ok-store_parts-clause-answers g c =
    all_told (generate_request c.args.operands.now) c.args.world.now c.in-Ok.parts c.in-Ok-in_order.stores
    (outside (g.F.Folder.folders c.args.folder.now) (words_of c.args.card.now))
    (outside (g.F.Folder.folders c.store_parts.new.folder) (words_of c.run_stored.new.card))
    c.run_stored.result c.in-Ok-in_order.ensures c.in-Ok-store_parts.ensures c.run_stored.ensures.answers

pub returns-in-Ok-clause-answers : goal.returns-in-Ok-clause-answers
returns-in-Ok-clause-answers g c = (
  brought_in_part (generated c.args.operands.now.seed) roles c.args.world.now c.args.operands.now.out.now c.in-Ok.parts c.in-Ok-in_order.stores (Some roles)
      (g.F.Folder.folders c.args.folder.now) (g.F.Folder.folders c.store_parts.new.folder)
      (subst (λ ps. IsTransformed ps roles c.args.world.now c.in-Ok.parts) c.requires.packages c.in-Ok.ensures.made) c.in-Ok-in_order.ensures refl
      c.in-Err-store_parts.ensures,
  refl,
)

pub returns-clause-answers : goal.returns-clause-answers
returns-clause-answers g c =
    let w = c.args.world.now in
    let linked = subst (λ ps. IsLinked ps roles w) c.requires.packages c.requires.linked in
    let stops = subst (λ ps. StopsBefore ps w c.untransformed.result) c.requires.packages c.untransformed.ensures in
    let now = outside (g.F.Folder.folders c.args.folder.now) (words_of c.args.card.now) in
    unbrought (generate_request c.args.operands.now) w linked c.packages_link.ensures.typed now now c.untransformed.result
    (record { folders = refl; card = refl }) stops
