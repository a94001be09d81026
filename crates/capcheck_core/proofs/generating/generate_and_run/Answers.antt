-- the parts that are generated stand for their package, which makes a world
use Rattle.std.proofs.Common.{◌≡◌, ◌∷◌, [], length, inr, ap, subst, ◌∙◌}
use Rattle.std.specs.Prelude.{Err}
use Rattle.cap_bytes.specs.declared.view.View.{View}
use Rattle.cap_components.specs.Components.{Methods}
use Rattle.cap_gen.specs.Linked.{roles}
use Rattle.cap_package.specs.PackageRecord.{PackageRecord}
use Rattle.jc_link.specs.World.{IsLinked, LinkTells}
use Rattle.capcheck_core.specs.Generate.{generated}
use Rattle.capcheck_core.proofs.Generates.{have_source, source_is, never_unlinked}
use Rattle.capcheck_core.proofs.generating.generate_and_run.Goals as goal

pub agreed_package-source-requires : goal.agreed_package-source-requires
agreed_package-source-requires g c =
    have_source c.args.operands.now.seed c.in-Ok-lend.lent c.parts_stand.ensures (c.in-Ok-lend.ensures ∙ c.in-Ok.ensures)

pub bring-requires-clause-packages : goal.bring-requires-clause-packages
bring-requires-clause-packages g c =
    c.in-Ok-alone.ensures
    ∙ ap (λ (p : PackageRecord). p ∷ [])
    (source_is c.args.operands.now.seed c.in-Ok-lend.lent c.agreed_package-source.result c.parts_stand.ensures (c.in-Ok-lend.ensures ∙ c.in-Ok.ensures)
    c.agreed_package-source.ensures)

pub bring-requires-clause-size : goal.bring-requires-clause-size
bring-requires-clause-size g c =
    let source = c.agreed_package-source.result in
    let same = source_is c.args.operands.now.seed c.in-Ok-lend.lent source c.parts_stand.ensures (c.in-Ok-lend.ensures ∙ c.in-Ok.ensures)
    c.agreed_package-source.ensures in
    ap (λ (v : View). length v.bytes.now) c.info.ensures ∙ ap (λ (m : Methods). length m.info) c.methods.ensures
    ∙ ap (λ (p : PackageRecord). length p.methods.info) same

pub returns-in-Ok-link-clause-answers : goal.returns-in-Ok-link-clause-answers
returns-in-Ok-link-clause-answers g c =
    let seed = c.args.operands.now.seed in
    let source = c.agreed_package-source.result in
    let same = source_is seed c.in-Ok-lend.lent source c.parts_stand.ensures (c.in-Ok-lend.ensures ∙ c.in-Ok.ensures) c.agreed_package-source.ensures in
    let are : c.in-Ok-alone.packages ≡ generated seed = c.in-Ok-alone.ensures ∙ ap (λ (p : PackageRecord). p ∷ []) same in
    inr (record {
      world = c.in-Ok-link.world;
      linked = subst (λ ps. IsLinked ps roles c.in-Ok-link.world) are c.in-Ok-link.ensures.tells;
      holds = c.bring.ensures.answers;
    })

pub unreachable-requires : goal.unreachable-requires
unreachable-requires g c =
    let seed = c.args.operands.now.seed in
    let source = c.agreed_package-source.result in
    let same = source_is seed c.in-Ok-lend.lent source c.parts_stand.ensures (c.in-Ok-lend.ensures ∙ c.in-Ok.ensures) c.agreed_package-source.ensures in
    never_unlinked seed c.in-Ok-alone.packages c.in-Err-Fault.field-0-0 c.packages_link.ensures.links
    (c.in-Ok-alone.ensures ∙ ap (λ (p : PackageRecord). p ∷ []) same)
    (subst (λ e. LinkTells c.in-Ok-alone.packages roles (Err e)) c.in-Err-Fault.field-0-is c.in-Err-Fault.ensures.tells)
