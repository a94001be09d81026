-- what the writer asks, and what came of it
use Rattle.std.proofs.Common.{◌≡◌, ◌-◌, ◌≤◌, Some, length, slice_get, subst, sym, ◌∙◌, arith}
use Rattle.cap_components.specs.Components.{Methods}
use Rattle.cap_write.specs.WrittenPackage.{TellsWriteEnd}
use Rattle.xf_last.proofs.Written.{last-of}
use Rattle.xf_share.proofs.Written.{may-be-laid, part-long, shared}
use Rattle.xf_share.proofs.writing.write_last.Goals as goal

pub write_package-requires : goal.write_package-requires
write_package-requires c =
    let ps = c.args.packages.now in
    let at = subst (λ n. slice_get ps (n - 1) ≡ Some c.at-package.result.now) c.len.ensures c.at-package.ensures in
    may-be-laid ps c.args.roles c.args.world.now c.at-package.result.now
    (last-of ps c.args.roles c.args.world.now c.requires.linked c.at-package.result.now at) c.args.first c.requires.first c.args.laid.now c.requires.laid
    c.requires.all c.parts-parts.ensures.agree (subst (λ (ms : Methods). length ms.handlers ≤ 255) c.methods.ensures c.handlers-handlers.ensures.few)

pub laid_locals-requires : goal.laid_locals-requires
laid_locals-requires c = omega (arith, c.requires.all, c.method_count-count.ensures.is)

pub returns-in-Ok-clause-made : goal.returns-in-Ok-clause-made
returns-in-Ok-clause-made c =
    let ps = c.args.packages.now in
    let at = subst (λ n. slice_get ps (n - 1) ≡ Some c.at-package.result.now) c.len.ensures c.at-package.ensures in
    let is = shared ps c.args.roles c.args.world.now c.at-package.result.now
    (last-of ps c.args.roles c.args.world.now c.requires.linked c.at-package.result.now at) c.args.first c.requires.first c.args.laid.now c.requires.laid
    c.requires.all c.parts-parts.ensures.agree c.requires.accepted c.shared_world_ends_in_step.ensures c.written_index_is_exact.ensures c.in-Ok.parts
    c.in-Ok.ensures.written c.in-Ok.ensures.again in
    record { shared = is.0; before = c.locals_of_last.ensures; after = c.laid_locals.ensures ∙ sym is.1 }

pub returns-in-Err-PartLong-clause-end : goal.returns-in-Err-PartLong-clause-end
returns-in-Err-PartLong-clause-end c =
    let ps = c.args.packages.now in
    let at = subst (λ n. slice_get ps (n - 1) ≡ Some c.at-package.result.now) c.len.ensures c.at-package.ensures in
    part-long ps c.args.roles c.args.world.now c.at-package.result.now
    (last-of ps c.args.roles c.args.world.now c.requires.linked c.at-package.result.now at) c.args.first c.requires.first c.args.laid.now c.requires.laid
    c.requires.all c.parts-parts.ensures.agree c.requires.accepted c.in-Err-PartLong.size
    (subst (TellsWriteEnd c.at-package.result.now c.args.laid.now) c.in-Err-PartLong.field-0-is c.in-Err-PartLong.ensures.long)
