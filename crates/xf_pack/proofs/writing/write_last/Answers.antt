-- what the writer asks, and what came of it
use Rattle.std.proofs.Common.{◌≡◌, ◌-◌, ◌≤◌, Some, length, slice_get, subst}
use Rattle.cap_components.specs.Components.{Methods}
use Rattle.cap_write.specs.WrittenPackage.{TellsWriteEnd}
use Rattle.xf_last.proofs.Written.{last-of}
use Rattle.xf_pack.proofs.Written.{may-be-laid, part-long, transformed}
use Rattle.xf_pack.proofs.writing.write_last.Goals as goal

pub write_package-requires : goal.write_package-requires
write_package-requires c =
    let ps = c.args.packages.now in
    let at = subst (λ n. slice_get ps (n - 1) ≡ Some c.at-package.result.now) c.len.ensures c.at-package.ensures in
    may-be-laid ps c.args.roles c.args.world.now c.at-package.result.now
    (last-of ps c.args.roles c.args.world.now c.requires.linked c.at-package.result.now at) c.args.first c.requires.first c.args.laid.now c.requires.laid
    c.requires.all c.parts-parts.ensures.agree (subst (λ (ms : Methods). length ms.handlers ≤ 255) c.methods.ensures c.handlers-handlers.ensures.few)

pub returns-in-Ok-clause-made : goal.returns-in-Ok-clause-made
returns-in-Ok-clause-made c =
    let ps = c.args.packages.now in
    let at = subst (λ n. slice_get ps (n - 1) ≡ Some c.at-package.result.now) c.len.ensures c.at-package.ensures in
    transformed ps c.args.roles c.args.world.now c.at-package.result.now
    (last-of ps c.args.roles c.args.world.now c.requires.linked c.at-package.result.now at) c.args.first c.requires.first c.args.laid.now c.requires.laid
    c.requires.all c.parts-parts.ensures.agree c.requires.accepted c.requires.typed c.laid_is_accepted.ensures c.laid_end_alike.ensures.alike
    c.written_index_is_exact.ensures c.in-Ok.parts c.in-Ok.ensures.written c.in-Ok.ensures.again

pub returns-in-Err-PartLong-clause-end : goal.returns-in-Err-PartLong-clause-end
returns-in-Err-PartLong-clause-end c =
    let ps = c.args.packages.now in
    let at = subst (λ n. slice_get ps (n - 1) ≡ Some c.at-package.result.now) c.len.ensures c.at-package.ensures in
    part-long ps c.args.roles c.args.world.now c.at-package.result.now
    (last-of ps c.args.roles c.args.world.now c.requires.linked c.at-package.result.now at) c.args.first c.requires.first c.args.laid.now c.requires.laid
    c.requires.all c.parts-parts.ensures.agree c.requires.accepted c.requires.typed c.in-Err-PartLong.size
    (subst (TellsWriteEnd c.at-package.result.now c.args.laid.now) c.in-Err-PartLong.field-0-is c.in-Err-PartLong.ensures.long)
