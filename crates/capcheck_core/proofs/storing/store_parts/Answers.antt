-- one store more, or the first that fails
use Rattle.std.proofs.Common.{◌+◌, sym, subst, ◌∙◌, ap, ◌++◌, take, drop}
use Rattle.std.proofs.lemmas.List.{take-append-drop}
use Rattle.cap_package.specs.Parts.{Lent}
use Rattle.cap_package.proofs.Given.{drop_here}
use Rattle.capcheck_core.specs.Stores.{AreStored}
use Rattle.capcheck_core.proofs.Stores.{none_stored, one_stored, one_broken}
use Rattle.capcheck_core.proofs.storing.store_parts.Goals as goal
use Rattle.jc_decode.proofs.Elements.{next-take}

pub parts-init : goal.parts-init
parts-init g c = none_stored c.args.dir.now (g.F.Folder.folders c.args.folder.now)

pub parts-preserved : goal.parts-preserved
parts-preserved g c =
    let lent : Lent = record { part = c.at.result.0.0; bytes = c.at.result.1.now } in
    subst (λ parts. AreStored c.args.dir.now parts (g.F.Folder.folders c.args.folder.now) (g.F.Folder.folders c.store.new.self))
    (sym (next-take c.args.parts.now c.parts.n lent c.at.ensures))
    (one_stored c.args.dir.now (take c.parts.n c.args.parts.now) lent (g.F.Folder.folders c.args.folder.now) (g.F.Folder.folders c.parts.folder)
    (g.F.Folder.folders c.store.new.self) c.parts.invariant c.in-Ok.ensures.bytes c.in-Ok.ensures.counts.loads c.in-Ok.ensures.counts.failed
    c.in-Ok.ensures.counts.stores)

pub returns-in-Err : goal.returns-in-Err
returns-in-Err g c =
    let lent : Lent = record { part = c.at.result.0.0; bytes = c.at.result.1.now } in
    one_broken c.args.dir.now c.args.parts.now (take c.parts.n c.args.parts.now) lent (drop (c.parts.n + 1) c.args.parts.now)
    (g.F.Folder.folders c.args.folder.now) (g.F.Folder.folders c.parts.folder) (g.F.Folder.folders c.store.new.self) c.parts.invariant
    (sym (take-append-drop c.parts.n c.args.parts.now)
    ∙ ap (λ rest. take c.parts.n c.args.parts.now ++ rest) (drop_here c.args.parts.now c.parts.n lent c.at.ensures))
    c.in-Err.ensures.bytes c.in-Err.ensures.counts.loads c.in-Err.ensures.counts.failed c.in-Err.ensures.counts.stores.1
