use Rattle.std.proofs.Common.{◌≡◌, subst}
use Rattle.jc_classes.specs.Outline.{LineTable, package_of}
use Rattle.jc_classes.proofs.Outlines.{line_read, package_told}
use Rattle.jc_classes.proofs.lineage_type.Lineage.package_of.Goals as goal

pub returns : goal.returns
returns c =
    let lines = c.self.inside.lines.items in
    let roles = c.self.inside.roles in
    let line = c.index.result.now in
    subst (λ (t : LineTable). line.«package» ≡ package_of t c.args.c) c.self.view_is
    (package_told lines roles c.args.c line (line_read c.args.self.now lines roles c.args.c line c.self.view_is c.requires c.index.ensures))
