-- the superclass in a line, and the chain with it
use Rattle.std.proofs.Common.{◌≡◌, ◌<◌, ◌∷◌, length, subst}
use Rattle.std.specs.Prelude.{IfSome}
use Rattle.jc_base.specs.Class.{list_of}
use Rattle.jc_classes.specs.Outline.{LineTable, chain, parent_of}
use Rattle.jc_classes.proofs.Outlines.{table, line_read, parent_told, parent_known, chain_told}
use Rattle.jc_classes.proofs.lineage_type.Lineage.parent.Goals as goal

pub returns-clause-is : goal.returns-clause-is
returns-clause-is c =
    let lines = c.self.inside.lines.items in
    let roles = c.self.inside.roles in
    let line = c.index.result.now in
    subst (λ (t : LineTable). c.superclass.result ≡ parent_of t c.args.c) c.self.view_is
    (parent_told lines roles c.args.c line (line_read c.args.self.now lines roles c.args.c line c.self.view_is c.requires c.index.ensures)
    c.superclass.result c.superclass.ensures)

pub returns-clause-known : goal.returns-clause-known
returns-clause-known c =
    let lines = c.self.inside.lines.items in
    let roles = c.self.inside.roles in
    let line = c.index.result.now in
    subst (λ (t : LineTable). IfSome c.superclass.result (λ p. p < length t.lines)) c.self.view_is
    (parent_known (table lines roles) c.args.c c.superclass.result c.self.invariant
    (parent_told lines roles c.args.c line (line_read c.args.self.now lines roles c.args.c line c.self.view_is c.requires c.index.ensures)
    c.superclass.result c.superclass.ensures))

pub returns-clause-step : goal.returns-clause-step
returns-clause-step c =
    let lines = c.self.inside.lines.items in
    let roles = c.self.inside.roles in
    let line = c.index.result.now in
    subst (λ (t : LineTable). chain t c.args.c ≡ c.args.c ∷ list_of (chain t) c.superclass.result) c.self.view_is
    (chain_told (table lines roles) c.args.c c.superclass.result c.self.invariant
    (parent_told lines roles c.args.c line (line_read c.args.self.now lines roles c.args.c line c.self.view_is c.requires c.index.ensures)
    c.superclass.result c.superclass.ensures))
