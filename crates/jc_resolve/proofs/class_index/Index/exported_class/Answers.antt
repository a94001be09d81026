use Rattle.std.proofs.Common.{ap, ◌∙◌, option_map}
use Rattle.cap_pool.specs.Export.{exported_class_seen}
use Rattle.jc_resolve.specs.References.{exported_class}
use Rattle.jc_resolve.proofs.ExportLaws.{exported_there}
use Rattle.jc_resolve.proofs.class_index.Index.exported_class.Goals as goal

pub returns : goal.returns
returns c =
    ap (option_map exported_class_seen) c.exported_in.ensures
    ∙ exported_there exported_class_seen _ c.self.inside.exports c.args.package c.args.token c.self.invariant.exports_are
    ∙ ap (λ ps. exported_class ps c.args.package c.args.token) c.self.view_is
