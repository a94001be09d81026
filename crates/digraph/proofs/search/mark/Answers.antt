use Rattle.std.proofs.Common.{◌∷◌, [], sym, subst, ◌∙◌}
use Rattle.std.proofs.Math.ListN.{set}
use Rattle.std.specs.Prelude.{true, false}
use Rattle.std.proofs.lemmas.List.{get_or_read}
use Rattle.digraph.specs.Marks.{Marks}
use Rattle.digraph.proofs.Marking.{marks-set}
use Rattle.digraph.proofs.search.mark.Goals as goal

pub returns : goal.returns
returns c =
    let marks = c.args.marks.now.items in
    let pending = c.args.pending.now.items in
    let v = c.args.v in
    let had = sym (get_or_read marks v _ c.requires c.index.ensures false) ∙ c.if-index.false in
    subst (Marks (v ∷ []) marks pending (set marks v true)) (sym c.in_ok-push.ensures.items) (marks-set v marks pending c.requires had)
