-- the parts below a tag become those below the next one, or the loads stop there
use Rattle.std.proofs.Common.{◌≡◌, ◌+◌, ◌++◌, true, sym, ap, subst, ◌∙◌, arith}
use Rattle.capcheck_core.specs.Loads.{is_asked, AreLoaded}
use Rattle.capcheck_core.proofs.Loads.{Kept, above_none, absent_after, added_after, one_more, none_more, kept_more, kept_asked, stopped_there, loaded_all}
use Rattle.capcheck_core.proofs.load.load_rest.Goals as goal
use Rattle.capcheck_core.proofs.load.load_rest.Goals.{then-asks+in-Ok, else-asks}

pub load_file-requires : goal.load_file-requires
load_file-requires g c =
    let first = c.args.first.now in
    absent_after c.tags.tag first c.tags.rest (above_none 0 c.tags.tag c.tags.tag (first ++ c.tags.rest) c.tags.invariant.loaded.rising (omega arith))

pub returns-in-Err-clause-loads : goal.returns-in-Err-clause-loads
returns-in-Err-clause-loads g c =
    let first = c.args.first.now in
    let high = c.end_of-end.ensures.high in
    let asked : is_asked (first ++ c.tags.rest) c.tags.tag ≡ true
    = kept_asked c.tags.tag first (first ++ c.tags.rest) c.tags.invariant.kept ∙ sym c.asks.ensures ∙ c.if-asks.true in
    stopped_there (g.F.Folder.folders c.args.folder.now) (g.F.Folder.folders c.tags.folder) (g.F.Folder.folders c.load_file.new.folder) c.args.dir.now
    c.tags.tag
    (first ++ c.tags.rest) c.tags.rest c.load_file.new.parts c.in-Err.stop (omega (arith, high)) c.tags.invariant.loaded c.tags.invariant.same asked
    c.in-Err.ensures.loads

pub tags-preserved : goal.tags-preserved
tags-preserved g c =
    let first = c.args.first.now in
    let before = g.F.Folder.folders c.args.folder.now in
    let now = g.F.Folder.folders c.tags.folder in
    let same = kept_asked c.tags.tag first (first ++ c.tags.rest) c.tags.invariant.kept ∙ sym c.asks.ensures in
    elim c.if-asks.branch [
      | then-asks+in-Ok w ↦
          let added = added_after now c.args.dir.now c.tags.tag first c.tags.rest w.load_file.new.parts w.in-Ok.ensures.loads in
          record {
            loaded = subst (λ r. AreLoaded before c.args.dir.now (c.tags.tag + 1) (first ++ r)) (sym w.rest-is)
                (one_more before now c.args.dir.now c.tags.tag (first ++ c.tags.rest) (first ++ w.load_file.new.parts) c.tags.invariant.loaded
                c.tags.invariant.same
                (same ∙ w.if-asks.true) added);
            kept = subst (λ r. Kept first (first ++ r)) (sym w.rest-is)
                (kept_more now c.args.dir.now c.tags.tag first (first ++ c.tags.rest) (first ++ w.load_file.new.parts) (omega arith) c.tags.invariant.kept
                added);
            same = ap g.F.Folder.folders w.folder-is ∙ w.in-Ok.ensures.folders ∙ c.tags.invariant.same;
          }
      | else-asks w ↦ record {
        loaded = subst (λ r. AreLoaded before c.args.dir.now (c.tags.tag + 1) (first ++ r)) (sym w.rest-is)
            (none_more before c.args.dir.now c.tags.tag (first ++ c.tags.rest) c.tags.invariant.loaded (same ∙ w.if-asks.false));
        kept = subst (λ r. Kept first (first ++ r)) (sym w.rest-is) c.tags.invariant.kept;
        same = ap g.F.Folder.folders w.folder-is ∙ c.tags.invariant.same;
      }
    ]

pub returns-clause-loads : goal.returns-clause-loads
returns-clause-loads g c =
    let first = c.args.first.now in
    let high = c.end_of-end.ensures.high in
    let low = c.end_of-end.ensures.low in
    let end : c.tags.tag ≡ c.end_of-end.result = omega (arith, low) in
    record {
      loaded =
          loaded_all (g.F.Folder.folders c.args.folder.now) c.args.dir.now c.tags.tag (first ++ c.tags.rest) (omega (arith, high, end))
          c.tags.invariant.loaded
          (λ tag from below. kept_asked tag first (first ++ c.tags.rest) c.tags.invariant.kept ∙ c.end_of-end.ensures.none tag (omega (arith, from, end))
          below);
      header = c.tags.invariant.kept.0;
      directory = c.tags.invariant.kept.1;
    }
