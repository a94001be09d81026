-- the folders are few enough, or they are counted
use Rattle.std.proofs.Common.{None, refl, subst, sym, ap, length, inl, inr}
use Rattle.cap_files.specs.WordsLeft.{words_left}
use Rattle.capcheck_core.specs.LentCard.{words_of}
use Rattle.capcheck_core.specs.Outside.{outside}
use Rattle.capcheck_core.specs.OverLoads.{GoesOver}
use Rattle.capcheck_core.specs.Place.{places}
use Rattle.capcheck_core.proofs.PackageLoads.{goes_over_places, too_many}
use Rattle.capcheck_core.proofs.world.over_all.Goals.{in_default-via-in-Some+else-count-le-MOST, in_default-via-in_default}
use Rattle.capcheck_core.proofs.world.over_all.Goals as goal

pub returns-in-Some-clause-answers : goal.returns-in-Some-clause-answers
returns-in-Some-clause-answers g c =
    let own = g.S.LastStep.own c.args.step.now in
    let before = outside (g.F.Folder.folders c.args.folder.now) (words_of c.args.card.now) in
    let after = outside (g.F.Folder.folders c.over_rest.new.folder) (words_of c.over_rest.new.card) in
    goes_over_places own c.args.last (words_left c.args.dirs) before after c.over_rest.result c.count_of-count.result c.count_of-count.ensures
    c.if-count-le-MOST.true
    (subst (λ ps. GoesOver own (places c.args.last (words_left c.args.dirs)) ps None before after c.over_rest.result) c.new.ensures
    (subst (λ ds. GoesOver own (places c.args.last ds) c.new.result None before after c.over_rest.result) (sym c.in-Some.ensures.steps)
    c.over_rest.ensures.answers))

pub returns-in_default-clause-answers : goal.returns-in_default-clause-answers
returns-in_default-clause-answers g c = elim c.in_default.branch [
  | in_default-via-in-Some+else-count-le-MOST w ↦ record {
    stops = too_many c.args.last (words_left c.args.dirs) c.count_of-count.result c.count_of-count.ensures (inr w.if-count-le-MOST.false);
    leaves = refl;
    card = refl;
  }
  | in_default-via-in_default w ↦ record {
    stops = too_many c.args.last (words_left c.args.dirs) c.count_of-count.result c.count_of-count.ensures (inl (ap length w.in_default.ensures.steps.0));
    leaves = refl;
    card = refl;
  }
]
