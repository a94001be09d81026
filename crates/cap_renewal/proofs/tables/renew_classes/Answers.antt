use Rattle.std.proofs.Common.{◌≡◌, length, ◌∷◌, refl, ap, sym, subst, ◌∙◌, rules}
use Rattle.cap_class.specs.ClassPart.{class_seen, records, classes_left}
use Rattle.cap_bytes.specs.Edit.{patched_all}
use Rattle.cap_renewal.specs.ClassEdits.{classes_edits}
use Rattle.cap_renewal.specs.NewMethods.{to}
use Rattle.cap_renewal.specs.Rooms.{AllRooms}
use Rattle.cap_renewal.proofs.Steps.{one_class}
use Rattle.cap_bytes.specs.Renewal.{Renews}
use Rattle.cap_renewal.proofs.News.{keeps_small}
use Rattle.cap_renewal.proofs.ClassItems.{classes_inside, classes_fit, classes_renewed, classes_room}
use Rattle.cap_renewal.proofs.tables.renew_classes.Goals as goal

pub classes-init : goal.classes-init
classes-init c =
    let cs = records c.args.classes.now in
    let e : cs ≡ classes_left c.into_iter-class-iterator.result = cc in
    record {
      room = subst (AllRooms (length c.args.info.now)) e (classes_room c.requires.0 c.args.info.now cs c.requires.1);
      long = refl;
      so_far = ap (λ xs. patched_all (classes_edits (to c.args.news.now) xs) c.args.info.now) (sym e);
    }

pub classes-preserved : goal.classes-preserved
classes-preserved c =
    let f = to c.args.news.now in
    let k = class_seen c.in-Some.class in
    let rest = classes_left c.next.new.self in
    let rooms : AllRooms (length c.args.info.now) (k ∷ rest) = subst (AllRooms (length c.args.info.now)) c.in-Some.ensures.steps c.classes.invariant.room in
    record {
      room = rooms.1;
      long = c.write_class.ensures.long ∙ c.classes.invariant.long;
      so_far =
          one_class f k rest (classes_left c.classes.class-iterator) c.classes.info c.write_class.new.info
          (patched_all (classes_edits f (records c.args.classes.now)) c.args.info.now) c.in-Some.ensures.steps c.write_class.ensures.value
          c.classes.invariant.so_far;
    }

pub returns-clause-renewed : goal.returns-clause-renewed
returns-clause-renewed c =
    let f = to c.args.news.now in
    let cs = records c.args.classes.now in
    let v : c.classes.info ≡ patched_all (classes_edits f cs) c.args.info.now = search rules in
    rw v
    (c.patches_renew.ensures (classes_edits f cs) c.args.info.now (classes_inside f c.requires.0 c.args.info.now cs c.requires.1)
    (classes_fit f c.requires.0 c.args.info.now cs c.are_bytes.ensures (keeps_small c.args.news.now c.are_small.ensures) c.requires.1))

pub returns-clause-stands : goal.returns-clause-stands
returns-clause-stands c =
    let f = to c.args.news.now in
    let cs = records c.args.classes.now in
    let v : c.classes.info ≡ patched_all (classes_edits f cs) c.args.info.now = search rules in
    let r : Renews (classes_edits f cs) c.args.info.now c.classes.info =
    rw v
    (c.patches_renew.ensures (classes_edits f cs) c.args.info.now (classes_inside f c.requires.0 c.args.info.now cs c.requires.1)
    (classes_fit f c.requires.0 c.args.info.now cs c.are_bytes.ensures (keeps_small c.args.news.now c.are_small.ensures) c.requires.1)) in
    λ format s. classes_renewed f format c.args.info.now c.classes.info cs s r
