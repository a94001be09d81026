-- The symbols of a method match its frames, wherever they are laid.
use Rattle.std.proofs.Common.{◌≡◌, ◌<◌, refl, sym, subst}
use Rattle.std.specs.Prelude.{Contains}
use Rattle.std.proofs.lemmas.List.Elements.{All-contains}
use Rattle.jc_base.specs.declared.record.Handler.{Handler}
use Rattle.jc_base.specs.declared.record.MethodRec.{MethodRec}
use Rattle.jc_base.specs.Linked.{IsHandler, IsMethod, list_at}
use Rattle.jc_base.specs.World.{Linked, IsWorld}
use Rattle.jc_base.proofs.Lists.{All-slice_get}
use Rattle.jc_ops.specs.Sound.{OperationsAreSound}
use Rattle.law_laid.specs.Laid.{class_by}
use Rattle.law_laid.proofs.Catching.{catches-by-pool}
use Rattle.law_laid.proofs.SameBut.{methods-are-kept, operations-are-kept}
use Rattle.xf_homes.specs.Source.{Source}
use Rattle.xf_emission.specs.Emission.{rewritten}
use Rattle.law_rewritten_typing.specs.Planned.{IsPlanned}
use Rattle.law_groups.specs.Laid.{IsLaidIn}
use Rattle.law_groups.specs.Laws.{CallsEnd, CallsReturn, GroupsCatch, GroupsRun, HandlersEnter, HasRoomForMore, RenamesOneToOne, StartsEnter}
use Rattle.law_groups.specs.Matching.{MatchesFrames, RewrittenMatches}
use Rattle.law_groups.proofs.Sounding.{can-run}

-- what is known of a world and of all that is laid in others for its methods
pub record AreLaws (v : Linked) : Type 0 where
  pub world : IsWorld v
  pub sound : OperationsAreSound v
  pub renames : RenamesOneToOne v
  pub room : HasRoomForMore v
  pub ends : CallsEnd v
  pub catches : GroupsCatch v
  pub groups : GroupsRun v
  pub returns : CallsReturn v
  pub handlers : HandlersEnter v
  pub starts : StartsEnter v

module _ (s : Source) (laws : AreLaws s.world) (planned : IsPlanned s) (room : s.method.rec.max_stack < 255) where
  catches-by : (h : Handler) → Contains s.method.rec.handlers h → class_by s.method.rec.handlers h.index ≡ h.class
  catches-by h among =
      let v : Linked = s.world in
      let r : MethodRec = s.method.rec in
      let links : IsMethod v.infos v.pools v.classes r =
      All-slice_get (IsMethod v.infos v.pools v.classes) v.methods s.method.number r laws.world.methods planned.method.rec in
      catches-by-pool v.classes (list_at v.pools r.package) r.code_len r.handlers h h.class links.handlers among
      (All-contains (IsHandler v.classes (list_at v.pools r.package) r.code_len) r.handlers h links.handlers among).catches

  matches : MatchesFrames s (rewritten s)
  matches w place code =
      let laid : IsLaidIn s.world w s place =
      record {
        world = refl;
        new = can-run s.world w code.same methods-are-kept operations-are-kept laws.world laws.sound;
        planned = planned;
        room = room;
        catches = catches-by;
        code = code;
      } in
      record {
        starts = laws.starts w s place laid;
        groups = laws.groups w s place laid;
        ends = laws.ends w s place laid;
        returns = laws.returns w s place laid;
        catches = laws.catches w s place laid;
        handlers = laws.handlers w s place laid;
        room = laws.room w s place laid;
        one_to_one = laws.renames w s place laid;
      }

pub rewritten-matches : (v : Linked) → AreLaws v → RewrittenMatches v
rewritten-matches v laws s is planned room = matches s (subst AreLaws (sym is) laws) planned room
