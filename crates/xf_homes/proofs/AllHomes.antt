-- What a walk over the code keeps are the homes of the method.
use Rattle.std.proofs.Common.{◌≡◌, ℕ, ◌+◌, Bool, List, [], ◌∷◌, length, All, Option, Some, sym, ◌∙◌}
use Rattle.jc_base.specs.Each.{Each}
use Rattle.jc_base.specs.World.{Linked}
use Rattle.jc_base.specs.Laws.{SameTypeDecides}
use Rattle.jc_base.specs.Cell.{AreWhole}
use Rattle.jc_base.specs.Linked.{receiver_words}
use Rattle.jc_control.specs.Flags.{Marks}
use Rattle.jc_control.specs.Method.{Method}
use Rattle.jc_control.specs.WellFormed.{IsPlace}
use Rattle.jc_control.specs.Control.{IsReached, IsLeader}
use Rattle.jc_decode.specs.Laws.{AreListed}
use Rattle.jc_rules.specs.Demand.{Frame}
use Rattle.jc_rules.specs.Flow.{IsNotTop}
use Rattle.xf_homes.specs.declared.home.Home.{Home}
use Rattle.xf_homes.specs.Home.{PairSpot, register_count, IsMetAt, IsMetBefore}
use Rattle.xf_homes.specs.Order.{AreInOrder, AreHomes}
use Rattle.xf_homes.specs.Walk.{Event, argument_homes, code_events, with_events}
use Rattle.xf_homes.proofs.Events.{Occurs, OccursBefore, Ordered, Kept, kept}
use Rattle.xf_homes.proofs.Rising.{code-rising}
use Rattle.xf_homes.proofs.Meeting.{occurs-met, met-occurs}
use Rattle.xf_homes.proofs.OwnRegisters.{AreArguments, are-arguments}

-- what is known of the typing of a method
pub record IsTyped (m : Method) (frames : ℕ → Option Frame) (leaders : List Bool) : Type 0 where
  pub marks : Marks (IsLeader m) leaders
  pub listed : AreListed m.code
  pub sizes : (p : ℕ) (f : Frame) → frames p ≡ Some f → length f.regs ≡ register_count m.rec
  pub there : (p : ℕ) (f : Frame) → frames p ≡ Some f → IsReached m p
  pub placed : (p : ℕ) → IsReached m p → IsPlace m.code p
  pub framed : (p : ℕ) → IsReached m p → (f : Frame) × (frames p ≡ Some f)
  pub whole : AreWhole m.rec.sig.args
  pub topless : All IsNotTop m.rec.sig.args
  pub words : m.rec.nargs ≡ length m.rec.sig.args + receiver_words m.rec.is_static

-- what the walk finds
unfoldable pub homes_found : Linked → Method → (ℕ → Option Frame) → List Bool → List Home
homes_found w m frames leaders = with_events (argument_homes m.rec) (code_events w m frames leaders)

module _ (same : SameTypeDecides) (w : Linked) (m : Method) (frames : ℕ → Option Frame) (leaders : List Bool) (t : IsTyped m frames leaders) where
  abbrev events : List Event
  events = code_events w m frames leaders

  to-met : (s : PairSpot) (h : Home) → Occurs events s h → IsMetAt w m frames s h
  to-met = occurs-met w m frames leaders t.marks t.listed t.sizes t.there t.placed t.framed

  of-met : (s : PairSpot) (h : Home) → IsMetAt w m frames s h → Occurs events s h
  of-met = met-occurs w m frames leaders t.marks t.listed t.sizes t.there t.placed t.framed

  met-before : (h k : Home) → OccursBefore events h k → IsMetBefore w m frames h k
  met-before h k b = record { spot = b.spot; met = to-met b.spot h b.at; first = λ other met. b.first other (of-met other k met) }

  each-before : (h : Home) (ks : List Home) → Each (OccursBefore events h) ks → Each (IsMetBefore w m frames h) ks
  each-before h [] each = tt
  each-before h (k ∷ ks) each = (met-before h k each.0, each-before h ks each.1)

  in-order : (hs : List Home) → Ordered events hs → AreInOrder w m frames hs
  in-order [] o = tt
  in-order (h ∷ hs) o = (each-before h hs o.0, in-order hs o.1)

  pub are-homes : AreHomes w m frames (homes_found w m frames leaders)
  unfolding homes_found
  are-homes =
      let k : Kept (argument_homes m.rec) events _ = kept same events (argument_homes m.rec) (code-rising w m frames leaders t.listed) in
      let a : AreArguments m.rec = are-arguments m.rec t.whole t.topless in
      record {
        arguments = argument_homes m.rec;
        others = k.new;
        parts = k.parts;
        declared = λ h. (a.sound h, a.complete h);
        stand = a.stand;
        filled = a.filled ∙ sym t.words;
        met = λ h. (
          λ among. let o = k.met h among in ((o.0, to-met o.0 h o.1), λ argument. k.fresh h among (a.complete h argument)),
          λ found. k.all h found.0.0 (of-met found.0.0 h found.0.1) (λ among. found.1 (a.sound h among)),
        );
        order = in-order k.new k.order;
      }
