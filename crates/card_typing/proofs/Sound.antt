-- What holds of each met state.
use Rattle.std.proofs.Common.{ℕ, Bool, List, All, arith}
use Rattle.std.proofs.lemmas.List.Elements.{All-nil}
use Rattle.jc_base.specs.declared.ty.Ty.{Ty}
use Rattle.jc_base.specs.declared.ty.Ty.TheVariants.{Bottom}
use Rattle.jc_base.specs.Order.{IsKnown}
use Rattle.jc_base.specs.World.{Linked}
use Rattle.jc_control.specs.Method.{Method, IsMethodOf}
use Rattle.jc_rules.specs.declared.effect.Mode.TheVariants.{Card}
use Rattle.jc_rules.specs.Demand.{Frame}
use Rattle.jc_rules.specs.Flow.{start_frame}
use Rattle.jc_rules.specs.FlowLaws.{AreRules}
use Rattle.jc_rules.specs.Laws.{RuleRaises}
use Rattle.card_typing.specs.Met.{Arrives, IsMetAfter, met_start, met_next}
use Rattle.card_typing.specs.Laws.{IsSoundState, MetIsSound}
use Rattle.jc_rules.proofs.Sites.{site_of, at-site}
use Rattle.card_typing.proofs.Own.{start-length, start-known, start-ready}
use Rattle.jc_rules.proofs.Starts.{of_world}

-- a stack that arrives has types of the world where the given one has
arrives-known : (w : Linked) (m : Method) {b : Bool} {given : List Ty} {q : ℕ} {stack : List Ty} → Arrives w m b given q stack
    → All (IsKnown w.classes) given → All (IsKnown w.classes) stack
arrives-known w m x all = grind (arith)

module _ (w : Linked) (is : AreRules w) (raises : RuleRaises w) (m : Method) (mo : IsMethodOf w m) (marked : ℕ → Type 0) where
  start-sound : (stack : List Ty) → All (IsKnown w.classes) stack → IsSoundState w m (record { regs = (start_frame m.rec Bottom).regs; stack = stack })
  start-sound stack known = record {
    known = record {
      few = omega (arith, start-length w is.world m mo, (of_world w is.world m mo).registers);
      regs = start-known w is.world m mo;
      stack = known;
      object = is.world.chains.objects;
    };
    ready = start-ready w is.world m mo;
    raised = is.order.self (start_frame m.rec Bottom).regs;
  }

  sound : (visits q : ℕ) (met : Frame) → IsMetAfter w m marked visits q met → IsSoundState w m met
  sound _ _ _ (met_start stack a) = start-sound stack (arrives-known w m a (All-nil (IsKnown w.classes)))
  sound _ _ _ (met_next visits i q before after o stack met passed goes a) =
      let s = sound visits i.place before met in
      let k = is.keeps (site_of m i.place) i.insn Card before after o s.known (at-site w m mo passed.applies) in
      record {
        known = record {
          few = k.known.few;
          regs = k.known.regs;
          stack = arrives-known w m a k.known.stack;
          object = k.known.object;
        };
        ready = k.no_fresh s.ready;
        raised = is.order.through s.raised (raises (site_of m i.place) i.insn before after o (at-site w m mo passed.applies));
      }

pub met-is-sound : (w : Linked) → AreRules w → RuleRaises w → (m : Method) (marked : ℕ → Type 0) → IsMethodOf w m → MetIsSound w m marked
met-is-sound w is raises m marked mo place met h = sound w is raises m mo marked h.visits place met h.after
