-- The symbols of a method are those of a source whose frames are the typing's.
use Rattle.std.proofs.Common.{◌≡◌, ◌<◌, ◌≤◌, ◌^◌, ℕ, List, length, All, Option, Some, None, refl, sym, ap, subst, arith}
use Rattle.std.specs.Prelude.{is_some, IsSomeAnd}
use Rattle.std.proofs.lemmas.List.{length-reverse}
use Rattle.jc_base.specs.Linked.{IsMethod}
use Rattle.jc_base.specs.World.{Linked}
use Rattle.jc_decode.specs.declared.symbols.Symbols.{Symbols}
use Rattle.cap_bytes.specs.Bytes.{AreBytes}
use Rattle.jc_decode.specs.Laws.{AreListed}
use Rattle.jc_decode.specs.Symbols.{IsItem, IsRange, plain_size}
use Rattle.jc_control.specs.ControlFlow.{Marked, IsControlFlow}
use Rattle.jc_control.specs.Laws.{ArePlaced}
use Rattle.jc_control.specs.Method.{Method, IsMethodOf}
use Rattle.jc_flow.specs.Infer.{AreDerived}
use Rattle.jc_rules.specs.Demand.{Frame}
use Rattle.jc_rules.specs.Flow.{At, IsFit}
use Rattle.jc_rules.specs.Typing.{state_at}
use Rattle.xf_homes.specs.declared.home.Home.{Home}
use Rattle.xf_homes.specs.Answer.{IsTypingOf}
use Rattle.xf_homes.specs.Order.{AreHomes, register_sum}
use Rattle.xf_homes.proofs.Answered.{is-typed, code-short}
use Rattle.xf_homes.specs.Plan.{stack_of}
use Rattle.xf_emission.specs.Emission.{rewritten}
use Rattle.xf_emission.specs.Laws.{IsCode, HasFrames, ItemsSuit, LiveAreKept, PlainSizeFits, RangesStand}
use Rattle.xf_emission.specs.Live.{KeepsLive}
use Rattle.law_groups.specs.Matching.{MatchesFrames, MatchesMethod, RewrittenMatches}
use Rattle.law_rewritten_typing.specs.Laws.{RewrittenIsTyped}
use Rattle.law_rewritten_typing.specs.Planned.{IsPlanned}
use Rattle.law_rewritten_typing.specs.Typed.{HasTypingByHomes}

module _ (w : Linked) (m : Method) (typing : List (Option Frame)) (control : Marked) (homes : List Home) (typed : IsTypingOf w m typing)
    (flow : IsControlFlow m control) (placed : ArePlaced m) (listed : AreListed m.code) (mo : IsMethodOf w m)
    (method : IsMethod w.infos w.pools w.classes m.rec) (bytes : AreBytes m.code) where
  pub is-code : IsCode (record { world = w; method = m; frames = state_at typing; leaders = control.leaders; homes = homes })
  is-code = record { bytes = bytes; lists = listed.lists; short = code-short w m mo method; few = method.few_handlers }

  pub has-frames : HasFrames (record { world = w; method = m; frames = state_at typing; leaders = control.leaders; homes = homes })
  has-frames = grind (arith, is-typed w m typing typed control flow placed listed mo method)

  shallow : m.rec.max_stack ≤ 255 → (p : ℕ) → length (stack_of (state_at typing p)) ≤ 255
  shallow room p = by (state_at typing p) refl
    where
      by : (f : Option Frame) → state_at typing p ≡ f → length (stack_of f) ≤ 255
      by None at = omega arith
      by (Some f) at =
          let fit : At (state_at typing) p (IsFit m) = typed.least.typing.fit p ((typed.reached p).0 (ap is_some at)) in
          let own : IsFit m f = subst (λ (o : Option Frame). IsSomeAnd o (IsFit m)) at fit in
          omega (arith, own.room, room, length-reverse f.stack)

  module _ (symbols : Symbols)
      (e : symbols ≡ rewritten (record { world = w; method = m; frames = state_at typing; leaders = control.leaders; homes = homes })) where
    pub live-by : LiveAreKept → KeepsLive m m.rec.handlers symbols.ranges
    unfolding rewritten
    live-by law = subst (λ (y : Symbols). KeepsLive m m.rec.handlers y.ranges) (sym e) (law _ has-frames)

    pub ranged-by : RangesStand → All (IsRange symbols.items) symbols.ranges
    unfolding rewritten
    ranged-by law = subst (λ (y : Symbols). All (IsRange y.items) y.ranges) (sym e) (law _ is-code has-frames)

    pub items-by : ItemsSuit w → register_sum homes ≤ 255 → All (IsItem m.code symbols.items) symbols.items
    unfolding rewritten
    items-by law few = subst (λ (y : Symbols). All (IsItem m.code y.items) y.items) (sym e) (law _ refl is-code has-frames few)

    pub small-by : PlainSizeFits w → AreHomes w m (state_at typing) homes → register_sum homes ≤ 255 → m.rec.max_stack ≤ 255
        → plain_size symbols.items < 2 ^ 32
    unfolding rewritten
    small-by law are few room = subst (λ (y : Symbols). plain_size y.items < 2 ^ 32) (sym e) (law _ refl is-code has-frames are few (λ p. shallow room p))

    pub typed-by : RewrittenIsTyped w → AreDerived w m typing → AreHomes w m (state_at typing) homes → register_sum homes ≤ 255
        → HasTypingByHomes w m homes symbols
    typed-by law derived are few = subst (HasTypingByHomes w m homes) (sym e) (law _ refl is-code has-frames mo typed.least.typing derived flow.leaders are few)

  pub is-planned :
      AreDerived w m typing → AreHomes w m (state_at typing) homes → register_sum homes ≤ 255
      → IsPlanned (record { world = w; method = m; frames = state_at typing; leaders = control.leaders; homes = homes })
  is-planned derived are few = grind (arith, is-code, has-frames)

  pub matches-by :
      RewrittenMatches w → AreDerived w m typing → AreHomes w m (state_at typing) homes → register_sum homes ≤ 255 → m.rec.max_stack < 255
      → (symbols : Symbols) → symbols ≡ rewritten (record { world = w; method = m; frames = state_at typing; leaders = control.leaders; homes = homes })
      → MatchesMethod w m (state_at typing) homes symbols
  matches-by law derived are few room symbols e =
      record {
        leaders = control.leaders;
        marked = flow.leaders;
        matches = subst (MatchesFrames (record { world = w; method = m; frames = state_at typing; leaders = control.leaders; homes = homes })) (sym e)
            (law _ refl (is-planned derived are few) room);
      }
