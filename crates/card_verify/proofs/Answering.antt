-- What the verifier answers.
use Rattle.std.proofs.Common.{◌≡◌, ◌↔◌, ⊎_elim, ℕ, ◌+◌, List, IsSomeAnd}
use Rattle.std.proofs.Common.{IfErr, OnOk, OnErr, Option, Some, option_map, Result, Ok, Err, slice_get, sym, ap, subst, arith}
use Rattle.std.proofs.lemmas.Bool.{cases_lt}
use Rattle.std.proofs.lemmas.Option.{same_Some}
use Rattle.jc_base.specs.declared.ty.Ty.{Ty}
use Rattle.jc_base.specs.declared.ty.Ty.TheVariants.{Bottom}
use Rattle.jc_base.specs.declared.record.MethodRec.{MethodRec}
use Rattle.jc_base.specs.World.{Linked}
use Rattle.jc_control.specs.Method.{Method, IsMethodOf, method_in, method_with}
use Rattle.jc_control.specs.WellFormed.{IsPlace, IsWellFormed}
use Rattle.jc_control.specs.Laws.{InstructionsArePlaced}
use Rattle.jc_decode.specs.Laws.{InstructionsAreListed}
use Rattle.jc_rules.specs.Laws.{RuleRaises, RuleRests}
use Rattle.jc_rules.specs.FlowLaws.{AreRules}
use Rattle.jc_rules.specs.Apply.{frame_of}
use Rattle.jc_rules.specs.Flow.{start_frame, HasFlowTyping}
use Rattle.card_typing.specs.declared.fault.CardFault.{CardFault}
use Rattle.card_typing.specs.Typing.{HasCardTyping, IsLeastOver, IsLeastCardTyping}
use Rattle.card_typing.specs.Place.{IsTarget}
use Rattle.card_typing.specs.Met.{IsMetAfter, met_start}
use Rattle.card_typing.specs.Refusal.{IsFlawKind, IsRefused, refused_flaw, refused_state}
use Rattle.card_typing.specs.Laws.{CardIsFlow, RefusalDenies, FlawsAreTold, MetIsBelow}
use Rattle.card_verify.specs.declared.verify.Verifier.{Verifier}
use Rattle.card_verify.specs.Answers.{IsAcceptedAt, AreAcceptedBefore, TellsFlaw}
use Rattle.card_typing.proofs.Quiet.{quiet-is-least}
use Rattle.card_typing.proofs.Sound.{met-is-sound}
use Rattle.card_verify.specs.Counted.{AreCountedUpTo}
use Rattle.card_verify.specs.Verifier.{method, world_of}
use Rattle.card_verify.specs.Walk.{HasSlices, CanBeginPass, IsFinished}

-- ---- a well-formed method

pub begun-start : (v : Verifier) (marked : ℕ → Type 0) (regs stack : List Ty) → regs ≡ (start_frame v.subject.rec.now Bottom).regs
    → HasSlices v regs stack → CanBeginPass v marked 0 regs stack
begun-start v marked regs stack e slices = record {
  met = λ given a. subst (λ (xs : List Ty). IsMetAfter (world_of v) (method v) marked 0 0 (record { regs = xs; stack = given })) (sym e) (met_start given a);
  slices = slices;
}

pub least-of :
    (v : Verifier) (marked : ℕ → Type 0) → AreRules (world_of v) → RuleRaises (world_of v) → RuleRests (world_of v) → InstructionsArePlaced
    → InstructionsAreListed
    → IsMethodOf (world_of v) (method v)
    → IsWellFormed (method v)
    → ((q : ℕ) → IsTarget (method v) q → marked q)
    → ((q : ℕ) → marked q → IsPlace (method v).code q)
    → MetIsBelow (world_of v) (method v) (IsTarget (method v))
    → (regs : List Ty)
    → IsFinished v marked regs
    → IsLeastOver (world_of v) (method v) marked regs
least-of v marked rules raises rests placed ordered known formed among inside below regs f =
    quiet-is-least (world_of v) rests placed ordered (method v) marked known among (λ formed. inside)
    (met-is-sound (world_of v) rules raises (method v) marked known) below regs formed f.met f.quiet

pub on-ok : {A B : Type 0} (P Q : Type 0) (r : Result A B) → (P → Q) → OnOk r P → OnOk r Q
on-ok x x2 x22 f p = grind (arith)

-- a refusal of the types
pub refused-of-counted :
    (v : Verifier) (regs stack : List Ty) (before after : ℕ) → IsWellFormed (method v) → (r : Result (Unit {0}) CardFault)
    → IfErr r (λ (fault : CardFault). AreCountedUpTo (world_of v) (method v) (IsTarget (method v)) fault (frame_of regs stack fault.depth) 0 before after)
    → IfErr r (λ (fault : CardFault). IsRefused (world_of v) (method v) fault (frame_of regs stack fault.depth))
refused-of-counted v regs stack before after formed (Ok t) h = tt
refused-of-counted v regs stack before after formed (Err fault) h =
    refused_state fault (frame_of regs stack fault.depth) formed (record { visits = h.visits; after = h.refused })

module _ (v : Verifier) where
  -- ---- what follows of a refusal

  has-typing : (regs : List Ty) → IsLeastCardTyping (world_of v) (method v) regs → HasCardTyping (world_of v) (method v)
  has-typing regs least = record { regs = regs; stacks = least.stacks; typing = least.typing }

  pub flow-of : (r : Result (Unit {0}) CardFault) (regs : List Ty) → CardIsFlow (world_of v) → IsMethodOf (world_of v) (method v)
      → OnOk r (IsLeastCardTyping (world_of v) (method v) regs) → OnOk r (HasFlowTyping (world_of v) (method v) Bottom)
  flow-of r regs flow known h = grind (arith, on-ok, has-typing)

  module _ (regs stack : List Ty) (known : IsMethodOf (world_of v) (method v)) where
    abbrev Refused : Result (Unit {0}) CardFault → Type 0
    Refused r = IfErr r (λ (fault : CardFault). IsRefused (world_of v) (method v) fault (frame_of regs stack fault.depth))

    pub none-of : (r : Result (Unit {0}) CardFault) → RefusalDenies (world_of v) → Refused r → OnErr r (¬ (HasCardTyping (world_of v) (method v)))
    none-of x denies h = grind (arith)

    pub told-of : (r : Result (Unit {0}) CardFault) → FlawsAreTold (world_of v) → Refused r
        → IfErr r (λ (fault : CardFault). IsFlawKind fault.kind ↔ ¬ (IsWellFormed (method v)))
    told-of x told h = grind (arith)

    -- where the method is well formed no flaw is told
    pub kept-of : (r : Result (Unit {0}) CardFault) (P : Type 0) → FlawsAreTold (world_of v) → IsWellFormed (method v) → Refused r
        → IfErr r (λ (fault : CardFault). IsFlawKind fault.kind → P)
    kept-of x x2 told formed h = grind (arith)

    pub refused-flaw : (fault : CardFault) → TellsFlaw (method v) fault → IsRefused (world_of v) (method v) fault (frame_of regs stack fault.depth)
    refused-flaw fault t =
        subst (λ (f : CardFault). IsRefused (world_of v) (method v) f (frame_of regs stack fault.depth)) (sym t.2)
        (refused_flaw t.0 (frame_of regs stack fault.depth) t.1)

-- ---- the methods of a world

pub on-method : (w : Linked) (n : ℕ) (rec : MethodRec) (P : Method → Type 0) → slice_get w.methods n ≡ Some rec → IsSomeAnd (method_in w n) P
    → P (method_with w n rec)
on-method w n rec P here h = subst (λ (o : Option Method). IsSomeAnd o P) (ap (option_map (method_with w n)) here) h

pub accepted-bare : (w : Linked) (n : ℕ) (rec : MethodRec) → slice_get w.methods n ≡ Some rec → rec.code_len ≡ 0 → IsAcceptedAt w n
accepted-bare w n rec here none other is code = grind (arith, same_Some)

pub accepted-more : (w : Linked) (n : ℕ) → AreAcceptedBefore w n → IsAcceptedAt w n → AreAcceptedBefore w (n + 1)
accepted-more w n before here k lt = ⊎_elim (λ lower. before k lower) (λ le. subst (IsAcceptedAt w) (omega (arith, le, lt)) here) (cases_lt k n)
