-- What is answered for a method of the world.
use Rattle.std.proofs.Common.{◌≡◌, ℕ, ◌+◌, ◌<◌, ◌≤◌, inl, inr, List, length, Option, Some, IsSome}
use Rattle.std.proofs.Common.{IsSomeAnd, IfSome, Result, IfOk, IfErr, sym, subst, arith, length-take}
use Rattle.std.specs.Prelude.{pos}
use Rattle.std.proofs.lemmas.List.Elements.{All-contains}
use Rattle.jc_base.specs.declared.ty.Ty.TheVariants.{Top}
use Rattle.jc_base.specs.Laws.{SameTypeDecides}
use Rattle.jc_base.specs.Linked.{IsMethod}
use Rattle.jc_base.specs.World.{Linked}
use Rattle.jc_base.proofs.CodeLengths.{length-short}
use Rattle.jc_decode.specs.declared.insn.Placed.{Placed}
use Rattle.jc_decode.specs.Listing.{targets}
use Rattle.jc_control.specs.Method.{Method, IsMethodOf}
use Rattle.jc_control.specs.WellFormed.{IsPlace, IsBoundary, IsTargetPlace, IsHandlerOf, HasInstruction}
use Rattle.jc_control.specs.Control.{IsSuccessor, IsReached, begins, follows, caught, falls_through, jumped}
use Rattle.jc_control.specs.ControlFlow.{Marked, IsControlFlow, TellsFlaw}
use Rattle.jc_control.specs.declared.control.Flaw.{Flaw}
use Rattle.jc_control.specs.declared.control.ControlEnd.{ControlEnd}
use Rattle.jc_control.specs.declared.control.ControlEnd.TheVariants.{Flawed}
use Rattle.jc_decode.specs.Laws.{AreListed}
use Rattle.jc_control.specs.Laws.{FlawsDecide, ArePlaced}
use Rattle.jc_rules.specs.Demand.{Frame}
use Rattle.jc_rules.specs.Flow.{FlowTyping}
use Rattle.jc_rules.specs.Typing.{state_at}
use Rattle.jc_rules.proofs.Types.{declared-not_top}
use Rattle.xf_homes.specs.declared.home.Home.{Home}
use Rattle.xf_homes.specs.declared.finding.HomeEnd.{HomeEnd}
use Rattle.xf_homes.specs.Order.{AreHomes}
use Rattle.xf_homes.specs.Walk.{argument_homes, code_events, with_events}
use Rattle.xf_homes.specs.Answer.{IsTypingOf, IsCounted, TellsHomes}
use Rattle.xf_homes.proofs.AllHomes.{IsTyped, are-homes, homes_found}

-- ---- a method with a typing has no flaw

pub flaw-never : FlawsDecide → (w : Linked) (typing : List (Option Frame)) (o : Option Method) (end : ControlEnd) (f : Flaw) → end ≡ Flawed f
    → IsSomeAnd o (λ m. IsTypingOf w m typing) → IsSomeAnd o (λ m. TellsFlaw m end) → ⊥
flaw-never decide w typing x end f e typed flaw = grind (arith)

-- ---- reached places

module _ (w : Linked) (m : Method) (frames : ℕ → Option Frame) (ty : FlowTyping w m Top frames) (placed : ArePlaced m) (filled : 0 < length m.code) where
  next-placed : (i : Placed) {q : ℕ} → HasInstruction m.code i → IsReached m i.place → IsSuccessor m.code i q → IsPlace m.code q
  next-placed i st r (falls_through on) = by (placed.next i st)
    where
      by : IsBoundary m.code (i.place + i.insn.len) → IsPlace m.code (i.place + i.insn.len)
      by (inl end) = absurd (omega (arith, ty.stays i st r on, end))
      by (inr place) = place
  next-placed i {q} st r (jumped c) = All-contains (IsTargetPlace m.code) (targets m.code i) (pos q) (ty.formed.targets i st) c

  reached-placed : {p : ℕ} → IsReached m p → IsPlace m.code p
  reached-placed begins = placed.first filled
  reached-placed (follows {i = i} {q = q} st r to) = next-placed i st r to
  reached-placed (caught {h = h} {p = p} r c cov) = (All-contains (IsHandlerOf m.code) m.rec.handlers h ty.formed.handlers c).entry

is-there : {X : Type 0} (o : Option X) → IsSome o → (x : X) × (o ≡ Some x)
is-there x h = grind (arith)

some-fact : {X : Type 0} (P : X → Type 0) (o : Option X) (x : X) → o ≡ Some x → IfSome o P → P x
some-fact P o x e h = subst (λ r. IfSome r P) e h

module _ (w : Linked) (m : Method) (typing : List (Option Frame)) (typed : IsTypingOf w m typing) (control : Marked) (flow : IsControlFlow m control)
    (placed : ArePlaced m) (listed : AreListed m.code)
    (mo : IsMethodOf w m) (method : IsMethod w.infos w.pools w.classes m.rec) where
  pub is-typed : IsTyped m (state_at typing) control.leaders
  is-typed = grind (arith, some-fact, length, reached-placed, is-there, declared-not_top)

  module _ (same : SameTypeDecides) (found : List Home)
      (is : found ≡ with_events (argument_homes m.rec) (code_events w m (state_at typing) control.leaders)) where
    found-homes : AreHomes w m (state_at typing) found
    unfolding homes_found
    found-homes = subst (AreHomes w m (state_at typing)) (sym is) (are-homes same w m (state_at typing) control.leaders is-typed)

    pub answered-homes : (r : Result (List Home) HomeEnd) → IfOk r (λ homes. homes ≡ found) → IfOk r (AreHomes w m (state_at typing))
    answered-homes x e = grind (arith, found-homes)

    pub answered-end : {X : Type 0} (r : Result X HomeEnd) → IfErr r (IsCounted found) → IfErr r (TellsHomes w m (state_at typing))
    answered-end x h = grind (arith, found-homes)

pub code-short : (w : Linked) (m : Method) → IsMethodOf w m → IsMethod w.infos w.pools w.classes m.rec → length m.code ≤ 32767
code-short w m mo method = grind (arith, length-short, length, length-take)
