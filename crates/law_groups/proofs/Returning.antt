-- After a call, and where it ends.
use Rattle.std.proofs.Common.{◌≡◌, ℕ, ◌+◌, true, List, [], ◌∷◌, refl, sym, ap, ◌∙◌}
use Rattle.std.proofs.Common.{arith}
use Rattle.std.specs.Prelude.{Some, is_some, slice_get}
use Rattle.std.proofs.lemmas.Bool.{false≢true}
use Rattle.jc_base.specs.World.{Linked}
use Rattle.jc_base.proofs.Eaching.{Each-weaker}
use Rattle.jc_decode.specs.declared.insn.Placed.{Placed}
use Rattle.jc_decode.specs.declared.symbols.Item.TheVariants.{Plain}
use Rattle.jc_decode.specs.Symbols.{Step}
use Rattle.jc_control.specs.WellFormed.{IsPlace}
use Rattle.jc_ops.specs.declared.operation.Callee.{Callee}
use Rattle.jc_ops.specs.declared.operation.Operation.TheVariants.{Call}
use Rattle.vm_store.specs.declared.cell.Cell.{Cell}
use Rattle.vm_store.specs.State.{State, IsRunning, top}
use Rattle.vm_step.specs.Methods.{code_at, instruction_at}
use Rattle.vm_step.specs.Settled.{return_place}
use Rattle.vm_step.specs.Raising.{running}
use Rattle.xf_homes.specs.Source.{Source}
use Rattle.xf_homes.specs.Plan.{needed}
use Rattle.xf_emission.specs.Group.{body}
use Rattle.law_homes.specs.Held.{HoldsValue}
use Rattle.law_homes.proofs.Standing.{steps-stand-at-places}
use Rattle.law_groups.specs.Laid.{IsLaidIn, body_at, count_of, steps_of}
use Rattle.law_groups.specs.Beside.{AreEqualBut, IsTypedAt}
use Rattle.law_groups.specs.Comes.{ComesToGroup, ComesWithin}
use Rattle.law_groups.specs.Laws.{CallsEnd, IsAfterCall}
use Rattle.law_groups.specs.Moves.{MovesRun}
use Rattle.law_groups.proofs.Arriving.{falls-arrive}
use Rattle.law_groups.proofs.Context.{reached-some, steps-are}
use Rattle.law_groups.proofs.Following.{next-place, steps-here}
use Rattle.law_groups.proofs.OneGroup.{fallen-plain}
use Rattle.law_groups.proofs.Plain.{frames-are}
use Rattle.law_groups.proofs.Standing.{stand-as, step-at}

-- a call is kept
pub call-kept : (s : Source) (i : Placed) (c : Callee) → body s i (Call c) ≡ Plain i.insn ∷ []
unfolding body
call-kept s i c = refl

pub calls-end : (v : Linked) → CallsEnd v
calls-end v w s place laid f g reached under =
    let i = under.within.instruction in
    let op = Call under.callee in
    let some : is_some (s.frames i.place) ≡ true =
    ap (λ p. is_some (s.frames p)) under.within.there ∙ reached-some laid f.place reached in
    let own = steps-here laid i op under.within.stands some under.calls in
    let n : ℕ = body_at s i.place in
    let step : Step = record { insn = i.insn; targets = []; keys = [] } in
    let found : slice_get (steps_of s) n ≡ Some step =
    step-at s n (Plain i.insn) [] step []
    (stand-as s n (body s i op) (Plain i.insn ∷ []) (call-kept s i under.callee) own.body_steps) refl in
    let same : body_at s f.place ≡ n = ap (body_at s) (sym under.within.there) in
    let method : g.method ≡ s.method.number = under.within.of.target in
    let code : List ℕ = code_at w s.method.number in
    let here = steps-stand-at-places code place (steps_of s) n step (steps-are laid) found in
    let at : g.place ≡ place n = under.within.at ∙ ap place (under.first ∙ same) in
    let next : return_place (instruction_at code g.place) ≡ place (n + 1) =
    ap (λ p. return_place (instruction_at code p)) at ∙ (ap return_place here.found ∙ here.ends) in
    let there : IsPlace code (place (n + 1)) =
    next-place laid i op under.within.stands some under.calls
    (ap count_of (call-kept s i under.callee)) refl in
    record {
      next = grind (arith);
      there = grind (arith);
    }

module _ {v w : Linked} {s : Source} {place : ℕ → ℕ} (laid : IsLaidIn v w s place) (moving : MovesRun v) where
  pub call-returns :
      (z t : State Cell) (i : Placed)
      → IsTypedAt v s z
      → AreEqualBut z t
      → IsAfterCall s place i (top z) (top t)
      → ComesWithin w 0 1000 t (ComesToGroup s place z t)
  call-returns z t i typed equal after =
      let op = Call after.callee in
      let some : is_some (s.frames i.place) ≡ true = reached-some laid i.place after.reached in
      let kept : count_of (body s i op) ≡ 1 = ap count_of (call-kept s i after.callee) in
      let frames = equal.frames in
      let runs = typed.runs in
      let going : IsRunning t = omega (arith, frames, runs) in
      let a = falls-arrive laid moving i op z t z t after.stands some
      after.calls refl
      (record {
        first = record { frames = frames-are z typed.runs };
        second = record { frames = frames-are t going };
        equal = equal;
        of = after.of;
        stack = after.stack;
        holds = record {
          stored = λ x e. absurd (false≢true e);
          others = λ x.
              Each-weaker (HoldsValue s (top z).registers (top t)) _ (λ h held free. held) (needed s i.place x) (after.locals x);
        };
      }) typed after.next (after.at ∙ ap (λ k. place (body_at s i.place + k)) (sym kept))
      (fallen-plain s i op refl refl) in
      let few = a.few in
      record {
        count = a.count;
        more = omega arith;
        fewer = omega (arith, few);
        outcome = running a.state;
        runs = a.runs;
        comes = record { state = a.state; is = refl; are = a.are };
      }
