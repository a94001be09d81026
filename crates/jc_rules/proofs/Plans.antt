-- What is planned suits the frame, and is what the rule says.
use Rattle.std.proofs.Common.{◌≡◌, ℕ, ◌+◌, ◌<◌, ◌≤◌, List, length, Option, Some, None, IsSomeAnd, slice_get, All, refl, sym}
use Rattle.std.proofs.Common.{subst, arith}
use Rattle.std.proofs.lemmas.Option.{slice_get_within}
use Rattle.jc_base.proofs.Lists.{All-slice_get}
use Rattle.jc_base.specs.declared.ty.Ty.{Ty}
use Rattle.jc_base.specs.declared.record.MethodRec.{MethodRec}
use Rattle.jc_base.specs.Order.{IsKnown}
use Rattle.jc_base.specs.Linked.{IsMethod}
use Rattle.jc_base.specs.World.{Linked, IsWorld}
use Rattle.jc_ops.specs.declared.operation.Operation.{Operation}
use Rattle.jc_ops.specs.declared.operation.Site.{Site}
use Rattle.jc_ops.specs.Sound.{IsSound}
use Rattle.jc_rules.specs.declared.effect.Effect.{Effect}
use Rattle.jc_rules.specs.declared.effect.Mode.{Mode}
use Rattle.jc_rules.specs.declared.rule.Outcome.{Outcome}
use Rattle.jc_rules.specs.Stack.{cells}
use Rattle.jc_rules.specs.Effect.{changed, depth_after, StoresInRegisters, raises_register}
use Rattle.jc_rules.specs.Demand.{Frame, SatisfiesAll, AreKnown}
use Rattle.jc_ops.specs.Next.{falls_from, ends_at}
use Rattle.jc_rules.specs.Rule.{demands, effect, wrote}
use Rattle.jc_rules.specs.Known.{IsKnownOperation}
use Rattle.jc_rules.specs.Apply.{frame_of, HasDeclaredLengths, IsPlan, OperationApplies}
use Rattle.jc_rules.proofs.Effects.{Suits, suits, sound-known, length-changed}

-- the stack would pass the limit
pub plan-full : (w : Linked) (is : IsWorld w) (f : Frame) (k : AreKnown w.classes f) (op : Operation) (e : Effect) (limit : ℕ) →
    IsKnownOperation w op → SatisfiesAll w.classes f (demands w op) → e ≡ effect w op f → limit < depth_after e.change (length f.stack)
    → limit < length (changed (effect w op f).change f.stack)
plan-full w is f k op e limit known all is_effect more = grind (arith, length-changed)

pub plan-suits : (w : Linked) (is : IsWorld w) (f : Frame) (k : AreKnown w.classes f) (limit : ℕ) (op : Operation) (e : Effect) → IsKnownOperation w op
    → IsPlan w limit op f e → Suits w.classes f e
plan-suits w is f k limit op e known p = subst (Suits w.classes f) (sym p.effect_is) (suits w is f k op known p.asked)

-- the lengths that a method declares
module _ (w : Linked) (is : IsWorld w) (n : ℕ) (regs slice : List Ty) (depth : ℕ) where
  few_at : (o : Option MethodRec) → ((m : MethodRec) → o ≡ Some m → IsMethod w.infos w.pools w.classes m)
      → IsSomeAnd o (λ m. HasDeclaredLengths m regs slice depth) → length regs ≤ 255
  few_at None all h = absurd h
  few_at (Some m) all h =
      let most : m.nargs + m.max_locals ≤ 255 = (all m refl).registers in let same : length regs ≡ m.nargs + m.max_locals = h.registers in omega arith

  pub room-few : IsSomeAnd (slice_get w.methods n) (λ m. HasDeclaredLengths m regs slice depth) → length regs ≤ 255
  room-few h = few_at (slice_get w.methods n) (λ m e. All-slice_get (IsMethod w.infos w.pools w.classes) w.methods n m is.methods e) h

  pub room-known : IsSomeAnd (slice_get w.methods n) (λ m. HasDeclaredLengths m regs slice depth) → All (IsKnown w.classes) regs
      → All (IsKnown w.classes) (cells slice depth) → AreKnown w.classes (frame_of regs slice depth)
  room-known h r s = record { few = room-few h; regs = r; stack = s; object = is.roles.objects }

in_list : (w : Linked) (n : ℕ) (P : MethodRec → Type 0) (o : Option MethodRec) → slice_get w.methods n ≡ o → IsSomeAnd o P → n < length w.methods
in_list w n z u e h = grind (arith, slice_get_within)

pub method-inside : (w : Linked) (n : ℕ) (P : MethodRec → Type 0) → IsSomeAnd (slice_get w.methods n) P → n < length w.methods
method-inside w n P h = in_list w n P (slice_get w.methods n) refl h

-- what the method's record says
pub method-room : (w : Linked) (n : ℕ) (m : MethodRec) (P : MethodRec → Type 0) → slice_get w.methods n ≡ Some m
    → IsSomeAnd (slice_get w.methods n) P → P m
method-room w n m P e h = subst (λ o. IsSomeAnd o P) e h

-- the operation of a site is known
pub site-known : (w : Linked) (place n : ℕ) (op : Operation) → IsSomeAnd (slice_get w.methods n) (λ m. IsSound w m place op) → IsKnownOperation w op
site-known w place n op h = at (slice_get w.methods n) h
  where
    at : (o : Option MethodRec) → IsSomeAnd o (λ m. IsSound w m place op) → IsKnownOperation w op
    at None k = absurd k
    at (Some m) k = sound-known w m place op k

-- what is planned for an operation of a site suits the frame
pub planned-suits : (w : Linked) (is : IsWorld w) (site : Site) (op : Operation) (regs slice : List Ty) (depth limit : ℕ) (e : Effect) →
    IsSomeAnd (slice_get w.methods site.method) (λ m. HasDeclaredLengths m regs slice depth) → All (IsKnown w.classes) regs
    → All (IsKnown w.classes) (cells slice depth) →
    IsSomeAnd (slice_get w.methods site.method) (λ m. IsSound w m site.place op) → IsPlan w limit op (frame_of regs slice depth) e
    → Suits w.classes (frame_of regs slice depth) e
planned-suits w is site op regs slice depth limit e room r s sound p =
    plan-suits w is (frame_of regs slice depth) (room-known w is site.method regs slice depth room r s) limit op e
    (site-known w site.place site.method op sound) p

-- the plan is carried out
pub plan-applies : (w : Linked) (is : IsWorld w) (limit : ℕ) (op : Operation) (mode : Mode) (before after : Frame) (e : Effect) (o : Outcome)
    (k : AreKnown w.classes before) → IsKnownOperation w op → IsPlan w limit op before e →
    StoresInRegisters w.classes mode e.store before.regs after.regs → after.stack ≡ changed e.change before.stack →
    o.falls ≡ falls_from op → o.ends ≡ ends_at op → o.depth ≡ length after.stack → o.wrote ≡ wrote e.store.register e.store.cells
    → o.rose ≡ raises_register w.classes mode e.store before.regs →
    OperationApplies w limit op mode before after o
plan-applies w is limit op mode before after e o k known p regs stack falls ends depth wrote_is rose_is =
    grind (arith, length-changed e.change before.stack (plan-suits w is before k limit op e known p).there)
