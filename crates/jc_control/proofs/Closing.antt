-- What a traversal has found when nothing is pending is what control reaches.
use Rattle.std.proofs.Common.{◌≡◌, ◌<◌, ◌≤◌, ◌+◌, ◌⊎◌, inr, ⊎_elim, ℕ, Bool, false, Ok, Err, List, []}
use Rattle.std.proofs.Common.{length, refl, sym, ap, ◌∙◌, subst, arith, Contains, All, IsTrue}
use Rattle.std.specs.Prelude.{pos, replicate}
use Rattle.std.proofs.lemmas.Bool.{false≢true}
use Rattle.std.proofs.lemmas.List.{length-replicate}
use Rattle.std.proofs.lemmas.List.Elements.{All-contains}
use Rattle.jc_base.specs.declared.record.Handler.{Handler}
use Rattle.jc_decode.specs.declared.insn.Placed.{Placed}
use Rattle.jc_decode.specs.declared.insn.CodeEnd.{CodeEnd}
use Rattle.jc_decode.specs.Decoding.{decoded}
use Rattle.jc_decode.specs.Listing.{listing, listing_end, falls, targets}
use Rattle.jc_decode.specs.Laws.{AreListed, InstructionsAreListed}
use Rattle.jc_decode.proofs.Decoded.{ok-same}
use Rattle.jc_decode.proofs.Elements.{nothing-in}
use Rattle.jc_decode.proofs.InstructionLists.{next-in, first-in}
use Rattle.jc_control.specs.Method.{Method}
use Rattle.jc_control.specs.WellFormed.{HasInstruction, IsPlace, IsTargetPlace, IsBoundary, IsHandlerOf, IsWellFormed}
use Rattle.jc_control.specs.Control.{IsSuccessor, falls_through, jumped, Covers, IsReached, begins, follows, caught, IsLeader, led_to, entered}
use Rattle.jc_control.specs.declared.traversal.Traversal.{Traversal}
use Rattle.jc_control.specs.Flags.{IsFlagged}
use Rattle.jc_control.specs.Listing.{Listed, IsListingOf}
use Rattle.jc_control.specs.Traversal.{Grows, IsSoundTraversal, IsLedTo, IsCaught, IsClosedAt, IsClosed, IsDone, found}
use Rattle.jc_control.specs.ControlFlow.{IsControlFlow}
use Rattle.jc_control.specs.Laws.{InstructionsArePlaced}
use Rattle.jc_control.proofs.Marked.{flag-none}

-- ---- control reaches instructions, and at most the end

module _ (m : Method) (law : AreListed m.code) (w : IsWellFormed m) where
  at-end : (p : ℕ) → (p ≡ listing_end m.code) ⊎ IsPlace m.code p → IsBoundary m.code p
  at-end p x = grind (arith)

  target-boundary : (i : Placed) (q : ℕ) → HasInstruction m.code i → IsSuccessor m.code i q → IsBoundary m.code q
  target-boundary i _ there (falls_through goes) = at-end (i.place + i.insn.len) (next-in (decoded m.code) 0 (listing m.code) i law.lists there)
  target-boundary i q there (jumped among) = inr (All-contains (IsTargetPlace m.code) (targets m.code i) (pos q) (w.targets i there) among)

  next-boundary : (i : Placed) → HasInstruction m.code i → IsBoundary m.code (i.place + i.insn.len)
  next-boundary i there = at-end (i.place + i.insn.len) (next-in (decoded m.code) 0 (listing m.code) i law.lists there)

  -- and one begins at place 0
  pub place-first : 0 < length m.code → IsPlace m.code 0
  place-first filled = ⊎_elim (λ end. absurd (omega (arith, end))) (λ place. place) (at-end 0 (first-in (decoded m.code) 0 (listing m.code) law.lists))

  reached-boundary : (p : ℕ) → IsReached m p → IsBoundary m.code p
  reached-boundary _ begins = at-end 0 (first-in (decoded m.code) 0 (listing m.code) law.lists)
  reached-boundary _ (follows {i = i} {q = q} there r succ) = target-boundary i q there succ
  reached-boundary _ (caught {h = h} r there covers) = inr ((All-contains (IsHandlerOf m.code) m.rec.handlers h w.handlers there).entry)

  -- an instruction that is decoded at a reached place stands there
  pub stands-reached : (i : Placed) → IsReached m i.place → decoded m.code i.place ≡ Ok i.insn → HasInstruction m.code i
  stands-reached i r d = ⊎_elim at_end at_place (reached-boundary i.place r)
    where
      at_end : i.place ≡ length m.code → HasInstruction m.code i
      at_end end = absurd (omega (arith, law.long i.place i.insn d, law.reaches i.place i.insn d))

      at_place : IsPlace m.code i.place → HasInstruction m.code i
      at_place here = grind (arith, ok-same)

  -- nothing follows the end
  pub closed-at-end : (s : Traversal) (p : ℕ) (e : CodeEnd) → IsReached m p → decoded m.code p ≡ Err e → IsClosedAt m s p
  closed-at-end s p e r d = record {
    follows = λ i q there here succ. absurd (none i there here);
    leads = λ i q there here target. absurd (none i there here);
    catches = λ h there covers. absurd (uncovered h there covers);
  }
    where
      none : (i : Placed) → HasInstruction m.code i → i.place ≡ p → ⊥
      none i there here = let found = law.decodes i there in let other : decoded m.code i.place ≡ Err e = ap (decoded m.code) here ∙ d in cc

      inside : (h : Handler) → IsHandlerOf m.code h → h.end ≤ length m.code
      inside h f = ⊎_elim (λ end. omega arith) (λ place. let within = law.inside place.0 place.1 in omega (arith, within, place.2)) f.end

      uncovered : (h : Handler) → Contains m.rec.handlers h → Covers h p → ⊥
      uncovered h there covers =
          let formed = All-contains (IsHandlerOf m.code) m.rec.handlers h w.handlers there in
          ⊎_elim (λ end. let within = inside h formed in let before = covers.before in absurd (omega arith)) (λ place. none place.0 place.1 place.2)
          (reached-boundary p r)

-- what the three steps from an instruction find is all that follows it
pub closed-after : (m : Method) → AreListed m.code → (a b c : Traversal) (i : Placed) → Grows a b → Grows b c → HasInstruction m.code i
    → (IsTrue (falls i.insn.op) → IsFlagged a.reached (i.place + i.insn.len)) → All (IsLedTo b) (targets m.code i)
    → All (IsCaught c i.place) m.rec.handlers → IsClosedAt m c i.place
closed-after m law a b c i g h stands fell led entries = record {
  follows = λ j q there here succ. goes q (subst (λ (k : Placed). IsSuccessor m.code k q) (law.one j i there stands here) succ);
  leads = λ j q there here target.
      h.leaders q
      ((All-contains (IsLedTo b) (targets m.code i) (pos q) led
      (subst (λ (k : Placed). Contains (targets m.code k) (pos q)) (law.one j i there stands here) target)).1);
  catches = λ k there covers. All-contains (IsCaught c i.place) m.rec.handlers k entries there covers;
}
  where
    goes : (q : ℕ) → IsSuccessor m.code i q → IsFlagged c.reached q
    goes _ (falls_through falls_on) = h.reached (i.place + i.insn.len) (g.reached (i.place + i.insn.len) (fell falls_on))
    goes q (jumped among) = h.reached q ((All-contains (IsLedTo b) (targets m.code i) (pos q) led among).0)

-- ---- nothing pending

pub instructions-are-placed : InstructionsAreListed → InstructionsArePlaced
instructions-are-placed listed = λ m w. record {
  first = place-first m (listed m.code) w;
  next = next-boundary m (listed m.code) w;
  reached = reached-boundary m (listed m.code) w;
  decoded = stands-reached m (listed m.code) w;
}

module _ (m : Method) (s t : Traversal) (sound : IsSoundTraversal m s) (closed : IsClosed m s) (start : IsFlagged s.reached 0) (done : IsDone s t) where
  closed-there : (p : ℕ) → IsFlagged s.reached p → IsClosedAt m s p
  closed-there p f = ⊎_elim (λ waits. absurd (nothing-in p (subst (λ (ps : List ℕ). Contains ps p) done.before waits))) (λ c. c) (closed p f)

  all-found : (p : ℕ) → IsReached m p → IsFlagged s.reached p
  all-found _ begins = start
  all-found _ (follows {i = i} {q = q} there r succ) = (closed-there i.place (all-found i.place r)).follows i q there refl succ
  all-found _ (caught {h = h} {p = p} r there covers) = ((closed-there p (all-found p r)).catches h there covers).0

  all-led : (p : ℕ) → IsLeader m p → IsFlagged s.leaders p
  all-led _ (led_to {i = i} {q = q} there r among) = (closed-there i.place (all-found i.place r)).leads i q there refl among
  all-led _ (entered {h = h} {p = p} r there covers) = ((closed-there p (all-found p r)).catches h there covers).1

  pub traversed : (l : Listed) → IsListingOf m.code l → IsWellFormed m → IsControlFlow m (found t l)
  traversed l of_code w = grind (arith, all-found, all-led)

-- ---- nothing found yet

pub none-sound : (m : Method) (s : Traversal) (size : ℕ) → size ≡ length m.code + 1 → s.reached ≡ replicate size false
    → s.leaders ≡ replicate size false → s.pending.items ≡ [] → IsSoundTraversal m s
none-sound m s size fits reached leaders pending = record {
  reached_size = ap length reached ∙ length-replicate size false ∙ fits;
  leaders_size = ap length leaders ∙ length-replicate size false ∙ fits;
  reached = λ p f. absurd (unflagged s.reached reached p f);
  leaders = λ p f. absurd (unflagged s.leaders leaders p f);
  pending = λ p waits. absurd (nothing-in p (subst (λ (ps : List ℕ). Contains ps p) pending waits));
}
  where
    unflagged : (fs : List Bool) → fs ≡ replicate size false → (p : ℕ) → IsFlagged fs p → ⊥
    unflagged fs e p f = false≢true (sym (flag-none size p) ∙ subst (λ (gs : List Bool). IsFlagged gs p) e f)

pub none-closed : (m : Method) (s : Traversal) (size : ℕ) → s.reached ≡ replicate size false → (t : Traversal) → Grows s t → IsClosed m t
none-closed m s size reached t g p f = grind (arith, ⊎_elim, false≢true, flag-none)
