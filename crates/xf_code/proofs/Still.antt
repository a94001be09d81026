-- A local whose value is the same at both ends of an edge, on which no handler asks anything anew, is copied nowhere.
use Rattle.std.proofs.Common.{arith}
use Rattle.std.proofs.Common.{◌≡◌, ℕ, zero, suc, ◌&&◌, Bool, true, false, if◌then◌else◌, not, inl, inr, List, [], ◌∷◌, ◌++◌}
use Rattle.std.proofs.Common.{flat_map, All, slice_get, Option, Some, None, refl, sym, ◌∙◌, ap, ap₂}
use Rattle.std.specs.Prelude.{⊤, ◌↔◌, MatchBool}
use Rattle.jc_control.specs.Control.{Covers}
use Rattle.jc_rules.specs.Flow.{At}
use Rattle.jc_rules.specs.Typing.{HaveSameRegisters}
use Rattle.xf_homes.specs.Value.{value_in_cells}
use Rattle.jc_base.specs.declared.ty.Ty.{Ty}
use Rattle.jc_base.specs.declared.record.Handler.{Handler}
use Rattle.jc_base.specs.Each.{IsAmong}
use Rattle.jc_base.proofs.SameTypes.{same_type-decides}
use Rattle.std.proofs.lemmas.List.{append-nil}
use Rattle.std.proofs.lemmas.List.Elements.{All-contains}
use Rattle.jc_decode.proofs.Elements.{Contains-slice_get}
use Rattle.jc_ops.specs.declared.operation.Operation.{Operation}
use Rattle.xf_homes.specs.declared.home.Home.{Home}
use Rattle.xf_homes.specs.Asked.{is_new}
use Rattle.xf_homes.specs.Home.{register_count, IsAsked, asked_here, asked_caught}
use Rattle.xf_homes.specs.Laws.{AreNeeded}
use Rattle.xf_homes.specs.Walk.{has, is_covered, local_of}
use Rattle.xf_homes.proofs.Asking.{same_locals}
use Rattle.xf_homes.proofs.Events.{among-has}
use Rattle.xf_homes.proofs.Meeting.{covered, covers, local-at, at-local}
use Rattle.xf_homes.proofs.Needed.{needed-are-kept}
use Rattle.xf_homes.specs.Source.{Source}
use Rattle.xf_homes.specs.Plan.{needed}
use Rattle.xf_emission.specs.declared.origin.Origin.{Origin}
use Rattle.xf_emission.specs.declared.origin.Origin.TheVariants.{After}
use Rattle.xf_emission.specs.Move.{copy}
use Rattle.xf_emission.specs.Edge.{home_before, copy_new, copies_from, local_copies, locals_copies, copies}
use Rattle.xf_code.specs.Quiet.{AsksNothing, IsQuiet}

-- ---- what a handler asks on an edge

pub asks_as_before : (s : Source) (q p : ℕ) (h : Handler) → is_new h q (Some p) ≡ false → AsksNothing s q p h
asks_as_before s q p h e = inl e

pub asks_by_registers : (s : Source) (q p : ℕ) (h : Handler) (same : Bool)
    → (same ≡ true) ↔ HaveSameRegisters (s.frames h.entry) (s.frames q)
    → MatchBool (not same) ⊤ (AsksNothing s q p h)
asks_by_registers s q p h x alike = grind (arith, same_locals)

flat-nothing : {X Y : Type 0} (f : X → List Y) (xs : List X) → ((x : X) → IsAmong x xs → f x ≡ []) → flat_map f xs ≡ []
flat-nothing f [] h = refl
flat-nothing f (x ∷ xs) h = ap₂ ◌++◌ (h x (inl refl)) (flat-nothing f xs (λ y a. h y (inr a)))

module _ (s : Source) (p q x : ℕ) (same : local_of (s.frames q) x ≡ local_of (s.frames p) x) (none : All (AsksNothing s q p) s.method.rec.handlers) where
  still-covered : (h : Handler) → is_new h q (Some p) ≡ false → is_covered h q ≡ true → is_covered h p ≡ true
  unfolding is_new
  still-covered h e here = by (is_covered h p) (sym (ap (λ b. b && not (is_covered h p)) here) ∙ e)
    where
      by : (b : Bool) → not b ≡ false → b ≡ true
      by true e = refl
      by false e = absurd (cc)

  -- what a handler asks that is not new, or that has the locals of q at its entry
  asked-by : (h : Handler) (n : ℕ) (ty : Ty) → slice_get s.method.rec.handlers n ≡ Some h → Covers h q
      → At s.frames h.entry (λ f. value_in_cells f.regs x ≡ Some ty) → AsksNothing s q p h → (m : ℕ) × IsAsked s.method s.frames p x m ty
  asked-by h n ty there c at (inl old) = (suc n, asked_caught there (covered h p (still-covered h old (covers h q c))) at)
  asked-by h n ty there c at (inr alike) =
      (0, asked_here (local-at s.frames p x ty (s.frames p) (sym same ∙ sym (alike x) ∙ at-local x ty (s.frames h.entry) at)))

  asked-too : (ty : Ty) (n : ℕ) → IsAsked s.method s.frames q x n ty → (m : ℕ) × IsAsked s.method s.frames p x m ty
  asked-too ty _ (asked_here at) = (0, asked_here (local-at s.frames p x ty (s.frames p) (sym same ∙ at-local x ty (s.frames q) at)))
  asked-too ty _ (asked_caught {n = n} {h = h} there c at) =
      asked-by h n ty there c at
      (All-contains (AsksNothing s q p) s.method.rec.handlers h none (Contains-slice_get s.method.rec.handlers n h there))

  needed-are : (r : ℕ) → AreNeeded s.method s.frames r x (needed s r x)
  unfolding needed
  needed-are r = needed-are-kept same_type-decides s.method s.frames r x

  held-too : (h : Home) → IsAmong h (needed s q x) → has (needed s p x) h ≡ true
  held-too h a =
      let n = ((needed-are q).all h).0 a in
      let m = asked-too h.ty n.1.0 n.1.1 in
      among-has same_type-decides (needed s p x) h (((needed-are p).all h).1 (n.0, m))

  new-none : (from h : Home) → IsAmong h (needed s q x) → copy_new s from (needed s p x) h ≡ []
  new-none from h a = ap (λ b. if b then [] else copy s from h) (held-too h a)

  -- nothing is copied
  pub still-none : (op : Operation) → local_copies s (After p op) q x ≡ []
  unfolding local_copies
  still-none op = by (home_before s (After p op) x)
    where
      by : (h : Option Home) → copies_from s (After p op) q x h ≡ []
      by None = refl
      by (Some from) = flat-nothing (copy_new s from (needed s p x)) (needed s q x) (new-none from)

-- on a quiet edge
pub quiet-local : (s : Source) (o : Origin) (q p x : ℕ) → IsQuiet s o q p → local_of (s.frames q) x ≡ local_of (s.frames p) x
    → local_copies s o q x ≡ []
quiet-local s o q p x quiet same = ap (λ b. local_copies s b q x) quiet.begins ∙ still-none s p q x same quiet.none quiet.operation

quiet-locals : (s : Source) (o : Origin) (q x n : ℕ) → ((y : ℕ) → local_copies s o q y ≡ []) → locals_copies s o q x n ≡ []
quiet-locals s o q x zero none = refl
quiet-locals s o q x (suc n) none = ap₂ ◌++◌ (none x) (quiet-locals s o q (suc x) n none)

pub quiet-copies : (s : Source) (o : Origin) (q p : ℕ) → IsQuiet s o q p → ((x : ℕ) → local_of (s.frames q) x ≡ local_of (s.frames p) x)
    → copies s o q ≡ []
unfolding copies
quiet-copies s o q p quiet same = quiet-locals s o q 0 (register_count s.method.rec) (λ x. quiet-local s o q p x quiet (same x))

pub nothing-more : {X : Type 0} (items step : List X) → step ≡ [] → items ≡ items ++ step
nothing-more items step none = sym (append-nil items) ∙ ap (λ xs. items ++ xs) (sym none)
