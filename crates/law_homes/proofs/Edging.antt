-- The copies of an edge: from where it begins to the homes that are needed where it leads.
use Rattle.std.proofs.Common.{◌≡◌, ◌⊎◌, inl, inr, ℕ, ◌+◌, ◌<◌, ◌≤◌, true, false}
use Rattle.std.proofs.Common.{List, [], ◌∷◌, length, refl, sym, ap, ◌∙◌, subst, arith}
use Rattle.std.specs.Prelude.{Option, Some, None, IfSome}
use Rattle.std.proofs.lemmas.Bool.{both_ways}
use Rattle.jc_base.specs.declared.ty.Ty.{Ty}
use Rattle.jc_base.specs.Each.{Each, IsAmong}
use Rattle.jc_base.specs.Laws.{SameTypeDecides}
use Rattle.jc_base.specs.World.{Linked}
use Rattle.jc_decode.specs.Symbols.{Step}
use Rattle.jc_ops.specs.declared.operation.Sort.{Sort}
use Rattle.jc_ops.specs.declared.operation.Sort.TheVariants as sorts
use Rattle.vm_store.specs.declared.cell.Cell.{Cell}
use Rattle.vm_store.specs.Objects.{kinds}
use Rattle.vm_store.specs.State.{State, Frame, Object, first_frame}
use Rattle.vm_step.specs.Methods.{max_stack_of}
use Rattle.xf_homes.specs.declared.home.Home.{Home}
use Rattle.xf_homes.specs.Home.{register_count}
use Rattle.xf_homes.specs.Laws.{HasRegister}
use Rattle.xf_homes.specs.Value.{type_width}
use Rattle.xf_homes.specs.Walk.{has}
use Rattle.xf_homes.proofs.Events.{has-among}
use Rattle.xf_homes.specs.Source.{Source}
use Rattle.xf_homes.specs.Plan.{needed}
use Rattle.xf_emission.specs.declared.origin.Origin.{Origin}
use Rattle.xf_emission.specs.declared.origin.Origin.TheVariants.{Start, After, Entry}
use Rattle.xf_emission.specs.Edge.{home_before, homes_held, copies}
use Rattle.law_rewritten_typing.specs.Planned.{IsPlanned, KeepsValues}
use Rattle.law_rewritten_typing.specs.Edges.{LeadsTo, stored_at, IsCarried, EdgesCarry}
use Rattle.law_homes.specs.Edges.{insns, IsBeside, HoldsBefore, AreCarried, EdgesRun}
use Rattle.law_homes.specs.Held.{HoldsValue, slots}
use Rattle.law_homes.specs.Moves.{size, letter_of, InstructionsStandFrom, IsAtStep}
use Rattle.law_homes.proofs.Copies.{wide}
use Rattle.law_homes.proofs.Valued.{asked_types, CellsAt, cells-left, value-inside}
use Rattle.law_homes.proofs.Beside.{each-among, among-each, own, register-inside, register-small}
use Rattle.law_homes.proofs.Beside.{needed-valued, count-registers, held-as, placed-state}
use Rattle.law_homes.specs.Premises.{AreMoveLaws}
use Rattle.law_homes.proofs.Beside.{held-in-slots, held-in-registers}
use Rattle.law_homes.proofs.Carrying.{same-letter, same-or-reference, IsFrom, LocalIs, locals-run}

some-same : (a b : Home) → ◌≡◌ {A = Option Home} (Some a) (Some b) → a ≡ b
some-same a b e = cc

none-some : (h : Home) → ◌≡◌ {A = Option Home} None (Some h) → ⊥
none-some h e = absurd (cc)

pub home-same : (a b : Home) → a.slot ≡ b.slot → a.ty ≡ b.ty → a ≡ b
home-same a b e f = ap (λ (n : ℕ). record { slot = n; ty = a.ty }) e ∙ ap (λ (u : Ty). record { slot = b.slot; ty = u }) f

module _ (s : Source) (q : ℕ) (f g : Frame Cell) where
  -- what is stored on the edge stands in all homes that are needed
  stored-stands : (o : Origin) (x : ℕ) → HoldsBefore s o q f g → stored_at o x ≡ true → Each (HoldsValue s f.registers g) (needed s q x)
  stored-stands x x2 holds e = grind (arith)

  -- a local that is stored is not copied
  stored-none : (o : Origin) (x : ℕ) (from : Home) → stored_at o x ≡ true → home_before s o x ≡ Some from → ⊥
  stored-none x x2 from e h = grind (arith, none-some)

  if-some : (o : Option Home) (h : Home) → o ≡ Some h → IfSome o (HoldsValue s f.registers g) → HoldsValue s f.registers g h
  if-some x h e is = grind (arith, none-some, some-same)

  -- a home in which a value is held where the edge begins, and of which nothing is stored
  held-stands :
      (same_is : SameTypeDecides) (o : Origin) (x : ℕ) (from k : Home) → HoldsBefore s o q f g → home_before s o x ≡ Some from → k.slot ≡ x
      → ((n : ℕ) → n < type_width k.ty → stored_at o (k.slot + n) ≡ false) → has (homes_held s o x from) k ≡ true → HoldsValue s f.registers g k
  held-stands same_is (After p op) x from k holds before slot apart there =
      grind (arith, has-among same_is (needed s p x) k there, among-each)
  held-stands same_is Start x from k holds before slot apart there =
      if-some (home_before s Start x) k (before ∙ ap Some (only (has-among same_is (from ∷ []) k there))) (holds x)
    where
      only : IsAmong k (from ∷ []) → from ≡ k
      only (inl e) = e
      only (inr a) = absurd a
  held-stands same_is (Entry p) x from k holds before slot apart there =
      if-some (home_before s (Entry p) x) k (before ∙ ap Some (only (has-among same_is (from ∷ []) k there))) (holds x)
    where
      only : IsAmong k (from ∷ []) → from ≡ k
      only (inl e) = e
      only (inr a) = absurd a

module _ (v w : Linked) (l : AreMoveLaws v w) (place : ℕ → ℕ) (steps : List Step) (s : Source) (is : s.world ≡ v) (plan : IsPlanned s) (o : Origin)
    (q : ℕ) (f : Frame Cell) (leads : LeadsTo s o q) where
  module _
      (g : Frame Cell) (below : List (Frame Cell)) (heap : List (Object Cell)) (statics : List Cell) (n : ℕ)
      (beside : IsBeside w s q f (record { frames = g ∷ below; heap = heap; statics = statics }))
      (at : IsAtStep w place steps (record { frames = g ∷ below; heap = heap; statics = statics }) n (length (insns (copies s o q))))
      (low : length g.stack ≤ s.method.rec.max_stack)
      (holds : HoldsBefore s o q f g) where
    abbrev t : State Cell
    t = record { frames = g ∷ below; heap = heap; statics = statics }

    room : 1 + length g.stack ≤ max_stack_of w g.method
    room = omega (arith, low, beside.room)

    abbrev FromHere : List Home → Home → Home → Type 0
    FromHere there from k =
        IsFrom w l.world place steps s (own v w l s is plan) (slots f) g.method g.stack below heap statics at.method at.is_method at.are room g.registers
        there from k

    here-as : (k : Home) → HoldsValue s f.registers g k
        → HoldsValue s (slots f) (record { method = g.method; place = 0; registers = g.registers; stack = g.stack }) k
    here-as k held =
        held-as s (slots f) g (record { method = g.method; place = 0; registers = g.registers; stack = g.stack }) k refl (held-in-slots s f g k held)

    needed-own : (x : ℕ) → Each (HasRegister s.homes) (needed s q x)
    needed-own x = each-among (HasRegister s.homes) (needed s q x) (λ k a. (needed-valued v w l s is plan q f t beside x k a).1.has)

    carried : (x : ℕ) (k : Home) → IsAmong k (needed s q x) → (stored_at o k.slot ≡ true) ⊎ ((from : Home) × IsCarried s o k from)
    carried x k a = (subst EdgesCarry (sym is) l.carry) s refl plan o q x k leads a

    from-here : (x : ℕ) (from k : Home) → home_before s o x ≡ Some from → IsAmong k (needed s q x) → FromHere (homes_held s o x from) from k
    from-here x from k before a = by (carried x k a)
      where
        valued : (k.slot ≡ x) × KeepsValues s k × CellsAt w.classes (kinds t) f.registers k.slot (asked_types w.classes (letter_of k.ty))
        valued = needed-valued v w l s is plan q f t beside x k a

        go : IsCarried s o k from → FromHere (homes_held s o x from) from k
        go c =
            let letter : letter_of from.ty ≡ letter_of k.ty = same-letter from.ty k.ty c.loads in
            let wide_is : type_width from.ty ≡ type_width k.ty = wide from.ty ∙ (ap size letter ∙ sym (wide k.ty)) in
            let there : has (homes_held s o x from) from ≡ true = ap (λ (y : ℕ). has (homes_held s o y from) from) (sym valued.0) ∙ c.there in
            let stands = held-stands s q f g l.same_is o x from from holds before (c.slot ∙ valued.0)
            (λ n lt. ap (λ (y : ℕ). stored_at o (y + n)) c.slot ∙ c.apart n (omega (arith, lt, wide_is))) there in
            record {
              stood = record {
                own = c.keeps.has;
                small = register-small v w l s is plan from c.keeps.has;
                holds = here-as from stands;
                value =
                    cells-left w.classes (kinds t) f.registers _ from.slot (asked_types w.classes (letter_of from.ty))
                    (subst (λ (y : ℕ). CellsAt w.classes (kinds t) f.registers y (asked_types w.classes (letter_of from.ty))) (sym c.slot)
                    (subst (λ (u : Sort). CellsAt w.classes (kinds t) f.registers k.slot (asked_types w.classes u)) (sym letter) valued.2));
              };
              copies = record {
                slot = sym c.slot;
                letter = sym letter;
                own = valued.1.has;
                small = register-small v w l s is plan k valued.1.has;
                inside = omega (arith, register-inside v w l s is plan k valued.1.has, beside.count);
              };
              already = λ e. here-as k (held-stands s q f g l.same_is o x from k holds before valued.0 c.apart e);
              single = λ e. single (same-or-reference from.ty k.ty c.loads) there e;
            }
          where
            single : (k.ty ≡ from.ty) ⊎ (letter_of from.ty ≡ sorts.Reference) → has (homes_held s o x from) from ≡ true
                → has (homes_held s o x from) k ≡ false → letter_of from.ty ≡ sorts.Reference
            single (inl same) there e =
                absurd (both_ways (has (homes_held s o x from) from) (ap (has (homes_held s o x from)) (home-same from k c.slot (sym same)) ∙ e) there)
            single (inr reference) there e = reference

        by : (stored_at o k.slot ≡ true) ⊎ ((other : Home) × IsCarried s o k other) → FromHere (homes_held s o x from) from k
        by (inl stored) = absurd (stored-none s q f g o x from (ap (stored_at o) (sym valued.0) ∙ stored) before)
        by (inr (other, c)) =
            let same : other ≡ from = some-same other from (sym c.before ∙ ap (home_before s o) valued.0 ∙ before) in
            go (subst (IsCarried s o k) same c)

    none-here : (x : ℕ) (k : Home) → home_before s o x ≡ None → IsAmong k (needed s q x) → HoldsValue s f.registers g k
    none-here x k before a = by (carried x k a)
      where
        slot : k.slot ≡ x
        slot = (needed-valued v w l s is plan q f t beside x k a).0

        by : (stored_at o k.slot ≡ true) ⊎ ((other : Home) × IsCarried s o k other) → HoldsValue s f.registers g k
        by (inl stored) = among-each (HoldsValue s f.registers g) (needed s q x) k (stored-stands s q f g o x holds (ap (stored_at o) (sym slot) ∙ stored)) a
        by (inr (other, c)) = absurd (none-some other (sym before ∙ ap (home_before s o) (sym slot) ∙ c.before))

    local-here :
        (x : ℕ)
        → LocalIs w l.world place steps s (own v w l s is plan) (slots f) g.method g.stack below heap statics at.method at.is_method at.are room
        g.registers o q x (home_before s o x)
    local-here x = by (home_before s o x) refl
      where
        by :
            (h : Option Home) → home_before s o x ≡ h
            → LocalIs w l.world place steps s (own v w l s is plan) (slots f) g.method g.stack below heap statics at.method at.is_method at.are room
            g.registers o q x h
        by None e = each-among _ (needed s q x) (λ k a. here-as k (none-here x k e a))
        by (Some from) e = each-among _ (needed s q x) (λ k a. from-here x from k e a)

    run-edge : InstructionsStandFrom steps n (insns (copies s o q)) → AreCarried w s q f t (length (insns (copies s o q)))
        (place (n + length (insns (copies s o q))))
    unfolding copies
    run-edge stand =
        let ran = locals-run w l.world place steps s (own v w l s is plan) (slots f) g.method g.stack below heap statics at.method at.is_method at.are room
        g.registers g.registers o q needed-own local-here n 0 (register_count s.method.rec) (record { many = refl; keeps = λ a has held. held }) stand
        at.further in
        let begins = placed-state g below heap statics (place n) at.at in
        record {
          registers = ran.after;
          runs = grind (arith);
          count = ran.many;
          locals =
              λ x. each-among (HoldsValue s f.registers (record g { registers = ran.after })) (needed s q x)
              (λ k a. local-after ran.after ran.locals x k a);
          others = λ h has held.
              held-as s (slots f) (record { method = g.method; place = 0; registers = ran.after; stack = g.stack }) (record g { registers = ran.after }) h refl
              (ran.keeps h has (held-as s (slots f) g (record { method = g.method; place = 0; registers = g.registers; stack = g.stack }) h refl held));
        }
      where
        local-after :
            (after : List Cell)
            → ((y : ℕ) → 0 ≤ y → y < 0 + register_count s.method.rec
            → Each (HoldsValue s (slots f) (record { method = g.method; place = 0; registers = after; stack = g.stack })) (needed s q y))
            → (x : ℕ) (k : Home) → IsAmong k (needed s q x) → HoldsValue s f.registers (record g { registers = after }) k
        local-after after all x k a =
            let valued = needed-valued v w l s is plan q f t beside x k a in
            let inside : k.slot + size (letter_of k.ty) ≤ length f.registers = value-inside w.classes (kinds t) (letter_of k.ty) f.registers k.slot
            valued.2 in
            let e = wide k.ty in
            let some : 0 < size (letter_of k.ty) = some-size (letter_of k.ty) in
            let count = count-registers v w l s is plan q f t beside in
            let held = among-each (HoldsValue s (slots f) (record { method = g.method; place = 0; registers = after; stack = g.stack })) (needed s q x) k
            (all x (omega arith) (omega (arith, inside, some, count, valued.0))) a in
            held-as s f.registers (record { method = g.method; place = 0; registers = after; stack = g.stack }) (record g { registers = after }) k refl
            (held-in-registers s f (record { method = g.method; place = 0; registers = after; stack = g.stack }) k (omega (arith, inside, e)) held)
          where
            some-size : (letter : Sort) → 0 < size letter
            some-size sorts.Reference = omega arith
            some-size sorts.Short = omega arith
            some-size sorts.Int = omega arith

  edge-frames :
      (fs : List (Frame Cell)) (heap : List (Object Cell)) (statics : List Cell) (n : ℕ)
      → IsBeside w s q f (record { frames = fs; heap = heap; statics = statics })
      → IsAtStep w place steps (record { frames = fs; heap = heap; statics = statics }) n (length (insns (copies s o q)))
      → InstructionsStandFrom steps n (insns (copies s o q))
      → length (first_frame fs).stack ≤ s.method.rec.max_stack
      → HoldsBefore s o q f (first_frame fs)
      → AreCarried w s q f (record { frames = fs; heap = heap; statics = statics }) (length (insns (copies s o q)))
      (place (n + length (insns (copies s o q))))
  edge-frames x heap statics n beside at stand low holds = grind (arith, run-edge)

pub edges-run : (v w : Linked) → AreMoveLaws v w → EdgesRun v w
edges-run v w l place steps t n s o q f is plan beside leads at stand low holds =
    edge-frames v w l place steps s is plan o q f leads t.frames t.heap t.statics n beside at stand low holds
