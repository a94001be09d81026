-- Copies of a value from a home to others, one after the other.
use Rattle.std.proofs.Common.{◌≡◌, ℕ, suc, ◌+◌, ◌*◌, ◌<◌, ◌≤◌, ◌⊎◌, inl, inr, List, [], ◌∷◌, length, map, refl, sym, ap}
use Rattle.std.proofs.Common.{◌∙◌, subst, arith}
use Rattle.std.specs.Prelude.{Option, Some, IsSomeAnd, flat_map, slice_get}
use Rattle.std.proofs.lemmas.List.{length-map}
use Rattle.std.proofs.lemmas.List.Concat.{flat_map-cons}
use Rattle.std.proofs.lemmas.Option.{slice_get-map}
use Rattle.jc_base.specs.declared.ty.Ty.{Ty}
use Rattle.jc_base.specs.declared.ty.Ty.TheVariants.{Bottom, Short}
use Rattle.jc_base.specs.declared.record.MethodRec.{MethodRec}
use Rattle.jc_base.specs.Each.{Each}
use Rattle.jc_base.specs.World.{Linked}
use Rattle.jc_decode.specs.Listing.{listing}
use Rattle.jc_decode.specs.Standing.{AreSteps}
use Rattle.jc_decode.specs.Symbols.{Step}
use Rattle.jc_control.specs.WellFormed.{IsPlace}
use Rattle.jc_ops.specs.declared.operation.Operation.TheVariants as ops
use Rattle.jc_ops.specs.declared.operation.Sort.{Sort}
use Rattle.jc_ops.specs.declared.operation.Sort.TheVariants as sorts
use Rattle.jc_rules.specs.Demand.{SatisfiesAll}
use Rattle.jc_rules.specs.Rule.{demands}
use Rattle.vm_store.specs.declared.cell.Cell.{Cell}
use Rattle.vm_store.specs.declared.cell.ObjectKind.{ObjectKind}
use Rattle.vm_store.specs.Cells.{tagged}
use Rattle.vm_store.specs.State.{State, Frame, Object, first_frame, nth, with_place}
use Rattle.vm_store.specs.Laws.{HasContent}
use Rattle.vm_step.specs.Methods.{code_at, max_stack_of}
use Rattle.vm_step.specs.Raising.{running}
use Rattle.vm_step.specs.Run.{Runs, stands}
use Rattle.vm_step.specs.Values.{with_load}
use Rattle.vm_step.proofs.Running.{continues-on}
use Rattle.law_sound.specs.Frames.{least_types}
use Rattle.law_alike.specs.Running.{Executes}
use Rattle.law_alike.proofs.Asked.{register-same}
use Rattle.xf_homes.specs.declared.home.Home.{Home}
use Rattle.xf_homes.specs.Laws.{HasRegister}
use Rattle.xf_homes.specs.Value.{type_width}
use Rattle.xf_homes.specs.Walk.{register_from}
use Rattle.xf_homes.specs.Source.{Source}
use Rattle.xf_homes.specs.Plan.{or_first, register}
use Rattle.xf_emission.specs.Move.{with_byte, store_op}
use Rattle.law_homes.specs.Held.{HoldsValue}
use Rattle.law_homes.specs.Laws.{AreApart}
use Rattle.law_homes.specs.Moves.{IsExecutable, size, copied, AreFilled, letter_of, InstructionsStandFrom}
use Rattle.law_homes.specs.Moves.{load_of, copy_of, IsAtStep, CanLoad, OwnRegisters}
use Rattle.law_homes.specs.Moves.{HomesOwnRegisters, IsCopy, AreCopied, HomesAreCopied}
use Rattle.jc_decode.specs.Places.{place_after}
use Rattle.law_homes.proofs.CopiedHomes.{copied-count, copies-keep-homes}
use Rattle.law_homes.proofs.Going.{copies-run}
use Rattle.law_homes.proofs.Loading.{load-resolves, store-resolves, step-place}
use Rattle.law_homes.proofs.Standing.{steps-execute}

-- ---- homes

first-of : (o : Option ℕ) (r : ℕ) → o ≡ Some r → or_first o ≡ r
first-of o r e = ap or_first e

pub homes-own-registers : HomesOwnRegisters
homes-own-registers s serve a b x y =
    let left : register s a ≡ x.0 = first-of (register_from 0 s.homes a) x.0 x.1 in
    let right : register s b ≡ y.0 = first-of (register_from 0 s.homes b) y.0 y.1 in
    go left right (serve.apart a b x.0 y.0 x.1 y.1)
  where
    go : register s a ≡ x.0 → register s b ≡ y.0 → (a ≡ b) ⊎ (x.0 + type_width a.ty ≤ y.0) ⊎ (y.0 + type_width b.ty ≤ x.0)
        → (a ≡ b) ⊎ AreApart (register s a) (type_width a.ty) (register s b) (type_width b.ty)
    go l r (inl same) = inl same
    go l r (inr (inl before)) = inr (inl (omega (arith, l, r, before)))
    go l r (inr (inr after)) = inr (inr (omega (arith, l, r, after)))

pub wide : (ty : Ty) → type_width ty ≡ size (letter_of ty)
wide x = grind (arith)

-- ---- a value that stands in a home can be loaded wherever the home still holds it

module _ (w : Linked) (ks : List ObjectKind) (registers others : List Cell) (r : ℕ) where
  abbrev Same : ℕ → Type 0
  Same n = slice_get others n ≡ slice_get registers n

  one-asked :
      (n : ℕ) (P : Ty → Type 0) → Same n → IsSomeAnd (slice_get (least_types w.classes Bottom ks registers) n) P
      → IsSomeAnd (slice_get (least_types w.classes Bottom ks others) n) P
  one-asked n P e h = grind (arith, slice_get-map)

  many :
      length others ≡ length registers → (n : ℕ) → n ≤ length (least_types w.classes Bottom ks registers)
      → n ≤ length (least_types w.classes Bottom ks others)
  many count n le = grind (arith, length-map)

  one-filled : (n : ℕ) → Same n → HasContent (nth tagged registers n) → HasContent (nth tagged others n)
  one-filled n e h = subst HasContent (sym (register-same registers others n n e)) h

  at-first : (n : ℕ) → ((k : ℕ) → k < n → Same (r + k)) → 0 < n → Same r
  at-first n same some = let e : r + 0 ≡ r = omega arith in subst Same e (same 0 some)

  asked-again :
      (letter : Sort) (stack : List Ty) → length others ≡ length registers → ((k : ℕ) → k < size letter → Same (r + k))
      → SatisfiesAll w.classes (record { regs = least_types w.classes Bottom ks registers; stack = stack })
      (demands w (ops.Load letter r))
      → SatisfiesAll w.classes (record { regs = least_types w.classes Bottom ks others; stack = stack }) (demands w (ops.Load letter r))
  asked-again sorts.Reference stack count same h =
      (many count (r + 1) h.0, (one-asked r _ (at-first 1 same (omega arith)) h.1.0, tt))
  asked-again sorts.Short stack count same h = (many count (r + 1) h.0, (one-asked r _ (at-first 1 same (omega arith)) h.1.0, tt))
  asked-again sorts.Int stack count same h = (
    many count (r + 2) h.0,
    (
      one-asked r _ (at-first 2 same (omega arith)) h.1.0,
      (one-asked (r + 1) _ (same 1 (omega arith)) h.1.1.0, tt),
    ),
  )

  filled-again :
      (letter : Sort) → ((k : ℕ) → k < size letter → Same (r + k)) → AreFilled letter r registers → AreFilled letter r others
  filled-again x same h = grind (arith, one-filled, at-first)

-- ---- copies

module _
    (w : Linked) (world : IsExecutable w) (place : ℕ → ℕ) (steps : List Step) (s : Source)
    (own : OwnRegisters s)
    (values : List Cell) (h : Home) (has : HasRegister s.homes h)
    (method : ℕ) (stack : List Cell) (below : List (Frame Cell)) (heap : List (Object Cell)) (statics : List Cell)
    (m : MethodRec) (is_method : slice_get w.methods method ≡ Some m)
    (are : AreSteps (code_at w method) place 0 steps (listing (code_at w method)))
    (room : size (letter_of h.ty) + length stack ≤ max_stack_of w method) where
  abbrev frame : ℕ → List Cell → Frame Cell
  frame p registers = record { method = method; place = p; registers = registers; stack = stack }

  abbrev at : ℕ → List Cell → State Cell
  at p registers = record { frames = frame p registers ∷ below; heap = heap; statics = statics }

  abbrev kinds_now : List ObjectKind
  kinds_now = map (λ (o : Object Cell). o.kind) heap

  abbrev letter : Sort
  letter = letter_of h.ty

  abbrev after : Home → List Cell → List Cell
  after k registers = copied tagged letter (register s h) (register s k) registers

  one-copy :
      (n : ℕ) (registers : List Cell) (k : Home)
      → slice_get steps n ≡ Some (record { insn = load_of s h; targets = []; keys = [] })
      → slice_get steps (n + 1) ≡ Some (record { insn = with_byte (store_op k.ty) (register s k); targets = []; keys = [] })
      → n + 2 < length steps
      → CanLoad w s (at (place n) registers) h
      → IsCopy s (length registers) h k
      → Runs tagged w 2 (at (place n) registers) (running (at (place (n + 2)) (after k registers)))
  one-copy n registers k stand store further can copy =
      let t : State Cell = at (place n) registers in
      let r : ℕ = register s h in
      let ex = steps-execute w world t m place steps n 0 (record { insn = load_of s h; targets = []; keys = [] })
      (ops.Load letter r)
      (omega arith) is_method are stand refl (load-resolves w m 0 r h.ty can.0) in
      let t1 : State Cell = with_place (with_load tagged letter r t) (place_after ex.instruction) in
      let ey = steps-execute w world t1 m place steps (n + 1) 0
      (record { insn = with_byte (store_op k.ty) (register s k); targets = []; keys = [] })
      (ops.Store (letter_of k.ty) (register s k))
      (omega arith) is_method are store ex.ends (store-resolves w m 0 (register s k) k.ty copy.small) in
      let two : n + 1 + 1 ≡ n + 2 = omega arith in
      let last : place_after ey.instruction ≡ place (n + 2) = ey.ends ∙ ap place two in
      let width_is : type_width k.ty ≡ size letter = wide k.ty ∙ ap size copy.letter in
      let fits = copy.inside in
      let ran = copies-run w world.chains t ex.instruction ey.instruction letter r (register s k) ex.executes
      (subst (λ l. Executes w t1 ey.instruction (ops.Store l (register s k))) copy.letter ey.executes)
      can.1.asked can.1.filled (omega (arith, fits, width_is)) room
      (subst (IsPlace (code_at w method)) (sym ex.ends)
      (step-place (code_at w method) place steps (n + 1) are (omega (arith, further))))
      (subst (IsPlace (code_at w method)) (sym last) (step-place (code_at w method) place steps (n + 2) are further)) in
      subst (λ p. Runs tagged w 2 t (running (at p (after k registers)))) last ran

  -- what a home holds has nothing to do with the place of the frame
  moved : (p q : ℕ) (registers : List Cell) (a : Home) → HoldsValue s values (frame p registers) a → HoldsValue s values (frame q registers) a
  moved p q registers a held = record { known = held.known; there = held.there; equal = held.equal }

  -- the homes after a copy
  keeps :
      (p q : ℕ) (registers : List Cell) (k a : Home)
      → HoldsValue s values (frame p registers) h → IsCopy s (length registers) h k → HasRegister s.homes a
      → (a ≡ k) ⊎ HoldsValue s values (frame p registers) a
      → HoldsValue s values (frame q (after k registers)) a
  keeps p q registers k a held copy owns (inl same) =
      copies-keep-homes s values (frame q registers) h k a letter (moved p q registers h held) (sym copy.slot) (wide h.ty)
      (wide k.ty ∙ ap size copy.letter) copy.inside (inl same)
  keeps p q registers k a held copy owns (inr own_value) =
      copies-keep-homes s values (frame q registers) h k a letter (moved p q registers h held) (sym copy.slot) (wide h.ty)
      (wide k.ty ∙ ap size copy.letter) copy.inside
      (go (own a k owns copy.own))
    where
      go : (a ≡ k) ⊎ AreApart (register s a) (type_width a.ty) (register s k) (type_width k.ty)
          → (a ≡ k) ⊎ (HoldsValue s values (frame q registers) a × AreApart (register s a) (type_width a.ty) (register s k) (type_width k.ty))
      go (inl same) = inl same
      go (inr apart) = inr (moved p q registers a own_value, apart)

  moved-all :
      (p q : ℕ) (registers : List Cell) (ks : List Home) → Each (HoldsValue s values (frame p registers)) ks
      → Each (HoldsValue s values (frame q registers)) ks
  moved-all p q registers [] held = tt
  moved-all p q registers (k ∷ ks) held = (moved p q registers k held.0, moved-all p q registers ks held.1)

  -- the value can be loaded after a copy as before
  can-still :
      (p q : ℕ) (registers : List Cell) (k : Home)
      → HoldsValue s values (frame p registers) h → IsCopy s (length registers) h k → CanLoad w s (at p registers) h
      → CanLoad w s (at q (after k registers)) h
  can-still p q registers k held copy can =
      let now = keeps p q registers k h held copy has (inr held) in
      let count : length (after k registers) ≡ length registers = copied-count letter (register s h) (register s k) registers in
      let same : (n : ℕ) → n < size letter → slice_get (after k registers) (register s h + n)
      ≡ slice_get registers (register s h + n) =
      λ n lt. let e = wide h.ty in now.equal n (omega (arith, lt, e)) ∙ sym (held.equal n (omega (arith, lt, e))) in (
        can.0,
        record {
          asked =
              asked-again w kinds_now registers (after k registers) (register s h) letter
              (least_types w.classes Bottom kinds_now stack) count same can.1.asked;
          filled = filled-again w kinds_now registers (after k registers) (register s h) letter same can.1.filled;
        },
      )

  copies-after :
      (registers : List Cell) (k : Home) (ks : List Home) → Each (IsCopy s (length registers) h) ks
      → Each (IsCopy s (length (after k registers)) h) ks
  copies-after registers k ks copies = grind (arith, copied-count)

  copies-from :
      (n : ℕ) (registers : List Cell) (ks : List Home)
      → InstructionsStandFrom steps n (flat_map (copy_of s h) ks)
      → n + 2 * length ks < length steps
      → CanLoad w s (at (place n) registers) h
      → HoldsValue s values (frame (place n) registers) h
      → Each (IsCopy s (length registers) h) ks
      → AreCopied w s values (at (place n) registers) ks (place (n + 2 * length ks))
  copies-from n registers [] stand further can held copies =
      let e : n ≡ n + 2 * 0 = omega arith in
      record {
        registers = registers;
        runs = subst (λ k. Runs tagged w 0 (at (place n) registers) (running (at (place k) registers))) e stands;
        count = refl;
        copies = tt;
        others = λ a owns value. value;
      }
  copies-from n registers (k ∷ ks) stand further can held copies =
      let all : InstructionsStandFrom steps n (load_of s h ∷ with_byte (store_op k.ty) (register s k) ∷ flat_map (copy_of s h) ks) =
      subst (InstructionsStandFrom steps n) (flat_map-cons (copy_of s h) k ks) stand in
      let two : n + 1 + 1 ≡ n + 2 = omega arith in
      let next : List Cell = after k registers in
      let ran = one-copy n registers k all.0 all.1.0 (omega (arith, further)) can copies.0 in
      let rest = copies-from (n + 2) next ks (subst (λ x. InstructionsStandFrom steps x (flat_map (copy_of s h) ks)) two all.1.1)
      (omega (arith, further))
      (can-still (place n) (place (n + 2)) registers k held copies.0 can)
      (keeps (place n) (place (n + 2)) registers k h held copies.0 has (inr held))
      (copies-after registers k ks copies.1) in
      let count : 2 + 2 * length ks ≡ 2 * suc (length ks) = omega arith in
      let place_is : n + 2 + 2 * length ks ≡ n + 2 * suc (length ks) = omega arith in
      let whole : Runs tagged w (2 + 2 * length ks) (at (place n) registers)
      (running (at (place (n + 2 + 2 * length ks)) rest.registers)) =
      continues-on tagged w 2 (2 * length ks) (running (at (place n) registers)) (running (at (place (n + 2)) next))
      (running (at (place (n + 2 + 2 * length ks)) rest.registers)) ran rest.runs in
      record {
        registers = rest.registers;
        runs = grind (arith, suc);
        count = rest.count ∙ copied-count letter (register s h) (register s k) registers;
        copies =
            grind (
              arith,
              keeps (place n) (place (n + 2)) registers k k held copies.0 copies.0.own (inl refl),
              moved-all (place (n + 2)) (place n) rest.registers ks rest.copies,
            );
        others = λ a owns value.
            moved (place (n + 2)) (place n) rest.registers a
            (rest.others a owns (keeps (place n) (place (n + 2)) registers k a held copies.0 owns (inr value)));
      }

copies-by :
    (w : Linked) → IsExecutable w
    → (place : ℕ → ℕ) (steps : List Step) (fs : List (Frame Cell)) (heap : List (Object Cell)) (statics : List Cell) (n : ℕ)
    (s : Source)
    (values : List Cell) (h : Home) (ks : List Home)
    → OwnRegisters s
    → IsAtStep w place steps (record { frames = fs; heap = heap; statics = statics }) n (2 * length ks)
    → InstructionsStandFrom steps n (flat_map (copy_of s h) ks)
    → HasRegister s.homes h
    → CanLoad w s (record { frames = fs; heap = heap; statics = statics }) h
    → HoldsValue s values (first_frame fs) h
    → Each (IsCopy s (length (first_frame fs).registers) h) ks
    → size (letter_of h.ty) + length (first_frame fs).stack ≤ max_stack_of w (first_frame fs).method
    → AreCopied w s values (record { frames = fs; heap = heap; statics = statics }) ks (place (n + 2 * length ks))
copies-by w world place steps [] heap statics n s values h ks own is stand has can held copies room = grind (arith)
copies-by w world place steps (f ∷ below) heap statics n s values h ks own is stand has can held copies room =
    subst
    (λ p.
    CanLoad w s
    (record {
      frames = record { method = f.method; place = p; registers = f.registers; stack = f.stack } ∷ below;
      heap = heap;
      statics = statics;
    }) h
    → HoldsValue s values (record { method = f.method; place = p; registers = f.registers; stack = f.stack }) h
    → AreCopied w s values
    (record {
      frames = record { method = f.method; place = p; registers = f.registers; stack = f.stack } ∷ below;
      heap = heap;
      statics = statics;
    }) ks
    (place (n + 2 * length ks))) (sym is.at)
    (λ now holds.
    copies-from w world place steps s own values h has f.method f.stack below heap statics is.method is.is_method is.are room
    n f.registers ks stand is.further now holds copies)
    can held

pub homes-are-copied : (w : Linked) → IsExecutable w → HomesAreCopied w
homes-are-copied w world place steps t n s values h ks own is stand has can held copies room =
    copies-by w world place steps t.frames t.heap t.statics n s values h ks own is stand has can held copies room
