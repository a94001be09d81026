-- The loads after a conditional's stack was stored: those of its operands, and those of the cells under them.
use Rattle.law_homes.proofs.Copies.{wide}
use Rattle.std.proofs.Common.{◌≡◌, inl, inr, ℕ, ◌+◌, ◌-◌, ◌<◌, ◌≤◌, true, List, [], ◌∷◌, ◌++◌, length, take, drop}
use Rattle.std.proofs.Common.{reverse, refl, sym, ap, ◌∙◌, subst, arith, append_assoc, length-append}
use Rattle.std.proofs.lemmas.List.{append_cancel_right, length-reverse, length-drop, reverse-append, reverse-reverse, take-append-drop}
use Rattle.std.proofs.lemmas.List.{take_all}
use Rattle.std.specs.Prelude.{◌↔◌, sum_by}
use Rattle.std.proofs.lemmas.List.Sums.{sum_by-append, sum_by-cons}
use Rattle.jc_base.specs.Each.{Each, IsAmong}
use Rattle.jc_base.specs.World.{Linked}
use Rattle.jc_decode.specs.declared.insn.Placed.{Placed}
use Rattle.jc_decode.specs.Symbols.{Step}
use Rattle.jc_ops.specs.declared.operation.Sort.{Sort}
use Rattle.vm_store.specs.declared.cell.Cell.{Cell}
use Rattle.vm_store.specs.Cells.{tagged}
use Rattle.vm_store.specs.State.{State, Frame, nth, top}
use Rattle.vm_step.specs.Methods.{max_stack_of}
use Rattle.vm_step.specs.Raising.{running}
use Rattle.vm_step.specs.Run.{Runs}
use Rattle.law_alike.proofs.Asked.{register-same}
use Rattle.xf_homes.specs.declared.home.Home.{Home}
use Rattle.xf_homes.specs.Order.{SlotsFollow as Follow, register_sum}
use Rattle.xf_homes.specs.Value.{type_width}
use Rattle.xf_homes.specs.Source.{Source}
use Rattle.xf_homes.specs.Plan.{stack_homes, register}
use Rattle.xf_emission.specs.Jump.{has_under, operands, under}
use Rattle.xf_emission.specs.Move.{loads}
use Rattle.law_rewritten_typing.specs.Planned.{IsPlanned}
use Rattle.law_rewritten_typing.specs.Edges.{CellsFillStack, FillStack, ForksAreCut, IsForkedAt}
use Rattle.law_rewritten_typing.proofs.Stacks.{turned-cons}
use Rattle.law_homes.specs.Edges.{insns, top_at, IsBeside, OperandsLoad, UnderHold, UnderLoads}
use Rattle.law_homes.specs.Held.{HoldsValue, slots}
use Rattle.law_homes.specs.Moves.{size, letter_of, InstructionsStandFrom, IsAtStep, CanLoad, loaded_stack, value_in_register}
use Rattle.law_homes.proofs.Loading.{loads-run}
use Rattle.law_homes.proofs.StackStores.{piled, piled-append, piled-from}
use Rattle.law_homes.proofs.Leading.{insns-loads}
use Rattle.law_homes.proofs.Beside.{each-among, among-each, typed, count-registers, count-stack, stack-fits, cells-valued, register-small}
use Rattle.law_homes.specs.Premises.{AreMoveLaws}
use Rattle.law_homes.proofs.Beside.{held-can-load}
use Rattle.jc_base.proofs.Lists.{slice_get-left}

-- ---- values that are loaded

piled-base : (values : List Cell) (hs : List Home) (stack : List Cell) → piled values hs stack ≡ piled values hs [] ++ stack
piled-base values [] stack = refl
piled-base values (h ∷ hs) stack = grind (arith, append_assoc, piled-base values hs stack)

module _ (s : Source) (values : List Cell) (g : Frame Cell) where
  same-at : (h : Home) (k : ℕ) → k < type_width h.ty → HoldsValue s values g h → nth tagged g.registers (register s h + k) ≡ nth tagged values
      (h.slot + k)
  same-at h k lt held = register-same values g.registers (h.slot + k) (register s h + k) (held.equal k lt)

  same-first : (h : Home) → 0 < type_width h.ty → HoldsValue s values g h → nth tagged g.registers (register s h) ≡ nth tagged values h.slot
  same-first h some held = grind (arith, same-at h 0 some held)

  same-value : (letter : Sort) (h : Home) → type_width h.ty ≡ size letter → HoldsValue s values g h
      → value_in_register letter (register s h) g.registers ≡ value_in_register letter h.slot values
  same-value x h e held = grind (arith, same-first, same-at)

  -- what is loaded from homes that hold their values
  loaded-piled : (hs : List Home) (stack : List Cell) → Each (HoldsValue s values g) hs → loaded_stack s g.registers hs stack
      ≡ piled values (reverse hs) stack
  loaded-piled [] stack held = refl
  loaded-piled (h ∷ hs) stack held =
      ap (λ (cs : List Cell). loaded_stack s g.registers hs (cs ++ stack)) (same-value (letter_of h.ty) h (wide h.ty) held.0)
      ∙ (loaded-piled hs (value_in_register (letter_of h.ty) h.slot values ++ stack) held.1
      ∙ (sym (piled-append values (reverse hs) (h ∷ []) stack) ∙ ap (λ (ks : List Home). piled values ks stack) (sym (turned-cons h hs))))

-- ---- lists

take-first : (xs ys : List Cell) → take (length xs) (xs ++ ys) ≡ xs
take-first [] ys = refl
take-first (x ∷ xs) ys = ap (λ (cs : List Cell). x ∷ cs) (take-first xs ys)

-- the cells of a stack under the first ones, from the bottom
turned-drop : (xs : List Cell) (k : ℕ) → k ≤ length xs → reverse (take (length xs - k) (reverse xs)) ≡ drop k xs
turned-drop xs k le =
    let parts : reverse xs ≡ reverse (drop k xs) ++ reverse (take k xs) =
    ap reverse (sym (take-append-drop k xs)) ∙ reverse-append (take k xs) (drop k xs) in
    let count : length xs - k ≡ length (reverse (drop k xs)) = omega (arith, length-reverse (drop k xs), length-drop k xs, le) in
    ap (λ (n : ℕ). reverse (take n (reverse xs))) count
    ∙ (ap (λ (cs : List Cell). reverse (take (length (reverse (drop k xs))) cs)) parts
    ∙ (ap reverse (take-first (reverse (drop k xs)) (reverse (take k xs))) ∙ reverse-reverse (drop k xs)))

follow-left : (n : ℕ) (hs ks : List Home) → Follow n (hs ++ ks) → Follow n hs
follow-left n [] ks follow = tt
follow-left n (h ∷ hs) ks follow = (follow.0, follow-left (n + type_width h.ty) hs ks follow.1)

follow-right : (n : ℕ) (hs ks : List Home) → Follow n (hs ++ ks) → Follow (n + register_sum hs) ks
unfolding register_sum
follow-right n [] ks follow = let e : n ≡ n + 0 = omega arith in subst (λ (m : ℕ). Follow m ks) e follow
follow-right n (h ∷ hs) ks follow =
    let sum = sum_by-cons (λ (x : Home). type_width x.ty) h hs in
    let e : n + type_width h.ty + sum_by (λ (x : Home). type_width x.ty) hs ≡ n + sum_by (λ (x : Home). type_width x.ty) (h ∷ hs) = omega (arith, sum) in
    subst (λ (m : ℕ). Follow m ks) e (follow-right (n + type_width h.ty) hs ks follow.1)

-- homes that follow one another end where their registers do
slots-to : (n : ℕ) (hs : List Home) → Follow n hs → (h : Home) → IsAmong h hs → h.slot + type_width h.ty ≤ n + register_sum hs
unfolding register_sum
slots-to n [] follow h a = absurd a
slots-to n (k ∷ hs) follow h (inl e) =
    let sum = sum_by-cons (λ (x : Home). type_width x.ty) k hs in
    omega (arith, sum, follow.0, ap (λ (x : Home). x.slot) e, ap (λ (x : Home). type_width x.ty) e)
slots-to n (k ∷ hs) follow h (inr a) =
    let sum = sum_by-cons (λ (x : Home). type_width x.ty) k hs in
    omega (arith, sum, slots-to (n + type_width k.ty) hs follow.1 h a)

-- a value among cells, and among more of them
grown : (s : Source) (xs ys : List Cell) (g : Frame Cell) (h : Home) → h.slot + type_width h.ty ≤ length xs → HoldsValue s xs g h
    → HoldsValue s (xs ++ ys) g h
grown s xs ys g h inside held = record {
  known = omega (arith, inside, length-append xs ys);
  there = held.there;
  equal = λ n lt. held.equal n lt ∙ sym (slice_get-left xs ys (h.slot + n) (omega (arith, inside, lt)));
}

cut-back : (s : Source) (xs ys : List Cell) (g : Frame Cell) (h : Home) → h.slot + type_width h.ty ≤ length xs → HoldsValue s (xs ++ ys) g h
    → HoldsValue s xs g h
cut-back s xs ys g h inside held = record {
  known = inside;
  there = held.there;
  equal = λ n lt. held.equal n lt ∙ slice_get-left xs ys (h.slot + n) (omega (arith, inside, lt));
}

among-left : (h : Home) (hs ks : List Home) → IsAmong h hs → IsAmong h (hs ++ ks)
among-left h [] ks a = absurd a
among-left h (k ∷ hs) ks (inl e) = inl e
among-left h (k ∷ hs) ks (inr a) = inr (among-left h hs ks a)

among-right : (h : Home) (hs ks : List Home) → IsAmong h ks → IsAmong h (hs ++ ks)
among-right h [] ks a = a
among-right h (k ∷ hs) ks a = inr (among-right h hs ks a)

-- ---- a conditional over a deeper stack

module _ (v w : Linked) (l : AreMoveLaws v w) (place : ℕ → ℕ) (steps : List Step) (t : State Cell) (s : Source) (is : s.world ≡ v) (plan : IsPlanned s)
    (i : Placed) (k : ℕ) (f : Frame Cell)
    (beside : IsBeside w s i.place f t) (fork : IsForkedAt s i.place k (typed v w l s is plan i.place f t beside).frame)
    (over : has_under s i.place k ≡ true) where
  filled : FillStack s i.place (typed v w l s is plan i.place f t beside).frame
  filled =
      (subst CellsFillStack (sym is) l.fill) s refl plan i.place (typed v w l s is plan i.place f t beside).frame
      (typed v w l s is plan i.place f t beside).at (fork.keeps over)

  follow : Follow (length f.registers) (under s i.place k ++ operands s i.place k)
  follow = grind (arith, count-registers)

  total : register_sum (under s i.place k) + register_sum (operands s i.place k) ≡ length f.stack
  unfolding register_sum
  total =
      sym (sum_by-append (λ (h : Home). type_width h.ty) (under s i.place k) (operands s i.place k)) ∙ (ap register_sum (sym fork.parts)
      ∙ (filled.fill ∙ sym (count-stack v w l s is plan i.place f t beside)))

  deep : k ≤ length f.stack
  deep = omega (arith, fork.fill, total)

  under_sum : register_sum (under s i.place k) ≡ length f.stack - k
  under_sum = omega (arith, fork.fill, total)

  under-piled : piled (slots f) (reverse (under s i.place k)) [] ≡ drop k f.stack
  under-piled =
      let start : length f.registers ≡ length f.registers + 0 = omega arith in
      let count : length (reverse f.stack) ≡ length f.stack = length-reverse f.stack in
      let from_zero : 0 + register_sum (under s i.place k) ≡ length f.stack - k = omega (arith, under_sum) in
      piled-from f.registers (reverse f.stack) (under s i.place k) 0
      (subst (λ (n : ℕ). Follow n (under s i.place k)) start (follow-left (length f.registers) (under s i.place k) (operands s i.place k) follow))
      (omega (arith, total, count))
      ∙ (ap (λ (n : ℕ). reverse (take n (reverse f.stack))) from_zero ∙ turned-drop f.stack k deep)

  operands-piled : piled (slots f) (reverse (operands s i.place k)) [] ≡ take k f.stack
  operands-piled =
      let count : length (reverse f.stack) ≡ length f.stack = length-reverse f.stack in
      let sum : length f.stack - k + register_sum (operands s i.place k) ≡ length (reverse f.stack) = omega (arith, fork.fill, count, deep) in
      let from_under : Follow (length f.registers + (length f.stack - k)) (operands s i.place k) =
      subst (λ (n : ℕ). Follow (length f.registers + n) (operands s i.place k)) under_sum
      (follow-right (length f.registers) (under s i.place k) (operands s i.place k) follow) in
      let all : piled (slots f) (reverse (operands s i.place k)) (reverse (take (length f.stack - k) (reverse f.stack))) ≡ f.stack =
      piled-from f.registers (reverse f.stack) (operands s i.place k) (length f.stack - k) from_under (omega (arith, sum))
      ∙ (ap reverse (take_all (length f.stack - k + register_sum (operands s i.place k)) (reverse f.stack) (omega (arith, sum)))
      ∙ reverse-reverse f.stack) in
      let based : piled (slots f) (reverse (operands s i.place k)) [] ++ drop k f.stack ≡ take k f.stack ++ drop k f.stack =
      sym (piled-base (slots f) (reverse (operands s i.place k)) (drop k f.stack))
      ∙ (ap (piled (slots f) (reverse (operands s i.place k))) (sym (turned-drop f.stack k deep)) ∙ (all ∙ sym (take-append-drop k f.stack))) in
      append_cancel_right (piled (slots f) (reverse (operands s i.place k)) []) (take k f.stack) (drop k f.stack) based

  -- loads of some of the cells
  part-loads :
      (n : ℕ) (hs : List Home) (stack : List Cell)
      → Each (HoldsValue s (slots f) (top t)) hs
      → ((h : Home) → IsAmong h hs → IsAmong h (stack_homes s i.place))
      → IsAtStep w place steps t n (length hs)
      → InstructionsStandFrom steps n (insns (loads s hs))
      → (top t).stack ≡ []
      → piled (slots f) (reverse hs) [] ≡ stack
      → length stack ≤ length f.stack
      → Runs tagged w (length hs) t (running (top_at t (place (n + length hs)) (top t).registers stack))
  part-loads n hs stack held_part inside at stand empty pile less =
      let back : loaded_stack s (top t).registers hs (top t).stack ≡ stack =
      ap (loaded_stack s (top t).registers hs) empty ∙ (loaded-piled s (slots f) (top t) hs [] held_part ∙ pile) in
      let fits : length (loaded_stack s (top t).registers hs (top t).stack) ≤ max_stack_of w (top t).method =
      omega (arith, ap length back, less, stack-fits v w l s is plan i.place f t beside, beside.room) in
      let can : Each (CanLoad w s t) hs = each-among (CanLoad w s t) hs
      (λ h a.
      let c = cells-valued v w l s is plan i.place f t beside (fork.keeps over) h (inside h a) in
      held-can-load w s (slots f) t h (register-small v w l s is plan h c.0.has) (among-each (HoldsValue s (slots f) (top t)) hs h held_part a) c.1) in
      let ran = loads-run w l.world place steps t n s hs at (subst (InstructionsStandFrom steps n) (insns-loads s hs) stand) can fits in
      subst (λ (cs : List Cell). Runs tagged w (length hs) t (running (top_at t (place (n + length hs)) (top t).registers cs))) back ran

  operands-load :
      (n : ℕ) → Each (HoldsValue s (slots f) (top t)) (stack_homes s i.place) → IsAtStep w place steps t n (length (operands s i.place k))
      → InstructionsStandFrom steps n (insns (loads s (operands s i.place k))) → (top t).stack ≡ []
      → Runs tagged w (length (operands s i.place k)) t (running (top_at t (place (n + length (operands s i.place k))) (top t).registers (take k f.stack)))
  operands-load n held at stand empty =
      part-loads n (operands s i.place k) (take k f.stack)
      (each-among (HoldsValue s (slots f) (top t)) (operands s i.place k)
      (λ h a. among-each (HoldsValue s (slots f) (top t)) (stack_homes s i.place) h held
      (subst (IsAmong h) (sym fork.parts) (among-right h (under s i.place k) (operands s i.place k) a))))
      (λ h a. subst (IsAmong h) (sym fork.parts) (among-right h (under s i.place k) (operands s i.place k) a)) at stand empty operands-piled
      (omega (arith, ap length (take-append-drop k f.stack), length-append (take k f.stack) (drop k f.stack)))

  under-load :
      (n : ℕ) → Each (HoldsValue s (slots f) (top t)) (under s i.place k) → IsAtStep w place steps t n (length (under s i.place k))
      → InstructionsStandFrom steps n (insns (loads s (under s i.place k))) → (top t).stack ≡ []
      → Runs tagged w (length (under s i.place k)) t (running (top_at t (place (n + length (under s i.place k))) (top t).registers (drop k f.stack)))
  under-load n held at stand empty =
      part-loads n (under s i.place k) (drop k f.stack) held
      (λ h a. subst (IsAmong h) (sym fork.parts) (among-left h (under s i.place k) (operands s i.place k) a)) at stand empty under-piled
      (omega (arith, ap length (take-append-drop k f.stack), length-append (take k f.stack) (drop k f.stack)))

  -- the cells under the operands, in a frame without these
  under-holds :
      (y g : Frame Cell) → y.registers ≡ f.registers → y.stack ≡ drop k f.stack
      → Each (HoldsValue s (slots f) g) (under s i.place k) ↔ Each (HoldsValue s (slots y) g) (under s i.place k)
  under-holds y g same_registers same_stack = (
    λ all. each-among (HoldsValue s (slots y) g) (under s i.place k)
        (λ h a. cut-back s (slots y) (reverse (take k f.stack)) g h (inside h a)
        (subst (λ (cs : List Cell). HoldsValue s cs g h) parts (among-each (HoldsValue s (slots f) g) (under s i.place k) h all a))),
    λ all. each-among (HoldsValue s (slots f) g) (under s i.place k)
        (λ h a. subst (λ (cs : List Cell). HoldsValue s cs g h) (sym parts)
        (grown s (slots y) (reverse (take k f.stack)) g h (inside h a) (among-each (HoldsValue s (slots y) g) (under s i.place k) h all a))),
  )
    where
      own : slots y ≡ f.registers ++ reverse (drop k f.stack)
      own = ap (λ (rs : List Cell). rs ++ reverse y.stack) same_registers ∙ ap (λ (cs : List Cell). f.registers ++ reverse cs) same_stack

      parts : slots f ≡ slots y ++ reverse (take k f.stack)
      parts =
          ap (λ (cs : List Cell). f.registers ++ cs) (ap reverse (sym (take-append-drop k f.stack)) ∙ reverse-append (take k f.stack) (drop k f.stack))
          ∙ (sym (append_assoc f.registers (reverse (drop k f.stack)) (reverse (take k f.stack)))
          ∙ ap (λ (cs : List Cell). cs ++ reverse (take k f.stack)) (sym own))

      inside : (h : Home) → IsAmong h (under s i.place k) → h.slot + type_width h.ty ≤ length (slots y)
      inside h a =
          let to = slots-to (length f.registers) (under s i.place k) (follow-left (length f.registers) (under s i.place k) (operands s i.place k) follow) h a in
          omega (
            arith,
            to,
            under_sum,
            ap length own,
            length-append f.registers (reverse (drop k f.stack)),
            length-reverse (drop k f.stack),
            length-drop k f.stack,
          )

pub operands-all-load : (v w : Linked) → AreMoveLaws v w → ForksAreCut v → OperandsLoad v w
operands-all-load v w l cuts place steps t n s i op k f is plan beside st names some over at stand empty held =
    let g = typed v w l s is plan i.place f t beside in
    operands-load v w l place steps t s is plan i k f beside ((subst ForksAreCut (sym is) cuts) s refl plan i op k g.frame st g.at names some) over n held
    at stand empty

pub under-all-load : (v w : Linked) → AreMoveLaws v w → ForksAreCut v → UnderLoads v w
under-all-load v w l cuts place steps t n s i op k f is plan beside st names some over at stand empty held =
    let g = typed v w l s is plan i.place f t beside in
    under-load v w l place steps t s is plan i k f beside ((subst ForksAreCut (sym is) cuts) s refl plan i op k g.frame st g.at names some) over n held at
    stand empty

pub under-all-hold : (v w : Linked) → AreMoveLaws v w → ForksAreCut v → UnderHold v w
under-all-hold v w l cuts t s i op k f y g is plan beside st names some over same_registers same_stack =
    let p = typed v w l s is plan i.place f t beside in
    under-holds v w l fixed [] t s is plan i k f beside ((subst ForksAreCut (sym is) cuts) s refl plan i op k p.frame st p.at names some) over y g
    same_registers same_stack
  where
    fixed : ℕ → ℕ
    fixed n = n
