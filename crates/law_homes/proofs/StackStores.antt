-- The values of homes on a stack, and the stores that take them from there.
use Rattle.std.proofs.Common.{◌≡◌, ◌⊎◌, inl, inr, ℕ, zero, suc, ◌+◌, ◌<◌, ◌≤◌, List, [], ◌∷◌, ◌++◌, length, take}
use Rattle.std.proofs.Common.{reverse, set, length-set, refl, ap, ◌∙◌, subst, arith}
use Rattle.std.specs.Prelude.{slice_get, sum_by}
use Rattle.std.proofs.lemmas.List.{take_all, length-reverse, reverse-reverse}
use Rattle.std.proofs.lemmas.List.Sums.{sum_by-cons}
use Rattle.std.proofs.lemmas.Option.{slice_get-get_or}
use Rattle.jc_base.proofs.Lists.{slice_get-farther, slice_get-set_here, slice_get-set_other}
use Rattle.jc_base.specs.Class.{object}
use Rattle.jc_base.specs.declared.ty.Ty.TheVariants.{Bottom, Short, IntHigh, IntLow, Class}
use Rattle.jc_base.specs.World.{Linked}
use Rattle.jc_ops.specs.declared.operation.Operation.TheVariants.{Store}
use Rattle.jc_ops.specs.declared.operation.Sort.{Sort}
use Rattle.jc_ops.specs.declared.operation.Sort.TheVariants as sorts
use Rattle.jc_rules.specs.Demand.{SatisfiesAll}
use Rattle.jc_rules.specs.Rule.{demands}
use Rattle.vm_store.specs.declared.cell.Cell.{Cell}
use Rattle.vm_store.specs.declared.cell.ObjectKind.{ObjectKind}
use Rattle.vm_store.specs.Cells.{tagged}
use Rattle.vm_store.specs.State.{Frame, nth}
use Rattle.law_sound.specs.Frames.{least_types}
use Rattle.law_alike.proofs.Asked.{register-same}
use Rattle.xf_homes.specs.declared.home.Home.{Home}
use Rattle.xf_homes.specs.Order.{SlotsFollow as Follow, register_sum}
use Rattle.xf_homes.specs.Value.{type_width}
use Rattle.xf_homes.specs.Source.{Source}
use Rattle.xf_homes.specs.Plan.{register}
use Rattle.law_rewritten_typing.proofs.Stacks.{turned-cons}
use Rattle.law_homes.specs.Held.{HoldsValue, slots}
use Rattle.law_homes.specs.Laws.{AreApart}
use Rattle.law_homes.specs.Moves.{size, letter_of, value_in_register}
use Rattle.law_homes.proofs.Copies.{wide}
use Rattle.law_homes.proofs.Stacked.{more-taken}
use Rattle.law_homes.proofs.Valued.{asked_types, IsCellOf, CellsAt, at-nth, least-count}
use Rattle.law_homes.proofs.CopiedHomes.{beside}

-- ---- values on a stack

-- the values of homes on a stack, that of the first on top
abbrev pub piled : List Cell → List Home → List Cell → List Cell
piled values [] stack = stack
piled values (k ∷ ks) stack = value_in_register (letter_of k.ty) k.slot values ++ piled values ks stack

pub piled-append : (values : List Cell) (hs ks : List Home) (stack : List Cell) → piled values (hs ++ ks) stack ≡ piled values hs (piled values ks stack)
piled-append values [] ks stack = refl
piled-append values (h ∷ hs) ks stack = ap (λ (cs : List Cell). value_in_register (letter_of h.ty) h.slot values ++ cs) (piled-append values hs ks stack)

module _ (regs xs : List Cell) where
  slot-is : (j : ℕ) → nth tagged (regs ++ xs) (length regs + j) ≡ nth tagged xs j
  slot-is j = register-same xs (regs ++ xs) j (length regs + j) (slice_get-farther regs xs j (length regs + j) refl)

  one-on : (j : ℕ) → j + 1 ≤ length xs → nth tagged (regs ++ xs) (length regs + j) ∷ reverse (take j xs) ≡ reverse (take (j + 1) xs)
  one-on j le = grind (arith, suc, reverse, slot-is, more-taken)

  value-on :
      (letter : Sort) (j : ℕ) → j + size letter ≤ length xs
      → value_in_register letter (length regs + j) (regs ++ xs) ++ reverse (take j xs) ≡ reverse (take (j + size letter) xs)
  value-on sorts.Reference j le = one-on j le
  value-on sorts.Short j le = one-on j le
  value-on sorts.Int j le = grind (arith, reverse (take j xs), one-on j (omega (arith, le)), one-on (j + 1) (omega (arith, le)))

  -- the values of homes that follow one another from a cell on
  pub piled-from :
      (hs : List Home) (j : ℕ) → Follow (length regs + j) hs → j + register_sum hs ≤ length xs
      → piled (regs ++ xs) (reverse hs) (reverse (take j xs)) ≡ reverse (take (j + register_sum hs) xs)
  unfolding register_sum
  piled-from [] j follow le = let e : j ≡ j + 0 = omega arith in ap (λ (n : ℕ). reverse (take n xs)) e
  piled-from (h ∷ hs) j follow le =
      let w : type_width h.ty ≡ size (letter_of h.ty) = wide h.ty in
      let sum : sum_by (λ (x : Home). type_width x.ty) (h ∷ hs) ≡ type_width h.ty + sum_by (λ (x : Home). type_width x.ty) hs =
      sum_by-cons (λ (x : Home). type_width x.ty) h hs in
      let next : length regs + j + type_width h.ty ≡ length regs + (j + size (letter_of h.ty)) = omega (arith, w) in
      let rest = piled-from hs (j + size (letter_of h.ty)) (subst (λ (n : ℕ). Follow n hs) next follow.1) (omega (arith, le, sum, w)) in
      let whole : j + size (letter_of h.ty) + sum_by (λ (x : Home). type_width x.ty) hs ≡ j + sum_by (λ (x : Home). type_width x.ty) (h ∷ hs) =
      omega (arith, sum, w) in
      let own : value_in_register (letter_of h.ty) h.slot (regs ++ xs) ++ reverse (take j xs) ≡ reverse (take (j + size (letter_of h.ty)) xs) =
      ap (λ (n : ℕ). value_in_register (letter_of h.ty) n (regs ++ xs) ++ reverse (take j xs)) follow.0
      ∙ value-on (letter_of h.ty) j (omega (arith, le, sum, w)) in
      ap (λ (ks : List Home). piled (regs ++ xs) ks (reverse (take j xs))) (turned-cons h hs)
      ∙ (piled-append (regs ++ xs) (reverse hs) (h ∷ []) (reverse (take j xs))
      ∙ (ap (piled (regs ++ xs) (reverse hs)) own ∙ (rest ∙ ap (λ (n : ℕ). reverse (take n xs)) whole)))

-- the values of the homes of a whole stack
pub piled-stack : (f : Frame Cell) (hs : List Home) → Follow (length f.registers) hs → register_sum hs ≡ length f.stack
    → piled (slots f) (reverse hs) [] ≡ f.stack
piled-stack f hs follow sum =
    let xs : List Cell = reverse f.stack in
    let count : length xs ≡ length f.stack = length-reverse f.stack in
    let start : length f.registers ≡ length f.registers + 0 = omega arith in
    piled-from f.registers xs hs 0 (subst (λ (n : ℕ). Follow n hs) start follow) (omega (arith, sum, count))
    ∙ (ap reverse (take_all (0 + register_sum hs) xs (omega (arith, sum, count))) ∙ reverse-reverse f.stack)

-- ---- registers after a store

-- the value that begins at a slot is stored in registers
abbrev pub stored : Sort → List Cell → ℕ → ℕ → List Cell → List Cell
stored sorts.Int values slot r registers = set (set registers r (nth tagged values slot)) (r + 1) (nth tagged values (slot + 1))
stored _ values slot r registers = set registers r (nth tagged values slot)

pub stored-count : (letter : Sort) (values : List Cell) (slot r : ℕ) (registers : List Cell) → length (stored letter values slot r registers)
    ≡ length registers
stored-count x values slot r registers = grind (arith, length-set)

stored-other :
    (letter : Sort) (values : List Cell) (slot r : ℕ) (registers : List Cell) (n : ℕ) → (n < r) ⊎ (r + size letter ≤ n)
    → slice_get (stored letter values slot r registers) n ≡ slice_get registers n
stored-other x values slot r registers n out = grind (arith, slice_get-set_other, beside)

first-stored :
    (values : List Cell) (slot r : ℕ) (registers : List Cell) → slot + 1 ≤ length values → r + 1 ≤ length registers
    → slice_get (set registers r (nth tagged values slot)) (r + 0) ≡ slice_get values (slot + 0)
first-stored values slot r registers there inside = grind (arith, slice_get-set_here, slice_get-get_or)

stored-here :
    (letter : Sort) (values : List Cell) (slot r : ℕ) (registers : List Cell) (k : ℕ) → k < size letter
    → slot + size letter ≤ length values → r + size letter ≤ length registers
    → slice_get (stored letter values slot r registers) (r + k) ≡ slice_get values (slot + k)
stored-here sorts.Reference values slot r registers zero lt there inside = first-stored values slot r registers there inside
stored-here sorts.Reference values slot r registers (suc k) lt there inside = absurd (omega (arith, lt))
stored-here sorts.Short values slot r registers zero lt there inside = first-stored values slot r registers there inside
stored-here sorts.Short values slot r registers (suc k) lt there inside = absurd (omega (arith, lt))
stored-here sorts.Int values slot r registers zero lt there inside = grind (arith, slice_get-set_other, first-stored)
stored-here sorts.Int values slot r registers (suc zero) lt there inside = grind (arith, length-set, slice_get-set_here, slice_get-get_or)
stored-here sorts.Int values slot r registers (suc (suc k)) lt there inside = absurd (omega (arith, lt))

module _ (s : Source) (g : Frame Cell) (k : Home) (values : List Cell) (inside : register s k + type_width k.ty ≤ length g.registers) where
  abbrev after : Frame Cell
  after = record g { registers = stored (letter_of k.ty) values k.slot (register s k) g.registers }

  -- the home that was written holds what was stored
  pub stored-holds : k.slot + type_width k.ty ≤ length values
      → HoldsValue s values (record g { registers = stored (letter_of k.ty) values k.slot (register s k) g.registers }) k
  stored-holds there = grind (arith, stored-count, stored-here)

  -- one apart from it holds what it held
  pub stored-apart :
      (others : List Cell) (a : Home) → AreApart (register s a) (type_width a.ty) (register s k) (type_width k.ty) → HoldsValue s others g a
      → HoldsValue s others (record g { registers = stored (letter_of k.ty) values k.slot (register s k) g.registers }) a
  stored-apart others a apart held =
      let count = stored-count (letter_of k.ty) values k.slot (register s k) g.registers in
      let there = held.there in
      record {
        known = held.known;
        there = omega (arith, there, count);
        equal = λ n lt. stored-other (letter_of k.ty) values k.slot (register s k) g.registers (register s a + n) (out n lt apart) ∙ held.equal n lt;
      }
    where
      out : (n : ℕ) → n < type_width a.ty → AreApart (register s a) (type_width a.ty) (register s k) (type_width k.ty)
          → (register s a + n < register s k) ⊎ (register s k + size (letter_of k.ty) ≤ register s a + n)
      out n lt (inl before) = inl (omega (arith, before, lt))
      out n lt (inr behind) = let w = wide k.ty in inr (omega (arith, behind, w))

-- ---- what a store asks

pub store-asked :
    (w : Linked) (ks : List ObjectKind) (letter : Sort) (values : List Cell) (slot r : ℕ) (registers stack : List Cell)
    → CellsAt w.classes ks values slot (asked_types w.classes letter) → r + size letter ≤ length registers
    → SatisfiesAll w.classes
    (record {
      regs = least_types w.classes Bottom ks registers;
      stack = least_types w.classes Bottom ks (value_in_register letter slot values ++ stack);
    }) (demands w (Store letter r))
store-asked w ks sorts.Reference values slot r registers stack h inside = (
  least-count w.classes ks registers (r + 1) inside,
  ((at-nth values slot (IsCellOf w.classes ks (Class (object w.classes))) h.0).1.1, tt),
)
store-asked w ks sorts.Short values slot r registers stack h inside = (
  least-count w.classes ks registers (r + 1) inside,
  ((at-nth values slot (IsCellOf w.classes ks Short) h.0).1.1, tt),
)
store-asked w ks sorts.Int values slot r registers stack h inside = (
  least-count w.classes ks registers (r + 2) inside,
  (
    (at-nth values (slot + 1) (IsCellOf w.classes ks IntLow) h.1.0).1.1,
    ((at-nth values slot (IsCellOf w.classes ks IntHigh) h.0).1.1, tt),
  ),
)
