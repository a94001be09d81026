-- The loads of the homes of a whole stack put that stack back.
use Rattle.std.proofs.Common.{◌≡◌, ℕ, suc, ◌+◌, ◌<◌, ◌≤◌, List, [], ◌∷◌, ◌++◌, length, take, reverse, refl, sym, ap}
use Rattle.std.proofs.Common.{◌∙◌, subst, arith}
use Rattle.std.specs.Prelude.{sum_by}
use Rattle.std.proofs.Math.Seq.{take-suc}
use Rattle.std.proofs.lemmas.List.{take_all, length-reverse, reverse-append, reverse-reverse}
use Rattle.std.proofs.lemmas.List.Sums.{sum_by-cons}
use Rattle.jc_base.specs.Each.{Each}
use Rattle.jc_base.proofs.Lists.{slice_get-farther}
use Rattle.jc_ops.specs.declared.operation.Sort.{Sort}
use Rattle.jc_ops.specs.declared.operation.Sort.TheVariants as sorts
use Rattle.vm_store.specs.declared.cell.Cell.{Cell}
use Rattle.vm_store.specs.declared.cell.Cell.TheVariants.{Empty}
use Rattle.vm_store.specs.Cells.{tagged}
use Rattle.vm_store.specs.State.{Frame, nth}
use Rattle.law_alike.proofs.Asked.{register-same}
use Rattle.xf_homes.specs.declared.home.Home.{Home}
use Rattle.xf_homes.specs.Order.{SlotsFollow as Follow, register_sum}
use Rattle.xf_homes.specs.Value.{type_width}
use Rattle.xf_homes.specs.Source.{Source}
use Rattle.xf_homes.specs.Plan.{register}
use Rattle.law_homes.specs.Held.{HoldsValue}
use Rattle.law_homes.specs.Moves.{size, letter_of, value_in_register, loaded_stack, LoadedIsStack}
use Rattle.law_homes.proofs.Copies.{wide}

-- the cells up to one more, from the top
pub more-taken : (xs : List Cell) (j : ℕ) → j < length xs → reverse (take (suc j) xs) ≡ nth tagged xs j ∷ reverse (take j xs)
more-taken xs j lt = ap reverse (take-suc xs j Empty lt) ∙ reverse-append (take j xs) (nth tagged xs j ∷ [])

module _ (s : Source) (g : Frame Cell) (regs xs : List Cell) where
  -- a register of a home has the cell of the stack at its slot
  cell-is :
      (h : Home) (j k : ℕ) → h.slot ≡ length regs + j → k < type_width h.ty → HoldsValue s (regs ++ xs) g h
      → nth tagged g.registers (register s h + k) ≡ nth tagged xs (j + k)
  cell-is h j k slot lt held = grind (arith, register-same, slice_get-farther)

  at-zero :
      (h : Home) (j : ℕ) → h.slot ≡ length regs + j → HoldsValue s (regs ++ xs) g h → 0 < type_width h.ty
      → nth tagged g.registers (register s h) ≡ nth tagged xs j
  at-zero h j slot held some = grind (arith, cell-is h j 0 slot some held)

  -- a value of one cell
  one :
      (h : Home) (j : ℕ) → h.slot ≡ length regs + j → j + 1 ≤ length xs → type_width h.ty ≡ 1 → HoldsValue s (regs ++ xs) g h
      → nth tagged g.registers (register s h) ∷ reverse (take j xs) ≡ reverse (take (j + 1) xs)
  one h j slot le single held =
      let next : suc j ≡ j + 1 = omega arith in
      ap (λ c. c ∷ reverse (take j xs)) (at-zero h j slot held (omega (arith, single)))
      ∙ (sym (more-taken xs j (omega (arith, le))) ∙ ap (λ n. reverse (take n xs)) next)

  one-value :
      (letter : Sort) (h : Home) (j : ℕ) → letter_of h.ty ≡ letter → h.slot ≡ length regs + j → j + size letter ≤ length xs
      → type_width h.ty ≡ size letter → HoldsValue s (regs ++ xs) g h
      → value_in_register letter (register s h) g.registers ++ reverse (take j xs) ≡ reverse (take (j + size letter) xs)
  one-value sorts.Reference h j is slot le fits held = one h j slot le fits held
  one-value sorts.Short h j is slot le fits held = one h j slot le fits held
  one-value sorts.Int h j is slot le fits held = grind (arith, at-zero, cell-is, suc, reverse, more-taken)

  loaded :
      (hs : List Home) (j : ℕ) → Follow (length regs + j) hs → j + register_sum hs ≤ length xs → Each (HoldsValue s (regs ++ xs) g) hs
      → loaded_stack s g.registers hs (reverse (take j xs)) ≡ reverse (take (j + register_sum hs) xs)
  unfolding register_sum
  loaded [] j follow le held = let e : j ≡ j + 0 = omega arith in ap (λ n. reverse (take n xs)) e
  loaded (h ∷ hs) j follow le held =
      let w : type_width h.ty ≡ size (letter_of h.ty) = wide h.ty in
      let sum : sum_by (λ (x : Home). type_width x.ty) (h ∷ hs) ≡ type_width h.ty + sum_by (λ (x : Home). type_width x.ty) hs =
      sum_by-cons (λ (x : Home). type_width x.ty) h hs in
      let first = one-value (letter_of h.ty) h j refl follow.0 (omega (arith, le, sum, w)) w held.0 in
      let next : length regs + j + type_width h.ty ≡ length regs + (j + size (letter_of h.ty)) = omega (arith, w) in
      let rest = loaded hs (j + size (letter_of h.ty)) (subst (λ n. Follow n hs) next follow.1) (omega (arith, le, sum, w))
      held.1 in
      let whole : j + size (letter_of h.ty) + sum_by (λ (x : Home). type_width x.ty) hs
      ≡ j + sum_by (λ (x : Home). type_width x.ty) (h ∷ hs) = omega (arith, sum, w) in
      ap (loaded_stack s g.registers hs) first ∙ (rest ∙ ap (λ n. reverse (take n xs)) whole)

pub loaded-is-stack : LoadedIsStack
loaded-is-stack s f g hs follow sum held =
    let xs : List Cell = reverse f.stack in
    let count : length xs ≡ length f.stack = length-reverse f.stack in
    let start : length f.registers ≡ length f.registers + 0 = omega arith in
    let all = loaded s g f.registers xs hs 0 (subst (λ n. Follow n hs) start follow) (omega (arith, sum, count)) held in
    all ∙ (ap reverse (take_all (0 + register_sum hs) xs (omega (arith, sum, count))) ∙ reverse-reverse f.stack)
