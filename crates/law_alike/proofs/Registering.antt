-- Loads, stores and increments in two states that are alike, each of its own registers.
use Rattle.std.proofs.Common.{◌≡◌, ℕ, zero, suc, ◌+◌, ◌<◌, ◌≤◌, ◌⊎◌, List, [], length, map, drop, set, sym, ap}
use Rattle.std.proofs.Common.{◌∙◌, subst, arith, length-set, true}
use Rattle.std.specs.Prelude.{ℤ, Some, slice_get}
use Rattle.std.specs.Int.{w16, w32, int_wrapping_add}
use Rattle.std.proofs.lemmas.List.{drop-map}
use Rattle.jc_ops.specs.declared.operation.Sort.{Sort}
use Rattle.jc_ops.specs.declared.operation.Sort.TheVariants as sorts
use Rattle.jc_ops.specs.declared.operation.Width.{Width}
use Rattle.jc_ops.specs.declared.operation.Width.TheVariants as widths
use Rattle.jc_rules.specs.Footprint.{Footprint}
use Rattle.vm_arithmetic.specs.Arithmetic.{int_to_short, high_word, low_word, int_of_words, short_of_word}
use Rattle.vm_store.specs.declared.cell.Cell.{Cell}
use Rattle.vm_store.specs.declared.cell.Cell.TheVariants as cells
use Rattle.vm_store.specs.declared.cell.CellKind.{CellKind}
use Rattle.vm_store.specs.Cells.{tagged, word_of, loaded_as}
use Rattle.vm_store.specs.State.{State, nth}
use Rattle.vm_step.specs.Act.{goes}
use Rattle.vm_step.specs.Values.{with_load, with_store, incremented, with_increment, loaded_cells}
use Rattle.law_alike.specs.Alike.{renamed_cell}
use Rattle.law_alike.proofs.Cells.{nth-renamed, loaded-stays}
use Rattle.law_alike.proofs.Twins.{Pair, one, two, first, second, Kept, Does, goes_both, twins, replaced-does}
use Rattle.law_alike.proofs.Storing.{CellStays}
use Rattle.jc_base.proofs.Lists.{slice_get-set_here, slice_get-set_other}

-- ---- registers that are written

-- the footprint of one register, and of two
pub record Writes (p : Footprint) (x n : ℕ) : Type 0 where
  pub register : p.register ≡ x
  pub written : p.written ≡ n

outside :
    (p : Footprint) (x n k : ℕ) → Writes p x n → (k < p.register) ⊎ (p.register + p.written ≤ k) → (j : ℕ) → j < n → x + j ≡ k → ⊥
outside p x n k w w2 j small e = grind (arith)

kept-one : (p : Footprint) (x : ℕ) (registers : List Cell) (c : Cell) → Writes p x 1 → Kept p registers (set registers x c)
kept-one p x registers c w = record {
  count = length-set registers x c;
  others = λ k out. slice_get-set_other registers x k c (λ e. outside p x 1 k w out 0 (omega arith) (omega (arith, e)));
}

kept-two :
    (p : Footprint) (x : ℕ) (registers : List Cell) (c d : Cell) → Writes p x 2
    → Kept p registers (set (set registers x c) (x + 1) d)
kept-two p x registers c d w = record {
  count = length-set (set registers x c) (x + 1) d ∙ length-set registers x c;
  others = λ k out.
      slice_get-set_other (set registers x c) (x + 1) k d (λ e. outside p x 2 k w out 1 (omega arith) e)
      ∙ slice_get-set_other registers x k c (λ e. outside p x 2 k w out 0 (omega arith) (omega (arith, e)));
}

module _ (x : Pair) where
  -- register b of the second state holds the cell of register a of the first
  abbrev pub RegisterSame : ℕ → ℕ → Type 0
  RegisterSame a b = nth tagged x.registers b ≡ nth tagged x.frame.registers a

  abbrev pub RegisterStays : ℕ → Type 0
  RegisterStays a = renamed_cell x.rename (nth tagged x.frame.registers a) ≡ nth tagged x.frame.registers a

  -- both have the registers, which are those that they write
  pub record Ranged (a b n : ℕ) : Type 0 where
    pub here : a + n ≤ length x.frame.registers
    pub there : b + n ≤ length x.registers
    pub print : Writes x.print a n
    pub other : Writes x.other_print b n

  one-written :
      (a b : ℕ) (c : Cell) → Ranged a b 1 → (n : ℕ) → n < x.print.written
      → slice_get (set x.registers b c) (x.other_print.register + n) ≡ slice_get (set x.frame.registers a c) (x.print.register + n)
  one-written a b c r n lt = grind (arith, slice_get-set_here)

  -- both of two that are written
  at-first :
      (registers : List Cell) (a : ℕ) (c d : Cell) → a + 2 ≤ length registers → slice_get (set (set registers a c) (a + 1) d) a
      ≡ Some c
  at-first registers a c d h = grind (arith, slice_get-set_other, slice_get-set_here)

  at-second :
      (registers : List Cell) (a : ℕ) (c d : Cell) → a + 2 ≤ length registers
      → slice_get (set (set registers a c) (a + 1) d) (a + 1) ≡ Some d
  at-second registers a c d h = slice_get-set_here (set registers a c) (a + 1) d (let e = length-set registers a c in omega (arith, h, e))

  two-written :
      (a b : ℕ) (c d : Cell) → Ranged a b 2 → (n : ℕ) → n < x.print.written
      → slice_get (set (set x.registers b c) (b + 1) d) (x.other_print.register + n)
      ≡ slice_get (set (set x.frame.registers a c) (a + 1) d) (x.print.register + n)
  two-written a b c d r n lt =
      ap (λ k. slice_get (set (set x.registers b c) (b + 1) d) (k + n)) r.other.register
      ∙ (go n (subst (λ k. n < k) r.print.written lt)
      ∙ ap (λ k. slice_get (set (set x.frame.registers a c) (a + 1) d) (k + n)) (sym r.print.register))
    where
      go : (n : ℕ) → n < 2
          → slice_get (set (set x.registers b c) (b + 1) d) (b + n) ≡ slice_get (set (set x.frame.registers a c) (a + 1) d) (a + n)
      go zero small =
          let e : b + 0 ≡ b = omega arith in
          let g : a + 0 ≡ a = omega arith in
          ap (slice_get (set (set x.registers b c) (b + 1) d)) e
          ∙ (at-first x.registers b c d r.there ∙ sym (at-first x.frame.registers a c d r.here)
          ∙ ap (slice_get (set (set x.frame.registers a c) (a + 1) d)) (sym g))
      go (suc zero) small = at-second x.registers b c d r.there ∙ sym (at-second x.frame.registers a c d r.here)
      go (suc (suc n)) small = absurd (omega (arith, small))

  -- ---- states with other registers

  one-does :
      x.falls ≡ true → (a b taken : ℕ) (c d : Cell) → Ranged a b 1 → d ≡ c
      → Does x (goes (one x (set x.frame.registers a c) (drop taken x.frame.stack) x.heap x.statics))
      (goes (two x (set x.registers b d) (drop taken (map (renamed_cell x.rename) x.frame.stack)) x.heap x.statics))
  one-does falls a b taken c d r e =
      subst
      (λ k. Does x (goes (one x (set x.frame.registers a c) (drop taken x.frame.stack) x.heap x.statics))
      (goes (two x (set x.registers b k) (drop taken (map (renamed_cell x.rename) x.frame.stack)) x.heap x.statics))) (sym e)
      (subst
      (λ cs. Does x (goes (one x (set x.frame.registers a c) (drop taken x.frame.stack) x.heap x.statics))
      (goes (two x (set x.registers b c) cs x.heap x.statics)))
      (sym (drop-map (renamed_cell x.rename) taken x.frame.stack))
      (goes_both falls (twins x (set x.frame.registers a c) (set x.registers b c) (drop taken x.frame.stack) x.heap x.statics
      (kept-one x.print a x.frame.registers c r.print) (kept-one x.other_print b x.registers c r.other) (one-written a b c r)
      x.heap_stays x.statics_stay)))

  two-does :
      x.falls ≡ true → (a b taken : ℕ) (c d u v : Cell) → Ranged a b 2 → u ≡ c → v ≡ d
      → Does x (goes (one x (set (set x.frame.registers a c) (a + 1) d) (drop taken x.frame.stack) x.heap x.statics))
      (goes (two x (set (set x.registers b u) (b + 1) v) (drop taken (map (renamed_cell x.rename) x.frame.stack)) x.heap x.statics))
  two-does falls a b taken c d u v r e g =
      let before : State Cell = one x (set (set x.frame.registers a c) (a + 1) d) (drop taken x.frame.stack) x.heap x.statics in
      subst (λ k. Does x (goes before)
      (goes (two x (set (set x.registers b k) (b + 1) v) (drop taken (map (renamed_cell x.rename) x.frame.stack)) x.heap
      x.statics))) (sym e)
      (subst (λ k. Does x (goes before)
      (goes (two x (set (set x.registers b c) (b + 1) k) (drop taken (map (renamed_cell x.rename) x.frame.stack)) x.heap
      x.statics))) (sym g)
      (subst (λ cs. Does x (goes before) (goes (two x (set (set x.registers b c) (b + 1) d) cs x.heap x.statics)))
      (sym (drop-map (renamed_cell x.rename) taken x.frame.stack))
      (goes_both falls (twins x (set (set x.frame.registers a c) (a + 1) d) (set (set x.registers b c) (b + 1) d)
      (drop taken x.frame.stack) x.heap x.statics
      (kept-two x.print a x.frame.registers c d r.print) (kept-two x.other_print b x.registers c d r.other) (two-written a b c d r)
      x.heap_stays x.statics_stay))))

  nth-same : (n : ℕ) → CellStays x n → nth tagged (map (renamed_cell x.rename) x.frame.stack) n ≡ nth tagged x.frame.stack n
  nth-same n h = nth-renamed x.rename x.frame.stack n ∙ h

  -- ---- stores

  abbrev pub Stored : Sort → Type 0
  Stored sorts.Int = CellStays x 1 × CellStays x 0
  Stored _ = CellStays x 0

  abbrev pub cell_count : Sort → ℕ
  cell_count sorts.Int = 2
  cell_count _ = 1

  pub store-does :
      x.falls ≡ true → (sort : Sort) (a b : ℕ) → Ranged a b (cell_count sort) → Stored sort
      → Does x (goes (with_store tagged sort a (first x))) (goes (with_store tagged sort b (second x)))
  store-does falls sorts.Reference a b r h = one-does falls a b 1 (nth tagged x.frame.stack 0) _ r (nth-same 0 h)
  store-does falls sorts.Short a b r h = one-does falls a b 1 (nth tagged x.frame.stack 0) _ r (nth-same 0 h)
  store-does falls sorts.Int a b r h =
      two-does falls a b 2 (nth tagged x.frame.stack 1) (nth tagged x.frame.stack 0) _ _ r (nth-same 1 h.0) (nth-same 0 h.1)

  -- ---- increments

  abbrev pub Counted : Width → ℕ → ℕ → Type 0
  Counted widths.Short a b = RegisterSame a b
  Counted widths.Int a b = RegisterSame a b × RegisterSame (a + 1) (b + 1)

  abbrev pub number_count : Width → ℕ
  number_count widths.Short = 1
  number_count widths.Int = 2

  pub increment-does :
      x.falls ≡ true → (width : Width) (a b : ℕ) (amount : ℤ) → Ranged a b (number_count width) → Counted width a b
      → Does x (goes (with_increment tagged width a amount (first x))) (goes (with_increment tagged width b amount (second x)))
  increment-does falls widths.Short a b amount r h =
      one-does falls a b 0 (cells.Short (incremented tagged widths.Short x.frame.registers a amount)) _ r
      (ap (λ c. cells.Short (int_wrapping_add w16 (short_of_word (word_of c)) (int_to_short amount))) h)
  increment-does falls widths.Int a b amount r h =
      let n : ℤ = incremented tagged widths.Int x.frame.registers a amount in
      let same : incremented tagged widths.Int x.registers b amount ≡ n =
      ap (λ c. int_wrapping_add w32 (int_of_words (word_of c) (word_of (nth tagged x.registers (b + 1)))) amount) h.0
      ∙ ap (λ c. int_wrapping_add w32 (int_of_words (word_of (nth tagged x.frame.registers a)) (word_of c)) amount) h.1 in
      two-does falls a b 0 (cells.High (high_word n)) (cells.Low (low_word n)) _ _ r (ap (λ k. cells.High (high_word k)) same)
      (ap (λ k. cells.Low (low_word k)) same)

  -- ---- loads

  -- the cells are there, and stay
  pub record Loaded (a b : ℕ) : Type 0 where
    pub same : RegisterSame a b
    pub stays : RegisterStays a

  abbrev pub LoadedFor : Sort → ℕ → ℕ → Type 0
  LoadedFor sorts.Int a b = Loaded a b × Loaded (a + 1) (b + 1)
  LoadedFor _ a b = Loaded a b

  pub load-does :
      x.print.written ≡ 0 → x.falls ≡ true → (sort : Sort) (a b : ℕ) → LoadedFor sort a b
      → Does x (goes (with_load tagged sort a (first x))) (goes (with_load tagged sort b (second x)))
  load-does none falls sort a b h =
      replaced-does x none falls 0 (loaded_cells tagged sort x.frame.registers a) (loaded_cells tagged sort x.registers b)
      (go sort h)
    where
      loaded :
          (kind : CellKind) (a b : ℕ) → Loaded a b → renamed_cell x.rename (loaded_as kind (nth tagged x.frame.registers a))
          ≡ loaded_as kind (nth tagged x.registers b)
      loaded kind a b l = loaded-stays x.rename kind (nth tagged x.frame.registers a) l.stays ∙ ap (loaded_as kind) (sym l.same)

      go :
          (sort : Sort) → LoadedFor sort a b → map (renamed_cell x.rename) (loaded_cells tagged sort x.frame.registers a)
          ≡ loaded_cells tagged sort x.registers b
      go x l = grind (arith)
