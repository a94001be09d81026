-- Arguments that are handed to the parameters of a method, one after another.
use Rattle.std.proofs.Common.{◌≡◌, ◌<◌, ◌≤◌, ◌+◌, ℕ, Bool, true, false, List, [], ◌∷◌, ◌++◌, length, drop, get_or}
use Rattle.std.proofs.Common.{refl, sym, ap, ◌∙◌, subst, arith, Some, None}
use Rattle.std.specs.Prelude.{filter, if◌then◌else◌, ℤ, slice_get}
use Rattle.std.proofs.lemmas.Bool.{false≢true}
use Rattle.std.proofs.lemmas.List.{length-append, drop_more, drop_all}
use Rattle.jc_base.specs.declared.ty.Ty.{Ty}
use Rattle.jc_base.specs.declared.ty.Ty.TheVariants as types
use Rattle.jc_base.specs.Cell.{AreWhole, no_cells, whole_int, one_cell, IsNoHalf}
use Rattle.jc_ops.specs.declared.operation.Width.TheVariants as widths
use Rattle.vm_store.specs.Cells.{Cells}
use Rattle.vm_store.specs.State.{Frame, State, IsRunning, top, first_frame, other_frames, with_top}
use Rattle.vm_store.specs.Layout.{overwritten}
use Rattle.vm_run.proofs.WritesInOrder.{overwritten-append}
use Rattle.vm_step.specs.Numbers.{number_cells}
use Rattle.vm_step.specs.Arguments.{Argument, number, null, bytes}
use Rattle.vm_step.specs.Start.{argument_cells, arrays_made, cells_handed, first_misfit, fits, is_parameter}
use Rattle.jc_decode.proofs.Elements.{drop-here}

-- the first argument fits where none is a misfit
pub first-fits : (n : ℕ) (arg : Argument) (args : List Argument) (ty : Ty) (tys : List Ty) → first_misfit n (arg ∷ args) (ty ∷ tys) ≡ None
    → (fits arg ty ≡ true) × (first_misfit (n + 1) args tys ≡ None)
first-fits n arg args ty tys e = go (fits arg ty) refl where
  go : (b : Bool) → fits arg ty ≡ b → (fits arg ty ≡ true) × (first_misfit (n + 1) args tys ≡ None)
  go true h = (h, sym (ap (λ c. if c then first_misfit (n + 1) args tys else Some n) h) ∙ e)
  go false h = let bad : Some n ≡ None = sym (ap (λ c. if c then first_misfit (n + 1) args tys else Some n) h) ∙ e in absurd (cc)

pub misfit-here : (n : ℕ) (arg : Argument) (args : List Argument) (ty : Ty) (tys : List Ty) → fits arg ty ≡ false
    → first_misfit n (arg ∷ args) (ty ∷ tys) ≡ Some n
misfit-here n arg args ty tys h = ap (λ c. if c then first_misfit (n + 1) args tys else Some n) h

pub misfit-later : (n : ℕ) (arg : Argument) (args : List Argument) (ty : Ty) (tys : List Ty) → fits arg ty ≡ true
    → first_misfit n (arg ∷ args) (ty ∷ tys) ≡ first_misfit (n + 1) args tys
misfit-later n arg args ty tys h = ap (λ c. if c then first_misfit (n + 1) args tys else Some n) h

-- ---- how many cells they take

-- an argument that fits a parameter of one word takes a cell
one-cell-size : {A : Type 0} (k : Cells A) (objects : ℕ) (arg : Argument) (ty : Ty) → IsNoHalf ty → fits arg ty ≡ true
    → length (argument_cells k objects arg ty) ≡ 1
one-cell-size k objects (number n) types.Short h f = refl
one-cell-size k objects (number n) types.IntHigh h f = absurd h
one-cell-size k objects (number n) types.IntLow h f = absurd h
one-cell-size k objects (number n) ty h f = absurd (false≢true f)
one-cell-size k objects null ty h f = refl
one-cell-size k objects (bytes bs) ty h f = refl

int-cells-size : {A : Type 0} (k : Cells A) (objects : ℕ) (arg : Argument) → fits arg types.IntHigh ≡ true
    → length (argument_cells k objects arg types.IntHigh) ≡ 2
int-cells-size k objects (number n) f = refl
int-cells-size k objects null f = absurd (false≢true f)
int-cells-size k objects (bytes bs) f = absurd (false≢true f)

no-half-begins : (ty : Ty) → IsNoHalf ty → is_parameter ty ≡ true
no-half-begins x h = grind (arith)

kept-first : (ty : Ty) (tys : List Ty) → is_parameter ty ≡ true → filter is_parameter (ty ∷ tys) ≡ ty ∷ filter is_parameter tys
kept-first ty tys h = ap (λ b. if b then ty ∷ filter is_parameter tys else filter is_parameter tys) h

nothing-handed : {A : Type 0} (k : Cells A) (objects : ℕ) (args : List Argument) → length (cells_handed k objects args []) ≡ 0
nothing-handed k objects [] = refl
nothing-handed k objects (a ∷ rest) = refl

-- all arguments take as many cells as the method has argument words
pub handed-size : {A : Type 0} (k : Cells A) (n objects : ℕ) (args : List Argument) {tys : List Ty} → AreWhole tys
    → length args ≡ length (filter is_parameter tys) → first_misfit n args (filter is_parameter tys) ≡ None
    → length (cells_handed k objects args (filter is_parameter tys)) ≡ length tys
handed-size k n objects args no_cells count fit = nothing-handed k objects args
handed-size k n objects [] (whole_int {types = tys} w) count fit = absurd (omega arith)
handed-size k n objects (arg ∷ args) (whole_int {types = tys} w) count fit =
    let f = first-fits n arg args types.IntHigh (filter is_parameter tys) fit in
    let rest = handed-size k (n + 1) (objects + arrays_made arg) args w (omega arith) f.1 in
    let two = int-cells-size k objects arg f.0 in
    length-append (argument_cells k objects arg types.IntHigh) (cells_handed k (objects + arrays_made arg) args (filter is_parameter tys))
    ∙ omega (arith, two, rest)
handed-size k n objects [] (one_cell {a = ty} {types = tys} half w) count fit = grind (arith, length, kept-first, no-half-begins)
handed-size k n objects (arg ∷ args) (one_cell {a = ty} {types = tys} half w) count fit =
    let first = kept-first ty tys (no-half-begins ty half) in
    let f = first-fits n arg args ty (filter is_parameter tys) (subst (λ (ps : List Ty). first_misfit n (arg ∷ args) ps ≡ None) first fit) in
    let c = count ∙ ap length first in
    let rest = handed-size k (n + 1) (objects + arrays_made arg) args w (omega arith) f.1 in
    let one = one-cell-size k objects arg ty half f.0 in
    ap (λ (ps : List Ty). length (cells_handed k objects (arg ∷ args) ps)) first
    ∙ (length-append (argument_cells k objects arg ty) (cells_handed k (objects + arrays_made arg) args (filter is_parameter tys))
    ∙ omega (arith, one, rest))

-- a number for what is no short takes two cells
pub int-argument : {A : Type 0} (k : Cells A) (objects : ℕ) (n : ℤ) (ty : Ty) → (ty ≡ types.Short → ⊥)
    → argument_cells k objects (number n) ty ≡ number_cells k widths.Int n
int-argument k objects n ty h = grind (arith)

-- ---- one argument more

-- what is left, where the next word of the signature begins a parameter
pub next-parameter : (tys : List Ty) (i : ℕ) → i < length tys → is_parameter (get_or tys i types.Bottom) ≡ true
    → filter is_parameter (drop i tys) ≡ get_or tys i types.Bottom ∷ filter is_parameter (drop (i + 1) tys)
next-parameter tys i lt h = ap (filter is_parameter) (drop_more tys i types.Bottom lt) ∙ kept-first (get_or tys i types.Bottom) (drop (i + 1) tys) h

module _ {A : Type 0} (k : Cells A) (args : List Argument) (tys : List Ty) (n i made : ℕ) (arg : Argument) (there : slice_get args n ≡ Some arg)
    (inside : i < length tys)
    (begins : is_parameter (get_or tys i types.Bottom) ≡ true) where
  pub handed-next : cells_handed k made (drop n args) (filter is_parameter (drop i tys))
      ≡ argument_cells k made arg (get_or tys i types.Bottom) ++ cells_handed k (made + arrays_made arg) (drop (n + 1) args)
      (filter is_parameter (drop (i + 1) tys))
  handed-next = grind (arith, drop, drop-here, next-parameter)

  pub fits-next : first_misfit n (drop n args) (filter is_parameter (drop i tys)) ≡ None
      → (fits arg (get_or tys i types.Bottom) ≡ true) × (first_misfit (n + 1) (drop (n + 1) args) (filter is_parameter (drop (i + 1) tys)) ≡ None)
  fits-next fit = grind (arith, first-fits, drop, get_or, drop-here, next-parameter)

  pub count-next : length (drop n args) ≡ length (filter is_parameter (drop i tys))
      → length (drop (n + 1) args) ≡ length (filter is_parameter (drop (i + 1) tys))
  count-next e = grind (arith, length, drop-here, next-parameter)

  -- the argument's cells have room
  pub room-next : (x : ℕ) → x + length (cells_handed k made (drop n args) (filter is_parameter (drop i tys))) ≡ length tys
      → x + length (argument_cells k made arg (get_or tys i types.Bottom)) ≤ length tys
  room-next x e = grind (arith, length, handed-next, length-append, get_or, drop)

  pub left-next : (x y : ℕ) → y ≡ x + length (argument_cells k made arg (get_or tys i types.Bottom))
      → x + length (cells_handed k made (drop n args) (filter is_parameter (drop i tys))) ≡ length tys
      → y + length (cells_handed k (made + arrays_made arg) (drop (n + 1) args) (filter is_parameter (drop (i + 1) tys))) ≡ length tys
  left-next x y is e = grind (arith, length, handed-next, length-append, get_or, drop)

  -- what is left is written after it
  pub written-next : (regs : List A) (x y : ℕ) → y ≡ x + length (argument_cells k made arg (get_or tys i types.Bottom)) → y ≤ length regs
      → overwritten (overwritten regs x (argument_cells k made arg (get_or tys i types.Bottom))) y
      (cells_handed k (made + arrays_made arg) (drop (n + 1) args) (filter is_parameter (drop (i + 1) tys)))
      ≡ overwritten regs x (cells_handed k made (drop n args) (filter is_parameter (drop i tys)))
  written-next regs x y is le = grind (arith, overwritten-append, get_or, drop, handed-next)

one-array : (arg : Argument) → arrays_made arg ≤ 1
one-array arg = grind (arith)

pub made-next : (arg : Argument) (made objects n : ℕ) → made ≤ objects + n → made + arrays_made arg ≤ objects + (n + 1)
made-next arg made objects n h = let one = one-array arg in omega arith

-- registers of the frame on top that are written
pub framed-next : {A : Type 0} (s z y : State A) (r q : List A) → z ≡ with_top s (record (top s) { registers = r })
    → y ≡ with_top z (record (top z) { registers = q })
    → y ≡ with_top s (record (top s) { registers = q })
framed-next {A} s z y r q e f = f ∙ ap (λ (x : State A). with_top x (record (top x) { registers = q })) e

pub framed-itself : {A : Type 0} (s y : State A) (q : List A) → y ≡ with_top s (record (top s) { registers = q })
    → y ≡ with_top s (record (top s) { registers = (top y).registers })
framed-itself {A} s y q e = e ∙ ap (λ (x : State A). with_top s (record (top s) { registers = (top x).registers })) (sym e)

pub framed-runs : {A : Type 0} (s y : State A) (q : List A) → y ≡ with_top s (record (top s) { registers = q }) → IsRunning y
framed-runs {A} s y q e = subst (λ (x : State A). IsRunning x) (sym e) (omega arith)

all-frames : {A : Type 0} (fs : List (Frame A)) → 0 < length fs → record (first_frame fs) { registers = (first_frame fs).registers } ∷ other_frames fs
    ≡ fs
all-frames x h = grind (arith)

pub framed-first : {A : Type 0} (s : State A) → IsRunning s → s ≡ with_top s (record (top s) { registers = (top s).registers })
framed-first {A} s runs = sym (ap (λ (fs : List (Frame A)). record s { frames = fs }) (all-frames s.frames runs))

-- ---- nothing left

pub handed-none : {A : Type 0} (k : Cells A) (objects : ℕ) (args : List Argument) (tys : List Ty) → tys ≡ [] → cells_handed k objects args tys ≡ []
handed-none {A} k objects args tys e = ap (cells_handed k objects args) e ∙ go args where
  go : (xs : List Argument) → cells_handed k objects xs [] ≡ []
  go [] = refl
  go (x ∷ xs) = refl

pub misfit-none : (n : ℕ) (args : List Argument) (tys : List Ty) → tys ≡ [] → first_misfit n args tys ≡ None
misfit-none n args tys e = ap (first_misfit n args) e ∙ go args where
  go : (xs : List Argument) → first_misfit n xs [] ≡ None
  go [] = refl
  go (x ∷ xs) = refl

pub none-left : (tys : List Ty) (i : ℕ) → length tys ≤ i → filter is_parameter (drop i tys) ≡ []
none-left tys i le = ap (filter is_parameter) (drop_all i tys le)

-- ---- misfits, one argument more

module _ (args : List Argument) (tys : List Ty) (n i : ℕ) (arg : Argument) (there : slice_get args n ≡ Some arg) (inside : i < length tys)
    (begins : is_parameter (get_or tys i types.Bottom) ≡ true) where
  both-next : first_misfit n (drop n args) (filter is_parameter (drop i tys)) ≡ first_misfit n (arg ∷ drop (n + 1) args)
      (get_or tys i types.Bottom ∷ filter is_parameter (drop (i + 1) tys))
  both-next = grind (arith, drop, drop-here, next-parameter)

  pub misfit-found : fits arg (get_or tys i types.Bottom) ≡ false → first_misfit n (drop n args) (filter is_parameter (drop i tys)) ≡ Some n
  misfit-found h = both-next ∙ misfit-here n arg (drop (n + 1) args) (get_or tys i types.Bottom) (filter is_parameter (drop (i + 1) tys)) h

  pub misfit-next : fits arg (get_or tys i types.Bottom) ≡ true
      → first_misfit n (drop n args) (filter is_parameter (drop i tys)) ≡ first_misfit (n + 1) (drop (n + 1) args) (filter is_parameter (drop (i + 1) tys))
  misfit-next h = both-next ∙ misfit-later n arg (drop (n + 1) args) (get_or tys i types.Bottom) (filter is_parameter (drop (i + 1) tys)) h
