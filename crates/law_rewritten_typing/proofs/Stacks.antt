-- Stacks that are loaded from homes and stored into homes.
use Rattle.std.proofs.Common.{◌≡◌, ℕ, suc, ◌+◌, ◌≤◌, List, [], ◌∷◌, ◌++◌, length, map, reverse, slice_get, Option, Some, None, refl}
use Rattle.std.proofs.Common.{sym, ◌∙◌, ap, subst, arith, append_assoc, length-append, All}
use Rattle.std.proofs.lemmas.List.{append-nil, reverse-append, reverse-reverse}
use Rattle.jc_base.specs.Each.{Each}
use Rattle.jc_base.specs.Cell.{AreWhole, no_cells as no_whole, whole_int, one_cell, IsNoHalf}
use Rattle.jc_base.specs.Class.{ClassTable}
use Rattle.jc_base.specs.Laws.{ClassesAreObjects}
use Rattle.jc_base.specs.declared.ty.Ty.{Ty}
use Rattle.jc_base.specs.declared.ty.Ty.TheVariants.{IntHigh, IntLow}
use Rattle.jc_base.specs.declared.record.MethodRec.{MethodRec}
use Rattle.jc_rules.specs.Flow.{CellsBelow, no_cells, more_cells, IsNotTop}
use Rattle.xf_homes.specs.declared.home.Home.{Home}
use Rattle.xf_homes.specs.Value.{value_in_cells, value_of}
use Rattle.xf_homes.specs.Source.{Source}
use Rattle.xf_homes.specs.Plan.{register, cells_from, home_of, with_home_of}
use Rattle.xf_emission.specs.Move.{store, loads, spill}
use Rattle.law_rewritten_typing.proofs.Walks.{holding, Asked, flow_plain, Goes, goes-nowhere}
use Rattle.law_rewritten_typing.proofs.Moves.{Holds, cells_on, load-turn, store-turn}

-- ---- the cells of homes

-- what the loads of homes leave above a stack
abbrev pub pushed : List Home → List Ty → List Ty
pushed [] stack = stack
pushed (h ∷ hs) stack = pushed hs (cells_on h.ty ++ stack)

-- the cells of homes, the first on top
abbrev pub tops : List Home → List Ty
tops [] = []
tops (h ∷ hs) = cells_on h.ty ++ tops hs

tops-append : (hs ks : List Home) → tops (hs ++ ks) ≡ tops hs ++ tops ks
tops-append [] ks = refl
tops-append (h ∷ hs) ks = ap (λ ts. cells_on h.ty ++ ts) (tops-append hs ks) ∙ sym (append_assoc (cells_on h.ty) (tops hs) (tops ks))

pub turned-cons : (h : Home) (hs : List Home) → reverse (h ∷ hs) ≡ reverse hs ++ h ∷ []
turned-cons h hs = reverse-append (h ∷ []) hs

pub pushed-tops : (hs : List Home) (stack : List Ty) → pushed hs stack ≡ tops (reverse hs) ++ stack
pushed-tops [] stack = refl
pushed-tops (h ∷ hs) stack =
    grind (arith, append_assoc, reverse, append-nil, tops-append, turned-cons, pushed-tops hs (cells_on h.ty ++ stack))

pushed-longer : (hs : List Home) (stack : List Ty) → length stack ≤ length (pushed hs stack)
pushed-longer [] stack = omega arith
pushed-longer (h ∷ hs) stack = omega (arith, pushed-longer hs (cells_on h.ty ++ stack), length-append (cells_on h.ty) stack)

-- the lower part of cells that are below others
split-below : {t : ClassTable} (us vs st : List Ty) → CellsBelow t st (us ++ vs) → (above : List Ty) × (rest : List Ty) × (st ≡ above ++ rest)
    × CellsBelow t above us × CellsBelow t rest vs
split-below [] vs st le = ([], st, refl, no_cells, le)
split-below {t = t} (u ∷ us) vs [] le = elim le [ ]
split-below (u ∷ us) vs (x ∷ xs) (more_cells p ps) =
    let r = split-below us vs xs ps in
    (x ∷ r.0, r.1, ap (λ ts. x ∷ ts) r.2, more_cells p r.3, r.4)

module _ (s : Source) (objects : ClassesAreObjects s.world.classes) (r : MethodRec) (regs : List Ty) (asks : ℕ → Asked) where
  -- the registers of a home hold a value of its type
  abbrev pub Stands : Home → Type 0
  Stands h = Holds s.world objects r regs asks h.ty (register s h)

  pub loads-go : (hs : List Home) (stack : List Ty) → Each Stands hs → length (pushed hs stack) ≤ r.max_stack
      → Goes s.world r regs asks (holding stack) (loads s hs) (holding (pushed hs stack))
  loads-go [] stack h room = goes-nowhere s.world r regs asks
  loads-go (h ∷ hs) stack e room =
      let longer = pushed-longer hs (cells_on h.ty ++ stack) in
      let full : length (cells_on h.ty ++ stack) ≤ r.max_stack = omega (arith, longer, room) in
      let below : length stack ≤ r.max_stack = omega (arith, full, length-append (cells_on h.ty) stack) in
      λ n. flow_plain s.world r regs asks (load-turn s.world objects r regs asks n h.ty (register s h) stack e.0 full below)
      (loads-go hs (cells_on h.ty ++ stack) e.1 room (suc n))

  stores-go : (ks : List Home) (stack : List Ty) → Each Stands ks → CellsBelow s.world.classes stack (tops ks) → length stack ≤ r.max_stack
      → Goes s.world r regs asks (holding stack) (map (store s) ks) (holding [])
  stores-go [] _ e no_cells room = goes-nowhere s.world r regs asks
  stores-go (k ∷ ks) stack e le room = by (split-below (cells_on k.ty) (tops ks) stack le) (λ rest p under. stores-go ks rest e.1 p under)
    where
      by : (above : List Ty) × (rest : List Ty) × (stack ≡ above ++ rest) × CellsBelow s.world.classes above (cells_on k.ty)
          × CellsBelow s.world.classes rest (tops ks)
          → ((rest : List Ty) → CellsBelow s.world.classes rest (tops ks) → length rest ≤ r.max_stack
          → Goes s.world r regs asks (holding rest) (map (store s) ks) (holding []))
          → Goes s.world r regs asks (holding stack) (map (store s) (k ∷ ks)) (holding [])
      by d later =
          let own : length (d.0 ++ d.1) ≤ r.max_stack = omega (arith, ap length d.2, room) in
          let under : length d.1 ≤ r.max_stack = omega (arith, own, length-append d.0 d.1) in
          subst (λ (st : List Ty). Goes s.world r regs asks (holding st) (map (store s) (k ∷ ks)) (holding [])) (sym d.2)
          (λ n. flow_plain s.world r regs asks (store-turn s.world objects r regs asks n k.ty (register s k) d.0 d.1 e.0 d.3 own under)
          (later d.1 d.4 under (suc n)))

  each-turned : (hs : List Home) → Each Stands hs → Each Stands (reverse hs)
  each-turned [] e = tt
  each-turned (h ∷ hs) e = subst (Each Stands) (sym (turned-cons h hs)) (last (reverse hs) (each-turned hs e.1) e.0)
    where
      last : (ks : List Home) → Each Stands ks → Stands h → Each Stands (ks ++ h ∷ [])
      last [] e p = (p, tt)
      last (k ∷ ks) e p = (e.0, last ks e.1 p)

  pub spill-goes : (hs : List Home) (stack : List Ty) → Each Stands hs → CellsBelow s.world.classes stack (pushed hs [])
      → length stack ≤ r.max_stack → Goes s.world r regs asks (holding stack) (spill s hs) (holding [])
  unfolding spill
  spill-goes hs stack e le room = grind (arith, stores-go, reverse, each-turned, pushed-tops, append-nil)

-- ---- the cells of a frame

abbrev pub turned : List Ty → List Ty → List Ty
turned [] stack = stack
turned (a ∷ rest) stack = turned rest (a ∷ stack)

pub one-value : (a : Ty) (next : Option Ty) → IsNoHalf a → IsNotTop a → value_of (Some a) next ≡ Some a
one-value a next h n = grind (arith)

one-top : (a : Ty) → IsNoHalf a → cells_on a ≡ a ∷ []
one-top a h = grind (arith)

get-at : (pre : List Ty) (a : Ty) (rest : List Ty) → slice_get (pre ++ a ∷ rest) (length pre) ≡ Some a
get-at [] a rest = refl
get-at (p ∷ pre) a rest = get-at pre a rest

get-next : (pre : List Ty) (a b : Ty) (rest : List Ty) → slice_get (pre ++ a ∷ b ∷ rest) (length pre + 1) ≡ Some b
get-next [] a b rest = refl
get-next (p ∷ pre) a b rest = grind (arith, suc, slice_get, get-next pre a b rest)

pub longer-by : (pre : List Ty) (a : Ty) → suc (length pre) ≡ length (pre ++ a ∷ [])
longer-by pre a = omega (arith, length-append pre (a ∷ []))

-- no value begins with a low half
pub low-none : (pre rest : List Ty) → value_in_cells (pre ++ IntLow ∷ rest) (length pre) ≡ None
unfolding value_in_cells
low-none pre rest = ap (λ (o : Option Ty). value_of o (slice_get (pre ++ IntLow ∷ rest) (length pre + 1))) (get-at pre IntLow rest)

pub int-value : (pre rest : List Ty) → value_in_cells (pre ++ IntHigh ∷ IntLow ∷ rest) (length pre) ≡ Some IntHigh
unfolding value_in_cells
int-value pre rest = grind (arith, slice_get, get-at, get-next)

pub one-at : (pre : List Ty) (a : Ty) (rest : List Ty) → IsNoHalf a → IsNotTop a → value_in_cells (pre ++ a ∷ rest) (length pre) ≡ Some a
unfolding value_in_cells
one-at pre a rest h n = grind (arith, slice_get, get-at, one-value)

-- the loads of the homes of whole cells leave these cells
pub cells-pushed : (slot : ℕ) (pre rest stack : List Ty) → AreWhole rest → All IsNotTop rest
    → pushed (cells_from slot (pre ++ rest) (length pre) (length rest)) stack ≡ turned rest stack
cells-pushed slot pre [] stack no_whole nt = refl
cells-pushed slot pre _ stack (whole_int {types = us} is) nt =
    let first = int-value pre us in
    let e : suc (length pre) ≡ length (pre ++ IntHigh ∷ []) = longer-by pre IntHigh in
    let f : suc (suc (length pre)) ≡ length (pre ++ IntHigh ∷ IntLow ∷ []) = omega (arith, length-append pre (IntHigh ∷ IntLow ∷ [])) in
    let all = pre ++ IntHigh ∷ IntLow ∷ us in
    let shape : (pre ++ IntHigh ∷ []) ++ IntLow ∷ us ≡ all = append_assoc pre (IntHigh ∷ []) (IntLow ∷ us) in
    let shape2 : (pre ++ IntHigh ∷ IntLow ∷ []) ++ us ≡ all = append_assoc pre (IntHigh ∷ IntLow ∷ []) us in
    let second : value_in_cells all (suc (length pre)) ≡ None =
    subst (λ (n : ℕ). value_in_cells all n ≡ None) (sym e)
    (subst (λ (ts : List Ty). value_in_cells ts (length (pre ++ IntHigh ∷ [])) ≡ None) shape (low-none (pre ++ IntHigh ∷ []) us)) in
    let rest = cells-pushed slot (pre ++ IntHigh ∷ IntLow ∷ []) us (IntLow ∷ IntHigh ∷ stack) is (λ k d lt. nt (suc (suc k)) d (omega (arith, lt))) in
    let later : pushed (cells_from slot all (suc (suc (length pre))) (length us)) (IntLow ∷ IntHigh ∷ stack) ≡ turned us (IntLow ∷ IntHigh ∷ stack) =
    subst (λ (n : ℕ). pushed (cells_from slot all n (length us)) (IntLow ∷ IntHigh ∷ stack) ≡ turned us (IntLow ∷ IntHigh ∷ stack)) (sym f)
    (subst (λ (ts : List Ty). pushed (cells_from slot ts (length (pre ++ IntHigh ∷ IntLow ∷ [])) (length us)) (IntLow ∷ IntHigh ∷ stack)
    ≡ turned us (IntLow ∷ IntHigh ∷ stack)) shape2 rest) in
    ap (λ (o : Option Ty). pushed (with_home_of (home_of (slot + length pre) o) (cells_from slot all (suc (length pre)) (suc (length us)))) stack) first
    ∙ ap (λ (o : Option Ty). pushed (with_home_of (home_of (slot + suc (length pre)) o) (cells_from slot all (suc (suc (length pre))) (length us)))
    (IntLow ∷ IntHigh ∷ stack)) second
    ∙ later
cells-pushed slot pre _ stack (one_cell {a = a} {types = us} h is) nt =
    let first = one-at pre a us h (nt 0 a (omega arith)) in
    let e : suc (length pre) ≡ length (pre ++ a ∷ []) = longer-by pre a in
    let all = pre ++ a ∷ us in
    let shape : (pre ++ a ∷ []) ++ us ≡ all = append_assoc pre (a ∷ []) us in
    let rest = cells-pushed slot (pre ++ a ∷ []) us (a ∷ stack) is (λ k d lt. nt (suc k) d (omega (arith, lt))) in
    let later : pushed (cells_from slot all (suc (length pre)) (length us)) (a ∷ stack) ≡ turned us (a ∷ stack) =
    subst (λ (n : ℕ). pushed (cells_from slot all n (length us)) (a ∷ stack) ≡ turned us (a ∷ stack)) (sym e)
    (subst (λ (ts : List Ty). pushed (cells_from slot ts (length (pre ++ a ∷ [])) (length us)) (a ∷ stack) ≡ turned us (a ∷ stack)) shape rest) in
    ap (λ (o : Option Ty). pushed (with_home_of (home_of (slot + length pre) o) (cells_from slot all (suc (length pre)) (length us))) stack) first
    ∙ ap (λ (ts : List Ty). pushed (cells_from slot all (suc (length pre)) (length us)) (ts ++ stack)) (one-top a h)
    ∙ later

pub turned-reverse : (ts stack : List Ty) → turned ts stack ≡ reverse ts ++ stack
turned-reverse [] stack = refl
turned-reverse (a ∷ ts) stack =
    grind (arith, turned-reverse ts (a ∷ stack), append_assoc (reverse ts) (a ∷ []) stack, reverse-append (a ∷ []) ts)

-- the homes of a whole stack, loaded, leave that stack
pub stack-pushed : (slot : ℕ) (stack : List Ty) → AreWhole (reverse stack) → All IsNotTop (reverse stack)
    → pushed (cells_from slot (reverse stack) 0 (length (reverse stack))) [] ≡ stack
stack-pushed slot stack whole nt =
    cells-pushed slot [] (reverse stack) [] whole nt ∙ turned-reverse (reverse stack) [] ∙ append-nil (reverse (reverse stack)) ∙ reverse-reverse stack
