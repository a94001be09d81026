-- What the tests before an operation say of the first frame, and that the second passes them too.
use Rattle.std.proofs.Common.{◌≡◌, ℕ, suc, ◌+◌, ◌<◌, ◌≤◌, Bool, true, false, if◌then◌else◌, List, [], ◌∷◌, length, map, refl}
use Rattle.std.proofs.Common.{sym, ap, ◌∙◌, subst, arith}
use Rattle.std.specs.Prelude.{◌&&◌, Option, Some, None, option_map, IsSomeAnd, MatchBool, slice_get}
use Rattle.std.specs.List.{list_all}
use Rattle.std.proofs.lemmas.Bool.{false≢true, and_parts}
use Rattle.std.proofs.lemmas.List.{length-map}
use Rattle.std.proofs.lemmas.Option.{slice_get-map, unwrap_or-slice_get}
use Rattle.jc_base.specs.declared.ty.Ty.{Ty}
use Rattle.jc_base.specs.declared.ty.Ty.TheVariants.{Bottom, Short, IntHigh, IntLow, Class}
use Rattle.jc_base.specs.declared.record.MethodRec.{MethodRec}
use Rattle.jc_base.specs.Class.{ClassTable, object}
use Rattle.jc_base.specs.Laws.{IsOrderOfTypes}
use Rattle.jc_base.specs.World.{Linked, IsWorld}
use Rattle.jc_base.proofs.Orders.{order-of-types}
use Rattle.jc_ops.specs.declared.operation.Operation.{Operation}
use Rattle.jc_ops.specs.declared.operation.Operation.TheVariants as ops
use Rattle.jc_ops.specs.declared.operation.Sort.TheVariants as sorts
use Rattle.jc_ops.specs.declared.operation.Width.TheVariants as widths
use Rattle.jc_ops.specs.declared.operation.Want.TheVariants.{Value}
use Rattle.jc_ops.specs.Sound.{IsSound}
use Rattle.jc_rules.specs.declared.demand.Demand.{Demand}
use Rattle.jc_rules.specs.declared.demand.Demand.TheVariants.{Registers, Depth, Cell as ACell, Cut, Held}
use Rattle.jc_rules.specs.Demand.{Frame as Types, Meets, Satisfies, SatisfiesAll, satisfies}
use Rattle.jc_rules.specs.Footprint.{registers_asked, cells_asked, registers_read, AreInFrame, AgreeOn}
use Rattle.jc_rules.specs.Rule.{demands}
use Rattle.jc_rules.proofs.DecidedDemands.{are-decided}
use Rattle.jc_rules.proofs.Footprints.{asked-is-there, operation-reads}
use Rattle.vm_store.specs.declared.cell.Cell.{Cell}
use Rattle.vm_store.specs.declared.cell.Cell.TheVariants.{Empty}
use Rattle.vm_store.specs.declared.cell.ObjectKind.{ObjectKind}
use Rattle.vm_store.specs.Typing.{least_type}
use Rattle.vm_store.specs.Cells.{tagged}
use Rattle.vm_store.specs.State.{Frame, Object, nth}
use Rattle.vm_step.specs.Tests.{fault_before}
use Rattle.law_sound.specs.Frames.{least_types, types_of_frame}
use Rattle.law_sound.proofs.Cells.{cell-at}
use Rattle.law_laid.specs.Laid.{renamed}
use Rattle.law_laid.proofs.Renaming.{ready_demand, are_ready, all-renamed}
use Rattle.law_laid.proofs.Operations.{demands-ready}
use Rattle.law_alike.specs.Alike.{renamed_cell}
use Rattle.law_alike.proofs.Cells.{types-renamed}
use Rattle.law_alike.proofs.Views.{View, same_op, new_ops, load_ops, store_ops, increment_ops, sound-view}

-- ---- tests that are passed

pub first-passed : {X : Type 0} (x y z : X) (a b c : Bool) → (if a then Some x else if b then Some y else if c then None else Some z) ≡ None → a ≡ false
first-passed x y z u b c h = grind (arith)

of-true : (b : Bool) (P : Type 0) → MatchBool b P (¬ P) → b ≡ true → P
of-true x y decided h = grind (arith, false≢true)

module _ (w : Linked) (world : IsWorld w) where
  order : IsOrderOfTypes w.classes
  order = order-of-types w.classes world.chains

  tests-hold : (types : Types) (ds : List Demand) → list_all (satisfies w.classes types) ds ≡ true → SatisfiesAll w.classes types ds
  tests-hold types [] h = tt
  tests-hold types (d ∷ ds) h = (
    of-true (satisfies w.classes types d) (Satisfies w.classes types d) ((are-decided w.classes order).demand types d)
        (and_parts (satisfies w.classes types d) (list_all (satisfies w.classes types) ds) h).0,
    tests-hold types ds (and_parts (satisfies w.classes types d) (list_all (satisfies w.classes types) ds) h).1,
  )

  pub passed-asks :
      (f : Frame Cell) (below : List (Frame Cell)) (heap : List (Object Cell)) (statics : List Cell) (op : Operation)
      → fault_before tagged w op (record { frames = f ∷ below; heap = heap; statics = statics }) ≡ None
      → SatisfiesAll w.classes (types_of_frame w.classes Bottom (map (λ (o : Object Cell). o.kind) heap) f) (demands w op)
  passed-asks f below heap statics op h = grind (arith, tests-hold)

-- ---- another stack

-- what is asked of a frame is met with other places of uninitialised objects on its stack
stack-renamed :
    (f : ℕ → ℕ) (t : ClassTable) (regs stack : List Ty) (ds : List Demand) → are_ready ds ≡ true
    → SatisfiesAll t (record { regs = regs; stack = stack }) ds → SatisfiesAll t (record { regs = regs; stack = map (renamed f) stack }) ds
stack-renamed f t regs stack [] r h = tt
stack-renamed f t regs stack (Registers x n ∷ ds) r h =
    (h.0, stack-renamed f t regs stack ds (and_parts (ready_demand (Registers x n)) (are_ready ds) r).1 h.1)
stack-renamed f t regs stack (Held x ty ∷ ds) r h =
    (h.0, stack-renamed f t regs stack ds (and_parts (ready_demand (Held x ty)) (are_ready ds) r).1 h.1)
stack-renamed f t regs stack (Depth n ∷ ds) r h = (
  (all-renamed f t (record { regs = regs; stack = stack }) (Depth n ∷ []) refl (h.0, tt)).0,
  stack-renamed f t regs stack ds (and_parts (ready_demand (Depth n)) (are_ready ds) r).1 h.1,
)
stack-renamed f t regs stack (Cut n ∷ ds) r h = (
  (all-renamed f t (record { regs = regs; stack = stack }) (Cut n ∷ []) refl (h.0, tt)).0,
  stack-renamed f t regs stack ds (and_parts (ready_demand (Cut n)) (are_ready ds) r).1 h.1,
)
stack-renamed f t regs stack (ACell n want ∷ ds) r h =
    let own : ready_demand (ACell n want) ≡ true = (and_parts (ready_demand (ACell n want)) (are_ready ds) r).0 in (
      (all-renamed f t (record { regs = regs; stack = stack }) (ACell n want ∷ []) (ap (λ b. b && true) own) (h.0, tt)).0,
      stack-renamed f t regs stack ds (and_parts (ready_demand (ACell n want)) (are_ready ds) r).1 h.1,
    )

-- ---- other registers

-- registers that hold the same cell have the same type
agree-types :
    (t : ClassTable) (ks : List ObjectKind) (regs others : List Cell) (xs : List ℕ) → map (slice_get others) xs
    ≡ map (slice_get regs) xs
    → AgreeOn xs (least_types t Bottom ks regs) (least_types t Bottom ks others)
agree-types t ks regs others [] e = tt
agree-types t ks regs others (x ∷ xs) e =
    let head : slice_get others x ≡ slice_get regs x = cc in
    let tail : map (slice_get others) xs ≡ map (slice_get regs) xs = cc in (
      slice_get-map (least_type t Bottom ks) regs x
          ∙ (ap (λ (o : Option Cell). option_map (least_type t Bottom ks) o) (sym head)
          ∙ sym (slice_get-map (least_type t Bottom ks) others x)),
      agree-types t ks regs others xs tail,
    )

-- the cell of a register, where it is the same as another's
pub register-same :
    (regs others : List Cell) (a b : ℕ) → slice_get others b ≡ slice_get regs a → nth tagged others b ≡ nth tagged regs a
register-same regs others a b e = grind (arith, unwrap_or-slice_get others b Empty, unwrap_or-slice_get regs a Empty)

-- what is asked of one register is met by the other that holds the same
held-same :
    (t : ClassTable) (ks : List ObjectKind) (regs others : List Cell) (a b : ℕ) (P : Ty → Type 0) → slice_get others b
    ≡ slice_get regs a
    → IsSomeAnd (slice_get (least_types t Bottom ks regs) a) P → IsSomeAnd (slice_get (least_types t Bottom ks others) b) P
held-same t ks regs others a b P e h = grind (arith, slice_get-map)

module _ (w : Linked) (world : IsWorld w) (f : ℕ → ℕ) (ks : List ObjectKind) (regs stack others : List Cell) where
  abbrev here : Types
  here = record { regs = least_types w.classes Bottom ks regs; stack = least_types w.classes Bottom ks stack }

  abbrev between : Types
  between = record { regs = least_types w.classes Bottom ks others; stack = least_types w.classes Bottom ks stack }

  abbrev there : Types
  there =
      record { regs = least_types w.classes Bottom ks others; stack = least_types w.classes Bottom ks (map (renamed_cell f) stack) }

  many : (n : ℕ) → n ≤ length others → n ≤ length (least_types w.classes Bottom ks others)
  many n le = subst (λ k. n ≤ k) (sym (length-map others (least_type w.classes Bottom ks))) le

  same-asked :
      (op : Operation) → registers_asked (demands w op) ≤ length others
      → map (slice_get others) (registers_read (demands w op)) ≡ map (slice_get regs) (registers_read (demands w op))
      → SatisfiesAll w.classes here (demands w op) → SatisfiesAll w.classes between (demands w op)
  same-asked op named read h =
      (operation-reads w op here between refl (many (registers_asked (demands w op)) named)
      (agree-types w.classes ks regs others (registers_read (demands w op)) read)).asked h

  -- a register that is read is there
  inside :
      (b : ℕ) (P : Ty → Type 0) → IsSomeAnd (slice_get (least_types w.classes Bottom ks others) b) P
      → b < length (least_types w.classes Bottom ks others)
  inside b P h = many (suc b) (cell-at w.classes Bottom ks others b P h).inside

  named-there : (ds : List Demand) → registers_asked ds ≤ length others → AreInFrame (length others) (cells_asked ds) ds
  named-there ds named = (asked-is-there (length others) (cells_asked ds) ds).there named (omega arith)

  -- ---- by the operation

  asked-there :
      (a b : Operation) → View f a b
      → registers_asked (demands w b) ≤ length others
      → map (slice_get others) (registers_read (demands w b)) ≡ map (slice_get regs) (registers_read (demands w a))
      → SatisfiesAll w.classes here (demands w a) → SatisfiesAll w.classes between (demands w b)
  asked-there _ _ (same_op op n) named read h = same-asked op named read h
  asked-there _ _ (new_ops p class) named read h = tt
  asked-there _ _ (load_ops sorts.Reference x y) named read h =
      let e : slice_get others y ≡ slice_get regs x = cc in
      let got = held-same w.classes ks regs others x y (Meets w.classes (Value (Class (object w.classes)))) e h.1.0 in
      let lt = inside y (Meets w.classes (Value (Class (object w.classes)))) got in
      (omega (arith, lt), (got, tt))
  asked-there _ _ (load_ops sorts.Short x y) named read h =
      let e : slice_get others y ≡ slice_get regs x = cc in
      let got = held-same w.classes ks regs others x y (Meets w.classes (Value Short)) e h.1.0 in
      let lt = inside y (Meets w.classes (Value Short)) got in
      (omega (arith, lt), (got, tt))
  asked-there _ _ (load_ops sorts.Int x y) named read h =
      let e : slice_get others y ≡ slice_get regs x = cc in
      let g : slice_get others (y + 1) ≡ slice_get regs (x + 1) = cc in
      let high = held-same w.classes ks regs others x y (Meets w.classes (Value IntHigh)) e h.1.0 in
      let low = held-same w.classes ks regs others (x + 1) (y + 1) (Meets w.classes (Value IntLow)) g h.1.1.0 in
      let lt = inside (y + 1) (Meets w.classes (Value IntLow)) low in
      (omega (arith, lt), (high, (low, tt)))
  asked-there _ _ (store_ops sorts.Reference x y) named read h =
      (many (y + 1) (named-there (demands w (ops.Store sorts.Reference y)) named).0, h.1)
  asked-there _ _ (store_ops sorts.Short x y) named read h =
      (many (y + 1) (named-there (demands w (ops.Store sorts.Short y)) named).0, h.1)
  asked-there _ _ (store_ops sorts.Int x y) named read h =
      (many (y + 2) (named-there (demands w (ops.Store sorts.Int y)) named).0, h.1)
  asked-there _ _ (increment_ops widths.Short x y amount) named read h =
      let e : slice_get others y ≡ slice_get regs x = cc in
      let got = held-same w.classes ks regs others x y (Meets w.classes (Value Short)) e h.1.0 in
      let lt = inside y (Meets w.classes (Value Short)) got in
      (omega (arith, lt), (got, tt))
  asked-there _ _ (increment_ops widths.Int x y amount) named read h =
      let e : slice_get others y ≡ slice_get regs x = cc in
      let g : slice_get others (y + 1) ≡ slice_get regs (x + 1) = cc in
      let high = held-same w.classes ks regs others x y (Meets w.classes (Value IntHigh)) e h.1.0 in
      let low = held-same w.classes ks regs others (x + 1) (y + 1) (Meets w.classes (Value IntLow)) g h.1.1.0 in
      let lt = inside (y + 1) (Meets w.classes (Value IntLow)) low in
      (omega (arith, lt), (high, (low, tt)))

  pub asked-alike :
      (m : MethodRec) (place : ℕ) (a b : Operation) → View f a b → IsSound w m place a
      → registers_asked (demands w b) ≤ length others
      → map (slice_get others) (registers_read (demands w b)) ≡ map (slice_get regs) (registers_read (demands w a))
      → SatisfiesAll w.classes here (demands w a) → SatisfiesAll w.classes there (demands w b)
  asked-alike m place a b alike sound named read h =
      let got = asked-there a b alike named read h in
      subst (λ s. SatisfiesAll w.classes (record { regs = least_types w.classes Bottom ks others; stack = s }) (demands w b))
      (sym (types-renamed f w.classes ks stack))
      (stack-renamed f w.classes (least_types w.classes Bottom ks others) (least_types w.classes Bottom ks stack) (demands w b)
      (demands-ready w world m (f place) b (sound-view w m f place a b alike sound)) got)
