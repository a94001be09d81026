-- The receiver of a call, and cells that a constructor makes ready.
use Rattle.std.proofs.Common.{◌≡◌, ℕ, zero, suc, Bool, true, false, if◌then◌else◌, ◌==◌, List, [], ◌∷◌, map, refl, sym, ap, ◌∙◌, arith}
use Rattle.std.proofs.Common.{subst}
use Rattle.std.specs.Prelude.{Option, Some, None, All, slice_get}
use Rattle.std.proofs.lemmas.Bool.{eqb-true}
use Rattle.std.proofs.lemmas.Option.{same_Some}
use Rattle.std.proofs.lemmas.List.Elements.{All-head, All-tail, All-cons, All-nil}
use Rattle.jc_base.specs.declared.ty.Ty.{Ty}
use Rattle.jc_base.specs.declared.ty.Ty.TheVariants.{Short, Class, Fresh}
use Rattle.jc_base.specs.declared.record.MethodRec.{MethodRec}
use Rattle.jc_base.specs.Class.{ClassTable, AreClasses}
use Rattle.jc_base.specs.Order.{Below}
use Rattle.jc_base.specs.Cell.{IsDeclared}
use Rattle.jc_base.specs.World.{Linked}
use Rattle.jc_ops.specs.declared.operation.Want.TheVariants.{Value, Receiver}
use Rattle.jc_rules.specs.declared.effect.Cells.{Cells}
use Rattle.jc_rules.specs.declared.effect.Change.TheVariants.{Replace}
use Rattle.jc_rules.specs.Demand.{IsFreshOf}
use Rattle.jc_rules.specs.Effect.{ready}
use Rattle.jc_rules.specs.Rule.{ready_with}
use Rattle.jc_rules.specs.Flow.{CellsBelow, more_cells, IsNotFresh}
use Rattle.jc_rules.proofs.Types.{declared-not_top, declared-not_fresh}
use Rattle.vm_store.specs.declared.cell.Cell.{Cell}
use Rattle.vm_store.specs.declared.cell.Cell.TheVariants as cells
use Rattle.vm_store.specs.declared.cell.ObjectKind.{ObjectKind}
use Rattle.vm_store.specs.declared.cell.ObjectKind.TheVariants.{Instance, Booleans, Bytes, Shorts, Ints, References}
use Rattle.vm_store.specs.Kind.{kind_of_handle, type_of_kind}
use Rattle.vm_store.specs.Typing.{least_type, type_of_handle, type_seen, fresh_seen}
use Rattle.vm_store.specs.Cells.{made_ready}
use Rattle.vm_store.proofs.SeenClasses.{fresh-at}
use Rattle.vm_store.specs.Laws.{HasContent}
use Rattle.vm_step.specs.Calls.{made_at}
use Rattle.law_sound.specs.Frames.{least_types, class_made, IsStacked}
use Rattle.law_sound.proofs.CellTypes.{IsReadyCell, stacked-filled}
use Rattle.law_sound.proofs.Handles.{kind-type}
use Rattle.law_sound.proofs.Ready.{value-ready}

-- ---- what is no object on which a constructor is to be called

pub ready-value : (taken : ℕ) (given : Cells) (found wanted : Ty) → ready_with taken given found (Value wanted) ≡ Replace taken given
ready-value taken given z wanted = grind (arith)

pub ready-receiver : (taken : ℕ) (given : Cells) (found : Ty) (class : ℕ) → IsNotFresh found → ready_with taken given found (Receiver class)
    ≡ Replace taken given
ready-receiver taken given z class h = grind (arith)

pub made-none : (class : ℕ) (found : Ty) → IsNotFresh found → made_at (Some (Receiver class)) found ≡ None
made-none class y h = grind (arith)

pub made-value : (wanted found : Ty) → made_at (Some (Value wanted)) found ≡ None
made-value wanted y = grind (arith)

-- ---- an object on which a constructor is to be called

module _ (t : ClassTable) (unset : Ty) (ks : List ObjectKind) where
  kind-no_fresh : (class : ℕ) (k : ObjectKind) → IsFreshOf class (type_of_kind t k) → ⊥
  kind-no_fresh class y h = grind (arith)

  seen-no_fresh : (class : ℕ) (o : Option ObjectKind) → IsFreshOf class (type_seen t o) → ⊥
  seen-no_fresh class y h = grind (arith, kind-no_fresh)

  -- its handle and its place
  pub record IsNewOf (class : ℕ) (c : Cell) : Type 0 where
    pub handle : ℕ
    pub place : ℕ
    pub cell_is : c ≡ cells.Fresh handle place
    pub kind : kind_of_handle ks handle ≡ Some (Instance class)
    pub type_is : least_type t unset ks c ≡ Fresh place class

  seen-new : (class h p : ℕ) (o : Option ObjectKind) → kind_of_handle ks h ≡ o → IsFreshOf class (fresh_seen p o) → IsNewOf class (cells.Fresh h p)
  seen-new class h p (Some (Instance c)) e fresh =
      let kind : kind_of_handle ks h ≡ Some (Instance class) = e ∙ ap (λ d. Some (Instance d)) fresh in
      record { handle = h; place = p; cell_is = refl; kind = kind; type_is = fresh-at ks h p ∙ ap (fresh_seen p) kind }
  seen-new class h p None e fresh = absurd fresh
  seen-new class h p (Some Booleans) e fresh = absurd fresh
  seen-new class h p (Some Bytes) e fresh = absurd fresh
  seen-new class h p (Some Shorts) e fresh = absurd fresh
  seen-new class h p (Some Ints) e fresh = absurd fresh
  seen-new class h p (Some (References c)) e fresh = absurd fresh

  empty-no_fresh : (class : ℕ) (c : Cell) → IsReadyCell c → IsFreshOf class (least_type t unset ks c) → ⊥
  empty-no_fresh class y r h = grind (arith, seen-no_fresh)

  pub new-of : (class : ℕ) (c : Cell) → HasContent c → IsFreshOf class (least_type t unset ks c) → IsNewOf class c
  new-of class y f h = grind (arith, empty-no_fresh, seen-new, fresh-at)

-- ---- cells that are made ready

pub ready-kept : (place class : ℕ) (ty : Ty) → IsNotFresh ty → ready place class ty ≡ ty
ready-kept place class z h = grind (arith)

cell-kept : (place : ℕ) (c : Cell) → IsReadyCell c → made_ready place c ≡ c
cell-kept place y h = grind (arith)

below-parts : (t : ClassTable) {a b : Ty} {xs ys : List Ty} → CellsBelow t (a ∷ xs) (b ∷ ys) → Below t a b × CellsBelow t xs ys
below-parts t (more_cells first rest) = (first, rest)

module _ (w : Linked) (are : AreClasses w.classes) (m : MethodRec) (unset : Ty) (ks : List ObjectKind) (place class : ℕ)
    (made : class_made w m place ≡ Some class) where
  -- the type of a reference to an object is none of those
  reference-not_fresh : (h : ℕ) → IsNotFresh (type_of_handle w.classes ks h)
  reference-not_fresh zero = tt
  reference-not_fresh (suc h) = seen-kept (slice_get ks h)
    where
      seen-kept : (o : Option ObjectKind) → IsNotFresh (type_seen w.classes o)
      seen-kept None = tt
      seen-kept (Some (Instance c)) = tt
      seen-kept (Some Booleans) = tt
      seen-kept (Some Bytes) = tt
      seen-kept (Some Shorts) = tt
      seen-kept (Some Ints) = tt
      seen-kept (Some (References c)) = tt

  -- the type of a cell that is made ready
  record IsReadied (c : Cell) : Type 0 where
    type_is : least_type w.classes unset ks (made_ready place c) ≡ ready place class (least_type w.classes unset ks c)
    stacked : IsStacked w m ks (made_ready place c)

  new-readied : (h p c : ℕ) → kind_of_handle ks h ≡ Some (Instance c) → class_made w m p ≡ Some c → IsReadied (cells.Fresh h p)
  new-readied h p c kind told = go (p == place) refl
    where
      ty : least_type w.classes unset ks (cells.Fresh h p) ≡ Fresh p c
      ty = fresh-at ks h p ∙ ap (fresh_seen p) kind

      go : (b : Bool) → (p == place) ≡ b → IsReadied (cells.Fresh h p)
      go true e =
          let at : p ≡ place = eqb-true p place e in
          let same_class : c ≡ class = same_Some c class (sym told ∙ (ap (class_made w m) at ∙ made)) in
          let cell_is : made_ready place (cells.Fresh h p) ≡ cells.Ref h = ap (λ x. if x then cells.Ref h else cells.Fresh h p) e in
          let after_is : ready place class (Fresh p c) ≡ Class class = ap (λ x. if x then Class class else Fresh p c) e in
          record {
            type_is = grind (arith, cell_is, kind-type, kind, place, ty);
            stacked = subst (IsStacked w m ks) (sym cell_is) tt;
          }
      go false e =
          let cell_is : made_ready place (cells.Fresh h p) ≡ cells.Fresh h p = ap (λ x. if x then cells.Ref h else cells.Fresh h p) e in
          let after_is : ready place class (Fresh p c) ≡ Fresh p c = ap (λ x. if x then Class class else Fresh p c) e in
          record {
            type_is = ap (least_type w.classes unset ks) cell_is ∙ (ty ∙ sym (ap (ready place class) ty ∙ after_is));
            stacked = grind (arith, cell_is, kind);
          }

  cell-readied : (c : Cell) → IsStacked w m ks c → IsReadied c
  cell-readied cells.Empty h = absurd h
  cell-readied (cells.Short n) h = record { type_is = refl; stacked = tt }
  cell-readied (cells.High n) h = record { type_is = refl; stacked = tt }
  cell-readied (cells.Low n) h = record { type_is = refl; stacked = tt }
  cell-readied (cells.Ref n) h = record { type_is = sym (ready-kept place class (type_of_handle w.classes ks n) (reference-not_fresh n)); stacked = tt }
  cell-readied (cells.Fresh n p) h = grind (arith, new-readied)

  -- of all cells of a stack
  pub types-readied : (cs : List Cell) → All (IsStacked w m ks) cs → least_types w.classes unset ks (map (made_ready place) cs)
      ≡ map (ready place class) (least_types w.classes unset ks cs)
  types-readied [] h = refl
  types-readied (c ∷ cs) h =
      let first = cell-readied c (All-head (IsStacked w m ks) c cs h) in
      ap (λ a. a ∷ least_types w.classes unset ks (map (made_ready place) cs)) first.type_is
      ∙ ap (λ ts. ready place class (least_type w.classes unset ks c) ∷ ts) (types-readied cs (All-tail (IsStacked w m ks) c cs h))

  pub stacked-readied : (cs : List Cell) → All (IsStacked w m ks) cs → All (IsStacked w m ks) (map (made_ready place) cs)
  stacked-readied [] h = All-nil (IsStacked w m ks)
  stacked-readied (c ∷ cs) h =
      All-cons (IsStacked w m ks) (made_ready place c) (map (made_ready place) cs) (cell-readied c (All-head (IsStacked w m ks) c cs h)).stacked
      (stacked-readied cs (All-tail (IsStacked w m ks) c cs h))

  -- arguments are ready as they are
  pub arguments-kept :
      (cs : List Cell) (tys : List Ty) → All (IsStacked w m ks) cs → All (IsDeclared w.classes) tys
      → CellsBelow w.classes (least_types w.classes unset ks cs) tys
      → map (made_ready place) cs ≡ cs
  arguments-kept [] tys h d below = refl
  arguments-kept (c ∷ cs) [] h d below = elim below [ ]
  arguments-kept (c ∷ cs) (ty ∷ tys) h d below =
      let parts = below-parts w.classes below in
      let declared = All-head (IsDeclared w.classes) ty tys d in
      let filled = stacked-filled w m ks c (All-head (IsStacked w m ks) c cs h) in
      let ready_cell = value-ready w.classes are unset ks c ty filled (declared-not_fresh w.classes ty declared) (declared-not_top w.classes ty declared)
      parts.0 in
      ap (λ d. d ∷ map (made_ready place) cs) (cell-kept place c ready_cell)
      ∙ ap (λ ds. c ∷ ds) (arguments-kept cs tys (All-tail (IsStacked w m ks) c cs h) (All-tail (IsDeclared w.classes) ty tys d) parts.1)
