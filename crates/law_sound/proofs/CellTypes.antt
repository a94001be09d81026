-- Least types of cells, where an empty register is read as of any type.
use Rattle.std.proofs.Common.{◌≡◌, ℕ, zero, suc, List, [], ◌∷◌, ◌++◌, refl, sym, subst, arith, ap, ◌∙◌}
use Rattle.std.specs.Prelude.{Option, Some, IsSomeAnd, All, ⊤}
use Rattle.std.proofs.lemmas.List.Elements.{All-head, All-tail, All-nil, All-cons}
use Rattle.jc_base.specs.declared.ty.Ty.{Ty}
use Rattle.jc_base.specs.declared.ty.Ty.TheVariants.{Bottom, Short, Fresh}
use Rattle.jc_base.specs.declared.record.MethodRec.{MethodRec}
use Rattle.jc_base.specs.Class.{ClassTable, AreClasses}
use Rattle.jc_base.specs.Order.{Below, same, nothing}
use Rattle.jc_base.specs.Cell.{IsDeclared}
use Rattle.jc_base.specs.World.{Linked}
use Rattle.jc_base.proofs.Lists.{slice_get-front}
use Rattle.jc_rules.specs.Flow.{CellsBelow, no_cells, more_cells}
use Rattle.jc_rules.specs.Laws.{IsNotBottom}
use Rattle.vm_store.specs.declared.cell.Cell.{Cell}
use Rattle.vm_store.specs.declared.cell.Cell.TheVariants as cells
use Rattle.vm_store.specs.declared.cell.ObjectKind.{ObjectKind}
use Rattle.vm_store.specs.Kind.{kind_of_handle, type_of_kind}
use Rattle.vm_store.specs.Typing.{HasType, IsReady, least_type, type_seen, fresh_seen}
use Rattle.vm_store.specs.Laws.{HasContent}
use Rattle.vm_store.proofs.CellTypes.{least-is, least-falls}
use Rattle.law_sound.specs.Frames.{least_types, IsStacked}

-- ---- facts of an option

pub some-weaker : {X : Type 0} (P Q : X → Type 0) → ((x : X) → P x → Q x) → (o : Option X) → IsSomeAnd o P → IsSomeAnd o Q
some-weaker x y f u h = grind (arith)

pub some-both : {X : Type 0} (P Q : X → Type 0) (o : Option X) → IsSomeAnd o P → IsSomeAnd o Q → IsSomeAnd o (λ x. P x × Q x)
some-both x y z h k = grind (arith)

-- ---- types that may be kept

pub declared-ready : (t : ClassTable) (ty : Ty) → IsDeclared t ty → IsReady ty
declared-ready t y h = grind (arith)

module _ (t : ClassTable) (unset : Ty) (ks : List ObjectKind) where
  -- ---- cells in which something was stored

  -- their least types are the same, however an empty one is read
  pub filled-same : (c : Cell) → HasContent c → least_type t Bottom ks c ≡ least_type t unset ks c
  filled-same x h = grind (arith)

  pub has-below : AreClasses t → (c : Cell) (ty : Ty) → HasType t ks c ty → HasContent c → Below t (least_type t unset ks c) ty
  has-below are c ty has filled = subst (λ a. Below t a ty) (filled-same c filled) ((least-is t ks are c).least ty has)

  pub below-has : AreClasses t → (c : Cell) (ty : Ty) → Below t (least_type t unset ks c) ty → HasContent c → IsReady ty → HasType t ks c ty
  below-has are c ty below filled ready = (least-is t ks are c).above ty ready (subst (λ a. Below t a ty) (sym (filled-same c filled)) below)

  kind-not_bottom : (k : ObjectKind) → IsNotBottom (type_of_kind t k)
  kind-not_bottom x = grind (arith)

  seen-not_bottom : (o : Option ObjectKind) → IsNotBottom (type_seen t o)
  seen-not_bottom x = grind (arith, kind-not_bottom)

  fresh-not_bottom : (p : ℕ) (o : Option ObjectKind) → IsNotBottom (fresh_seen p o)
  fresh-not_bottom p y = grind (arith)

  pub filled-not_bottom : (c : Cell) → HasContent c → IsNotBottom (least_type t unset ks c)
  filled-not_bottom x h = grind (arith, seen-not_bottom, fresh-not_bottom)

  -- ---- an empty register

  pub bottom-below : (c : Cell) → Below t (least_type t Bottom ks c) (least_type t unset ks c)
  bottom-below cells.Empty = nothing
  bottom-below (cells.Short n) = same
  bottom-below (cells.High n) = same
  bottom-below (cells.Low n) = same
  bottom-below (cells.Ref n) = same
  bottom-below (cells.Fresh n p) = same

  pub bottoms-below : (cs : List Cell) → CellsBelow t (least_types t Bottom ks cs) (least_types t unset ks cs)
  bottoms-below [] = no_cells
  bottoms-below (c ∷ cs) = more_cells (bottom-below c) (bottoms-below cs)

  -- ---- more objects

  pub types-fall : (more : List ObjectKind) (cs : List Cell) → CellsBelow t (least_types t unset (ks ++ more) cs) (least_types t unset ks cs)
  types-fall more [] = no_cells
  types-fall more (c ∷ cs) = more_cells (least-falls t ks unset c more) (types-fall more cs)

-- ---- cells of an operand stack

module _ (w : Linked) (m : MethodRec) where
  pub stacked-filled : (ks : List ObjectKind) (c : Cell) → IsStacked w m ks c → HasContent c
  stacked-filled ks y h = grind (arith)

  pub kind-front : (ks more : List ObjectKind) (h : ℕ) (k : ObjectKind) → kind_of_handle ks h ≡ Some k → kind_of_handle (ks ++ more) h ≡ Some k
  kind-front ks more zero k e = e
  kind-front ks more (suc h) k e = slice_get-front ks more h k e

  pub stacked-falls : (ks more : List ObjectKind) (c : Cell) → IsStacked w m ks c → IsStacked w m (ks ++ more) c
  stacked-falls ks more z h = grind (arith, some-weaker, kind-front)

  pub not_bottoms : (unset : Ty) (ks : List ObjectKind) (cs : List Cell) → All (IsStacked w m ks) cs → All IsNotBottom (least_types w.classes unset ks cs)
  not_bottoms unset ks [] h = All-nil IsNotBottom
  not_bottoms unset ks (c ∷ cs) h =
      All-cons IsNotBottom (least_type w.classes unset ks c) (least_types w.classes unset ks cs)
      (filled-not_bottom w.classes unset ks c (stacked-filled ks c (All-head (IsStacked w m ks) c cs h)))
      (not_bottoms unset ks cs (All-tail (IsStacked w m ks) c cs h))

  -- cells of a stack are of the same types, however empty ones are read
  pub stacked-alike : (a b : Ty) (ks : List ObjectKind) (cs : List Cell) → All (IsStacked w m ks) cs
      → least_types w.classes a ks cs ≡ least_types w.classes b ks cs
  stacked-alike a b ks [] h = refl
  stacked-alike a b ks (c ∷ cs) h =
      let filled = stacked-filled ks c (All-head (IsStacked w m ks) c cs h) in
      let first : least_type w.classes a ks c ≡ least_type w.classes b ks c = sym (filled-same w.classes a ks c filled)
      ∙ filled-same w.classes b ks c filled in
      ap (λ ty. ty ∷ least_types w.classes a ks cs) first
      ∙ ap (λ ts. least_type w.classes b ks c ∷ ts) (stacked-alike a b ks cs (All-tail (IsStacked w m ks) c cs h))

-- a ready cell, which is no object on which a constructor is still to be called, may lie on any stack
abbrev pub IsReadyCell : Cell → Type 0
IsReadyCell cells.Empty = ⊥
IsReadyCell (cells.Fresh h p) = ⊥
IsReadyCell _ = ⊤

pub ready-stacked : (w : Linked) (m : MethodRec) (ks : List ObjectKind) (c : Cell) → IsReadyCell c → IsStacked w m ks c
ready-stacked w m ks u h = grind (arith)
