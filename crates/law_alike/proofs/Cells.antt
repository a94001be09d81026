-- Cells that carry other places of `new`: they hold the same words, and have the same types but for these places.
use Rattle.std.proofs.Common.{◌≡◌, ℕ, zero, suc, ◌<◌, ◌==◌, Bool, true, false, if◌then◌else◌, List, [], ◌∷◌, ◌++◌, map}
use Rattle.std.proofs.Common.{take, drop, reverse, refl, sym, ap, ◌∙◌, arith}
use Rattle.std.specs.Prelude.{Option, Some, None, slice_get}
use Rattle.std.proofs.Math.ListN.{get_or-map}
use Rattle.std.proofs.lemmas.Bool.{eqb-true}
use Rattle.std.proofs.lemmas.Bool.Decides.{nat_tests}
use Rattle.std.proofs.lemmas.List.{map-append, map-set, take-map, drop-map, reverse-append}
use Rattle.jc_base.specs.declared.ty.Ty.{Ty}
use Rattle.jc_base.specs.declared.ty.Ty.TheVariants.{Bottom}
use Rattle.jc_base.specs.declared.ty.Kind.{Kind}
use Rattle.jc_base.specs.Class.{ClassTable, AreClasses}
use Rattle.jc_base.specs.Order.{Below}
use Rattle.jc_base.specs.Dispatch.{cells_of}
use Rattle.jc_ops.specs.declared.operation.Move.{Move}
use Rattle.jc_ops.specs.declared.operation.Width.{Width}
use Rattle.jc_rules.specs.Flow.{IsNotFresh, IsNotTop}
use Rattle.vm_arithmetic.specs.Arithmetic.{int_of_words, short_of_word}
use Rattle.vm_store.specs.declared.cell.Cell.{Cell}
use Rattle.vm_store.specs.declared.cell.Cell.TheVariants as cells
use Rattle.vm_store.specs.declared.cell.CellKind.{CellKind}
use Rattle.vm_store.specs.declared.cell.ObjectKind.{ObjectKind}
use Rattle.vm_store.specs.declared.cell.ObjectKind.TheVariants.{Instance, Booleans, Bytes, Shorts, Ints, References}
use Rattle.vm_store.specs.Kind.{cell_kind}
use Rattle.vm_store.specs.Typing.{least_type, type_of_handle, type_seen, fresh_seen}
use Rattle.vm_store.specs.Cells.{tagged, word_of, loaded_as, made_ready, zero_cell}
use Rattle.vm_store.specs.State.{Object, map_object, nth, rotated}
use Rattle.vm_store.specs.Objects.{cells_in, new_instance_cells, array_cells, repeated, write_object}
use Rattle.vm_store.specs.Value.{value_in, with_value}
use Rattle.vm_step.specs.Numbers.{handle_at, short_at, number_on}
use Rattle.vm_step.specs.Values.{moved}
use Rattle.law_sound.proofs.Ready.{not-over-top, not-over-seen}
use Rattle.law_laid.specs.Laid.{renamed}
use Rattle.law_alike.specs.Alike.{IsOneToOne, KeepsPlain, renamed_cell}

-- a cell whose type lies below one that values have is plain
pub value-plain :
    (f : Cell → Cell) → KeepsPlain tagged f → (t : ClassTable) → AreClasses t → (ks : List ObjectKind) (c : Cell) (ty : Ty)
    → IsNotFresh ty → IsNotTop ty → Below t (least_type t Bottom ks c) ty → f c ≡ c
value-plain f keeps t are ks w ty fresh top b = grind (arith, not-over-top, not-over-seen)

pub renamed-keeps : (f : ℕ → ℕ) → KeepsPlain tagged (renamed_cell f)
renamed-keeps f = record { empty = refl; short = λ n. refl; high = λ n. refl; low = λ n. refl; reference = λ h. refl }

module _ (f : ℕ → ℕ) where
  -- ---- one cell

  pub word-kept : (c : Cell) → word_of (renamed_cell f c) ≡ word_of c
  word-kept x = grind (arith)

  handle-renamed : (t : ClassTable) (ks : List ObjectKind) (h : ℕ) → type_of_handle t ks h ≡ renamed f (type_of_handle t ks h)
  handle-renamed t ks zero = refl
  handle-renamed t ks (suc h) = go (slice_get ks h)
    where
      go : (o : Option ObjectKind) → type_seen t o ≡ renamed f (type_seen t o)
      go None = refl
      go (Some (Instance c)) = refl
      go (Some Booleans) = refl
      go (Some Bytes) = refl
      go (Some Shorts) = refl
      go (Some Ints) = refl
      go (Some (References c)) = refl

  seen-renamed : (p : ℕ) (o : Option ObjectKind) → fresh_seen (f p) o ≡ renamed f (fresh_seen p o)
  seen-renamed p y = grind (arith)

  pub type-renamed :
      (t : ClassTable) (ks : List ObjectKind) (c : Cell) → least_type t Bottom ks (renamed_cell f c)
      ≡ renamed f (least_type t Bottom ks c)
  type-renamed t ks z = grind (arith, handle-renamed, seen-renamed)

  pub types-renamed :
      (t : ClassTable) (ks : List ObjectKind) (cs : List Cell)
      → map (least_type t Bottom ks) (map (renamed_cell f) cs) ≡ map (renamed f) (map (least_type t Bottom ks) cs)
  types-renamed t ks [] = refl
  types-renamed t ks (c ∷ cs) = let a = type-renamed t ks c in let b = types-renamed t ks cs in cc

  -- a cell whose type lies below one that values have stays as it is
  pub value-stays :
      (t : ClassTable) → AreClasses t → (ks : List ObjectKind) (c : Cell) (ty : Ty)
      → IsNotFresh ty → IsNotTop ty → Below t (least_type t Bottom ks c) ty → renamed_cell f c ≡ c
  value-stays t are ks u ty fresh top b = grind (arith, not-over-top, not-over-seen)

  pub loaded-stays : (kind : CellKind) (c : Cell) → renamed_cell f c ≡ c → renamed_cell f (loaded_as kind c) ≡ loaded_as kind c
  loaded-stays x y e = grind (arith)

  -- ---- once a constructor was called

  pub ready-renamed :
      IsOneToOne f → (place : ℕ) (c : Cell) → made_ready (f place) (renamed_cell f c) ≡ renamed_cell f (made_ready place c)
  ready-renamed one place (cells.Fresh h p) = by (p == place) (f p == f place) refl refl
    where
      by : (a b : Bool) → (p == place) ≡ a → (f p == f place) ≡ b
          → (if b then cells.Ref h else cells.Fresh h (f p)) ≡ renamed_cell f (if a then cells.Ref h else cells.Fresh h p)
      by true true x y = refl
      by false false x y = refl
      by true false x y = let e : f p ≡ f place = ap f (eqb-true p place x) in absurd (grind (arith, nat_tests, e, y))
      by false true x y = let e : p ≡ place = one p place (eqb-true (f p) (f place) y) in absurd (grind (arith, nat_tests, e, x))
  ready-renamed one place _ = refl

  pub all-ready-renamed :
      IsOneToOne f → (place : ℕ) (cs : List Cell)
      → map (made_ready (f place)) (map (renamed_cell f) cs) ≡ map (renamed_cell f) (map (made_ready place) cs)
  all-ready-renamed one place [] = refl
  all-ready-renamed one place (c ∷ cs) = let a = ready-renamed one place c in let b = all-ready-renamed one place cs in cc

  -- a cell that stays does so once it is ready
  pub ready-stays : (place : ℕ) (c : Cell) → renamed_cell f c ≡ c → renamed_cell f (made_ready place c) ≡ made_ready place c
  ready-stays place (cells.Fresh h p) e = by (p == place)
    where
      by : (a : Bool) → renamed_cell f (if a then cells.Ref h else cells.Fresh h p) ≡ (if a then cells.Ref h else cells.Fresh h p)
      by true = refl
      by false = e
  ready-stays place _ e = refl

  -- ---- cells of a list

  pub nth-renamed : (cs : List Cell) (n : ℕ) → nth tagged (map (renamed_cell f) cs) n ≡ renamed_cell f (nth tagged cs n)
  nth-renamed cs n = get_or-map (renamed_cell f) cs n cells.Empty

  pub word-at : (cs : List Cell) (n : ℕ) → handle_at tagged (map (renamed_cell f) cs) n ≡ handle_at tagged cs n
  word-at cs n = ap word_of (nth-renamed cs n) ∙ word-kept (nth tagged cs n)

  pub short-is : (cs : List Cell) (n : ℕ) → short_at tagged (map (renamed_cell f) cs) n ≡ short_at tagged cs n
  short-is cs n = ap short_of_word (word-at cs n)

  pub int-is :
      (cs : List Cell) (m n : ℕ)
      → int_of_words (handle_at tagged (map (renamed_cell f) cs) m) (handle_at tagged (map (renamed_cell f) cs) n)
      ≡ int_of_words (handle_at tagged cs m) (handle_at tagged cs n)
  int-is cs m n = grind (arith, word-at)

  pub number-is : (width : Width) (cs : List Cell) → number_on tagged width (map (renamed_cell f) cs) ≡ number_on tagged width cs
  number-is x cs = grind (arith, short-is, int-is)

  pub map-reverse : (cs : List Cell) → map (renamed_cell f) (reverse cs) ≡ reverse (map (renamed_cell f) cs)
  map-reverse [] = refl
  map-reverse (c ∷ cs) =
      ap (map (renamed_cell f)) (reverse-append (c ∷ []) cs)
      ∙ (map-append (renamed_cell f) (reverse cs) (c ∷ [])
      ∙ (ap (λ ys. ys ++ renamed_cell f c ∷ []) (map-reverse cs)
      ∙ sym (reverse-append (renamed_cell f c ∷ []) (map (renamed_cell f) cs))))

  -- the stack after a value came in place of so many cells
  pub replaced-renamed :
      (count : ℕ) (value other stack : List Cell) → map (renamed_cell f) value ≡ other
      → with_value other (drop count (map (renamed_cell f) stack)) ≡ map (renamed_cell f) (with_value value (drop count stack))
  replaced-renamed count value other stack e = grind (arith, reverse, map-reverse, drop-map, map-append)

  -- the first cells of a stack, where each of them stays
  pub take-stays :
      (n : ℕ) (cs : List Cell) → ((k : ℕ) → k < n → renamed_cell f (nth tagged cs k) ≡ nth tagged cs k)
      → map (renamed_cell f) (take n cs) ≡ take n cs
  take-stays zero cs h = refl
  take-stays (suc n) [] h = refl
  take-stays (suc n) (c ∷ cs) h =
      let first : renamed_cell f c ≡ c = h 0 (omega arith) in
      let rest = take-stays n cs (λ k lt. h (suc k) (omega (arith, lt))) in
      cc

  -- ---- moves on the stack

  copied-renamed :
      (copied under : ℕ) (cs : List Cell)
      → take under (map (renamed_cell f) cs) ++ (take copied (map (renamed_cell f) cs) ++ drop under (map (renamed_cell f) cs))
      ≡ map (renamed_cell f) (take under cs ++ (take copied cs ++ drop under cs))
  copied-renamed copied under cs = grind (arith, take-map, drop-map, map-append)

  rotated-renamed :
      (count by : ℕ) (cs : List Cell) → rotated count by (map (renamed_cell f) cs) ≡ map (renamed_cell f) (rotated count by cs)
  rotated-renamed count by cs = grind (arith, take-map, drop-map, map-append)

  pub moved-renamed : (m : Move) (cs : List Cell) → moved m (map (renamed_cell f) cs) ≡ map (renamed_cell f) (moved m cs)
  moved-renamed x cs = grind (arith, drop-map, copied-renamed, rotated-renamed)

  -- ---- values

  -- each of the cells stays
  abbrev pub Stay : List Cell → Type 0
  Stay [] = Unit {0}
  Stay (c ∷ cs) = (renamed_cell f c ≡ c) × Stay cs

  in-renamed :
      (kind : Kind) (cs : List Cell) (at : ℕ) → map (renamed_cell f) (value_in tagged kind cs at)
      ≡ value_in tagged kind (map (renamed_cell f) cs) at
  in-renamed x cs at = grind (arith, nth-renamed)

  -- a value that is read of cells that stay
  pub in-stays :
      (kind : Kind) (cs : List Cell) (at : ℕ) → map (renamed_cell f) cs ≡ cs → map (renamed_cell f) (value_in tagged kind cs at)
      ≡ value_in tagged kind cs at
  in-stays kind cs at e = in-renamed kind cs at ∙ ap (λ xs. value_in tagged kind xs at) e

  -- ---- objects

  object-renamed :
      (os : List (Object Cell)) (h : ℕ) → map (renamed_cell f) (cells_in (slice_get os h))
      ≡ cells_in (slice_get (map (map_object (renamed_cell f)) os) h)
  object-renamed [] h = refl
  object-renamed (o ∷ os) zero = refl
  object-renamed (o ∷ os) (suc h) = object-renamed os h

  pub object-stays :
      (os : List (Object Cell)) (h : ℕ) → map (map_object (renamed_cell f)) os ≡ os
      → map (renamed_cell f) (cells_in (slice_get os h)) ≡ cells_in (slice_get os h)
  object-stays os h e = object-renamed os h ∙ ap (λ xs. cells_in (slice_get xs h)) e

  write-renamed :
      (os : List (Object Cell)) (h i : ℕ) (c : Cell)
      → map (map_object (renamed_cell f)) (write_object os h i c)
      ≡ write_object (map (map_object (renamed_cell f)) os) h i (renamed_cell f c)
  write-renamed [] h i c = refl
  write-renamed (o ∷ os) zero i c = grind (arith, map-set)
  write-renamed (o ∷ os) (suc h) i c = ap (λ xs. map_object (renamed_cell f) o ∷ xs) (write-renamed os h i c)

  pub write-stays :
      (os : List (Object Cell)) (h i : ℕ) (c : Cell) → map (map_object (renamed_cell f)) os ≡ os → renamed_cell f c ≡ c
      → map (map_object (renamed_cell f)) (write_object os h i c) ≡ write_object os h i c
  write-stays os h i c e g = grind (arith, write-renamed)

  pub new-stays :
      (os : List (Object Cell)) (kind : ObjectKind) (cs : List Cell) → map (map_object (renamed_cell f)) os ≡ os
      → map (renamed_cell f) cs ≡ cs
      → map (map_object (renamed_cell f)) (os ++ record { kind = kind; cells = cs } ∷ [])
      ≡ os ++ record { kind = kind; cells = cs } ∷ []
  new-stays os kind cs e g = grind (arith, map-append)

  zero-stays : (kind : CellKind) → renamed_cell f (zero_cell tagged kind) ≡ zero_cell tagged kind
  zero-stays x = grind (arith)

  zeros-stay :
      (tys : List Ty) → map (renamed_cell f) (map (λ ty. zero_cell tagged (cell_kind ty)) tys)
      ≡ map (λ ty. zero_cell tagged (cell_kind ty)) tys
  zeros-stay [] = refl
  zeros-stay (ty ∷ tys) = cc (zero-stays (cell_kind ty), zeros-stay tys)

  pub instance-stays :
      (t : ClassTable) (class : ℕ) → map (renamed_cell f) (new_instance_cells tagged t class) ≡ new_instance_cells tagged t class
  instance-stays t class = zeros-stay (cells_of t class)

  elements-stay : (ks : List CellKind) → map (renamed_cell f) (map (zero_cell tagged) ks) ≡ map (zero_cell tagged) ks
  elements-stay [] = refl
  elements-stay (k ∷ ks) = cc (zero-stays k, elements-stay ks)

  repeated-renamed : (n : ℕ) (cs : List Cell) → map (renamed_cell f) (repeated n cs) ≡ repeated n (map (renamed_cell f) cs)
  repeated-renamed zero cs = refl
  repeated-renamed (suc n) cs = grind (arith, map-append, repeated-renamed n cs)

  pub array-stays :
      (kind : ObjectKind) (count : ℕ) → map (renamed_cell f) (array_cells tagged kind count) ≡ array_cells tagged kind count
  array-stays kind count = grind (arith, repeated-renamed, elements-stay)
