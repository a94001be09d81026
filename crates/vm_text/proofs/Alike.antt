-- The words of a state are read as the state is.
use Rattle.std.proofs.Common.{arith}
use Rattle.std.proofs.Common.{◌≡◌, ◌/◌, ℕ, zero, suc, List, [], ◌∷◌, Option, Some, None, refl, ap, ◌∙◌}
use Rattle.std.specs.Prelude.{map, slice_get, option_map, option_and_then}
use Rattle.std.proofs.Math.ListN.{get_or-map}
use Rattle.std.proofs.lemmas.List.{length-map}
use Rattle.jc_base.specs.declared.ty.Ty.{Ty}
use Rattle.jc_base.specs.declared.ty.Kind.{Kind}
use Rattle.jc_base.specs.declared.ty.Kind.TheVariants as fields
use Rattle.jc_base.specs.declared.record.StaticRec.{StaticRec}
use Rattle.jc_base.specs.World.{Linked}
use Rattle.vm_store.specs.declared.cell.Cell.{Cell}
use Rattle.vm_store.specs.declared.cell.Cell.TheVariants.{Empty}
use Rattle.vm_store.specs.declared.cell.ObjectKind.{ObjectKind}
use Rattle.vm_store.specs.Cells.{tagged, words, word_of}
use Rattle.vm_store.specs.State.{State, Object, erased, map_object, nth}
use Rattle.vm_store.specs.Objects.{object_at, element_count}
use Rattle.vm_store.specs.Kind.{element_width}
use Rattle.vm_defend.specs.Reading.{value_at, element_in, numbers_of_kind}
use Rattle.vm_text.specs.Left.{numbers_in, number_array, left_by}
use Rattle.vm_text.specs.LikeTexts.{TextsAreAlike}
use Rattle.vm_text.specs.Text.{left_text}

word_at : (cells : List Cell) (n : ℕ) → nth words (map word_of cells) n ≡ word_of (nth tagged cells n)
word_at cells n = get_or-map word_of cells n Empty

value_alike : (kind : Kind) (cells : List Cell) (n : ℕ) → value_at words kind (map word_of cells) n ≡ value_at tagged kind cells n
value_alike x cells n = grind (arith, word_at)

fields_alike : (cells : List Cell) (fs : List StaticRec)
    → map (λ (f : StaticRec). value_at words f.kind (map word_of cells) f.slot) fs ≡ map (λ (f : StaticRec). value_at tagged f.kind cells f.slot) fs
fields_alike cells [] = refl
fields_alike cells (f ∷ fs) = let head = value_alike f.kind cells f.slot in let tail = fields_alike cells fs in cc

element_alike : (kind : ObjectKind) (cells : List Cell) (i : ℕ) → element_in words kind (map word_of cells) i ≡ element_in tagged kind cells i
element_alike x cells i = grind (arith, word_at)

elements_alike : (kind : ObjectKind) (cells : List Cell) (ns : List ℕ) → map (element_in words kind (map word_of cells)) ns
    ≡ map (element_in tagged kind cells) ns
elements_alike kind cells [] = refl
elements_alike kind cells (n ∷ ns) = let head = element_alike kind cells n in let tail = elements_alike kind cells ns in cc

count_alike : (o : Object Cell) → element_count (map_object word_of o) ≡ element_count o
count_alike o = ap (λ n. n / element_width o.kind) (length-map o.cells word_of)

numbers_alike : (o : Object Cell) (ty : Ty) → numbers_in words (map_object word_of o) ty ≡ numbers_in tagged o ty
numbers_alike o ty = grind (arith, count_alike, elements_alike)

array_alike : (o : Object Cell) (t : Option Ty) → option_map (numbers_in words (map_object word_of o)) t ≡ option_map (numbers_in tagged o) t
array_alike o None = refl
array_alike o (Some ty) = ap Some (numbers_alike o ty)

found_alike : (objects : List (Object Cell)) (n : ℕ)
    → option_and_then (number_array words) (slice_get (map (map_object word_of) objects) n) ≡ option_and_then (number_array tagged) (slice_get objects n)
found_alike [] n = refl
found_alike (o ∷ objects) zero = array_alike o (numbers_of_kind o.kind)
found_alike (o ∷ objects) (suc n) = found_alike objects n

named_alike : (x : State ℕ) (s : State Cell) (h : ℕ) → x.heap ≡ map (map_object word_of) s.heap
    → option_and_then (number_array words) (object_at x h) ≡ option_and_then (number_array tagged) (object_at s h)
named_alike x s zero objects = refl
named_alike x s (suc n) objects = ap (λ all. option_and_then (number_array words) (slice_get all n)) objects ∙ found_alike s.heap n

-- words of the objects and of the static fields of a state are read as the state is
pub left_alike : (w : Linked) (x : State ℕ) (s : State Cell) → x.heap ≡ map (map_object word_of) s.heap → x.statics ≡ map word_of s.statics
    → left_by words w x ≡ left_by tagged w s
left_alike w x s objects fields = grind (arith, fields_alike s.statics w.statics, named_alike)

pub texts_alike : (w : Linked) → TextsAreAlike w
texts_alike w = λ s ending. ap (λ l. left_text l ending) (left_alike w (erased s) s refl refl)
