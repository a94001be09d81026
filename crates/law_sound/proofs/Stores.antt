-- Objects and static fields that are typed, with one object more.
use Rattle.std.proofs.Common.{ℕ, List, [], ◌∷◌, ◌++◌, sym, subst, rules, arith}
use Rattle.std.specs.Prelude.{All}
use Rattle.std.proofs.lemmas.List.Elements.{All-push}
use Rattle.jc_base.specs.Dispatch.{IsConcrete}
use Rattle.jc_base.specs.World.{Linked, IsWorld}
use Rattle.vm_store.specs.declared.cell.Cell.{Cell}
use Rattle.vm_store.specs.declared.cell.ObjectKind.{ObjectKind}
use Rattle.vm_store.specs.declared.cell.ObjectKind.TheVariants.{Instance}
use Rattle.vm_store.specs.Kind.{IsArrayKind}
use Rattle.vm_store.specs.Cells.{tagged}
use Rattle.vm_store.specs.State.{Object}
use Rattle.vm_store.specs.Objects.{new_instance_cells, array_cells, with_object}
use Rattle.vm_store.specs.Laws.{CellsHave, IsTypedHeap}
use Rattle.vm_store.proofs.NewObjects.{new-instances, new-arrays}
use Rattle.law_sound.specs.State.{CanBeMade}
use Rattle.vm_store.proofs.NewObjects.{cells-kept}
use Rattle.law_sound.specs.State.{static_types}
use Rattle.law_sound.proofs.Handles.{kinds_of, kinds-more}
use Rattle.law_sound.proofs.Finish.{IsTypedStore}

module _ (w : Linked) (heap : List (Object Cell)) (statics : List Cell) (store : IsTypedStore w heap statics) where
  with-more :
      (o : Object Cell) → CanBeMade w o.kind → IsTypedHeap w.classes (with_object (record { frames = []; heap = heap; statics = statics }) o.kind o.cells)
      → IsTypedStore w (heap ++ o ∷ []) statics
  with-more o made typed =
      let same = sym (kinds-more heap o) in
      record {
        made = subst (All (CanBeMade w)) same (All-push (CanBeMade w) (kinds_of heap) o.kind store.made made);
        objects = typed;
        fields = subst (λ ks. CellsHave w.classes ks statics (static_types w.statics)) same
            (cells-kept w.classes (kinds_of heap) (o.kind ∷ []) statics (static_types w.statics) store.fields);
      }

  pub with-instance :
      IsWorld w → (c : ℕ) → IsConcrete w.classes w.methods c
      → IsTypedStore w (heap ++ record { kind = Instance c; cells = new_instance_cells tagged w.classes c } ∷ []) statics
  with-instance world c concrete = search (rules, with-more, new-instances)

  pub with-array :
      (kind : ObjectKind) (count : ℕ) → CanBeMade w kind → IsArrayKind kind
      → IsTypedStore w (heap ++ record { kind = kind; cells = array_cells tagged kind count } ∷ []) statics
  with-array kind count made array = search (rules, with-more, new-arrays)
