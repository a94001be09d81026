-- One object more in the memory of tagged cells.
use Rattle.std.proofs.Common.{◌≡◌, ℕ, ◌+◌, ◌<◌, ◌≤◌, List, [], ◌∷◌, ◌++◌, length, sym, ◌∙◌, ap, subst, arith}
use Rattle.std.proofs.lemmas.List.{length_push}
use Rattle.vm_store.specs.declared.cell.ObjectHeader.{ObjectHeader}
use Rattle.vm_store.specs.State.{Frame, State}
use Rattle.vm_store.specs.Objects.{with_object}
use Rattle.vm_store.specs.Layout.{size, objects_in, Follow, overwritten}
use Rattle.vm_store.specs.Tagged.{IsInOrder}
use Rattle.vm_store.proofs.Heaps.{added, follow-more}

pub in_order-more :
    (frames live capacity cells used n capacity' cells' : ℕ) (hs now : List ObjectHeader) (h : ObjectHeader)
    → IsInOrder frames live hs capacity cells used → length hs < 4096 → h.start ≡ used → size h ≡ n → used + n ≤ 32768
    → now ≡ hs ++ h ∷ [] → capacity' ≡ capacity → cells' ≡ cells → IsInOrder frames live now capacity' cells' (used + n)
in_order-more frames live capacity cells used n capacity' cells' hs now h order few here width room is same_capacity same_cells =
    let more : Follow 0 (hs ++ h ∷ []) (used + size h) = follow-more 0 hs used h order.laid here in
    let more' : Follow 0 (hs ++ h ∷ []) (used + n) = subst (λ k. Follow 0 (hs ++ h ∷ []) (used + k)) width more in
    record {
      all_frames = order.all_frames;
      some_live = order.some_live;
      objects = omega (arith, ap length is, length_push hs h, few);
      memory = omega (arith, order.memory, same_capacity);
      all_cells = same_cells ∙ order.all_cells;
      some_used = room;
      laid = subst (λ gs. Follow 0 gs (used + n)) (sym is) more';
    }

pub state-more :
    {A : Type 0} (frames : List (Frame A)) (statics xs ys news : List A) (hs now : List ObjectHeader) (used : ℕ) (h : ObjectHeader) (s : State A)
    → record { frames = frames; heap = objects_in xs hs; statics = statics } ≡ s
    → Follow 0 hs used → used ≤ length xs → ys ≡ overwritten xs used news → h.start ≡ used → size h ≡ length news → now ≡ hs ++ h ∷ []
    → record { frames = frames; heap = objects_in ys now; statics = statics } ≡ with_object s h.kind news
state-more {A} frames statics xs ys news hs now used h s view follow enough is here width now_is = grind (arith, added)
