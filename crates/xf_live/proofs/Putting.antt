-- Registers that are live where control may come from a node that writes one: how they are put together, edge by edge.
use Rattle.std.proofs.Common.{arith}
use Rattle.std.proofs.Common.{◌≡◌, ◌<◌, inl, inr, ⊎_elim, ℕ, ◌+◌, List, [], ◌∷◌, ◌++◌, length, take, sym, ap, ◌∙◌, subst}
use Rattle.std.proofs.Common.{get_or}
use Rattle.std.specs.Prelude.{slice_get}
use Rattle.std.proofs.lemmas.List.{take_more}
use Rattle.std.proofs.lemmas.List.Elements.{Contains-append_left, Contains-push, Contains-push_cases}
use Rattle.xf_live.specs.declared.graph.Edge.{Edge}
use Rattle.xf_live.specs.declared.graph.Uses.{Uses}
use Rattle.xf_live.specs.declared.interference.Interference.{Interference}
use Rattle.xf_live.specs.declared.set.RegisterSet.{RegisterSet}
use Rattle.xf_live.specs.Set.{Has}
use Rattle.xf_live.specs.Live.{set_at}
use Rattle.xf_live.specs.Flow.{AreLiveIn}
use Rattle.xf_live.specs.Interference.{ClashIn, InterfereIn, clash_forth, clash_back, live_first, Tells, told_forth, told_back, told_first}
use Rattle.xf_live.specs.Interference.{AreInterfering, WritesAt, PutsTo, IsAfter, AreAfter}

-- ---- one edge after another

module _ (uses : List Uses) (sets : List RegisterSet) where
  is-on : (edges more : List Edge) (x y : ℕ) → IsAfter uses sets edges x y → IsAfter uses sets (edges ++ more) x y
  is-on edges more x y a = record {
    edge = a.edge;
    listed = Contains-append_left edges more a.edge a.listed;
    node = a.node;
    there = a.there;
    writes = a.writes;
    live = a.live;
  }

  one-more :
      (edges : List Edge) (edge : Edge) (written : RegisterSet) (old new : List RegisterSet) → AreAfter uses sets edges old
      → WritesAt uses edge.from written → PutsTo written (set_at sets edge.to) 256 old new → AreAfter uses sets (edges ++ edge ∷ []) new
  one-more edges edge written old new are writes puts = record {
    size = puts.size ∙ are.size;
    has = λ x y lt. (
      λ h. ⊎_elim (λ before. is-on edges (edge ∷ []) x y ((are.has x y lt).0 before))
          (λ now. (let node = (writes x).0 now.1 in record {
            edge = edge;
            listed = Contains-push edges edge;
            node = node.0;
            there = node.1;
            writes = node.2;
            live = now.2;
          })) ((puts.has x y lt).0 h),
      λ a. (puts.has x y lt).1 (⊎_elim
          (λ before. inl ((are.has x y lt).1 (record {
            edge = a.edge;
            listed = before;
            node = a.node;
            there = a.there;
            writes = a.writes;
            live = a.live;
          })))
          (λ now. inr (
            lt,
            (writes x).1 (a.node, ap (λ (e : Edge). slice_get uses e.from) now ∙ a.there, a.writes),
            subst (λ (e : Edge). Has (set_at sets e.to) y) (sym now) a.live,
          ))
          (Contains-push_cases edges edge a.edge a.listed)),
    );
  }

  pub after-more :
      (edges : List Edge) (written : RegisterSet) (old new : List RegisterSet) (k : ℕ) (d : Edge) → k < length edges
      → AreAfter uses sets (take k edges) old → WritesAt uses (get_or edges k d).from written
      → PutsTo written (set_at sets (get_or edges k d).to) 256 old new → AreAfter uses sets (take (k + 1) edges) new
  after-more edges written old new k d lt are writes puts =
      subst (λ (es : List Edge). AreAfter uses sets es new) (sym (take_more edges k d lt))
      (one-more (take k edges) (get_or edges k d) written old new are writes puts)

  -- ---- whole

  module _ (edges : List Edge) (after : List RegisterSet) (live : AreLiveIn uses edges sets) (are : AreAfter uses sets edges after) where
    forth : (x y : ℕ) → x < 256 → Has (set_at after x) y → ClashIn uses edges x y
    forth x y lt h = grind (arith)

    back : (x y : ℕ) → x < 256 → ClashIn uses edges x y → Has (set_at after x) y
    back x y lt c = grind (arith)

    pub interfering : (found : Interference) → found.first ≡ set_at sets 0 → found.after.items ≡ after → AreInterfering uses edges found
    interfering found first is x y lx ly = (tells, told)
      where
        tells : Tells found x y → InterfereIn uses edges x y
        tells (told_forth h) = clash_forth (forth x y lx (subst (λ (ss : List RegisterSet). Has (set_at ss x) y) is h))
        tells (told_back h) = clash_back (forth y x ly (subst (λ (ss : List RegisterSet). Has (set_at ss y) x) is h))
        tells (told_first h g) =
            live_first ((live 0 x).0 (subst (λ (s : RegisterSet). Has s x) first h)) ((live 0 y).0 (subst (λ (s : RegisterSet). Has s y) first g))

        told : InterfereIn uses edges x y → Tells found x y
        told x = grind (arith, back)
