-- The flow graph of a method, place by place.
use Rattle.std.proofs.Common.{◌≡◌, ℕ, suc, ◌<◌, inl, inr, ⊎_elim, List, length, refl, sym, ap, ◌∙◌, subst, arith, Contains}
use Rattle.std.specs.Prelude.{Result, Ok, Err, Some, IsSomeAnd, slice_get}
use Rattle.std.proofs.Math.ListN.{set}
use Rattle.std.proofs.lemmas.Bool.{cases_eq}
use Rattle.std.proofs.lemmas.List.{length-set}
use Rattle.jc_base.specs.declared.record.MethodRec.{MethodRec}
use Rattle.jc_base.specs.World.{Linked}
use Rattle.jc_base.proofs.Lists.{slice_get-set_here, slice_get-set_other}
use Rattle.jc_decode.specs.declared.insn.Insn.{Insn}
use Rattle.jc_decode.specs.declared.insn.Placed.{Placed}
use Rattle.jc_decode.specs.Laws.{AreListed}
use Rattle.jc_control.specs.Method.{Method, IsMethodOf}
use Rattle.jc_control.specs.WellFormed.{HasInstruction}
use Rattle.jc_ops.specs.declared.fault.RuleFault.{RuleFault}
use Rattle.jc_ops.specs.declared.operation.Operation.{Operation}
use Rattle.jc_ops.specs.Resolve.{Resolves, ResolvesAt}
use Rattle.law_share.specs.Live.{Operates}
use Rattle.xf_allot.specs.declared.building.Building.{Building}
use Rattle.xf_allot.specs.Uses.{AreUsesOf}
use Rattle.xf_allot.specs.Graph.{IsNodeAt, IsNodeTo, IsOut, IsCatch, IsEdgeAt, edge_out, edge_catch, Adds, IsGraphTo}
use Rattle.xf_allot.specs.Building.{IsOutAt, IsAwaited, HasPlace}
use Rattle.xf_allot.proofs.Adding.{adds-none, adds-same}
use Rattle.xf_allot.proofs.Flowing.{operation-one}
use Rattle.xf_live.specs.declared.graph.Edge.{Edge}
use Rattle.xf_live.specs.declared.graph.Uses.{Uses}

-- ---- at a place

-- nothing stands there
pub place-none : (w : Linked) (m : Method) (place : ℕ) (b : Building) → IsAwaited place b
    → ((i : Placed) (op : Operation) → Operates w m i op → i.place ≡ place → ⊥) → HasPlace w m place b b
place-none w m place b awaited none = record {
  size = refl;
  node = λ u there. record {
    here = λ i op operates at. absurd (none i op operates at);
    reads = λ x h. absurd ((awaited.blank u there x).0 h);
    writes = λ x h. absurd ((awaited.blank u there x).1 h);
  };
  others = λ n apart. refl;
  edges_are = adds-none (IsOutAt w m place) b.edges.items (λ e out. none out.instruction out.op out.operates out.at);
}

-- an operation stands there
pub place-one :
    (w : Linked) (m : Method) (i : Placed) (op : Operation) (u : Uses) (old new : Building) → AreListed m.code → IsAwaited i.place old
    → Operates w m i op → AreUsesOf w op u → new.uses.items ≡ set old.uses.items i.place u → Adds (IsOut m i) old.edges.items new.edges.items
    → HasPlace w m i.place old new
place-one w m i op u old new listed awaited operates are uses adds = record {
  size = ap length uses ∙ length-set old.uses.items i.place u;
  node = λ v there. subst (IsNodeAt w m i.place) (some-one u v (sym (slice_get-set_here old.uses.items i.place u awaited.inside)
      ∙ (ap (λ (us : List Uses). slice_get us i.place) (sym uses) ∙ there))) its;
  others = λ n apart. ap (λ (us : List Uses). slice_get us n) uses ∙ slice_get-set_other old.uses.items i.place n u (λ e. apart (sym e));
  edges_are = adds-same (IsOut m i) (IsOutAt w m i.place) old.edges.items new.edges.items
      (λ e out. record { instruction = i; op = op; operates = operates; at = refl; out = out })
      (λ e out. subst (λ (k : Placed). IsOut m k e) (listed.one out.instruction i out.operates.stands operates.stands out.at) out.out) adds;
}
  where
    some-one : (u v : Uses) → Some u ≡ Some v → u ≡ v
    some-one u v e = cc

    its : IsNodeAt w m i.place u
    its = record {
      here = λ j a other at. subst (λ (o : Operation). AreUsesOf w o u) (operation-one w m listed i j op a operates other (sym at)) are;
      reads = λ x h. record { instruction = i; op = op; operates = operates; at = refl };
      writes = λ x h. record { instruction = i; op = op; operates = operates; at = refl };
    }

-- ---- what stands there

its-record : (w : Linked) (m : Method) (P : MethodRec → Type 0) → IsMethodOf w m → IsSomeAnd (slice_get w.methods m.number) P → P m.rec
its-record w m P is h = rw is.rec at h

pub resolves-there : (w : Linked) (m : Method) (place : ℕ) (insn : Insn) (r : Result Operation RuleFault) → IsMethodOf w m
    → ResolvesAt w (record { method = m.number; place = place }) insn r → Resolves w m.rec place insn r
resolves-there w m place insn r is h = its-record w m (λ (rec : MethodRec). Resolves w rec place insn r) is h

pub unresolved : (w : Linked) (m : Method) (i : Placed) (fault : RuleFault) → AreListed m.code → HasInstruction m.code i
    → Resolves w m.rec i.place i.insn (Err fault) → (j : Placed) (op : Operation) → Operates w m j op → j.place ≡ i.place → ⊥
unresolved w m i fault listed stands none j op operates at =
    let same : j ≡ i = listed.one j i operates.stands stands at in
    let some : Resolves w m.rec i.place i.insn (Ok op) = subst (λ (k : Placed). Resolves w m.rec k.place k.insn (Ok op)) same operates.resolves in
    apart op fault (some ∙ sym none)
  where
    apart : (x : Operation) (y : RuleFault) → ◌≡◌ {A = Result Operation RuleFault} (Ok x) (Err y) → ⊥
    apart x y e = absurd (cc)

-- ---- one place more

pub awaited-next : (w : Linked) (m : Method) (place : ℕ) (b : Building) → place < length m.code → IsGraphTo w m place b.uses.items b.edges.items
    → IsAwaited place b
awaited-next w m place b lt graph = record {
  inside = (let size = graph.size in omega (arith, size, lt));
  blank = λ u there. (graph.nodes place u there).blank (omega arith);
}

pub graph-more :
    (w : Linked) (m : Method) (place : ℕ) (old between new : Building) → place < length m.code → IsGraphTo w m place old.uses.items old.edges.items
    → HasPlace w m place old between → new.uses.items ≡ between.uses.items → Adds (IsCatch m place) between.edges.items new.edges.items
    → IsGraphTo w m (suc place) new.uses.items new.edges.items
graph-more w m place old between new lt graph has uses adds = record {
  size = ap length uses ∙ (has.size ∙ graph.size);
  nodes = λ n u there. node n u (sym (ap (λ (us : List Uses). slice_get us n) uses) ∙ there);
  edges_are = λ e. (forth e, back e);
}
  where
    node : (n : ℕ) (u : Uses) → slice_get between.uses.items n ≡ Some u → IsNodeTo w m (suc place) n u
    node n u there = elim (cases_eq n place) [
      | inl here ↦ record {
        looked = λ before. subst (λ k. IsNodeAt w m k u) (sym here) (has.node u (subst (λ k. slice_get between.uses.items k ≡ Some u) here there));
        blank = λ after. absurd (omega (arith, after, here));
      }
      | inr apart ↦
          let old_there : slice_get old.uses.items n ≡ Some u = sym (has.others n apart) ∙ there in
          let was = graph.nodes n u old_there in
          record { looked = λ before. was.looked (omega (arith, before, apart)); blank = λ after. was.blank (omega (arith, after)) }
    ]

    forth : (e : Edge) → Contains new.edges.items e → (p : ℕ) × (p < suc place) × IsEdgeAt w m p e
    forth e h = ⊎_elim
        (λ there. ⊎_elim (λ before. (let at = (graph.edges_are e).0 before in let less = at.1 in (at.0, omega (arith, less), at.2)))
        (λ out. (place, omega arith, edge_out out.instruction out.op out.operates out.at out.out)) ((has.edges_are e).0 there))
        (λ catch. (place, omega arith, edge_catch catch)) ((adds e).0 h)

    here : (e : Edge) → IsEdgeAt w m place e → Contains new.edges.items e
    here e (edge_out i op operates at out) =
        (adds e).1 (inl ((has.edges_are e).1 (inr (record { instruction = i; op = op; operates = operates; at = at; out = out }))))
    here e (edge_catch catch) = (adds e).1 (inr catch)

    back : (e : Edge) → ((p : ℕ) × (p < suc place) × IsEdgeAt w m p e) → Contains new.edges.items e
    back e at =
        let less = at.1 in
        elim (cases_eq at.0 place) [
          | inl same ↦ here e (subst (λ p. IsEdgeAt w m p e) same at.2)
          | inr apart ↦ (adds e).1 (inl ((has.edges_are e).1 (inl ((graph.edges_are e).1 (at.0, omega (arith, less, apart), at.2)))))
        ]
