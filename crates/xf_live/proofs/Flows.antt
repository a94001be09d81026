-- A flow graph by its edges, and its nodes with those from which control comes to each.
use Rattle.std.proofs.Common.{◌≡◌, ◌<◌, ◌≤◌, ◌⊎◌, inl, inr, ⊎_elim, ℕ, zero, suc, ◌+◌, List, [], ◌∷◌, ◌++◌, length, take, refl, sym, ap, ◌∙◌, subst}
use Rattle.std.proofs.Common.{arith, Contains, get_or}
use Rattle.std.specs.Prelude.{◌↔◌, Option, Some, slice_get, slice_set}
use Rattle.std.proofs.lemmas.Bool.{cases_eq}
use Rattle.std.proofs.lemmas.List.{take_all, take_more}
use Rattle.std.proofs.lemmas.List.Elements.{Contains-append_left, Contains-push, Contains-push_cases}
use Rattle.std.proofs.lemmas.Option.{slice_get_within}
use Rattle.xf_live.specs.declared.graph.Edge.{Edge}
use Rattle.xf_live.specs.declared.graph.Uses.{Uses}
use Rattle.xf_live.specs.declared.live.Node.{Node}
use Rattle.xf_live.specs.declared.set.RegisterSet.{RegisterSet}
use Rattle.xf_live.specs.Set.{Has}
use Rattle.xf_live.specs.Live.{IsLive, live_read, live_on, AreLive}
use Rattle.xf_live.specs.Flow.{IsLiveIn, read_here, kept_on, AreLiveIn, IsNodeOf, AreAlone, AreUnlinked, AreNodesOf, GetsEdge, past_end, gets_edge}

-- ---- nodes one by one

pub record HasNode (u : Uses) (o : Option Node) : Type 0 where
  pub node : Node
  pub there : o ≡ Some node
  pub is : IsNodeOf u node

pub record HasUses (node : Node) (o : Option Uses) : Type 0 where
  pub uses : Uses
  pub there : o ≡ Some uses
  pub is : IsNodeOf uses node

pub node-there : (uses : List Uses) (nodes : List Node) → AreAlone uses nodes → (n : ℕ) (u : Uses) → slice_get uses n ≡ Some u
    → HasNode u (slice_get nodes n)
node-there [] [] all n u e = absurd (cc)
node-there (v ∷ uses) (node ∷ nodes) all zero u e =
    let same : v ≡ u = cc in
    record { node = node; there = refl; is = subst (λ (x : Uses). IsNodeOf x node) same all.0 }
node-there (v ∷ uses) (node ∷ nodes) all (suc n) u e = node-there uses nodes all.1 n u e
node-there [] (node ∷ nodes) all n u e = absurd all
node-there (v ∷ uses) [] all n u e = absurd all

pub uses-there : (uses : List Uses) (nodes : List Node) → AreAlone uses nodes → (n : ℕ) (node : Node) → slice_get nodes n ≡ Some node
    → HasUses node (slice_get uses n)
uses-there [] [] all n node e = absurd (cc)
uses-there (u ∷ uses) (m ∷ nodes) all zero node e = grind (arith)
uses-there (u ∷ uses) (m ∷ nodes) all (suc n) node e = uses-there uses nodes all.1 n node e
uses-there [] (m ∷ nodes) all n node e = absurd all
uses-there (u ∷ uses) [] all n node e = absurd all

pub alone-length : (uses : List Uses) (nodes : List Node) → AreAlone uses nodes → length nodes ≡ length uses
alone-length [] [] all = refl
alone-length [] (node ∷ nodes) all = absurd all
alone-length (u ∷ uses) [] all = absurd all
alone-length (u ∷ uses) (node ∷ nodes) all = ap suc (alone-length uses nodes all.1)

pub alone-push : (uses : List Uses) (nodes : List Node) (u : Uses) (node : Node) → AreAlone uses nodes → IsNodeOf u node
    → AreAlone (uses ++ u ∷ []) (nodes ++ node ∷ [])
alone-push [] [] u node all is = (is, tt)
alone-push [] (m ∷ nodes) u node all is = absurd all
alone-push (v ∷ uses) [] u node all is = absurd all
alone-push (v ∷ uses) (m ∷ nodes) u node all is = (all.0, alone-push uses nodes u node all.1 is)

alone-set : (uses : List Uses) (nodes : List Node) (k : ℕ) (node after : Node) → AreAlone uses nodes → slice_get nodes k ≡ Some node
    → after.reads ≡ node.reads → after.writes ≡ node.writes → AreAlone uses (slice_set nodes k after)
alone-set [] [] k node after all e r w = all
alone-set [] (m ∷ nodes) k node after all e r w = absurd all
alone-set (u ∷ uses) [] k node after all e r w = absurd all
alone-set (u ∷ uses) (m ∷ nodes) zero node after all e r w = grind (arith)
alone-set (u ∷ uses) (m ∷ nodes) (suc k) node after all e r w = (all.0, alone-set uses nodes k node after all.1 e r w)

get-set-same : {X : Type 0} (xs : List X) (k : ℕ) (x : X) → k < length xs → slice_get (slice_set xs k x) k ≡ Some x
get-set-same [] k x lt = absurd (omega (arith, lt))
get-set-same (y ∷ ys) zero x lt = refl
get-set-same (y ∷ ys) (suc k) x lt = get-set-same ys k x (omega (arith, lt))

get-set-other : {X : Type 0} (xs : List X) (k n : ℕ) (x : X) → (n ≡ k → ⊥) → slice_get (slice_set xs k x) n ≡ slice_get xs n
get-set-other [] k n x apart = refl
get-set-other (y ∷ ys) zero zero x apart = absurd (apart refl)
get-set-other (y ∷ ys) zero (suc n) x apart = refl
get-set-other (y ∷ ys) (suc k) zero x apart = refl
get-set-other (y ∷ ys) (suc k) (suc n) x apart = get-set-other ys k n x (λ e. apart (ap suc e))

-- ---- one edge more

some-one : (a b : Node) → ◌≡◌ {A = Option Node} (Some a) (Some b) → a ≡ b
some-one a b e = cc

pub edge-is : (a b : Edge) → a.from ≡ b.from → a.to ≡ b.to → a ≡ b
edge-is a b f t = ap (λ n. record a { «from» = n }) f ∙ ap (λ n. record b { to = n }) t

pub linked : (uses : List Uses) (edges : List Edge) (edge : Edge) (old new : List Node) → AreNodesOf uses edges old → GetsEdge edge old new
    → AreNodesOf uses (edges ++ edge ∷ []) new
linked uses edges edge old new are (past_end far same) = subst (AreNodesOf uses (edges ++ edge ∷ [])) (sym same) (record {
  alone = are.alone;
  edge = λ n q node there. (
    λ listed. ⊎_elim (λ before. (are.edge n q node there).0 before)
        (λ now. (let lt = slice_get_within old q node there in let at = ap (λ (e : Edge). e.to) now in absurd (omega (arith, lt, at, far))))
        (Contains-push_cases edges edge (record { «from» = n; to = q }) listed),
    λ listed. Contains-append_left edges (edge ∷ []) (record { «from» = n; to = q }) ((are.edge n q node there).1 listed),
  );
})
linked uses edges edge old new are (gets_edge node after there set reads writes from) = subst (AreNodesOf uses (edges ++ edge ∷ [])) (sym set) (record {
  alone = alone-set uses old edge.to node after are.alone there reads writes;
  edge = by;
})
  where
    here : (n : ℕ) → Contains (edges ++ edge ∷ []) (record { «from» = n; to = edge.to }) ↔ Contains after.from.items n
    here n = (
      λ listed. subst (λ (ns : List ℕ). Contains ns n) (sym from)
          (⊎_elim (λ before. Contains-append_left node.from.items (edge.from ∷ []) n ((are.edge n edge.to node there).0 before))
          (λ now. subst (Contains (node.from.items ++ edge.from ∷ [])) (ap (λ (e : Edge). e.from) now) (Contains-push node.from.items edge.from))
          (Contains-push_cases edges edge (record { «from» = n; to = edge.to }) listed)),
      λ listed. ⊎_elim (λ before. Contains-append_left edges (edge ∷ []) (record { «from» = n; to = edge.to }) ((are.edge n edge.to node there).1 before))
          (λ now. subst (Contains (edges ++ edge ∷ [])) (edge-is edge (record { «from» = n; to = edge.to }) now refl) (Contains-push edges edge))
          (Contains-push_cases node.from.items edge.from n (subst (λ (ns : List ℕ). Contains ns n) from listed)),
    )

    other : (n q : ℕ) (m : Node) → slice_get old q ≡ Some m → (q ≡ edge.to → ⊥) → Contains (edges ++ edge ∷ [])
        (record { «from» = n; to = q }) ↔ Contains m.from.items n
    other n q m at apart = (
      λ listed. ⊎_elim (λ before. (are.edge n q m at).0 before) (λ now. absurd (apart (sym (ap (λ (e : Edge). e.to) now))))
          (Contains-push_cases edges edge (record { «from» = n; to = q }) listed),
      λ listed. Contains-append_left edges (edge ∷ []) (record { «from» = n; to = q }) ((are.edge n q m at).1 listed),
    )

    by : (n q : ℕ) (m : Node) → slice_get (slice_set old edge.to after) q ≡ Some m
        → Contains (edges ++ edge ∷ []) (record { «from» = n; to = q }) ↔ Contains m.from.items n
    by n q m at = elim (cases_eq q edge.to) [
      | inl same ↦
          let inside = slice_get_within old edge.to node there in
          let is : after ≡ m =
          some-one after m (sym (get-set-same old edge.to after inside) ∙ (ap (slice_get (slice_set old edge.to after)) (sym same) ∙ at)) in
          subst (λ (x : Node). Contains (edges ++ edge ∷ []) (record { «from» = n; to = q }) ↔ Contains x.from.items n) is
          (subst (λ p. Contains (edges ++ edge ∷ []) (record { «from» = n; to = p }) ↔ Contains after.from.items n) (sym same) (here n))
      | inr apart ↦ other n q m (sym (get-set-other old edge.to q after apart) ∙ at) apart
    ]

-- an element of a list with one more
pushed-at : (nodes : List Node) (node : Node) (q : ℕ) (other : Node) → slice_get (nodes ++ node ∷ []) q ≡ Some other
    → (slice_get nodes q ≡ Some other) ⊎ (node ≡ other)
pushed-at [] node zero other e = inr (some-one node other e)
pushed-at [] node (suc q) other e = absurd (cc)
pushed-at (m ∷ nodes) node zero other e = inl e
pushed-at (m ∷ nodes) node (suc q) other e = pushed-at nodes node q other e

pub unlinked-nodes : (uses : List Uses) (nodes : List Node) → AreUnlinked uses nodes → AreNodesOf uses [] nodes
unlinked-nodes uses nodes u = grind (arith)

-- ---- live by edges and by nodes

module _ (uses : List Uses) (edges : List Edge) (nodes : List Node) (are : AreNodesOf uses edges nodes) where
  by-edges : (x n : ℕ) → IsLive nodes x n → IsLiveIn uses edges x n
  by-edges x _ (live_read n node there reads) =
      let u = uses-there uses nodes are.alone n node there in
      read_here n u.uses u.there (subst (λ (s : RegisterSet). Has s x) u.is.reads reads)
  by-edges x _ (live_on n q node after there at from apart live) =
      let u = uses-there uses nodes are.alone n node there in
      kept_on n q u.uses u.there ((are.edge n q after at).1 from) (λ h. apart (subst (λ (s : RegisterSet). Has s x) (sym u.is.writes) h)) (by-edges x q live)

  uses-of : (x n : ℕ) → IsLiveIn uses edges x n → (u : Uses) × (slice_get uses n ≡ Some u)
  uses-of x _ (read_here n u there reads) = (u, there)
  uses-of x _ (kept_on n q u there edge apart live) = (u, there)

  by-nodes : (x n : ℕ) → IsLiveIn uses edges x n → IsLive nodes x n
  by-nodes x _ (read_here n u there reads) =
      let k = node-there uses nodes are.alone n u there in
      live_read n k.node k.there (subst (λ (s : RegisterSet). Has s x) (sym k.is.reads) reads)
  by-nodes x _ (kept_on n q u there edge apart live) =
      let k = node-there uses nodes are.alone n u there in
      let v = uses-of x q live in
      let after = node-there uses nodes are.alone q v.0 v.1 in
      live_on n q k.node after.node k.there after.there ((are.edge n q after.node after.there).0 edge)
      (λ h. apart (subst (λ (s : RegisterSet). Has s x) k.is.writes h)) (by-nodes x q live)

  pub live-by-edges : (sets : List RegisterSet) → AreLive nodes sets → AreLiveIn uses edges sets
  live-by-edges sets live n x = (λ h. by-edges x n ((live n x).0 h), λ h. (live n x).1 (by-nodes x n h))

-- ---- so far

pub unlinked-more :
    (uses : List Uses) (nodes new : List Node) (k : ℕ) (d : Uses) (node : Node) → k < length uses → AreUnlinked (take k uses) nodes
    → IsNodeOf (get_or uses k d) node → node.from.items ≡ [] → new ≡ nodes ++ node ∷ [] → AreUnlinked (take (k + 1) uses) new
unlinked-more uses nodes new k d node lt u is none pushed = record {
  alone = subst (λ (us : List Uses). AreAlone us new) (sym (take_more uses k d lt))
      (subst (AreAlone (take k uses ++ get_or uses k d ∷ [])) (sym pushed) (alone-push (take k uses) nodes (get_or uses k d) node u.alone is));
  none = λ q other e. by q other (subst (λ (ns : List Node). slice_get ns q ≡ Some other) pushed e);
}
  where
    by : (q : ℕ) (other : Node) → slice_get (nodes ++ node ∷ []) q ≡ Some other → other.from.items ≡ []
    by q other e = ⊎_elim (λ before. u.none q other before) (λ last. ap (λ (m : Node). m.from.items) (sym last) ∙ none) (pushed-at nodes node q other e)

pub edges-more :
    (uses : List Uses) (edges : List Edge) (old new : List Node) (k : ℕ) (d : Edge) → k < length edges → AreNodesOf uses (take k edges) old
    → GetsEdge (get_or edges k d) old new → AreNodesOf uses (take (k + 1) edges) new
edges-more uses edges old new k d lt are gets =
    subst (λ (es : List Edge). AreNodesOf uses es new) (sym (take_more edges k d lt)) (linked uses (take k edges) (get_or edges k d) old new are gets)

pub edges-all : (uses : List Uses) (edges : List Edge) (nodes : List Node) (k : ℕ) → length edges ≤ k → AreNodesOf uses (take k edges) nodes
    → AreNodesOf uses edges nodes
edges-all uses edges nodes k le are = subst (λ (es : List Edge). AreNodesOf uses es nodes) (take_all k edges le) are
