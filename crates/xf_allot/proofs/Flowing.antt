-- What is live in the flow graph of a method is live in the method.
use Rattle.std.proofs.Common.{◌≡◌, ℕ, zero, suc, ◌+◌, ◌<◌, ◌≤◌, ◌⊎◌, inl, inr, List, length, refl, sym, ◌∙◌, subst, arith}
use Rattle.std.specs.Prelude.{Contains, Ok, Some, slice_get}
use Rattle.std.proofs.lemmas.Bool.{cases_eq, cases_lt}
use Rattle.std.proofs.lemmas.List.Elements.{All-contains}
use Rattle.jc_base.specs.declared.record.Handler.{Handler}
use Rattle.jc_base.specs.World.{Linked}
use Rattle.jc_base.proofs.Lists.{slice_get-some}
use Rattle.jc_decode.specs.declared.insn.Placed.{Placed}
use Rattle.jc_decode.specs.Laws.{AreListed}
use Rattle.jc_control.specs.Control.{IsSuccessor, falls_through, jumped, Covers}
use Rattle.jc_control.specs.Method.{Method}
use Rattle.jc_control.specs.WellFormed.{HasInstruction, IsHandlerOf, IsWellFormed}
use Rattle.jc_control.proofs.PlacesWithin.{place-inside, target-place}
use Rattle.jc_ops.specs.declared.operation.Operation.{Operation}
use Rattle.jc_ops.specs.Resolve.{Resolves}
use Rattle.law_share.specs.Live.{Operates, Writes, MayLeadTo, leads_on, leads_off, IsLiveAt, live_read, live_on}
use Rattle.law_share.specs.Variable.{Clash}
use Rattle.xf_live.specs.declared.graph.Edge.{Edge}
use Rattle.xf_live.specs.declared.graph.Uses.{Uses}
use Rattle.xf_live.specs.declared.interference.Interference.{Interference}
use Rattle.xf_live.specs.Flow.{IsLiveIn, read_here, kept_on}
use Rattle.xf_live.specs.Interference.{AreInterfering, ClashIn, InterfereIn}
use Rattle.xf_live.specs.Set.{Has}
use Rattle.xf_allot.specs.Graph.{caught_at, IsBound, bound_first, bound_start, bound_end, IsBlank, IsNodeAt, IsFall, IsJump, IsOut, out_fall}
use Rattle.xf_allot.specs.Graph.{out_jump, out_caught}
use Rattle.xf_allot.specs.Graph.{IsCatch, catch_before, catch_entry, IsEdgeAt, edge_out, edge_catch, IsGraphOf}
use Rattle.xf_allot.specs.Graph.{AreApart, AreFound}
use Rattle.jc_rules.proofs.Decides.{ok-same}

pub operation-one : (w : Linked) (m : Method) → AreListed m.code → (i j : Placed) (a b : Operation) → Operates w m i a → Operates w m j b
    → i.place ≡ j.place → a ≡ b
operation-one w m listed i j a b x y at =
    let same : j ≡ i = listed.one j i y.stands x.stands (sym at) in
    let here : Resolves w m.rec i.place i.insn (Ok b) = subst (λ (k : Placed). Resolves w m.rec k.place k.insn (Ok b)) same y.resolves in
    ok-same (x.resolves ∙ sym here)

module _ (w : Linked) (m : Method) (listed : AreListed m.code) (formed : IsWellFormed m) (uses : List Uses) (edges : List Edge)
    (graph : IsGraphOf w m uses edges) where
  abbrev size : ℕ
  size = length m.code

  -- the node of a place, and that of handlers
  node-at : (n : ℕ) (u : Uses) → slice_get uses n ≡ Some u → n < size → IsNodeAt w m n u
  node-at n u there lt = (graph.nodes n u there).looked lt

  blank-at : (n : ℕ) (u : Uses) → slice_get uses n ≡ Some u → size ≤ n → IsBlank u
  blank-at n u there le = (graph.nodes n u there).blank le

  -- a handler that covers the place has the register live at its entry
  record IsCaughtLive (x place : ℕ) : Type 0 where
    handler : Handler
    listed_there : Contains m.rec.handlers handler
    covers : Covers handler place
    live : IsLiveAt w m x handler.entry

  -- ---- from the graph to the method

  -- what is live at a node is live at its place, or where a handler of its place begins
  record IsLiveThere (x n : ℕ) : Type 0 where
    at_place : n ≤ size → IsLiveAt w m x n
    at_catch : (place : ℕ) → place < size → n ≡ caught_at size place → IsCaughtLive x place

  fall-near : (i : Placed) (edge : Edge) → HasInstruction m.code i → IsFall i edge → edge.to ≤ size
  fall-near i edge stands fall = let within = listed.within i stands in let to = fall.to in omega (arith, within, to)

  jump-near : (i : Placed) (edge : Edge) → HasInstruction m.code i → IsJump m i edge → edge.to ≤ size
  jump-near i edge stands jump = grind (arith, target-place)

  fall-follows : (i : Placed) (edge : Edge) → IsFall i edge → IsSuccessor m.code i edge.to
  fall-follows i edge fall = subst (IsSuccessor m.code i) (sym fall.to) (falls_through fall.falls)

  -- a walk along an edge that does not write the register
  out-live : (x place : ℕ) (u : Uses) (i : Placed) (op : Operation) (edge : Edge) → slice_get uses place ≡ Some u → Operates w m i op
      → i.place ≡ place → IsOut m i edge → ¬ (Has u.writes x) → IsLiveThere x edge.to → IsLiveAt w m x place
  out-live x place u i op edge there operates at out apart live =
      let inside = listed.inside i operates.stands in
      let are = (node-at place u there (omega (arith, at, inside))).here i op operates at in
      let quiet : ¬ (Writes w op x) = λ h. apart ((are.writes x).1 h) in
      subst (IsLiveAt w m x) at (by quiet out)
    where
      by : ¬ (Writes w op x) → IsOut m i edge → IsLiveAt w m x i.place
      by quiet (out_fall fall) =
          live_on i op edge.to operates quiet (leads_on (fall-follows i edge fall)) (live.at_place (fall-near i edge operates.stands fall))
      by quiet (out_jump jump) =
          live_on i op edge.to operates quiet (leads_on (jumped jump.leads)) (live.at_place (jump-near i edge operates.stands jump))
      by quiet (out_caught _ to) =
          let inside = listed.inside i operates.stands in
          let caught = live.at_catch i.place inside to in
          live_on i op caught.handler.entry operates quiet (leads_off caught.listed_there caught.covers) caught.live

  -- the place before is covered by the same handlers
  covers-before : (h : Handler) (place : ℕ) → ¬ (IsBound m.rec.handlers (suc place)) → Contains m.rec.handlers h → Covers h place → Covers h (suc place)
  covers-before h place none there covers =
      let from = covers.from in
      let before = covers.before in
      elim (cases_eq h.end (suc place)) [
        | inl same ↦ absurd (none (subst (IsBound m.rec.handlers) same (bound_end h there)))
        | inr apart ↦ record { from = omega (arith, from); before = omega (arith, before, apart) }
      ]

  catch-live : (x place : ℕ) (edge : Edge) → place < size → IsCatch m place edge → IsLiveThere x edge.to → IsCaughtLive x place
  catch-live x zero edge lt (catch_before none at to) live = absurd (none bound_first)
  catch-live x (suc place) edge lt (catch_before none at to) live =
      let caught = live.at_catch place (omega (arith, lt)) (omega (arith, to)) in
      record {
        handler = caught.handler;
        listed_there = caught.listed_there;
        covers = covers-before caught.handler place none caught.listed_there caught.covers;
        live = caught.live;
      }
  catch-live x place edge lt (catch_entry bound e) live =
      let inside = place-inside m.code listed e.handler.entry (All-contains (IsHandlerOf m.code) m.rec.handlers e.handler formed.handlers e.listed).entry in
      let to = e.enters.to in
      record {
        handler = e.handler;
        listed_there = e.listed;
        covers = e.enters.covers;
        live = subst (IsLiveAt w m x) to (live.at_place (omega (arith, inside, to)));
      }

  catch-from : (place : ℕ) (edge : Edge) → IsCatch m place edge → edge.from ≡ caught_at size place
  catch-from place edge x = grind (arith)

  out-from : (i : Placed) (edge : Edge) → IsOut m i edge → edge.from ≡ i.place
  out-from i edge x = grind (arith)

  -- along an edge from a place
  edge-live : (x n : ℕ) (u : Uses) (place : ℕ) (edge : Edge) → slice_get uses n ≡ Some u → place < size → edge.from ≡ n → IsEdgeAt w m place edge
      → ¬ (Has u.writes x) → IsLiveThere x edge.to → IsLiveThere x n
  edge-live x n u place edge there lt at (edge_out i op operates here out) apart live =
      let from = out-from i edge out in
      let same : i.place ≡ n = omega (arith, from, at) in
      record {
        at_place = λ le. out-live x n u i op edge there operates same out apart live;
        at_catch = λ p less is. absurd (omega (arith, same, here, lt, is));
      }
  edge-live x n u place edge there lt at (edge_catch catch) apart live =
      let from = catch-from place edge catch in
      record {
        at_place = λ le. absurd (omega (arith, le, at, from));
        at_catch = λ p less is. (
            let same : place ≡ p = omega (arith, is, at, from) in
            subst (IsCaughtLive x) same (catch-live x place edge lt catch live)
            );
      }

  live-there : (x n : ℕ) → IsLiveIn uses edges x n → IsLiveThere x n
  live-there x _ (read_here n u there reads) = elim (cases_lt n size) [
    | inl lt ↦
        let node = node-at n u there lt in
        let o = node.reads x reads in
        let are = node.here o.instruction o.op o.operates o.at in
        record {
          at_place = λ le. subst (IsLiveAt w m x) o.at (live_read o.instruction o.op o.operates ((are.reads x).0 reads));
          at_catch = λ p less is. absurd (omega (arith, lt, is));
        }
    | inr le ↦ absurd ((blank-at n u there le x).0 reads)
  ]
  live-there x _ (kept_on n q u there edge apart live) =
      let at = (graph.edges_are (record { «from» = n; to = q })).0 edge in
      edge-live x n u at.0 (record { «from» = n; to = q }) there at.1 refl at.2 apart (live-there x q live)

  -- ---- from the method to the graph

  edge-there : (place : ℕ) (edge : Edge) → place < size → IsEdgeAt w m place edge → Contains edges edge
  edge-there place edge lt is = (graph.edges_are edge).1 (place, lt, is)

  record HasNode (n : ℕ) : Type 0 where
    uses_there : Uses
    is : slice_get uses n ≡ Some uses_there

  node-there : (n : ℕ) → n < suc size + size → HasNode n
  node-there n lt =
      let e = slice_get-some uses n (let long = graph.size in omega (arith, long, lt)) in
      record { uses_there = e.0; is = e.1 }

  to-edge : (i : Placed) (q : ℕ) → IsSuccessor m.code i q → IsOut m i (record { «from» = i.place; to = q })
  to-edge i q x = grind (arith)

  covers-on : (h : Handler) (place : ℕ) → ¬ (IsBound m.rec.handlers (suc place)) → Contains m.rec.handlers h → Covers h (suc place) → Covers h place
  covers-on h place none there covers =
      let from = covers.from in
      let before = covers.before in
      elim (cases_eq h.start (suc place)) [
        | inl same ↦ absurd (none (subst (IsBound m.rec.handlers) same (bound_start h there)))
        | inr apart ↦ record { from = omega (arith, from, apart); before = omega (arith, before) }
      ]

  module _ (decide : (place : ℕ) → IsBound m.rec.handlers place ⊎ (¬ (IsBound m.rec.handlers place))) where
    -- what is live where a handler begins is live at the nodes of the places that it covers
    entered-in : (x place : ℕ) → place < size → (h : Handler) → Contains m.rec.handlers h → Covers h place → IsLiveIn uses edges x h.entry
        → IsBound m.rec.handlers place → IsLiveIn uses edges x (caught_at size place)
    entered-in x place lt h there covers live bound =
        let node = node-there (caught_at size place) (omega (arith, lt)) in
        let blank = blank-at (caught_at size place) node.uses_there node.is (omega arith) in
        kept_on (caught_at size place) h.entry node.uses_there node.is
        (edge-there place (record { «from» = caught_at size place; to = h.entry }) lt
        (edge_catch (catch_entry bound (record { handler = h; listed = there; enters = record { covers = covers; at = refl; to = refl } })))) (blank x).1 live

    caught-in : (x place : ℕ) → place < size → (h : Handler) → Contains m.rec.handlers h → Covers h place → IsLiveIn uses edges x h.entry
        → IsLiveIn uses edges x (caught_at size place)
    caught-in x zero lt h there covers live = entered-in x zero lt h there covers live bound_first
    caught-in x (suc place) lt h there covers live =
        let node = node-there (caught_at size (suc place)) (omega (arith, lt)) in
        let blank = blank-at (caught_at size (suc place)) node.uses_there node.is (omega arith) in
        elim (decide (suc place)) [
          | inl bound ↦ entered-in x (suc place) lt h there covers live bound
          | inr none ↦
              kept_on (caught_at size (suc place)) (caught_at size place) node.uses_there node.is
              (edge-there (suc place) (record { «from» = caught_at size (suc place); to = caught_at size place }) lt
              (edge_catch (catch_before none refl (omega arith)))) (blank x).1
              (caught-in x place (omega (arith, lt)) h there (covers-on h place none there covers) live)
        ]

    live-in : (x n : ℕ) → IsLiveAt w m x n → IsLiveIn uses edges x n
    live-in x _ (live_read i op operates reads) =
        let inside = listed.inside i operates.stands in
        let node = node-there i.place (omega (arith, inside)) in
        let are = (node-at i.place node.uses_there node.is inside).here i op operates refl in
        read_here i.place node.uses_there node.is ((are.reads x).1 reads)
    live-in x _ (live_on i op q operates apart (leads_on on) live) =
        let inside = listed.inside i operates.stands in
        let node = node-there i.place (omega (arith, inside)) in
        let are = (node-at i.place node.uses_there node.is inside).here i op operates refl in
        kept_on i.place q node.uses_there node.is
        (edge-there i.place _ inside (edge_out i op operates refl (to-edge i q on))) (λ h. apart ((are.writes x).0 h)) (live-in x q live)
    live-in x _ (live_on i op _ operates apart (leads_off {h = h} there covers) live) =
        let inside = listed.inside i operates.stands in
        let node = node-there i.place (omega (arith, inside)) in
        let are = (node-at i.place node.uses_there node.is inside).here i op operates refl in
        kept_on i.place (caught_at size i.place) node.uses_there node.is
        (edge-there i.place _ inside (edge_out i op operates refl (out_caught refl refl))) (λ h. apart ((are.writes x).0 h))
        (caught-in x i.place inside h there covers (live-in x h.entry live))

    -- ---- interference

    clash-there : (x y : ℕ) → ClashIn uses edges x y → Clash w m x y
    clash-there x y c =
        let at = (graph.edges_are c.edge).0 c.listed in
        by at.0 at.1 at.2
      where
        by : (place : ℕ) → place < size → IsEdgeAt w m place c.edge → Clash w m x y
        by place lt (edge_out i op operates here out) =
            let from = out-from i c.edge out in
            let inside = listed.inside i operates.stands in
            let are = (node-at c.edge.from c.node c.there (omega (arith, from, inside))).here i op operates (sym from) in
            let writes = (are.writes x).0 c.writes in
            let live = live-there y c.edge.to c.live in
            on i op operates writes out live
          where
            on : (i : Placed) (op : Operation) → Operates w m i op → Writes w op x → IsOut m i c.edge → IsLiveThere y c.edge.to → Clash w m x y
            on i op operates writes (out_fall fall) live = record {
              instruction = i;
              op = op;
              operates = operates;
              writes = writes;
              next = c.edge.to;
              leads = leads_on (fall-follows i c.edge fall);
              live = live.at_place (fall-near i c.edge operates.stands fall);
            }
            on i op operates writes (out_jump jump) live = record {
              instruction = i;
              op = op;
              operates = operates;
              writes = writes;
              next = c.edge.to;
              leads = leads_on (jumped jump.leads);
              live = live.at_place (jump-near i c.edge operates.stands jump);
            }
            on i op operates writes (out_caught _ to) live =
                let caught = live.at_catch i.place (listed.inside i operates.stands) to in
                record {
                  instruction = i;
                  op = op;
                  operates = operates;
                  writes = writes;
                  next = caught.handler.entry;
                  leads = leads_off caught.listed_there caught.covers;
                  live = caught.live;
                }
        by place lt (edge_catch catch) =
            let from = catch-from place c.edge catch in
            absurd ((blank-at c.edge.from c.node c.there (omega (arith, from)) x).1 c.writes)

    clash-in : (x y : ℕ) → Clash w m x y → ClashIn uses edges x y
    clash-in x y c = by c.leads c.live
      where
        inside : c.instruction.place < size
        inside = listed.inside c.instruction c.operates.stands

        node : HasNode c.instruction.place
        node = node-there c.instruction.place (let lt = inside in omega (arith, lt))

        writes : Has node.uses_there.writes x
        writes = (((node-at c.instruction.place node.uses_there node.is inside).here c.instruction c.op c.operates refl).writes x).1 c.writes

        by : {q : ℕ} → MayLeadTo m c.instruction q → IsLiveAt w m y q → ClashIn uses edges x y
        by {q = q} (leads_on on) live = record {
          edge = record { «from» = c.instruction.place; to = q };
          listed = edge-there c.instruction.place _ inside (edge_out c.instruction c.op c.operates refl (to-edge c.instruction q on));
          node = node.uses_there;
          there = node.is;
          writes = writes;
          live = live-in y q live;
        }
        by (leads_off {h = h} there covers) live = record {
          edge = record { «from» = c.instruction.place; to = caught_at size c.instruction.place };
          listed = edge-there c.instruction.place _ inside (edge_out c.instruction c.op c.operates refl (out_caught refl refl));
          node = node.uses_there;
          there = node.is;
          writes = writes;
          live = caught-in y c.instruction.place inside h there covers (live-in y h.entry live);
        }

    first-there : (x : ℕ) → IsLiveIn uses edges x 0 → IsLiveAt w m x 0
    first-there x live = (live-there x 0 live).at_place (omega arith)

    apart-there : (x y : ℕ) → InterfereIn uses edges x y → AreApart w m x y
    apart-there x y x2 = grind (arith, clash-there, first-there)

    apart-in : (x y : ℕ) → AreApart w m x y → InterfereIn uses edges x y
    apart-in x y x2 = grind (arith, clash-in, live-in)

    pub found-apart : (found : Interference) → AreInterfering uses edges found → AreFound w m found
    found-apart found are x y lx ly = (
      λ tells. apart-there x y ((are x y lx ly).0 tells),
      λ apart. (are x y lx ly).1 (apart-in x y apart),
    )
