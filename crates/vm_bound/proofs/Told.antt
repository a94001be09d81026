-- The graph of calls tells which method calls which.
use Rattle.std.proofs.Common.{◌≡◌, ℕ, ◌<◌, ◌≤◌, inl, inr, List, length, refl, sym, ap, ◌∙◌, subst, arith}
use Rattle.std.specs.Prelude.{Option, Some, Result, Ok, Contains, slice_get, false, true, option_and_then}
use Rattle.std.proofs.lemmas.Option.{slice_get_within, same_Some}
use Rattle.jc_base.specs.declared.record.Iface.{Iface}
use Rattle.jc_base.specs.declared.record.MethodRec.{MethodRec}
use Rattle.jc_base.specs.Class.{IsClass, is_interface, parent_of}
use Rattle.jc_base.specs.Dispatch.{public_of}
use Rattle.jc_base.specs.Linked.{IsMethod, lacks_code}
use Rattle.jc_base.specs.Order.{same, joined, subclass, is_on_chain}
use Rattle.jc_base.specs.World.{Linked, IsWorld, code_of}
use Rattle.jc_base.proofs.Climbs.{climb, on_alone, on_next, on_chain-parent}
use Rattle.jc_base.proofs.Dispatches.{on_chain-from_Below, packages-fall}
use Rattle.jc_base.proofs.Lists.{All-slice_get, IsSomeAnd-from}
use Rattle.jc_decode.specs.declared.insn.Placed.{Placed}
use Rattle.jc_decode.specs.Listing.{listing}
use Rattle.jc_ops.specs.declared.fault.RuleFault.{RuleFault}
use Rattle.jc_ops.specs.declared.operation.Want.{Want}
use Rattle.jc_ops.specs.declared.operation.Callee.{Callee}
use Rattle.jc_ops.specs.declared.operation.Choice.{Choice}
use Rattle.jc_ops.specs.declared.operation.Choice.TheVariants as choices
use Rattle.jc_ops.specs.declared.operation.Operation.{Operation}
use Rattle.jc_ops.specs.declared.operation.Operation.TheVariants as ops
use Rattle.jc_ops.specs.Resolve.{Resolves}
use Rattle.jc_ops.specs.Sound.{OperationsAreSound, IsCalleeOf, IsChosen}
use Rattle.law_sound.proofs.Dispatching.{own-dispatched}
use Rattle.vm_step.specs.Calls.{serving, served}
use Rattle.digraph.specs.Graph.{Edge, next}
use Rattle.digraph.specs.Helpers.{Via, via_edge, via_helper, Tells}
use Rattle.law_chains.specs.Calls.{Calls, MayRun, RunsBelow, ServesSome, HasCode}
use Rattle.vm_bound.specs.declared.spread.Block.{Block}
use Rattle.vm_bound.specs.declared.graph.Meaning.{Meaning}
use Rattle.vm_bound.specs.declared.graph.Meaning.TheVariants.{Described, Entries, Span}
use Rattle.vm_bound.specs.declared.graph.Vertex.{Vertex}
use Rattle.vm_bound.specs.declared.graph.Vertex.TheVariants.{Method, Means}
use Rattle.vm_bound.specs.Vertices.{Stands}
use Rattle.vm_bound.specs.Blocks.{IsHalf, Under, under_one, under_half, named, AreBlocks, blocks_of}
use Rattle.vm_bound.specs.Edges.{target_of, target_in, target, shares, token_told, Owns}
use Rattle.vm_bound.specs.Edges.{Supplies, IsSupplied, Leads, LeadsFromMethod, LeadsToBlocks}
use Rattle.vm_bound.specs.Edges.{leads_block, LeadsFromDescribed, LeadsFromEntries, leads_own}
use Rattle.vm_bound.specs.Edges.{leads_below, LeadsFromSpan, leads_half, leads_supplied}
use Rattle.vm_bound.specs.Rows.{HasNumber, IsCallGraph}
use Rattle.vm_bound.proofs.Dispatching.{has-entry, entry-class, shares-between, dispatched-above}
use Rattle.vm_bound.proofs.Graphing.{half-rises, edge-from, rank, rank-rises}

record IsCallTo (r : Result Operation RuleFault) (v : Vertex) : Type 0 where
  callee : Callee
  call : r ≡ Ok (ops.Call callee)
  target_is : target_of callee.method callee.choice ≡ v

-- what has a target is a call
call-to : (r : Result Operation RuleFault) (v : Vertex) → target_in r ≡ Some v → IsCallTo r v
call-to r v e = grind (arith, same_Some)

-- a chain of two answers, each of which is there
record IsChained {A B : Type 0} (f : A → Option B) (o : Option A) (y : B) : Type 0 where
  first : A
  first_is : o ≡ Some first
  then_is : f first ≡ Some y

chained : {A B : Type 0} (f : A → Option B) (o : Option A) (y : B) → option_and_then f o ≡ Some y → IsChained f o y
chained f y y2 e = grind (arith)

record IsServedBy (w : Linked) (interface token class n : ℕ) : Type 0 where
  entry : Iface
  serves : serving w.classes interface class ≡ Some entry
  public : ℕ
  token_is : slice_get entry.tokens token ≡ Some public
  method : slice_get (public_of w.classes class) public ≡ Some n

served-by : (w : Linked) (interface token class n : ℕ) → served w.classes interface token class ≡ Some n → IsServedBy w interface token class n
served-by w interface token class n e = grind (arith, chained)

served-from : (w : Linked) (interface token class n public : ℕ) (entry : Iface) → serving w.classes interface class ≡ Some entry
    → slice_get entry.tokens token ≡ Some public → slice_get (public_of w.classes class) public ≡ Some n
    → served w.classes interface token class ≡ Some n
served-from w interface token class n public entry serves token_is method = rw (serves, token_is) method

module _ (w : Linked) (world : IsWorld w) (sound : OperationsAreSound w) (g : List (List ℕ)) (graph : IsCallGraph w g) where
  abbrev count : ℕ
  count = length w.methods

  abbrev At : Vertex → ℕ → Type 0
  At v u = Stands count graph.meanings v u

  -- from each number of a vertex
  abbrev Ways : Vertex → ℕ → Type 0
  Ways v n = (u : ℕ) → At v u → Via g count u n

  stands-inside : (v : Vertex) (u : ℕ) → At v u → u < length g
  stands-inside x u stands = grind (arith, slice_get_within)

  edge-to : (v to : Vertex) (u : ℕ) → At v u → Leads w graph.spread v to → HasNumber count graph.meanings (next g u) to
  edge-to v to u stands leads = (graph.rows v u (stands-inside v u stands) stands).all to leads

  at-once : (v : Vertex) (n : ℕ) → Leads w graph.spread v (Method n) → Ways v n
  at-once v n leads u stands =
      let has = edge-to v (Method n) u stands leads in
      via_edge (subst (λ (x : ℕ). Contains (next g u) x) has.stands.1 has.there) has.stands.0

  over : (v : Vertex) (m : Meaning) (n : ℕ) → Leads w graph.spread v (Means m) → Ways (Means m) n → Ways v n
  over v m n leads more u stands =
      let has = edge-to v (Means m) u stands leads in
      via_helper has.there has.stands.0 (more has.number has.stands)

  -- ---- each call has a way

  down : (token n k c : ℕ) → is_on_chain w.classes c k ≡ true → shares w.classes c token k ≡ true → Ways (Means (Entries k token)) n
      → Ways (Means (Entries c token)) n
  down token n = climb w.classes world.chains
      (λ k. (c : ℕ) → is_on_chain w.classes c k ≡ true → shares w.classes c token k ≡ true → Ways (Means (Entries k token)) n
      → Ways (Means (Entries c token)) n)
      (λ k top alone c on shared way. subst (λ (x : ℕ). Ways (Means (Entries x token)) n) (on_alone w.classes c k alone on) way)
      (λ k p link next before c on shared way. elim (on_next w.classes c k p next on) [
        | inl here ↦ subst (λ (x : ℕ). Ways (Means (Entries x token)) n) here way
        | inr up ↦
            let low = packages-fall (length w.infos) w.classes w.methods world.chains world.classes p c up in
            let high = packages-fall (length w.infos) w.classes w.methods world.chains world.classes k p
            (on_chain-parent w.classes k p world.chains link) in
            let two = shares-between w.classes world.chains c token k p low high shared in
            before c up two.0 (over (Means (Entries p token)) (Entries k token) n (leads_below link two.1) way)
      ])

  entries-told : (c token n : ℕ) → IsClass w.classes c → RunsBelow w.classes c token n → HasCode w n → Ways (Means (Entries c token)) n
  entries-told c token n class runs code =
      let on = on_chain-from_Below w.classes world.chains runs.receiver c runs.below in
      let h = has-entry w.classes world.chains c token runs.receiver n on runs.runs in
      let lower : IsClass w.classes h.class = entry-class w.classes world.chains c token runs.receiver n class on h in
      down token n h.class c h.above h.shared
      (at-once (Means (Entries h.class token)) n (leads_own (record { class_is = lower; entry = h.entry; code = code })))

  span-told : {x p : ℕ} (c public n : ℕ) → Under (length graph.spread.order) x p → 0 < x → slice_get graph.spread.order p ≡ Some c
      → Supplies w c public n → Ways (Means (Span x public)) n
  span-told {x} {p} c public n (under_one e) pos at supplies =
      at-once (Means (Span x public)) n
      (leads_supplied (record { position = p; node = e; class = c; stands = at; supplies = supplies }))
  span-told {x} {p} c public n (under_half {y = y} inside half more) pos at supplies =
      let rises = half-rises x y pos half in
      over (Means (Span x public)) (Span y public) n (leads_half pos inside half) (span-told c public n more (omega (arith, rises)) at supplies)

  blocks-are : (interface : ℕ) → interface < length w.classes.records → is_interface w.classes interface ≡ true
      → AreBlocks w.classes graph.spread.order interface (blocks_of graph.spread interface)
  blocks-are interface l is = grind (arith)

  described-told : (d n : ℕ) (m : MethodRec) → slice_get w.methods d ≡ Some m → is_interface w.classes m.class ≡ true
      → ServesSome w.classes m.class m.token n → HasCode w n → Ways (Means (Described d)) n
  described-told d n m is interface serves code =
      let by = served-by w m.class m.token serves.receiver n serves.serves in
      let place = graph.spreads.ordered.all serves.receiver serves.class in
      let blocks = blocks-are m.class (All-slice_get (IsMethod w.infos w.pools w.classes) w.methods d m world.methods is).class interface in
      let has = blocks.all place.0 serves.receiver by.entry place.1 by.serves in
      let served = blocks.only has.block has.among in
      let names : named w.classes m.class has.block.by ≡ Some by.entry =
      sym (served.serves place.0 serves.receiver has.under place.1) ∙ by.serves in
      let told : token_told w.classes m.class m.token has.block.by ≡ Some by.public =
      ap (option_and_then (λ (e : Iface). slice_get e.tokens m.token)) names ∙ by.token_is in
      over (Means (Described d)) (Span has.block.node by.public) n
      (record { rec = m; method = is; leads = leads_block has.among told })
      (span-told serves.receiver by.public n has.under served.node place.1 (record { public = by.method; code = code }))

  chosen-told : (m n : ℕ) (rec callee : MethodRec) (p : Placed) (method : ℕ) (receiver : Option Want) (choice : Choice)
      → slice_get w.methods m ≡ Some rec → Contains (listing (code_of w.infos rec)) p
      → target w rec p ≡ Some (target_of method choice)
      → slice_get w.methods method ≡ Some callee → IsChosen w method callee receiver choice
      → MayRun w.classes method choice n → HasCode w n → Ways (Method m) n
  chosen-told m n rec callee p method receiver choices.Static is stands leads method_is chosen may code =
      at-once (Method m) n
      (record { rec = rec; method = is; instruction = p; stands = stands; leads = leads ∙ ap (λ x. Some (Method x)) (sym may) })
  chosen-told m n rec callee p method receiver choices.Special is stands leads method_is chosen may code =
      at-once (Method m) n
      (record { rec = rec; method = is; instruction = p; stands = stands; leads = leads ∙ ap (λ x. Some (Method x)) (sym may) })
  chosen-told m n rec callee p method receiver (choices.Virtual c token) is stands leads method_is chosen may code =
      over (Method m) (Entries c token) n (record { rec = rec; method = is; instruction = p; stands = stands; leads = leads })
      (entries-told c token n chosen.class may code)
  chosen-told m n rec callee p method receiver (choices.Interface i token words) is stands leads method_is chosen may code =
      let serves : ServesSome w.classes callee.class callee.token n =
      subst (λ (x : ℕ). ServesSome w.classes callee.class x n) (sym chosen.token_is)
      (subst (λ (x : ℕ). ServesSome w.classes x token n) (sym chosen.class) may) in
      over (Method m) (Described method) n (record { rec = rec; method = is; instruction = p; stands = stands; leads = leads })
      (described-told method n callee method_is (ap (λ x. is_interface w.classes x) chosen.class ∙ chosen.interface) serves code)

  callee-of : (m : ℕ) (rec : MethodRec) (p : Placed) (c : Callee) → slice_get w.methods m ≡ Some rec
      → Resolves w rec p.place p.insn (Ok (ops.Call c)) → IsCalleeOf w c
  callee-of m rec p c is resolves =
      sound rec p.place p.insn (ops.Call c) (All-slice_get (IsMethod w.infos w.pools w.classes) w.methods m rec world.methods is).result resolves

  calls-told : (m n : ℕ) → m < count → Calls w m n → Ways (Method m) n
  calls-told m n l calls =
      let c = calls.callee in
      let known = callee-of m calls.caller calls.instruction c calls.is_caller calls.resolves in
      chosen-told m n calls.caller known.rec calls.instruction c.method c.receiver c.choice calls.is_caller calls.stands
      (ap target_in (sym calls.resolves)) known.is_method known.chosen calls.may_run calls.code

  -- ---- each way is a call

  -- the end of an edge is a method, or not
  method-there : (v : Vertex) (n : ℕ) → At v n → n < count → v ≡ Method n
  method-there x n stands l = grind (arith)

  meaning-there : (v : Vertex) (u : ℕ) → At v u → count ≤ u → (m : Meaning) × (v ≡ Means m)
  meaning-there x u stands far = grind (arith)

  to-method : (v : Vertex) (k n : ℕ) → At v k → Edge g k n → n < count → Leads w graph.spread v (Method n)
  to-method v k n stands e l = grind (arith, edge-from w world g graph v k n stands e, method-there)

  record LeadsOn (v : Vertex) (u : ℕ) : Type 0 where
    meaning : Meaning
    leads : Leads w graph.spread v (Means meaning)
    stands : At (Means meaning) u

  to-meaning : (v : Vertex) (k u : ℕ) → At v k → Edge g k u → count ≤ u → LeadsOn v u
  to-meaning v k u stands e far = grind (arith, edge-from w world g graph v k u stands e, meaning-there)

  own-only : (c token n : ℕ) → LeadsFromEntries w c token (Method n) → Owns w c token n
  own-only c token n (leads_own owns) = owns

  record IsBelow (c token : ℕ) (m : Meaning) : Type 0 where
    class : ℕ
    link : parent_of w.classes class ≡ Some c
    shared : shares w.classes c token class ≡ true
    is : m ≡ Entries class token

  below-only : (c token : ℕ) (m : Meaning) → LeadsFromEntries w c token (Means m) → IsBelow c token m
  below-only c token m (leads_below {d = d} link shared) = record { class = d; link = link; shared = shared; is = refl }

  entries-only : {v n : ℕ} (c token : ℕ) → At (Means (Entries c token)) v → Via g count v n → RunsBelow w.classes c token n × HasCode w n
  entries-only {v} {n} c token stands (via_edge edge l) =
      let owns = own-only c token n (to-method (Means (Entries c token)) v n stands edge l) in
      (record { receiver = c; below = same; runs = own-dispatched w.classes c token ∙ owns.entry }, owns.code)
  entries-only {v} {n} c token stands (via_helper {h = h} edge l more) =
      let on = to-meaning (Means (Entries c token)) v h stands edge l in
      let below = below-only c token on.meaning on.leads in
      let rest = entries-only below.class token (subst (λ (m : Meaning). At (Means m) h) below.is on.stands) more in
      let runs = rest.0 in (
        record {
          receiver = runs.receiver;
          below = joined runs.below (subclass below.link);
          runs = dispatched-above w.classes world.chains c below.class token runs.receiver n below.shared runs.runs;
        },
        rest.1,
      )

  abbrev order : List ℕ
  order = graph.spread.order

  supplied-only : (x token n : ℕ) → LeadsFromSpan w order x token (Method n) → IsSupplied w order x token n
  supplied-only x token n (leads_supplied supplied) = supplied

  record IsHalfBelow (x token : ℕ) (m : Meaning) : Type 0 where
    node : ℕ
    inside : x < length order
    half : IsHalf x node
    is : m ≡ Span node token

  half-only : (x token : ℕ) (m : Meaning) → LeadsFromSpan w order x token (Means m) → IsHalfBelow x token m
  half-only x token m (leads_half {y = y} pos inside half) = record { node = y; inside = inside; half = half; is = refl }

  -- a class under the node has the method
  record HasMethod (x token n : ℕ) : Type 0 where
    position : ℕ
    under : Under (length order) x position
    class : ℕ
    stands : slice_get order position ≡ Some class
    supplies : Supplies w class token n

  span-only : {v n : ℕ} (x token : ℕ) → At (Means (Span x token)) v → Via g count v n → HasMethod x token n
  span-only {v} {n} x token stands (via_edge edge l) =
      let one = supplied-only x token n (to-method (Means (Span x token)) v n stands edge l) in
      record { position = one.position; under = under_one one.node; class = one.class; stands = one.stands; supplies = one.supplies }
  span-only {v} {n} x token stands (via_helper {h = h} edge l more) =
      let on = to-meaning (Means (Span x token)) v h stands edge l in
      let half = half-only x token on.meaning on.leads in
      let rest = span-only half.node token (subst (λ (m : Meaning). At (Means m) h) half.is on.stands) more in
      record {
        position = rest.position;
        under = under_half half.inside half.half rest.under;
        class = rest.class;
        stands = rest.stands;
        supplies = rest.supplies;
      }

  no-method : (rec : MethodRec) (blocks : List Block) (n : ℕ) → LeadsToBlocks w.classes rec blocks (Method n) → ⊥
  no-method rec blocks n leads = elim leads [ ]

  record IsBlockOf (rec : MethodRec) (blocks : List Block) (m : Meaning) : Type 0 where
    block : Block
    public : ℕ
    among : Contains blocks block
    told : token_told w.classes rec.class rec.token block.by ≡ Some public
    is : m ≡ Span block.node public

  block-only : (rec : MethodRec) (blocks : List Block) (m : Meaning) → LeadsToBlocks w.classes rec blocks (Means m) → IsBlockOf rec blocks m
  block-only rec blocks m (leads_block {b = b} {public = public} among told) = grind (arith)

  described-only : {v n : ℕ} (d : ℕ) (m : MethodRec) → slice_get w.methods d ≡ Some m → is_interface w.classes m.class ≡ true
      → At (Means (Described d)) v → Via g count v n → ServesSome w.classes m.class m.token n × HasCode w n
  described-only {v} {n} d m is interface stands (via_edge edge l) =
      grind (arith, to-method (Means (Described d)) v n stands edge l, no-method)
  described-only {v} {n} d m is interface stands (via_helper {h = h} edge l more) =
      let on = to-meaning (Means (Described d)) v h stands edge l in
      let leads : LeadsFromDescribed w graph.spread d (Means on.meaning) = on.leads in
      let same : leads.rec ≡ m = same_Some leads.rec m (sym leads.method ∙ is) in
      let here : LeadsToBlocks w.classes m (blocks_of graph.spread m.class) (Means on.meaning) =
      subst (λ (r : MethodRec). LeadsToBlocks w.classes r (blocks_of graph.spread r.class) (Means on.meaning)) same leads.leads in
      let b = block-only m (blocks_of graph.spread m.class) on.meaning here in
      let rest = span-only b.block.node b.public (subst (λ (x : Meaning). At (Means x) h) b.is on.stands) more in
      let blocks = blocks-are m.class (All-slice_get (IsMethod w.infos w.pools w.classes) w.methods d m world.methods is).class interface in
      let serves = (blocks.only b.block b.among).serves rest.position rest.class rest.under rest.stands in
      let told = chained (λ (e : Iface). slice_get e.tokens m.token) (named w.classes m.class b.block.by) b.public b.told in (
        record {
          receiver = rest.class;
          class = graph.spreads.ordered.only rest.position rest.class rest.stands;
          serves = served-from w m.class m.token rest.class n b.public told.first (serves ∙ told.first_is) told.then_is rest.supplies.public;
        },
        rest.supplies.code,
      )

  body-code : (n : ℕ) (m : MethodRec) → slice_get w.methods n ≡ Some m → lacks_code w.classes m ≡ false → HasCode w n
  body-code n m is body = IsSomeAnd-from (λ (x : MethodRec). lacks_code w.classes x ≡ false) (slice_get w.methods n) m is body

  method-equal : (m n : ℕ) → Method m ≡ Method n → m ≡ n
  method-equal m n e = cc

  meanings-equal : (m n : Meaning) → Means m ≡ Means n → m ≡ n
  meanings-equal m n e = cc

  -- the way begins with an edge to a method, or to another vertex
  chosen-method : (n method : ℕ) (callee : MethodRec) (receiver : Option Want) (choice : Choice) → slice_get w.methods method ≡ Some callee
      → IsChosen w method callee receiver choice → target_of method choice ≡ Method n → MayRun w.classes method choice n × HasCode w n
  chosen-method n method callee receiver v is chosen e = grind (arith, method-equal, body-code)

  chosen-meaning : (u n method : ℕ) (m : Meaning) (callee : MethodRec) (receiver : Option Want) (choice : Choice)
      → slice_get w.methods method ≡ Some callee → IsChosen w method callee receiver choice → target_of method choice ≡ Means m
      → At (Means m) u → Via g count u n → MayRun w.classes method choice n × HasCode w n
  chosen-meaning u n method m callee receiver choices.Static is chosen e stands more = absurd (cc)
  chosen-meaning u n method m callee receiver choices.Special is chosen e stands more = absurd (cc)
  chosen-meaning u n method m callee receiver (choices.Virtual c token) is chosen e stands more =
      entries-only c token (subst (λ (x : Meaning). At (Means x) u) (sym (meanings-equal (Entries c token) m e)) stands) more
  chosen-meaning u n method m callee receiver (choices.Interface i token words) is chosen e stands more =
      let only = described-only method callee is (ap (λ x. is_interface w.classes x) chosen.class ∙ chosen.interface)
      (subst (λ (x : Meaning). At (Means x) u) (sym (meanings-equal (Described method) m e)) stands) more in (
        subst (λ (x : ℕ). ServesSome w.classes i x n) chosen.token_is
            (subst (λ (x : ℕ). ServesSome w.classes x callee.token n) chosen.class only.0),
        only.1,
      )

  record IsFirstEdge (m : ℕ) (v : Vertex) : Type 0 where
    caller : MethodRec
    is_caller : slice_get w.methods m ≡ Some caller
    instruction : Placed
    stands : Contains (listing (code_of w.infos caller)) instruction
    callee : Callee
    resolves : Resolves w caller instruction.place instruction.insn (Ok (ops.Call callee))
    known : IsCalleeOf w callee
    target_is : target_of callee.method callee.choice ≡ v

  first-edge : (m : ℕ) (v : Vertex) → LeadsFromMethod w m v → IsFirstEdge m v
  first-edge m v leads = grind (arith, call-to, callee-of)

  calls-by : (m n : ℕ) (v : Vertex) (f : IsFirstEdge m v) → MayRun w.classes f.callee.method f.callee.choice n × HasCode w n → Calls w m n
  calls-by m n v f may = grind (arith)

  calls-only : (m n : ℕ) → m < count → Via g count m n → Calls w m n
  calls-only m n l (via_edge edge inside) =
      grind (arith, first-edge m (Method n) (to-method (Method m) m n (l, refl) edge inside), calls-by, chosen-method)
  calls-only m n l (via_helper {h = h} edge past more) =
      let on = to-meaning (Method m) m h (l, refl) edge past in
      let f = first-edge m (Means on.meaning) on.leads in
      calls-by m n (Means on.meaning) f
      (chosen-meaning h n f.callee.method on.meaning f.known.rec f.callee.receiver f.callee.choice f.known.is_method f.known.chosen f.target_is on.stands
      more)

  pub calls-are-told : Tells g count (rank w world g graph) (Calls w)
  calls-are-told = record {
    told = λ m n l calls. calls-told m n l calls m (l, refl);
    only = calls-only;
    up = rank-rises w world g graph;
  }
