-- The edges of a graph of calls.
use Rattle.std.proofs.Common.{◌≡◌, ℕ, ◌-◌, ◌<◌, ◌≤◌, inl, inr, suc, List, length, sym, ap, subst, arith}
use Rattle.std.specs.Prelude.{Option, Some, None, slice_get}
use Rattle.std.proofs.lemmas.Bool.{cases_lt}
use Rattle.std.proofs.lemmas.Option.{slice_get_within}
use Rattle.std.proofs.lemmas.List.{get_or_past}
use Rattle.jc_base.specs.Class.{chain}
use Rattle.jc_base.specs.World.{Linked, IsWorld}
use Rattle.jc_base.proofs.Chains.{next_on_chain}
use Rattle.jc_base.proofs.Climbs.{parent_of-class}
use Rattle.jc_base.proofs.Lists.{slice_get-some}
use Rattle.digraph.specs.Graph.{Edge}
use Rattle.law_chains.specs.Calls.{HasCode}
use Rattle.jc_decode.proofs.Elements.{nothing-in}
use Rattle.vm_bound.specs.declared.graph.Meaning.{Meaning}
use Rattle.vm_bound.specs.declared.graph.Meaning.TheVariants.{Described, Entries, Span}
use Rattle.vm_bound.specs.declared.graph.Vertex.{Vertex}
use Rattle.vm_bound.specs.declared.graph.Vertex.TheVariants.{Means}
use Rattle.vm_bound.specs.Vertices.{Stands}
use Rattle.vm_bound.specs.Blocks.{IsHalf, blocks_of}
use Rattle.vm_bound.specs.Edges.{Leads, LeadsToBlocks, leads_block, leads_below, leads_half}
use Rattle.vm_bound.specs.Rows.{HasVertex, IsCallGraph}

-- a method with code has a number of the world
pub code-inside : (w : Linked) (n : ℕ) → HasCode w n → n < length w.methods
code-inside w n code = grind (arith, slice_get_within)

-- how far below class object the class of entries is; and how far down a node
pub depth : Linked → Meaning → ℕ
depth w (Described d) = 0
depth w (Entries c token) = length (chain w.classes c)
depth w (Span x token) = suc x

pub depth_in : Linked → Option Meaning → ℕ
depth_in w None = 0
depth_in w (Some m) = depth w m

pub half-rises : (x y : ℕ) → 0 < x → IsHalf x y → x < y
half-rises x y pos half = elim half [ inl e ↦ omega (arith, e, pos) | inr e ↦ omega (arith, e, pos) ]

module _ (w : Linked) (world : IsWorld w) (g : List (List ℕ)) (graph : IsCallGraph w g) where
  abbrev count : ℕ
  count = length w.methods

  pub edge-inside : (v u : ℕ) → Edge g v u → v < length g
  edge-inside v u e = grind (arith, cases_lt, nothing-in, get_or_past)

  -- the vertex at the end of an edge
  pub edge-from : (v : Vertex) (k u : ℕ) → Stands count graph.meanings v k → Edge g k u
      → HasVertex count graph.meanings (Leads w graph.spread v) u
  edge-from v k u stands e = grind (arith, edge-inside k u e)

  pub rank : ℕ → ℕ
  rank u = depth_in w (slice_get graph.meanings (u - count))

  same-rank : (m : Meaning) (k : ℕ) → slice_get graph.meanings (k - count) ≡ Some m → rank k ≡ depth w m
  unfolding rank depth_in
  same-rank m k e = ap (depth_in w) e

  -- between vertices that are no methods edges go deeper
  deeper : (m n : Meaning) → Leads w graph.spread (Means m) (Means n) → depth w m < depth w n
  unfolding depth
  deeper (Described d) n leads = from-blocks n leads.leads
    where
      from-blocks : (n : Meaning) → LeadsToBlocks w.classes leads.rec (blocks_of graph.spread leads.rec.class) (Means n) → 0 < depth w n
      from-blocks n (leads_block {b = b} among told) = omega arith
  deeper (Entries c token) n (leads_below {d = d} link shared) = grind (arith, next_on_chain, parent_of-class)
  deeper (Span x token) n (leads_half {y = y} pos inside half) = let more = half-rises x y pos half in omega (arith, more)

  vertex-meaning : (v : Vertex) (k : ℕ) → Stands count graph.meanings v k → count ≤ k
      → (m : Meaning) × ((v ≡ Means m) × (slice_get graph.meanings (k - count) ≡ Some m))
  vertex-meaning x k stands far = grind (arith)

  pub rank-rises : (h k : ℕ) → count ≤ h → count ≤ k → Edge g h k → rank h < rank k
  rank-rises h k past far e =
      let inside = edge-inside h k e in
      let many = graph.count in
      let low : h - count < length graph.meanings = omega (arith, inside, many, past) in
      let here = slice_get-some graph.meanings (h - count) low in
      let to = edge-from (Means here.0) h k (past, here.1) e in
      let there = vertex-meaning to.vertex k to.stands far in
      let leads : Leads w graph.spread (Means here.0) (Means there.0) =
      subst (λ (v : Vertex). Leads w graph.spread (Means here.0) v) there.1.0 to.is_one in
      subst (λ n. n < rank k) (sym (same-rank here.0 h here.1))
      (subst (λ n. depth w here.0 < n) (sym (same-rank there.0 k there.1.1)) (deeper here.0 there.0 leads))
