-- The edges of the graph of a world's calls (JCVM 2.2, sections 2.2.1, 4.3.7.6 and 6.8.2): which method a call runs is chosen step by
-- step, so that no call has an edge to each method that it may run.
use Rattle.std.specs.Prelude.{◌≡◌, ℕ, ◌+◌, ◌<◌, true, nat_lt, ◌==◌, ◌||◌, Bool, List, length, Option, Some, None, Result, Ok}
use Rattle.std.specs.Prelude.{Contains, slice_get}
use Rattle.std.specs.Prelude.{option_and_then}
use Rattle.jc_base.specs.declared.record.Iface.{Iface}
use Rattle.jc_base.specs.declared.record.MethodRec.{MethodRec}
use Rattle.jc_base.specs.Class.{ClassTable, IsClass, parent_of}
use Rattle.jc_base.specs.Dispatch.{package_of, public_of, entry_at}
use Rattle.jc_base.specs.World.{Linked, code_of}
use Rattle.jc_decode.specs.declared.insn.Placed.{Placed}
use Rattle.jc_decode.specs.Listing.{listing}
use Rattle.jc_ops.specs.declared.fault.RuleFault.{RuleFault}
use Rattle.jc_ops.specs.declared.operation.Choice.{Choice}
use Rattle.jc_ops.specs.declared.operation.Choice.TheVariants as choices
use Rattle.jc_ops.specs.declared.operation.Operation.{Operation}
use Rattle.jc_ops.specs.declared.operation.Operation.TheVariants.{Call}
use Rattle.jc_ops.specs.Resolve.{resolved}
use Rattle.jc_ops.specs.Row.{row_at}
use Rattle.law_chains.specs.Calls.{HasCode}
use Rattle.vm_bound.specs.declared.spread.Block.{Block}
use Rattle.vm_bound.specs.declared.spread.Spread.{Spread}
use Rattle.vm_bound.specs.declared.graph.Meaning.TheVariants.{Described, Entries, Span}
use Rattle.vm_bound.specs.declared.graph.Vertex.{Vertex}
use Rattle.vm_bound.specs.declared.graph.Vertex.TheVariants.{Method, Means}
use Rattle.vm_bound.specs.Blocks.{IsHalf, named, blocks_of}

-- ---- from a method

-- the vertex to which a call of a method leads, by the way in which the machine chooses what runs
abbrev pub target_of : ℕ → Choice → Vertex
target_of method choices.Static = Method method
target_of method choices.Special = Method method
target_of method (choices.Virtual c token) = Means (Entries c token)
target_of method (choices.Interface c token words) = Means (Described method)

abbrev pub target_in : Result Operation RuleFault → Option Vertex
target_in (Ok (Call c)) = Some (target_of c.method c.choice)
target_in r = None

-- that of an instruction of a method's code, where it is a call
abbrev pub target : Linked → MethodRec → Placed → Option Vertex
target w m p = target_in (resolved w m p.place p.insn (row_at p.insn.op))

-- an instruction of the method leads to the vertex, whether control reaches it or not
pub record LeadsFromMethod (w : Linked) (m : ℕ) (v : Vertex) : Type 0 where
  pub rec : MethodRec
  pub method : slice_get w.methods m ≡ Some rec
  pub instruction : Placed
  pub stands : Contains (listing (code_of w.infos rec)) instruction
  pub leads : target w rec instruction ≡ Some v

-- ---- from the entries of a class at a token

-- whether the token of a class means an entry of a subclass's own lists: a public token does, and in one package each does
abbrev pub shares : ClassTable → ℕ → ℕ → ℕ → Bool
shares t c token d = nat_lt token 128 || (package_of t d == package_of t c)

-- the method of a class's own lists at a token, where it has code
pub record Owns (w : Linked) (class token n : ℕ) : Type 0 where
  pub class_is : IsClass w.classes class
  pub entry : entry_at w.classes class token ≡ Some n
  pub code : HasCode w n

-- to the class's own one, and to those of its direct subclasses that share the token
pub data LeadsFromEntries (w : Linked) (c token : ℕ) : Vertex → Type 0 where
  leads_own : {n : ℕ} → Owns w c token n → LeadsFromEntries w c token (Method n)
  leads_below :
      {d : ℕ}
      → parent_of w.classes d ≡ Some c
      → shares w.classes c token d ≡ true
      → LeadsFromEntries w c token (Means (Entries d token))

-- ---- from a method that an interface describes

-- the public token that a class's own entry for an interface tells for a token of the interface
abbrev pub token_told : ClassTable → ℕ → ℕ → ℕ → Option ℕ
token_told t interface token class = option_and_then (λ (e : Iface). slice_get e.tokens token) (named t interface class)

-- to each of these blocks, at the public token that serves it there
pub data LeadsToBlocks (t : ClassTable) (rec : MethodRec) (blocks : List Block) : Vertex → Type 0 where
  leads_block :
      {b : Block} {public : ℕ}
      → Contains blocks b
      → token_told t rec.class rec.token b.by ≡ Some public
      → LeadsToBlocks t rec blocks (Means (Span b.node public))

-- to those of its interface
pub record LeadsFromDescribed (w : Linked) (s : Spread) (d : ℕ) (v : Vertex) : Type 0 where
  pub rec : MethodRec
  pub method : slice_get w.methods d ≡ Some rec
  pub leads : LeadsToBlocks w.classes rec (blocks_of s rec.class) v

-- ---- from the classes under a node at a public token

-- the method of a class's public list at a token, where it has code
pub record Supplies (w : Linked) (class token n : ℕ) : Type 0 where
  pub public : slice_get (public_of w.classes class) token ≡ Some n
  pub code : HasCode w n

-- that of the one class under a node
pub record IsSupplied (w : Linked) (order : List ℕ) (x token n : ℕ) : Type 0 where
  pub position : ℕ
  pub node : x ≡ length order + position
  pub class : ℕ
  pub stands : slice_get order position ≡ Some class
  pub supplies : Supplies w class token n

-- to the two halves of the node, or to the method of its one class
pub data LeadsFromSpan (w : Linked) (order : List ℕ) (x token : ℕ) : Vertex → Type 0 where
  leads_half : {y : ℕ} → 0 < x → x < length order → IsHalf x y → LeadsFromSpan w order x token (Means (Span y token))
  leads_supplied : {n : ℕ} → IsSupplied w order x token n → LeadsFromSpan w order x token (Method n)

-- ---- all edges

abbrev pub Leads : Linked → Spread → Vertex → Vertex → Type 0
Leads w s (Method m) v = LeadsFromMethod w m v
Leads w s (Means (Described d)) v = LeadsFromDescribed w s d v
Leads w s (Means (Entries c token)) v = LeadsFromEntries w c token v
Leads w s (Means (Span x token)) v = LeadsFromSpan w s.order x token v
