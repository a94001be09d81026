-- The rewritten code of a method, as symbols.
use Rattle.std.specs.Prelude.{◌≡◌, ℕ, suc, ◌+◌, ◌-◌, nat_lt, Bool, if◌then◌else◌, List, [], ◌∷◌, ◌++◌}
use Rattle.std.specs.Prelude.{flat_map, length, Option, Some, None, Result, Ok, Err}
use Rattle.jc_base.specs.declared.record.Handler.{Handler}
use Rattle.jc_base.specs.World.{Linked}
use Rattle.jc_decode.specs.declared.insn.Placed.{Placed}
use Rattle.jc_decode.specs.declared.symbols.Item.{Item}
use Rattle.jc_decode.specs.declared.symbols.Item.TheVariants.{Label}
use Rattle.jc_decode.specs.declared.symbols.Range.{Range}
use Rattle.jc_decode.specs.declared.symbols.Symbols.{Symbols}
use Rattle.jc_decode.specs.Listing.{listing, targets}
use Rattle.jc_decode.specs.Symbols.{plain_size}
use Rattle.jc_ops.specs.declared.fault.RuleFault.{RuleFault}
use Rattle.jc_ops.specs.declared.operation.Operation.{Operation}
use Rattle.jc_control.specs.Control.{IsLeader}
use Rattle.jc_control.specs.Flags.{Marks}
use Rattle.jc_control.specs.Method.{Method}
use Rattle.jc_rules.specs.Demand.{Frame}
use Rattle.xf_homes.specs.declared.home.Home.{Home}
use Rattle.xf_homes.specs.Order.{register_sum}
use Rattle.xf_homes.specs.Walk.{operands_of}
use Rattle.xf_homes.specs.Source.{Source}
use Rattle.xf_homes.specs.Plan.{stack_homes, first_reached, operation}
use Rattle.xf_emission.specs.declared.origin.Origin.TheVariants.{Start, Entry}
use Rattle.xf_emission.specs.Move.{spill}
use Rattle.xf_emission.specs.Edge.{copies}
use Rattle.xf_emission.specs.Jump.{each_once, goto, handler_label, stubs_of}
use Rattle.xf_emission.specs.Group.{group}

-- ---- stubs

abbrev pub stubs_by : Source → Placed → Operation → Option ℕ → List Item
stubs_by s i op None = []
stubs_by s i op (Some n) = stubs_of s i.place op n 0 (each_once (targets s.method.code i))

abbrev pub stubs_done : Source → Placed → Result Operation RuleFault → List Item
stubs_done s i (Err fault) = []
stubs_done s i (Ok op) = stubs_by s i op (operands_of s.world (Ok op))

abbrev pub stubs_at : Source → Placed → Option Frame → List Item
stubs_at s i None = []
stubs_at s i (Some f) = stubs_done s i (operation s i)

-- the stubs of a conditional branch or switch that control reaches
unfoldable pub stubs : Source → Placed → List Item
stubs s i = stubs_at s i (s.frames i.place)

-- ---- handlers

-- the handler covers a reached place
abbrev pub is_live : Source → Handler → Bool
is_live s h = nat_lt (first_reached s h.start) h.end

-- where it takes over: the caught object goes into the home of the entry's only cell
abbrev pub catching_stub : Source → ℕ → Handler → List Item
catching_stub s n h =
    Label (handler_label n) ∷ spill s (stack_homes s h.entry) ++ (copies s (Entry h.entry) h.entry ++ goto h.entry ∷ [])

-- the stubs of live handlers, from the n-th on
abbrev pub catching_stubs : Source → ℕ → List Handler → List Item
catching_stubs s n [] = []
catching_stubs s n (h ∷ hs) = (if is_live s h then catching_stub s n h else []) ++ catching_stubs s (suc n) hs

-- what a live handler covers: from the group of the first reached place in its range to that of the first reached place after it, or to the
-- end of all groups
abbrev pub range : Source → ℕ → Handler → Range
range s n h = record {
  «from» = first_reached s h.start;
  to = first_reached s h.end;
  entry = handler_label n;
  pool = h.index;
}

abbrev pub ranges_from : Source → ℕ → List Handler → List Range
ranges_from s n [] = []
ranges_from s n (h ∷ hs) = (if is_live s h then range s n h ∷ [] else []) ++ ranges_from s (suc n) hs

-- ---- the whole

-- the copies of arguments, the groups in ascending places, the label of the end, the stubs of branches, and those of handlers
unfoldable pub items : Source → List Item
items s =
    copies s Start 0
    ++ (flat_map (group s) (listing s.method.code)
    ++ (Label (length s.method.code)
    ∷ flat_map (stubs s) (listing s.method.code)
    ++ catching_stubs s 0 s.method.rec.handlers))

unfoldable pub ranges : Source → List Range
ranges s = ranges_from s 0 s.method.rec.handlers

-- the method's code with homes in place of its locals; it has room for one cell more on its stack, and its homes are its registers
unfoldable pub rewritten : Source → Symbols
rewritten s = record {
  items = items s;
  ranges = ranges s;
  max_stack = s.method.rec.max_stack + 1;
  nargs = s.method.rec.nargs;
  max_locals = register_sum s.homes - s.method.rec.nargs;
}

-- the symbols are those of the method, whose leaders are what control comes together at
pub record AreSymbolsOf (w : Linked) (m : Method) (frames : ℕ → Option Frame) (homes : List Home) (symbols : Symbols) : Type 0 where
  pub leaders : List Bool
  pub marked : Marks (IsLeader m) leaders
  pub are :
      symbols ≡ rewritten (record { world = w; method = m; frames = frames; leaders = leaders; homes = homes })

-- the plain size of a method, whatever its rewriting answers
pub record IsPlainSize (w : Linked) (m : Method) (frames : ℕ → Option Frame) (homes : List Home) (n : ℕ) : Type 0 where
  pub leaders : List Bool
  pub marked : Marks (IsLeader m) leaders
  pub sum : n ≡ plain_size (items (record { world = w; method = m; frames = frames; leaders = leaders; homes = homes }))
