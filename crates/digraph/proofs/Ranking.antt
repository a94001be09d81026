-- Ranks that no edge raises.
use Rattle.std.proofs.Common.{ℕ, ◌<◌, ◌≤◌, List, length, arith}
use Rattle.std.proofs.lemmas.List.{get_or_past}
use Rattle.std.proofs.lemmas.Bool.{cases_lt}
use Rattle.std.proofs.Common.{[]}
use Rattle.digraph.specs.Way.{Leads, by_step, by_more}
use Rattle.digraph.specs.Graph.{Edge}
use Rattle.digraph.specs.Ranks.{AreRanks, AllFall, rank_of}

edge-inside : (g : List (List ℕ)) (v w : ℕ) → Edge g v w → v < length g
edge-inside g v w e = grind (arith, cases_lt, length, get_or_past)

never-more : (g : List (List ℕ)) (ranks : List ℕ) → AreRanks g ranks → (a b : ℕ) → Leads (Edge g) a b → rank_of ranks b ≤ rank_of ranks a
never-more g ranks are a b (by_step e) = grind (arith, edge-inside g a b e)
never-more g ranks are a b (by_more {b = c} e more) = grind (arith, edge-inside g a c e, never-more g ranks are c b more)

pub falls-on-no-cycle : (g : List (List ℕ)) (ranks : List ℕ) (v : ℕ) → AreRanks g ranks → AllFall g ranks v → Leads (Edge g) v v → ⊥
falls-on-no-cycle g ranks v are fall x = grind (arith, never-more)
