-- Moves, as instructions that stand among the steps of a method.
use Rattle.std.proofs.Common.{◌≡◌, ℕ, zero, suc, ◌+◌, Bool, if◌then◌else◌, List, [], ◌∷◌, ◌++◌, arith}
use Rattle.std.proofs.Common.{length, map, flat_map, reverse, refl, ap}
use Rattle.std.specs.Prelude.{Option, Some, None, ⊤}
use Rattle.jc_decode.specs.declared.symbols.Item.{Item}
use Rattle.jc_decode.specs.declared.symbols.Item.TheVariants.{Plain, Branch, Switch, Label}
use Rattle.jc_decode.specs.Symbols.{steps_in}
use Rattle.xf_homes.specs.declared.home.Home.{Home}
use Rattle.xf_homes.specs.Home.{register_count}
use Rattle.xf_homes.specs.Walk.{has}
use Rattle.xf_homes.specs.Source.{Source}
use Rattle.xf_homes.specs.Plan.{needed}
use Rattle.xf_emission.specs.declared.origin.Origin.{Origin}
use Rattle.xf_emission.specs.Move.{copy, loads, spill, store}
use Rattle.xf_emission.specs.Edge.{copies, copies_from, copy_new, homes_held, home_before, local_copies, locals_copies}
use Rattle.xf_emission.specs.Emission.{items}
use Rattle.law_homes.specs.Edges.{insns}
use Rattle.law_homes.specs.Moves.{InstructionsStandFrom as StandAmong}
use Rattle.law_groups.specs.Laid.{count_of, steps_of}
use Rattle.law_groups.specs.Steps.{ItemsStandFrom}
use Rattle.law_groups.proofs.Standing.{stand-last, step-at}

-- ---- items that are moves

-- each is a plain instruction
abbrev pub AreMoves : List Item → Type 0
AreMoves [] = ⊤
AreMoves (Plain i ∷ is) = AreMoves is
AreMoves (Branch op l ∷ is) = ⊥
AreMoves (Switch i at ls ∷ is) = ⊥
AreMoves (Label l ∷ is) = ⊥

pub moves-both : (xs ys : List Item) → AreMoves xs → AreMoves ys → AreMoves (xs ++ ys)
moves-both [] ys a b = b
moves-both (Plain i ∷ xs) ys a b = moves-both xs ys a b
moves-both (Branch op l ∷ xs) ys a b = absurd a
moves-both (Switch i at ls ∷ xs) ys a b = absurd a
moves-both (Label l ∷ xs) ys a b = absurd a

pub moves-if : (b : Bool) (xs ys : List Item) → AreMoves xs → AreMoves ys → AreMoves (if b then xs else ys)
moves-if x xs ys a b = grind (arith)

moves-flat : {X : Type 0} (f : X → List Item) (xs : List X) → ((x : X) → AreMoves (f x)) → AreMoves (flat_map f xs)
moves-flat f [] h = tt
moves-flat f (x ∷ xs) h = moves-both (f x) (flat_map f xs) (h x) (moves-flat f xs h)

pub loads-move : (s : Source) (hs : List Home) → AreMoves (loads s hs)
loads-move s [] = tt
loads-move s (h ∷ hs) = loads-move s hs

stores-move : (s : Source) (hs : List Home) → AreMoves (map (store s) hs)
stores-move s [] = tt
stores-move s (h ∷ hs) = stores-move s hs

pub spill-moves : (s : Source) (hs : List Home) → AreMoves (spill s hs)
unfolding spill
spill-moves s hs = stores-move s (reverse hs)

local-moves : (s : Source) (o : Origin) (q x : ℕ) → AreMoves (local_copies s o q x)
unfolding local_copies
local-moves s o q x = by (home_before s o x)
  where
    by : (from : Option Home) → AreMoves (copies_from s o q x from)
    by None = tt
    by (Some from) =
        moves-flat (copy_new s from (homes_held s o x from)) (needed s q x)
        (λ to. moves-if (has (homes_held s o x from) to) [] (copy s from to) tt tt)

locals-move : (s : Source) (o : Origin) (q x n : ℕ) → AreMoves (locals_copies s o q x n)
locals-move s o q x zero = tt
locals-move s o q x (suc n) = grind (arith, moves-both, suc, local-moves, locals-move s o q (suc x) n)

pub copies-move : (s : Source) (o : Origin) (q : ℕ) → AreMoves (copies s o q)
unfolding copies
copies-move s o q = locals-move s o q 0 (register_count s.method.rec)

-- ---- their steps

pub count-moves : (xs : List Item) → AreMoves xs → count_of xs ≡ length (insns xs)
count-moves [] m = refl
count-moves (Plain i ∷ xs) m = ap suc (count-moves xs m)
count-moves (Branch op l ∷ xs) m = absurd m
count-moves (Switch i at ls ∷ xs) m = absurd m
count-moves (Label l ∷ xs) m = absurd m

pub moves-stand : (s : Source) (n : ℕ) (xs : List Item) → AreMoves xs → ItemsStandFrom s n xs → StandAmong (steps_of s) n (insns xs)
moves-stand s n [] m st = tt
moves-stand s n (Plain i ∷ xs) m st =
    let rest : ItemsStandFrom s (n + 1) xs = stand-last s n (Plain i ∷ []) xs st in (
      step-at s n (Plain i) xs (record { insn = i; targets = []; keys = [] }) (steps_in s.method.code (items s) xs) st refl,
      moves-stand s (n + 1) xs m rest,
    )
moves-stand s n (Branch op l ∷ xs) m st = absurd m
moves-stand s n (Switch i at ls ∷ xs) m st = absurd m
moves-stand s n (Label l ∷ xs) m st = absurd m

stores-count : (s : Source) (hs : List Home) → length (insns (map (store s) hs)) ≡ length hs
stores-count s [] = refl
stores-count s (h ∷ hs) = ap suc (stores-count s hs)

pub spill-count : (s : Source) (hs : List Home) → length (insns (spill s hs)) ≡ length (reverse hs)
unfolding spill
spill-count s hs = stores-count s (reverse hs)
