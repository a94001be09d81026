-- Rewritten code has an instruction, and so has what is laid for it.
use Rattle.std.proofs.Common.{◌≡◌, ℕ, ◌<◌, ◌≤◌, List, [], ◌∷◌, ◌++◌, length, flat_map, Option, Some, Ok}
use Rattle.std.proofs.Common.{refl, sym, ap, subst, arith}
use Rattle.std.specs.Prelude.{slice_get}
use Rattle.jc_base.specs.declared.ty.Ty.TheVariants.{Top}
use Rattle.jc_base.specs.World.{Linked}
use Rattle.jc_base.proofs.Lists.{IsSomeAnd-some}
use Rattle.jc_decode.specs.declared.insn.Placed.{Placed}
use Rattle.jc_decode.specs.declared.symbols.Item.{Item}
use Rattle.jc_decode.specs.declared.symbols.Laid.{Laid}
use Rattle.jc_decode.specs.declared.symbols.Symbols.{Symbols}
use Rattle.jc_decode.specs.Laws.{InstructionsAreListed}
use Rattle.jc_decode.specs.Listing.{listing, end_from, Lists}
use Rattle.jc_decode.specs.Standing.{AreSteps, StandsAt}
use Rattle.jc_decode.specs.Symbols.{Step, steps}
use Rattle.jc_decode.proofs.Elements.{Contains-slice_get}
use Rattle.jc_control.specs.Control.{IsReached, begins}
use Rattle.jc_control.specs.Method.{Method, IsMethodOf}
use Rattle.jc_control.specs.WellFormed.{HasInstruction}
use Rattle.jc_ops.specs.declared.operation.Operation.{Operation}
use Rattle.jc_rules.specs.Demand.{Frame}
use Rattle.jc_rules.specs.Flow.{FlowTyping, IsFollowed}
use Rattle.xf_homes.specs.declared.home.Home.{Home}
use Rattle.xf_homes.specs.Source.{Source}
use Rattle.xf_homes.specs.Plan.{operation}
use Rattle.xf_emission.specs.declared.origin.Origin.TheVariants.{Start}
use Rattle.xf_emission.specs.Edge.{copies}
use Rattle.xf_emission.specs.Group.{group}
use Rattle.xf_emission.specs.Emission.{AreSymbolsOf, items, rewritten}
use Rattle.law_rewritten_typing.proofs.Typings.{count-steps}
use Rattle.law_rewritten_typing.proofs.Walks.{count, count-append}
use Rattle.law_rewritten_typing.proofs.Numbers.{right-some, body-some}

-- of two lists one after the other
first-counts : (xs ys : List Item) → 0 < count xs → 0 < count (xs ++ ys)
first-counts xs ys h = let sum = count-append xs ys in omega (arith, h, sum)

-- ---- an instruction

module _ (s : Source) (i : Placed) where
  group-counts : (f : Frame) (op : Operation) → s.frames i.place ≡ Some f → operation s i ≡ Ok op → 0 < count (group s i)
  unfolding group
  group-counts f op at is = grind (arith, right-some, first-counts, body-some)

-- ---- a method

-- code that is listed to its end begins with an instruction
first-listed : (code : List ℕ) (ps : List Placed) → Lists code 0 ps → end_from 0 ps ≡ length code → 0 < length code → (i : Placed)
    × (rest : List Placed) × (ps ≡ i ∷ rest) × (i.place ≡ 0)
first-listed code [] lists ends filled = absurd (omega (arith, ends, filled))
first-listed code (i ∷ rest) lists ends filled = (i, rest, refl, lists.0)

module _ (s : Source) (listed : InstructionsAreListed) (mo : IsMethodOf s.world s.method) (typing : FlowTyping s.world s.method Top s.frames) where
  items-count : 0 < count (items s)
  unfolding items
  items-count =
      let first = first-listed s.method.code (listing s.method.code) (listed s.method.code).lists typing.formed.ends mo.filled in
      let i = first.0 in
      let stands : HasInstruction s.method.code i = Contains-slice_get (listing s.method.code) 0 i (ap (λ (ps : List Placed). slice_get ps 0) first.2) in
      let reached : IsReached s.method i.place = subst (IsReached s.method) (sym first.3) begins in
      let at = IsSomeAnd-some (IsFollowed s.world s.method s.frames i) (s.frames i.place) (typing.rules i stands reached) in
      let followed = at.2 in
      let own : 0 < count (group s i) = group-counts s i at.0 followed.steps.1.operation at.1 (sym followed.steps.1.resolves) in
      right-some (copies s Start 0) _
      (first-counts (flat_map (group s) (listing s.method.code)) _
      (subst (λ (ps : List Placed). 0 < count (flat_map (group s) ps)) (sym first.2) (first-counts (group s i) (flat_map (group s) first.1) own)))

-- ---- laid code

laid-by : (code : List ℕ) (place : ℕ → ℕ) (ss : List Step) (ps : List Placed) → AreSteps code place 0 ss ps → 0 < length ss → (i : Placed)
    × (slice_get ps 0 ≡ Some i)
laid-by code place [] ps are some = absurd (omega (arith, some))
laid-by code place (s ∷ ss) [] are some = absurd are
laid-by code place (s ∷ ss) (i ∷ ps) are some = (i, refl)

pub laid-filled : (w : Linked) (m : Method) (frames : ℕ → Option Frame) (homes : List Home) (symbols : Symbols) (laid : Laid) (place : ℕ → ℕ)
    → InstructionsAreListed → IsMethodOf w m → FlowTyping w m Top frames
    → AreSymbolsOf w m frames homes symbols → StandsAt place m.code symbols laid → 1 ≤ length laid.code
unfolding rewritten
laid-filled w m frames homes symbols laid place listed mo typing r stands =
    let s : Source = record { world = w; method = m; frames = frames; leaders = r.leaders; homes = homes } in
    let own : 0 < count symbols.items = subst (λ (y : Symbols). 0 < count y.items) (sym r.are) (items-count s listed mo typing) in
    let some : 0 < length (steps m.code symbols.items) = subst (λ n. 0 < n) (sym (count-steps m.code symbols.items symbols.items)) own in
    let first = laid-by laid.code place (steps m.code symbols.items) (listing laid.code) stands.instructions some in
    let inside = (listed laid.code).inside first.0 (Contains-slice_get (listing laid.code) 0 first.0 first.1) in
    omega (arith, inside)
