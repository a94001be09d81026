-- The code that is laid for a method may stand in its place.
use Rattle.std.proofs.Common.{◌≡◌, ℕ, ◌+◌, ◌<◌, ◌≤◌, List, [], ◌∷◌, length, map, All}
use Rattle.std.proofs.Common.{Option, refl, ap, ◌∙◌, inl, inr, arith}
use Rattle.std.specs.Prelude.{IfSome}
use Rattle.std.proofs.lemmas.List.{length-map}
use Rattle.std.proofs.lemmas.List.Elements.{All-head, All-tail}
use Rattle.cap_laying.specs.HandlerTable.{AreInside, IsInside}
use Rattle.jc_base.specs.declared.record.Handler.{Handler}
use Rattle.jc_base.specs.declared.ty.Ty.TheVariants.{Top}
use Rattle.jc_base.specs.Cell.{IsDeclared}
use Rattle.jc_base.specs.World.{Linked}
use Rattle.jc_decode.specs.declared.symbols.LaidHandler.{LaidHandler as Laying}
use Rattle.jc_decode.specs.declared.symbols.Laid.{Laid}
use Rattle.jc_decode.specs.declared.symbols.Range.{Range}
use Rattle.jc_decode.specs.declared.symbols.Symbols.{Symbols}
use Rattle.jc_decode.specs.Laws.{InstructionsAreListed}
use Rattle.jc_decode.specs.Standing.{StandsAt}
use Rattle.jc_decode.specs.Symbols.{handler, place_of}
use Rattle.jc_control.specs.Method.{Method, IsMethodOf}
use Rattle.jc_control.specs.WellFormed.{IsBoundary, IsHandlerOf, IsPlace, IsWellFormed}
use Rattle.jc_rules.specs.Demand.{Frame}
use Rattle.jc_rules.specs.Flow.{FlowTyping}
use Rattle.xf_homes.specs.declared.home.Home.{Home}
use Rattle.xf_homes.specs.Order.{register_sum}
use Rattle.xf_emission.specs.Emission.{AreSymbolsOf}
use Rattle.xf_emission.specs.Live.{KeepsLive, none_left, live_kept, dead_left}
use Rattle.xf_emission.specs.Numbers.{HasNumbers}
use Rattle.law_laid.specs.Laid.{HasLaid, catching}
use Rattle.law_laid.specs.Laws.{LaidIsTyped}
use Rattle.law_rewritten_typing.specs.Typed.{HasTypingByHomes}
use Rattle.xf_last.specs.Fits.{FitsMethod}
use Rattle.xf_pack.proofs.Filled.{laid-filled}

-- ---- handlers

few-live : (m : Method) (hs : List Handler) (rs : List Range) → KeepsLive m hs rs → length rs ≤ length hs
few-live m [] [] none_left = omega arith
few-live m [] (r ∷ rs) kept = elim kept [ ]
few-live m (h ∷ hs) (r ∷ rs) (live_kept live pool kept) = let others = few-live m hs rs kept in omega (arith, others)
few-live m (h ∷ hs) rs (dead_left dead kept) = let others = few-live m hs rs kept in omega (arith, others)

module _ (listed : InstructionsAreListed) (code : List ℕ) where
  place-inside : (place : ℕ) → IsPlace code place → place < length code
  place-inside place p = let inside = (listed code).inside p.0 p.1 in let same = p.2 in omega (arith, inside, same)

  boundary-inside : (place : ℕ) → IsBoundary code place → place ≤ length code
  boundary-inside place (inl end) = omega (arith, end)
  boundary-inside place (inr p) = let lt = place-inside place p in omega (arith, lt)

  handler-inside : (hs : List Handler) (h : Laying) → length code ≤ 32767 → IsHandlerOf code (catching hs h) → IsInside (length code) h
  handler-inside hs h short is =
      let end = boundary-inside (h.start + h.length) is.end in
      record { range = end; short = omega (arith, end, short); entry = place-inside h.entry is.entry }

  handlers-inside : (hs : List Handler) (ls : List Laying) → length code ≤ 32767 → All (IsHandlerOf code) (map (catching hs) ls)
      → AreInside (length code) ls
  handlers-inside hs [] short all = tt {0}
  handlers-inside hs (h ∷ ls) short all = (
    handler-inside hs h short (All-head (IsHandlerOf code) (catching hs h) (map (catching hs) ls) all),
    handlers-inside hs ls short (All-tail (IsHandlerOf code) (catching hs h) (map (catching hs) ls) all),
  )

-- ---- a method

-- the method with the laid code in place of its own
abbrev with_laid : Method → Laid → Method
with_laid m laid = record {
  number = m.number;
  rec = record m.rec { nargs = laid.nargs; max_locals = laid.max_locals; max_stack = laid.max_stack; handlers = map (catching m.rec.handlers) laid.handlers };
  code = laid.code;
}

has-laid : (m : Method) (laid : Laid) → HasLaid m.rec laid (with_laid m laid)
has-laid m laid = record { same = refl; code = refl; nargs = refl; max_locals = refl; max_stack = refl; handlers = refl }

pub is-sound : (w : Linked) (m : Method) (frames : ℕ → Option Frame) (homes : List Home) (symbols : Symbols) (laid : Laid) (place : ℕ → ℕ)
    → InstructionsAreListed → LaidIsTyped w → IsMethodOf w m → IfSome m.rec.sig.result (IsDeclared w.classes) → FlowTyping w m Top frames
    → AreSymbolsOf w m frames homes symbols → HasTypingByHomes w m homes symbols
    → KeepsLive m m.rec.handlers symbols.ranges → HasNumbers m.rec homes symbols → register_sum homes ≤ 255 → StandsAt place m.code symbols laid
    → length laid.code ≤ 32767 → FitsMethod m.rec laid
is-sound w m frames homes symbols laid place listed landed mo result typing r types live numbers few stands short =
    let typed = landed m.rec m.code symbols laid place (with_laid m laid) _ types.stacks result stands (has-laid m laid) types.typing in
    let formed : IsWellFormed (with_laid m laid) = typed.typing.formed in
    let many : length laid.handlers ≡ length symbols.ranges = ap length stands.handlers
    ∙ length-map symbols.ranges (handler (λ l. place (place_of l symbols.items))) in
    let kept = few-live m m.rec.handlers symbols.ranges live in
    let all = numbers.registers in
    let nargs = stands.nargs in
    let locals = stands.max_locals in
    record {
      some = laid-filled w m frames homes symbols laid place listed mo typing r stands;
      short = short;
      arguments = stands.nargs ∙ numbers.nargs;
      registers = omega (arith, all, nargs, locals, few);
      inside = handlers-inside listed laid.code m.rec.handlers laid.handlers short formed.handlers;
      few = omega (arith, many, kept);
    }
