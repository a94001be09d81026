-- What the passes over the methods of the last package keep of each.
use Rattle.std.specs.Prelude.{◌≡◌, ◌≤◌, ◌<◌, ℕ, List, Option, Some, None, All, IsSomeAnd, slice_get}
use Rattle.jc_base.specs.declared.record.MethodRec.{MethodRec}
use Rattle.jc_base.specs.World.{Linked}
use Rattle.jc_control.specs.Method.{Method, IsMethodOf, method_with}
use Rattle.jc_decode.specs.declared.symbols.Laid.{Laid}
use Rattle.jc_decode.specs.declared.symbols.Symbols.{Symbols}
use Rattle.jc_decode.specs.Symbols.{IsItem}
use Rattle.jc_flow.specs.Infer.{AreDerived}
use Rattle.jc_rules.specs.Demand.{Frame}
use Rattle.jc_rules.specs.Typing.{state_at}
use Rattle.xf_emission.specs.Emission.{AreSymbolsOf}
use Rattle.xf_emission.specs.Live.{KeepsLive}
use Rattle.xf_emission.specs.Numbers.{HasNumbers}
use Rattle.xf_homes.specs.declared.home.Home.{Home}
use Rattle.xf_homes.specs.Answer.{IsTypingOf}
use Rattle.xf_homes.specs.Order.{AreHomes, register_sum}
use Rattle.law_rewritten_typing.specs.Typed.{HasTypingByHomes}
use Rattle.law_transform.specs.Laid.{IsLaidElement}
use Rattle.xf_last.specs.Fits.{IsFittingAt}

-- ---- typings

-- the typing by which the homes of a method are found
pub record IsTypedBy (w : Linked) (m : Method) (typing : List (Option Frame)) : Type 0 where
  pub typed : IsTypingOf w m typing
  pub derived : AreDerived w m typing

-- the typing that is kept of a method, and None where it has no code
abbrev pub IsKeptTyping : Linked → ℕ → MethodRec → Option (List (Option Frame)) → Type 0
IsKeptTyping w n r None = r.code_len ≡ 0
IsKeptTyping w n r (Some typing) = (0 < r.code_len) × IsTypedBy w (method_with w n r) typing

abbrev pub IsTypingAt : Linked → ℕ → Option (List (Option Frame)) → Type 0
IsTypingAt w n kept = IsSomeAnd (slice_get w.methods n) (λ r. IsKeptTyping w n r kept)

-- ---- code

-- the symbols to which a method with code is rewritten, by a typing and the homes that this gives; no limit is passed so far
pub record IsRewrittenTo (w : Linked) (symbols : Symbols) (m : Method) : Type 0 where
  pub method : IsMethodOf w m
  pub typing : List (Option Frame)
  pub typed : IsTypedBy w m typing
  pub homes : List Home
  pub are : AreHomes w m (state_at typing) homes
  pub few : register_sum homes ≤ 255
  pub room : m.rec.max_stack < 255
  pub rewritten : AreSymbolsOf w m (state_at typing) homes symbols
  pub types : HasTypingByHomes w m homes symbols
  pub live : KeepsLive m m.rec.handlers symbols.ranges
  pub numbers : HasNumbers m.rec homes symbols
  pub items : All (IsItem m.code symbols.items) symbols.items

-- the element of the method of this number
abbrev pub IsLaidAt : Linked → ℕ → Option Laid → Type 0
IsLaidAt w n laid = IsFittingAt (IsLaidElement w) w n laid
