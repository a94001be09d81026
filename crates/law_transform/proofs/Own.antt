-- A method of a world that code is laid for: its symbols, and the code with its numbers and handlers, have a card typing there.
use Rattle.std.proofs.Common.{◌≡◌, ℕ, zero, suc, ◌<◌, List, [], ◌∷◌, map, drop, Option, Some, slice_get, refl, arith}
use Rattle.std.proofs.Common.{length-take}
use Rattle.std.specs.Prelude.{is_some}
use Rattle.std.proofs.lemmas.List.{length-drop}
use Rattle.jc_base.specs.declared.record.MethodRec.{MethodRec}
use Rattle.jc_base.specs.Linked.{IsMethod}
use Rattle.jc_base.specs.World.{Linked, IsWorld, code_of}
use Rattle.jc_base.proofs.Lists.{All-slice_get}
use Rattle.jc_decode.specs.declared.symbols.Laid.{Laid}
use Rattle.cap_bytes.specs.Bytes.{AreBytes}
use Rattle.jc_decode.specs.Laws.{InstructionsAreListed}
use Rattle.jc_control.specs.Control.{IsReached}
use Rattle.jc_control.specs.ControlFlow.{Marked, IsControlFlow}
use Rattle.jc_control.specs.Flags.{flag, Marks}
use Rattle.jc_control.specs.Laws.{InstructionsArePlaced}
use Rattle.jc_control.specs.Method.{Method, IsMethodOf, method_with}
use Rattle.jc_rules.specs.Demand.{Frame}
use Rattle.jc_rules.specs.Typing.{state_at}
use Rattle.jc_flow.specs.Infer.{AreReached}
use Rattle.card_typing.specs.Typing.{HasCardTyping}
use Rattle.law_laid.specs.Laid.{HasLaid, IsTypedAsLaid}
use Rattle.law_laid.specs.Laws.{CardTypingsAreKept, LaidIsTyped}
use Rattle.xf_emission.specs.Laws.{LiveAreKept}
use Rattle.xf_emission.specs.Live.{KeepsLive}
use Rattle.law_rewritten_typing.specs.Laws.{RewrittenIsTyped}
use Rattle.law_rewritten_typing.specs.Typed.{HasTypingByHomes, registers_of}
use Rattle.xf_code.proofs.Sources.{live-by, typed-by}
use Rattle.law_transform.specs.Bytes.{CodesAreBytes}
use Rattle.law_transform.specs.Laid.{IsLaidFor}
use Rattle.law_transform.proofs.Flagged.{bare, bare-listing}

-- what is known of a world, and the laws of the code that is laid for its methods
pub record AreLaws (w : Linked) : Type 0 where
  pub links : IsWorld w
  pub bytes : CodesAreBytes w
  pub listed : InstructionsAreListed
  pub placed : InstructionsArePlaced
  pub live : LiveAreKept
  pub rewritten : RewrittenIsTyped w
  pub landed : LaidIsTyped w
  pub kept : CardTypingsAreKept

-- ---- the places that a typing has a frame for

frame-flags : (typing : List (Option Frame)) (p : ℕ) → flag (map is_some typing) p ≡ is_some (state_at typing p)
unfolding state_at
frame-flags [] p = refl
frame-flags (f ∷ fs) zero = refl
frame-flags (f ∷ fs) (suc p) = frame-flags fs p

marks-reached : (m : Method) (typing : List (Option Frame)) → AreReached m typing → Marks (IsReached m) (map is_some typing)
marks-reached m typing reached p = grind (arith, frame-flags)

-- ---- a method of the world with code

module _ (w : Linked) (laws : AreLaws w) (n : ℕ) (r : MethodRec) (here : slice_get w.methods n ≡ Some r) (filled : 0 < r.code_len) where
  abbrev pub own : Method
  own = method_with w n r

  pub method-links : IsMethod w.infos w.pools w.classes r
  method-links = All-slice_get (IsMethod w.infos w.pools w.classes) w.methods n r laws.links.methods here

  pub its-bytes : AreBytes own.code
  its-bytes = All-slice_get (λ s. AreBytes (code_of w.infos s)) w.methods n r laws.bytes here

  pub is-method : IsMethodOf w own
  is-method = grind (arith, length-take, drop, length-drop, method-links)

  module _ (laid : Laid) (is : IsLaidFor w own laid) where
    abbrev pub control : Marked
    control = record { reached = map is_some is.typing; leaders = is.rewritten.leaders; listing = bare own.code }

    pub flow : IsControlFlow own control
    flow = grind (arith, marks-reached own is.typing is.typed.reached, bare-listing own.code)

    pub keeps-live : KeepsLive own r.handlers is.symbols.ranges
    keeps-live =
        live-by w own is.typing control is.homes is.typed flow (laws.placed own is.typed.least.typing.formed) (laws.listed own.code)
        is-method method-links its-bytes is.symbols is.rewritten.are laws.live

    has-types : HasTypingByHomes w own is.homes is.symbols
    has-types =
        typed-by w own is.typing control is.homes is.typed flow (laws.placed own is.typed.least.typing.formed) (laws.listed own.code)
        is-method method-links its-bytes is.symbols is.rewritten.are laws.rewritten is.derived is.are is.few

    -- so has the method that has the code, of this world or of another
    pub laid-typed : (m : Method) → HasLaid r laid m → HasCardTyping w m
    laid-typed m has =
        let regs = registers_of is.homes in
        let as_laid : IsTypedAsLaid w m _ _ regs has-types.stacks =
        laws.landed r own.code is.symbols laid _ m regs has-types.stacks method-links.result is.stands.2 has has-types.typing in
        record { regs = regs; stacks = as_laid.laid_stacks; typing = as_laid.typing }
