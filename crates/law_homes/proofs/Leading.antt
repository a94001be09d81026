-- A leader's loads put its stack back.
use Rattle.std.proofs.Common.{◌≡◌, ℕ, ◌+◌, ◌≤◌, List, [], ◌∷◌, length, map, refl, sym, ap, ◌∙◌, subst}
use Rattle.std.proofs.Common.{arith}
use Rattle.jc_base.specs.Each.{Each}
use Rattle.jc_base.specs.World.{Linked}
use Rattle.jc_decode.specs.declared.insn.Insn.{Insn}
use Rattle.vm_store.specs.declared.cell.Cell.{Cell}
use Rattle.vm_store.specs.Cells.{tagged}
use Rattle.vm_store.specs.State.{top}
use Rattle.vm_step.specs.Methods.{max_stack_of}
use Rattle.vm_step.specs.Raising.{running}
use Rattle.vm_step.specs.Run.{Runs}
use Rattle.xf_homes.specs.declared.home.Home.{Home}
use Rattle.xf_homes.specs.Order.{SlotsFollow as Follow, register_sum}
use Rattle.xf_homes.specs.Source.{Source}
use Rattle.xf_homes.specs.Plan.{stack_homes}
use Rattle.xf_emission.specs.Move.{loads}
use Rattle.law_rewritten_typing.specs.Edges.{CellsFillStack, FillStack}
use Rattle.law_homes.specs.Edges.{insns, top_at, LeadersLoad}
use Rattle.law_homes.specs.Held.{HoldsValue, slots}
use Rattle.law_homes.specs.Moves.{InstructionsStandFrom, load_of, loaded_stack, CanLoad}
use Rattle.law_homes.proofs.Loading.{loads-run}
use Rattle.law_homes.proofs.Stacked.{loaded-is-stack}
use Rattle.law_homes.proofs.Beside.{each-among, among-each, typed, count-registers, count-stack, stack-fits, cells-valued, register-small}
use Rattle.law_homes.specs.Premises.{AreMoveLaws}
use Rattle.law_homes.proofs.Beside.{held-can-load}

pub insns-loads : (s : Source) (hs : List Home) → insns (loads s hs) ≡ map (load_of s) hs
insns-loads s [] = refl
insns-loads s (h ∷ hs) = ap (λ (is : List Insn). load_of s h ∷ is) (insns-loads s hs)

pub leaders-load : (v w : Linked) → AreMoveLaws v w → LeadersLoad v w
leaders-load v w l place steps t n s q f is plan beside keeps at stand waits =
    let filled : FillStack s q (typed v w l s is plan q f t beside).frame =
    (subst CellsFillStack (sym is) l.fill) s refl plan q (typed v w l s is plan q f t beside).frame (typed v w l s is plan q f t beside).at keeps in
    let hs : List Home = stack_homes s q in
    let follow : Follow (length f.registers) hs =
    subst (λ (k : ℕ). Follow k hs) (sym (count-registers v w l s is plan q f t beside)) filled.follow in
    let sum : register_sum hs ≡ length f.stack = filled.fill ∙ sym (count-stack v w l s is plan q f t beside) in
    let back : loaded_stack s (top t).registers hs (top t).stack ≡ f.stack =
    ap (loaded_stack s (top t).registers hs) waits.stack ∙ loaded-is-stack s f (top t) hs follow sum waits.cells in
    let fits : length (loaded_stack s (top t).registers hs (top t).stack) ≤ max_stack_of w (top t).method =
    omega (arith, ap length back, stack-fits v w l s is plan q f t beside, beside.room) in
    let can : Each (CanLoad w s t) hs =
    each-among (CanLoad w s t) hs
    (λ h a.
    let k = cells-valued v w l s is plan q f t beside keeps h a in
    held-can-load w s (slots f) t h (register-small v w l s is plan h k.0.has) (among-each (HoldsValue s (slots f) (top t)) hs h waits.cells a) k.1) in
    let ran = loads-run w l.world place steps t n s hs at (subst (InstructionsStandFrom steps n) (insns-loads s hs) stand) can fits in
    subst (λ (stack : List Cell). Runs tagged w (length hs) t (running (top_at t (place (n + length hs)) (top t).registers stack))) back ran
