-- Laid code as a whole.
use Rattle.std.proofs.Common.{◌≡◌, ◌+◌, ◌-◌, ℕ, Result, List, [], ◌++◌, length, take, drop, cond, sym, ap, ◌∙◌, subst, arith}
use Rattle.std.proofs.Common.{map, All}
use Rattle.std.specs.Prelude.{OnOk, is_ok, slice_index}
use Rattle.std.proofs.lemmas.List.{append-nil, take_all, drop_all, length-drop}
use Rattle.jc_decode.specs.declared.insn.Placed.{Placed}
use Rattle.jc_decode.specs.declared.symbols.Item.{Item}
use Rattle.jc_decode.specs.declared.symbols.Symbols.{Symbols}
use Rattle.jc_decode.specs.declared.symbols.Laid.{Laid}
use Rattle.jc_decode.specs.Laws.{ListingIsOne, NothingPastTheEnd}
use Rattle.jc_decode.specs.Symbols.{place_of, steps, handler, IsOnce, IsItem, IsRange}
use Rattle.jc_decode.specs.Standing.{AreSteps, StandsAt}
use Rattle.xf_layout.specs.declared.plan.LayoutPlan.{LayoutPlan}
use Rattle.xf_layout.specs.Form.{instruction_place}
use Rattle.xf_layout.specs.Plan.{IsLayoutPlan}
use Rattle.xf_layout.specs.Laid.{ItemsStand}
use Rattle.xf_layout.proofs.Stood.{IsShifted, instruction-start, label-instruction, steps-stand, end-stands, handlers-agree}

-- what a slice of a list gives back
pub back : (new items : List ℕ) (n : ℕ) → length new ≡ length items → n ≡ length items → take n (new ++ drop (length new) items) ≡ new
back new items n long end = grind (arith, drop, length, drop_all, take, append-nil, take_all)

pub appended-ok : {E P : Type 0} (r : Result Unit E) (new old xs : List ℕ) → new ≡ cond (is_ok r) (old ++ xs) old → (new ≡ old ++ xs → P)
    → OnOk r P
appended-ok x new old xs e f = grind (arith)

-- all but the first
pub rest-is : {A : Type 0} (xs : List A) → take (length xs - 1) (drop 1 xs) ≡ drop 1 xs
rest-is xs = take_all (length xs - 1) (drop 1 xs) (omega (arith, length-drop 1 xs))

-- items of equal lists in an equal code
pub laid-items : (source : List ℕ) (p : LayoutPlan) (xs items : List Item) (bytes code : List ℕ) → xs ≡ items → code ≡ bytes
    → ItemsStand source (slice_index p.places) bytes 0 xs p.forms.items → ItemsStand source (slice_index p.places) code 0 items p.forms.items
laid-items source p xs items bytes code same equal stands = grind (arith)

pub stands-at : (source : List ℕ) (symbols : Symbols) (p : LayoutPlan) (laid : Laid) → IsLayoutPlan symbols.items p → ListingIsOne → NothingPastTheEnd
    → All (IsItem source symbols.items) symbols.items → All (IsRange symbols.items) symbols.ranges
    → ItemsStand source (slice_index p.places) laid.code 0 symbols.items p.forms.items
    → laid.handlers ≡ map (handler (slice_index p.places)) symbols.ranges
    → laid.max_stack ≡ symbols.max_stack → laid.nargs ≡ symbols.nargs → laid.max_locals ≡ symbols.max_locals
    → StandsAt (instruction_place p.forms.items) source symbols laid
stands-at source symbols p laid plan one past items ranges stands handlers max_stack nargs max_locals =
    let to = instruction_place p.forms.items in
    let agree : (l : ℕ) → IsOnce symbols.items l → slice_index p.places l ≡ to (place_of l symbols.items) =
    λ l once. plan.places l once ∙ label-instruction symbols.items p.forms.items plan.forms l in
    let start : IsShifted to 0 0 p.forms.items =
    record { at = λ m. let e : 0 + m ≡ m = omega arith in let f : to m ≡ 0 + to m = omega arith in ap to e ∙ f } in
    let all = steps-stand one past source (slice_index p.places) to symbols.items agree laid.code symbols.items p.forms.items 0 0 items plan.forms start
    stands in
    let end = end-stands source (slice_index p.places) symbols.items laid.code symbols.items p.forms.items 0 plan.forms stands in
    record {
      begins = instruction-start p.forms.items;
      instructions = subst (λ (ps : List Placed). AreSteps laid.code to 0 (steps source symbols.items) ps) (sym (one.start laid.code)) all;
      ends = omega (arith, end);
      handlers = handlers ∙ handlers-agree (slice_index p.places) to symbols.items agree symbols.ranges ranges;
      max_stack = max_stack;
      nargs = nargs;
      max_locals = max_locals;
    }
