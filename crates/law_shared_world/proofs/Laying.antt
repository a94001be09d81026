-- What is laid for a method: its handlers have pool numbers of the method's, and its code is not empty.
use Rattle.std.proofs.Common.{◌≡◌, ℕ, suc, ◌<◌, Bool, true, false, List, [], ◌∷◌, length, map, All, refl, sym, subst, arith}
use Rattle.std.specs.Prelude.{if◌then◌else◌, Contains, slice_index_or}
use Rattle.std.proofs.lemmas.Bool.{false≢true}
use Rattle.std.proofs.lemmas.List.Elements.{All-nil, All-cons, All-weaker}
use Rattle.jc_base.specs.declared.record.Handler.{Handler}
use Rattle.jc_decode.specs.declared.insn.Placed.{Placed}
use Rattle.jc_decode.specs.declared.symbols.Item.{Item}
use Rattle.jc_decode.specs.declared.symbols.Item.TheVariants.{Plain, Branch, Switch}
use Rattle.jc_decode.specs.declared.symbols.LaidHandler.{LaidHandler as Laying}
use Rattle.jc_decode.specs.declared.symbols.Laid.{Laid}
use Rattle.jc_decode.specs.Cases.{is_switch}
use Rattle.jc_decode.specs.Forms.{wide}
use Rattle.jc_decode.specs.Listing.{is_branch, listing}
use Rattle.jc_decode.specs.Standing.{StandsAt}
use Rattle.jc_decode.specs.Symbols.{handler, is_instruction, steps, steps_in}
use Rattle.jc_decode.proofs.Elements.{nothing-in}
use Rattle.jc_decode.proofs.InstructionLists.{all-are-listed}
use Rattle.jc_control.specs.Method.{Method}
use Rattle.jc_control.specs.WellFormed.{IsWellFormed}
use Rattle.jc_control.proofs.Closing.{instructions-are-placed}
use Rattle.law_relink.specs.Replaced.{HasPoolOf}
use Rattle.law_renumbered.specs.Instruction.{renumbered_instruction}
use Rattle.law_renumbered.specs.Symbols.{item_of, items_from, labels_of, range_of, renumbered_method}
use Rattle.xf_layout.proofs.Stood.{first-listed}

-- ---- pool numbers

pool-later : (h : Handler) (hs : List Handler) (l : Laying) → HasPoolOf hs l → HasPoolOf (h ∷ hs) l
pool-later h hs l (k, c, lt, at, e) = (suc k, c, omega (arith, lt), at, e)

pools-of : (place : ℕ → ℕ) (hs : List Handler) → All (HasPoolOf hs) (map (handler place) (map range_of hs))
pools-of place [] = All-nil (HasPoolOf [])
pools-of place (h ∷ hs) =
    All-cons (HasPoolOf (h ∷ hs)) (handler place (range_of h)) (map (handler place) (map range_of hs)) (0, h, omega arith, refl, refl)
    (All-weaker (HasPoolOf hs) (HasPoolOf (h ∷ hs)) (pool-later h hs) (map (handler place) (map range_of hs)) (pools-of place hs))

-- the handlers of laid code have pool numbers of the method's
pub pools-laid :
    (place : ℕ → ℕ) (m : Method) (reg : ℕ → ℕ) (locals : ℕ) (laid : Laid)
    → StandsAt place m.code (renumbered_method m reg locals) laid
    → All (HasPoolOf m.rec.handlers) laid.handlers
pools-laid place m reg locals laid stands = subst (All (HasPoolOf m.rec.handlers)) (sym stands.handlers) (pools-of _ m.rec.handlers)

-- ---- code

item-steps : (code : List ℕ) (reg : ℕ → ℕ) (i : Placed) → is_instruction (item_of code reg i) ≡ true
item-steps code reg i = by (is_switch i.insn.op) (is_branch i.insn.op)
  where
    by :
        (a b : Bool)
        → is_instruction (if a then Switch i.insn i.place (labels_of code i)
        else if b then Branch (wide i.insn.op) (slice_index_or (labels_of code i) 0 0)
        else Plain (renumbered_instruction reg i.insn)) ≡ true
    by true b = refl
    by false true = refl
    by false false = refl

-- an instruction is a step, so symbols with one have a step
some-step : (code : List ℕ) (reg : ℕ → ℕ) (all : List Item) (is : List Placed) (i : Placed) → Contains is i
    → 0 < length (steps_in code all (items_from code reg is))
some-step code reg all [] i c = absurd (nothing-in i c)
some-step code reg all (j ∷ js) i c = grind (arith, item-steps, false≢true)

pub laid-filled :
    (place : ℕ → ℕ) (m : Method) (reg : ℕ → ℕ) (locals : ℕ) (laid : Laid)
    → IsWellFormed m
    → 0 < length m.code
    → StandsAt place m.code (renumbered_method m reg locals) laid
    → 0 < length laid.code
laid-filled place m reg locals laid formed filled stands =
    let first = (instructions-are-placed all-are-listed m formed).first filled in
    let all = items_from m.code reg (listing m.code) in
    first-listed laid.code place (steps m.code all) (listing laid.code) stands.instructions
    (some-step m.code reg all (listing m.code) first.0 first.1) (all-are-listed laid.code).inside
