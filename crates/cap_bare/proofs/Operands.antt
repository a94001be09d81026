-- What the rows of the table of formats have in common: the operands that each reads are those of its opcode, none is a
-- switch, and where an instruction leads is what its opcode says.
use Rattle.std.proofs.Common.{◌≡◌, ◌∙◌, sym, ℕ, ℤ, Bool, true, false, Option, Some, Result, Ok, Err, refl, ap, arith}
use Rattle.std.specs.Prelude.{not, is_some, FitsSigned, ◌&&◌, ◌||◌}
use Rattle.std.specs.Option.{option_map, unwrap_or}
use Rattle.std.specs.Int.{w8}
use Rattle.std.proofs.lemmas.Bool.{and_parts, not-true}
use Rattle.jc_decode.specs.declared.layout.Operand.{Operand}
use Rattle.jc_decode.specs.declared.layout.Operand.TheVariants.{U1, S1, S2}
use Rattle.jc_decode.specs.declared.layout.Layout.{Layout}
use Rattle.jc_decode.specs.declared.insn.CodeEnd.{CodeEnd}
use Rattle.jc_decode.specs.declared.insn.Insn.{Insn}
use Rattle.jc_decode.specs.Layout.{layout_of, opcode}
use Rattle.jc_decode.specs.Cases.{is_switch}
use Rattle.jc_decode.specs.Listing.{is_branch, falls, jumps}
use Rattle.jc_decode.specs.Decoding.{FitsOperand, FitsLayout}
use Rattle.jc_decode.proofs.Passed.{or-rest}
use Rattle.cap_bare.specs.declared.instruction.Instruction.{Instruction}
use Rattle.cap_bare.specs.declared.instruction.Instruction.TheVariants.{Nop, Test, Compare, Goto, Return}
use Rattle.cap_bare.specs.declared.format.BareFormat.{BareFormat}
use Rattle.cap_bare.specs.declared.format.BareFormat.TheVariants.{Implied, Constant, Loads, Stores, Increments}
use Rattle.cap_bare.specs.Format.{instruction_format, is_bare, resolved, instruction_of, FitsFormat}
use Rattle.cap_bare.proofs.Formats.{row-passes}

abbrev is_s1 : Operand → Bool
is_s1 S1 = true
is_s1 _ = false

abbrev is_short : Operand → Bool
is_short S1 = true
is_short S2 = true
is_short _ = false

abbrev is_u1 : Operand → Bool
is_u1 U1 = true
is_u1 _ = false

s1-fits : (o : Operand) (v : ℤ) → is_s1 o ≡ true → FitsOperand o v → FitsSigned w8 v
s1-fits x v e h = grind (arith)

short-fits : (o : Operand) (v : ℤ) → is_short o ≡ true → FitsOperand o v → FitsOperand S2 v
short-fits x v e h = grind (arith)

u1-fits : (o : Operand) (v : ℤ) → is_u1 o ≡ true → FitsOperand o v → FitsOperand U1 v
u1-fits x v e h = grind (arith)

abbrev reads : BareFormat → Layout → Bool
reads (Implied i) l = true
reads Constant l = is_short l.x
reads Loads l = is_u1 l.x
reads Stores l = is_u1 l.x
reads Increments l = is_u1 l.x && is_short l.y

abbrev has : (Layout → Bool) → Result Layout CodeEnd → Bool
has test (Ok l) = test l
has test (Err e) = false

-- whether control may go to an instruction's target, and to the place after it
abbrev pub branches : Instruction → Bool
branches (Test c) = true
branches (Compare c) = true
branches Goto = true
branches _ = false

abbrev pub goes_on : Instruction → Bool
goes_on Goto = false
goes_on Return = false
goes_on _ = true

-- the instruction of a format but for its operands
abbrev shape : BareFormat → Instruction
shape (Implied i) = i
shape _ = Nop

abbrev agrees : ℕ → BareFormat → Bool
agrees op f =
    has (reads f) (layout_of op) && (not (is_switch op) && ((not (is_branch op) || has (λ l. is_s1 l.x) (layout_of op))
    && ((not (branches (shape f)) || jumps op) && (not (goes_on (shape f)) || falls op))))

record Agrees (op : ℕ) (f : BareFormat) : Type 0 where
  pub reads : has (reads f) (layout_of op) ≡ true
  pub single : not (is_switch op) ≡ true
  pub near : (not (is_branch op) || has (λ l. is_s1 l.x) (layout_of op)) ≡ true
  pub branches : (not (branches (shape f)) || jumps op) ≡ true
  pub goes_on : (not (goes_on (shape f)) || falls op) ≡ true

all-agree : (op : ℕ) (f : BareFormat) → instruction_format op ≡ Some f → agrees op f ≡ true
unfolding layout_of opcode
all-agree op f h = row-passes agrees op f refl h

agree-at : (op : ℕ) (f : BareFormat) → instruction_format op ≡ Some f → Agrees op f
agree-at op f h =
    let a = and_parts _ _ (all-agree op f h) in
    let b = and_parts _ _ a.1 in
    let c = and_parts _ _ b.1 in
    let d = and_parts _ _ c.1 in
    record { reads = a.0; single = b.0; near = c.0; branches = d.0; goes_on = d.1 }

reads-fits : (f : BareFormat) (l : Layout) (insn : Insn) → reads f l ≡ true → FitsLayout insn (Ok l) → FitsFormat f insn
reads-fits x l insn e h = grind (arith, short-fits, u1-fits, and_parts)

has-fits : (f : BareFormat) (l : Result Layout CodeEnd) (insn : Insn) → has (reads f) l ≡ true → FitsLayout insn l → FitsFormat f insn
has-fits f x insn e h = grind (arith, reads-fits)

-- what a layout's operands fit, the format of the same opcode reads
pub format-fits : (op : ℕ) (f : BareFormat) (insn : Insn) → instruction_format op ≡ Some f → FitsLayout insn (layout_of op) → FitsFormat f insn
format-fits op f insn e h = has-fits f (layout_of op) insn (agree-at op f e).reads h

-- an opcode of bare methods has a row
bare-row : (o : Option BareFormat) → is_some o ≡ true → (f : BareFormat) × (o ≡ Some f)
bare-row x h = grind (arith)

module _ (i : Insn) (bare : is_bare i.op ≡ true) where
  abbrev row : (f : BareFormat) × (instruction_format i.op ≡ Some f)
  row = bare-row (instruction_format i.op) bare

  pub no-switch : is_switch i.op ≡ false
  no-switch = not-true (is_switch i.op) (agree-at i.op row.0 row.1).single

  x-near : (l : Result Layout CodeEnd) → has (λ l. is_s1 l.x) l ≡ true → FitsLayout i l → FitsSigned w8 i.x
  x-near x e h = grind (arith, s1-fits)

  either : (a b : Bool) → (a || b) ≡ true → b ≡ false → a ≡ true
  either x b h e = grind (arith)

  -- the distance of a target is a signed byte
  pub distance-fits : jumps i.op ≡ true → FitsLayout i (layout_of i.op) → FitsSigned w8 i.x
  distance-fits j fits =
      x-near (layout_of i.op) (or-rest (is_branch i.op) _ (agree-at i.op row.0 row.1).near (either (is_branch i.op) (is_switch i.op) j no-switch)) fits

  shaped : (f : BareFormat) → (branches (resolved f i) ≡ branches (shape f)) × (goes_on (resolved f i) ≡ goes_on (shape f))
  shaped x = grind (arith)

  is-resolved : instruction_of i ≡ resolved row.0 i
  is-resolved = ap (λ (o : Option BareFormat). unwrap_or (option_map (λ f. resolved f i) o) Nop) row.1

  -- where an instruction leads, its opcode says
  pub branches-jumps : branches (instruction_of i) ≡ true → jumps i.op ≡ true
  branches-jumps h =
      or-rest (branches (shape row.0)) (jumps i.op) (agree-at i.op row.0 row.1).branches
      (sym (shaped row.0).0 ∙ ap branches (sym is-resolved) ∙ h)

  pub goes_on-falls : goes_on (instruction_of i) ≡ true → falls i.op ≡ true
  goes_on-falls h =
      or-rest (goes_on (shape row.0)) (falls i.op) (agree-at i.op row.0 row.1).goes_on
      (sym (shaped row.0).1 ∙ ap goes_on (sym is-resolved) ∙ h)
