-- The code's table of formats is the definition's, opcode by opcode; and what a test of all rows says of one opcode.
use Rattle.std.proofs.Common.{◌≡◌, ◌∙◌, sym, ℕ, ◌<◌, Bool, true, false, Option, Some, None, List, [], ◌∷◌, ◌==◌, refl, ap, subst}
use Rattle.std.proofs.Common.{arith, get_or}
use Rattle.std.specs.Prelude.{map, find, if◌then◌else◌}
use Rattle.std.specs.Option.{option_map}
use Rattle.std.specs.List.{list_all, range_with_len}
use Rattle.std.proofs.lemmas.Bool.{eqb-true, and_parts}
use Rattle.std.proofs.lemmas.List.FromFn.{get_or-map-range_with_len}
use Rattle.cap_bare.specs.declared.format.TheConstants.{FORMATS}
use Rattle.cap_bare.specs.declared.format.BareFormat.{BareFormat}
use Rattle.cap_bare.specs.Format.{formats, instruction_format}

-- what stands at a place of the table, or nothing after its end
abbrev pub entry_at : ℕ → Option BareFormat
entry_at opcode = get_or FORMATS opcode None

pub entries-are : map entry_at (range_with_len 0 256) ≡ map instruction_format (range_with_len 0 256)
unfolding instruction_format
entries-are = refl

pub entry-is : (opcode : ℕ) → opcode < 256 → entry_at opcode ≡ instruction_format opcode
entry-is opcode h =
    sym (get_or-map-range_with_len entry_at 0 256 opcode opcode None h (omega arith))
    ∙ ap (λ (t : List (Option BareFormat)). get_or t opcode None) entries-are
    ∙ get_or-map-range_with_len instruction_format 0 256 opcode opcode None h (omega arith)

module _ (test : ℕ → BareFormat → Bool) (op : ℕ) (f : BareFormat) where
  abbrev row_of : Option (ℕ × BareFormat) → Option BareFormat
  row_of o = option_map (λ row. row.1) o

  passes-in : (rows : List (ℕ × BareFormat)) → list_all (λ row. test row.0 row.1) rows ≡ true
      → row_of (find (λ row. row.0 == op) rows) ≡ Some f → test op f ≡ true
  passes-in [] all h = absurd (cc)
  passes-in (row ∷ rows) all h =
      let both = and_parts (test row.0 row.1) (list_all (λ row. test row.0 row.1) rows) all in
      by_test (row.0 == op) refl both.0 (passes-in rows both.1) h
    where
      by_test : (b : Bool) → (row.0 == op) ≡ b → test row.0 row.1 ≡ true
          → (row_of (find (λ row. row.0 == op) rows) ≡ Some f → test op f ≡ true)
          → row_of (if b then Some row else find (λ row. row.0 == op) rows) ≡ Some f → test op f ≡ true
      by_test true e here more h =
          let same : row.1 ≡ f = cc in
          subst (λ (n : ℕ). test n f ≡ true) (eqb-true row.0 op e) (subst (λ (g : BareFormat). test row.0 g ≡ true) same here)
      by_test false e here more h = more h

  pub row-passes : list_all (λ row. test row.0 row.1) formats ≡ true → instruction_format op ≡ Some f → test op f ≡ true
  unfolding instruction_format
  row-passes all h = passes-in formats all h
