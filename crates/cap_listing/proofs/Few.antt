-- An instruction has no more cases than its code has bytes.
use Rattle.std.proofs.Common.{◌≡◌, ◌≤◌, ◌+◌, ℕ, List, ◌++◌, length, drop, sym}
use Rattle.std.proofs.Common.{ap, ◌∙◌, append_assoc}
use Rattle.std.specs.Prelude.{slice_get, Some, None}
use Rattle.std.proofs.lemmas.List.{drop_all, append-nil}
use Rattle.jc_decode.specs.declared.layout.Cases.{Cases}
use Rattle.jc_decode.specs.declared.insn.Case.{Case}
use Rattle.std.proofs.Common.{arith}
use Rattle.jc_decode.proofs.Elements.{drop-here, drop-past}
use Rattle.cap_listing.specs.Numbers.{shown, shown_case, shown_cases}
use Rattle.cap_listing.proofs.Appending.{shown-append}

-- a case is shown, and then those after it
pub case-shown : (k : Cases) (place : ℕ) (cs : List Case) (n : ℕ) (c : Case) (out : List ℕ) → slice_get cs n ≡ Some c
    → (out ++ shown (shown_case k place c)) ++ shown (shown_cases k place (drop (n + 1) cs)) ≡ out ++ shown (shown_cases k place (drop n cs))
case-shown k place cs n c out there = grind (arith, append_assoc, shown-append, drop-here)

pub none-shown-after : (k : Cases) (place : ℕ) (cs : List Case) (n : ℕ) (out : List ℕ) → slice_get cs n ≡ None
    → out ≡ out ++ shown (shown_cases k place (drop n cs))
none-shown-after k place cs n out none = sym (append-nil out) ∙ ap (λ (ds : List Case). out ++ shown (shown_cases k place ds)) (sym (drop-past cs n none))

pub all-shown : (k : Cases) (place : ℕ) (cs : List Case) (n : ℕ) (out : List ℕ) → length cs ≤ n
    → out ≡ out ++ shown (shown_cases k place (drop n cs))
all-shown k place cs n out past = sym (append-nil out) ∙ ap (λ (ds : List Case). out ++ shown (shown_cases k place ds)) (sym (drop_all n cs past))
