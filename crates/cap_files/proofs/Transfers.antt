-- What is known of a file after each read and write.
use Rattle.std.proofs.Common.{arith}
use Rattle.std.proofs.Common.{◌≡◌, ℕ, List, ◌++◌, length, take, drop, Option, Err, sym, subst, ap, ◌∙◌, append_assoc}
use Rattle.std.proofs.Math.Seq.{take-append_seam}
use Rattle.std.proofs.lemmas.List.{take-append-drop}
use Rattle.std.proofs.KnownBytes.{Appends-trans, Appends-kept}
use Rattle.std.specs.Io.KnownBytes.{Appends, Keeps}
use Rattle.cap_files.specs.declared.folder.LoadEnd.{LoadEnd}
use Rattle.cap_files.specs.Transfer.{TakesMore, TakesAll}

pub written_no_more : (a b c : Option (List ℕ)) (bytes left given : List ℕ) → bytes ≡ given ++ left → Appends a b given → Keeps b c
    → (n : ℕ) × Appends a c (take n bytes)
written_no_more a b c bytes left given whole before now =
    (length given, subst (Appends a c) (sym (ap (take (length given)) whole ∙ take-append_seam given left)) (Appends-kept a b c given before now))

pub written_on : (a b c : Option (List ℕ)) (bytes left given after : List ℕ) (k : ℕ) → bytes ≡ given ++ left → Appends a b given
    → Appends b c (take k left) → after ≡ drop k left
    → (x : List ℕ) × (bytes ≡ x ++ after) × Appends a c x
written_on a b c bytes left given after k whole before now farther = (
  given ++ take k left,
  whole ∙ ap (λ xs. given ++ xs) (sym (take-append-drop k left)) ∙ sym (append_assoc given (take k left) (drop k left))
      ∙ ap (λ xs. (given ++ take k left) ++ xs) (sym farther),
  Appends-trans a b c given (take k left) before now,
)

-- a read that ends with an error
pub taken_ended : (end : LoadEnd) (left rest : Option (List ℕ)) (to after : List ℕ) (all : Option (List ℕ)) → TakesMore left rest to after (Err end)
    → TakesAll all after (Err end)
taken_ended x left rest to after all more = grind (arith)
