-- The bytes of one item are it wherever they stand at a place.
use Rattle.std.proofs.Common.{◌≡◌, ℕ, Bool, true, false, cond, List, [], ◌∷◌, ◌++◌, length, refl, ap, ◌∙◌}
use Rattle.std.proofs.Common.{arith, map}
use Rattle.std.specs.Prelude.{ℤ, pos, ◌+ℤ◌, ◌-ℤ◌}
use Rattle.std.proofs.lemmas.Int.{ints}
use Rattle.std.proofs.lemmas.Bool.{or_parts, or_right}
use Rattle.jc_decode.specs.declared.insn.Insn.{Insn}
use Rattle.jc_decode.specs.declared.insn.Case.{Case}
use Rattle.jc_decode.specs.declared.symbols.Item.TheVariants.{Plain, Branch, Switch}
use Rattle.jc_decode.specs.Cases.{cases, is_switch}
use Rattle.jc_decode.specs.Encoding.{ReadsBack, sized}
use Rattle.jc_decode.specs.Listing.{is_branch, jumps, target, targets}
use Rattle.jc_decode.specs.Forms.{essence, is_load_n, is_store_n}
use Rattle.jc_decode.specs.Symbols.{jump}
use Rattle.xf_layout.specs.Laid.{StandsHere, IsPiece, label_targets, led}
use Rattle.jc_decode.proofs.Tables.{no-cases}

-- what an instruction is does not rest on its length
essence-sized : (bytes : List ℕ) (i : Insn) → essence (sized bytes i) ≡ essence i
essence-sized bytes i = by_kind (jumps i.op) refl (is_load_n i.op) refl (is_store_n i.op) refl
  where
    by_kind : (a : Bool) → jumps i.op ≡ a → (b : Bool) → is_load_n i.op ≡ b → (c : Bool) → is_store_n i.op ≡ c
        → essence (sized bytes i) ≡ essence i
    by_kind true p b q c r = rw p refl
    by_kind false p true q c r = rw (p, q) refl
    by_kind false p false q true r = rw (p, q, r) refl
    by_kind false p false q false r = rw (p, q, r) refl

-- where an instruction leads from a place, whose cases are these
abbrev leads_from : ℕ → Insn → List Case → List ℤ
leads_from here i cs = cond (jumps i.op) (target here i.x ∷ map (λ c. target here c.offset) cs) []

targets-from : (code : List ℕ) (here : ℕ) (i : Insn) (cs : List Case) → cases code here i ≡ cs
    → targets code (record { place = here; insn = i }) ≡ leads_from here i cs
unfolding targets
targets-from code here i cs e = ap (λ (ds : List Case). leads_from here i ds) e

-- bytes that are read back as an instruction are a piece
read-back : (xs : List ℕ) (at : ℕ) (i : Insn) (bytes : List ℕ) → ReadsBack xs at i bytes → (same : Insn) → essence i ≡ essence same
    → (here : ℕ) (before after : List ℕ) → length before ≡ here
    → StandsHere (before ++ (bytes ++ after)) here same (length bytes) (leads_from here i (cases xs at i)) (map (λ c. c.key) (cases xs at i))
read-back xs at i bytes reads same alike here before after start = grind (arith, length, map, essence-sized, targets-from)

-- the same with equal targets and keys
restated : (code : List ℕ) (here : ℕ) (same : Insn) (long : ℕ) (ds es ks ls : List ℤ) → ds ≡ es → ks ≡ ls
    → StandsHere code here same long ds ks → StandsHere code here same long es ls
restated code here same long ds es ks ls d k s = grind (arith)

-- an instruction that names no place
pub plain-piece : (source : List ℕ) (place : ℕ → ℕ) (here : ℕ) (i short : Insn) (xs : List ℕ) (at : ℕ) (bytes : List ℕ)
    → ReadsBack xs at short bytes → essence short ≡ essence i → jumps short.op ≡ false → IsPiece source place here (Plain i) bytes
plain-piece source place here i short xs at bytes reads alike still before after start =
    let none : cases xs at short ≡ [] = no-cases xs at short (or_parts (is_branch short.op) (is_switch short.op) still).1 in
    let stands = read-back xs at short bytes reads i alike here before after start in
    let leads : leads_from here short (cases xs at short) ≡ [] = rw still refl in
    let keys : map (λ c. c.key) (cases xs at short) ≡ [] = ap (map (λ (c : Case). c.key)) none in
    restated (before ++ (bytes ++ after)) here i (length bytes) _ _ _ _ leads keys stands

-- back to where a distance leads
there-and-back : (here to : ℕ) → pos here +ℤ (pos to -ℤ pos here) ≡ pos to
there-and-back here to = omega (arith, ints)

-- a jump
pub jump-piece : (source : List ℕ) (place : ℕ → ℕ) (here op l : ℕ) (j : Insn) (xs : List ℕ) (at : ℕ) (bytes : List ℕ)
    → ReadsBack xs at j bytes → essence j ≡ essence (jump op) → is_branch j.op ≡ true → is_switch j.op ≡ false
    → j.x ≡ pos (place l) -ℤ pos here → IsPiece source place here (Branch op l) bytes
jump-piece source place here op l j xs at bytes reads alike branch only x before after start =
    let none : cases xs at j ≡ [] = no-cases xs at j only in
    let stands = read-back xs at j bytes reads (jump op) alike here before after start in
    let leads : leads_from here j (cases xs at j) ≡ pos (place l) ∷ [] =
    rw (branch, none) (ap (λ (d : ℤ). d ∷ []) (ap (target here) x ∙ there-and-back here (place l))) in
    let keys : map (λ c. c.key) (cases xs at j) ≡ [] = ap (map (λ (c : Case). c.key)) none in
    restated (before ++ (bytes ++ after)) here (jump op) (length bytes) _ _ _ _ leads keys stands

-- cases that lead to labels
leads-led : (place : ℕ → ℕ) (here : ℕ) (ls : List ℕ) (cs : List Case) → length ls ≡ length cs
    → map (λ c. target here c.offset) (led place here ls cs) ≡ label_targets place ls
leads-led place here [] [] h = refl
leads-led place here [] (c ∷ cs) h = absurd (omega (arith, h))
leads-led place here (l ∷ ls) [] h = absurd (omega (arith, h))
leads-led place here (l ∷ ls) (c ∷ cs) h = grind (arith, map, there-and-back, leads-led place here ls cs (omega (arith, h)))

keys-led : (place : ℕ → ℕ) (here : ℕ) (ls : List ℕ) (cs : List Case) → map (λ c. c.key) (led place here ls cs) ≡ map (λ c. c.key) cs
keys-led place here [] cs = refl
keys-led place here (l ∷ ls) [] = refl
keys-led place here (l ∷ ls) (c ∷ cs) = ap (λ (ks : List ℤ). c.key ∷ ks) (keys-led place here ls cs)

-- a switch: its bytes are one of their own, with the default and the cases that lead to its labels
pub switch-piece : (source : List ℕ) (place : ℕ → ℕ) (here : ℕ) (i : Insn) (from l : ℕ) (ls : List ℕ) (s : Insn) (bytes : List ℕ)
    → ReadsBack bytes 0 s bytes → essence s ≡ essence i → is_switch s.op ≡ true
    → s.x ≡ pos (place l) -ℤ pos here → cases bytes 0 s ≡ led place here ls (cases source from i) → length ls ≡ length (cases source from i)
    → IsPiece source place here (Switch i from (l ∷ ls)) bytes
switch-piece source place here i from l ls s bytes reads alike switch x led_so count before after start =
    let stands = read-back bytes 0 s bytes reads i alike here before after start in
    let jumps_so : jumps s.op ≡ true = or_right (is_branch s.op) (is_switch s.op) switch in
    let leads : leads_from here s (cases bytes 0 s) ≡ label_targets place (l ∷ ls) =
    rw (jumps_so, led_so)
    (ap (λ (d : ℤ). d ∷ map (λ c. target here c.offset) (led place here ls (cases source from i))) (ap (target here) x ∙ there-and-back here (place l))
    ∙ ap (λ (ds : List ℤ). pos (place l) ∷ ds) (leads-led place here ls (cases source from i) count)) in
    let keys : map (λ c. c.key) (cases bytes 0 s) ≡ map (λ c. c.key) (cases source from i) = ap (map (λ (c : Case). c.key)) led_so
    ∙ keys-led place here ls (cases source from i) in
    restated (before ++ (bytes ++ after)) here i (length bytes) _ _ _ _ leads keys stands
