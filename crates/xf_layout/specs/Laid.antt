-- Items as bytes, one after the other. No public promise rests on it.
use Rattle.std.specs.Prelude.{◌≡◌, ◌≤◌, ◌+◌, ℕ, ℤ, pos, ◌-ℤ◌, true, false, List, [], ◌∷◌, ◌++◌, All}
use Rattle.std.specs.Prelude.{length, map, slice_index, Ok, IsTrue}
use Rattle.jc_decode.specs.declared.insn.Insn.{Insn}
use Rattle.jc_decode.specs.declared.insn.Case.{Case}
use Rattle.jc_decode.specs.declared.symbols.Item.{Item}
use Rattle.jc_decode.specs.declared.symbols.Item.TheVariants.{Plain, Branch, Switch, Label}
use Rattle.jc_decode.specs.declared.symbols.Range.{Range}
use Rattle.jc_decode.specs.Decoding.{decoded}
use Rattle.jc_decode.specs.Cases.{cases, leading}
use Rattle.jc_decode.specs.Listing.{targets}
use Rattle.jc_decode.specs.Forms.{essence, is_near}
use Rattle.jc_decode.specs.Symbols.{jump}
use Rattle.xf_layout.specs.declared.form.Form.{Form}
use Rattle.xf_layout.specs.declared.form.Form.TheVariants.{Fixed, Jump, Mark}
use Rattle.xf_layout.specs.Form.{form_bytes}

-- an instruction stands at a place of the code: this one in one of its forms, so long, with these targets, and of a switch
-- with these keys
pub record StandsHere (code : List ℕ) (at : ℕ) (same : Insn) (long : ℕ) (leads keys : List ℤ) : Type 0 where
  pub insn : Insn
  pub there : decoded code at ≡ Ok insn
  pub alike : essence insn ≡ essence same
  pub sized : insn.len ≡ long
  pub led_to : targets code (record { place = at; insn = insn }) ≡ leads
  pub keyed : map (λ c. c.key) (cases code at insn) ≡ keys

-- the targets of an item, where labels stand at these places
abbrev pub label_targets : (ℕ → ℕ) → List ℕ → List ℤ
label_targets place labels = map (λ l. pos (place l)) labels

-- an item stands at a place of the code; a label takes no byte
abbrev pub ItemStands : List ℕ → (ℕ → ℕ) → List ℕ → ℕ → Item → ℕ → Type 0
ItemStands source place code here (Plain i) long = StandsHere code here i long [] []
ItemStands source place code here (Branch op l) long = StandsHere code here (jump op) long (label_targets place (l ∷ [])) []
ItemStands source place code here (Switch i at labels) long =
    StandsHere code here i long (label_targets place labels) (map (λ c. c.key) (cases source at i))
ItemStands source place code here (Label l) long = long ≡ 0

-- these items stand in the code from a place on, one after the other, to its end
abbrev pub ItemsStand : List ℕ → (ℕ → ℕ) → List ℕ → ℕ → List Item → List Form → Type 0
ItemsStand source place code here [] [] = here ≡ length code
ItemsStand source place code here [] (f ∷ fs) = ⊥
ItemsStand source place code here (item ∷ items) [] = ⊥
ItemsStand source place code here (item ∷ items) (f ∷ fs) =
    ItemStands source place code here item (form_bytes f) × ItemsStand source place code (here + form_bytes f) items fs

-- bytes that are this item wherever they stand at a place
abbrev pub IsPiece : List ℕ → (ℕ → ℕ) → ℕ → Item → List ℕ → Type 0
IsPiece source place here item piece =
    (before after : List ℕ) → length before ≡ here → ItemStands source place (before ++ (piece ++ after)) here item (length piece)

-- the bytes of an item in a form are appended
pub record Adds (source : List ℕ) (place : ℕ → ℕ) (item : Item) (form : Form) (old new : List ℕ) : Type 0 where
  pub piece : List ℕ
  pub appended : new ≡ old ++ piece
  pub long : length piece ≡ form_bytes form
  pub stands : IsPiece source place (length old) item piece

-- the bytes of a switch are appended
pub record AddsSwitch (source : List ℕ) (place : ℕ → ℕ) (insn : Insn) (at : ℕ) (labels old new : List ℕ) : Type 0 where
  pub piece : List ℕ
  pub appended : new ≡ old ++ piece
  pub long : length piece ≡ insn.len
  pub stands : IsPiece source place (length old) (Switch insn at labels) piece

-- cases that lead to labels, seen from a place
abbrev pub led : (ℕ → ℕ) → ℕ → List ℕ → List Case → List Case
led place here [] cs = cs
led place here (l ∷ ls) [] = []
led place here (l ∷ ls) (c ∷ cs) = leading (pos (place l) -ℤ pos here) c ∷ led place here ls cs

-- each label stands at a place that a method's code can have
abbrev pub AreInReach : List ℕ → List ℕ → Type 0
AreInReach places labels = All (λ l. slice_index places l ≤ 32767) labels

-- a short jump in code at a place fits
abbrev pub IsNearFrom : (ℕ → ℕ) → ℕ → Form → Type 0
IsNearFrom place at (Fixed n) = Unit {0}
IsNearFrom place at (Mark l) = Unit {0}
IsNearFrom place at (Jump l true) = Unit {0}
IsNearFrom place at (Jump l false) = IsTrue (is_near (pos (place l) -ℤ pos at))

-- the labels that an item leads to
abbrev pub labels_of : Item → List ℕ
labels_of (Plain i) = []
labels_of (Branch op l) = l ∷ []
labels_of (Switch i at labels) = labels
labels_of (Label l) = []

-- a range's labels stand at places that a method's code can have, and it does not end before it begins
pub record IsPlacedRange (places : List ℕ) (r : Range) : Type 0 where
  pub to : slice_index places r.to ≤ 32767
  pub entry : slice_index places r.entry ≤ 32767
  pub order : slice_index places r.from ≤ slice_index places r.to
