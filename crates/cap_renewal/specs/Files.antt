-- The files of components that are written (JCVM 2.2, section 6.1).
use Rattle.std.specs.Prelude.{◌≡◌, ℕ, List, ◌∷◌, ◌++◌, length, Option, Some, None, option_map, Vec}
use Rattle.byteorder.specs.Endian.{big_bytes}
use Rattle.cap_bytes.specs.Grammar.{Grammar}
use Rattle.cap_bytes.specs.Spelling.{Stands}
use Rattle.cap_frame.specs.Frame.{component}
use Rattle.cap_components.specs.Parts.{Lent, held}
use Rattle.cap_components.specs.Saying.{HoldsComponent}
use Rattle.cap_bytes.specs.Edit.{Edit}
use Rattle.cap_bytes.specs.Renewal.{Renews}

-- the tag, how many bytes the info has, and the info
abbrev pub file_bytes : ℕ → List ℕ → List ℕ
file_bytes tag info = tag ∷ (big_bytes 2 (length info) ++ info)

-- the file of a component whose items were renewed: its info stands for the items as they are renewed, and is the old info
-- but for the numbers that these edits write over it
pub record IsRenewed
    {X : Type 0} (old : List Lent) (tag : ℕ) (g : Grammar X) (renew : X → X) (edits : X → List Edit) (items : X) (file : List ℕ)
    : Type 0 where
  pub before : List ℕ
  pub was : HoldsComponent old tag g before items
  pub info : List ℕ
  pub framed : Stands (component tag) file info
  pub said : Stands g info (renew items)
  pub renews : Renews (edits items) before info

-- the same of a component that may be absent
abbrev pub IsRenewedIf : {X : Type 0} → List Lent → ℕ → Grammar X → (X → X) → (X → List Edit) → Option X
    → Option (List ℕ) → Type 0
IsRenewedIf old tag g renew edits None None = held old tag ≡ None
IsRenewedIf old tag g renew edits None (Some file) = ⊥
IsRenewedIf old tag g renew edits (Some items) None = ⊥
IsRenewedIf old tag g renew edits (Some items) (Some file) = IsRenewed old tag g renew edits items file

-- a file that may be absent
abbrev pub file_seen : {A : Type 0} → Option (Vec ℕ A) → Option (List ℕ)
file_seen {A = A} file = option_map (λ (bytes : Vec ℕ A). bytes.items) file
