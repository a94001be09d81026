-- A grammar has one answer for each list of bytes, and reading is how it is found.
use Rattle.std.specs.Prelude.{◌≡◌, ℕ, ◌↔◌, List, Ok, Err}
use Rattle.cap_bytes.specs.declared.fault.FormFault.{FormFault}
use Rattle.cap_bytes.specs.Grammar.{Grammar}
use Rattle.cap_bytes.specs.Spelling.{Origin, Stands, Breaks}
use Rattle.cap_bytes.specs.Reading.{reading}

pub record IsExact {X : Type 0} (from : Origin) (g : Grammar X) (bytes : List ℕ) : Type 0 where
  -- the bytes stand for at most one value
  pub one_value : (x y : X) → Stands g bytes x → Stands g bytes y → x ≡ y
  -- one fault is the first
  pub one_fault : (a b : FormFault) → Breaks from g bytes 0 a → Breaks from g bytes 0 b → a ≡ b
  -- and where it is, they stand for none
  pub apart : (x : X) (a : FormFault) → Stands g bytes x → Breaks from g bytes 0 a → ⊥
  -- reading them gives the value exactly where they stand for it
  pub value : (x : X) → (reading from g bytes ≡ Ok x) ↔ Stands g bytes x
  -- and the fault exactly where they break so
  pub fault : (a : FormFault) → (reading from g bytes ≡ Err a) ↔ Breaks from g bytes 0 a
