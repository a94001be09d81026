-- The fault for which bytes are refused is one.
use Rattle.std.proofs.Common.{◌≡◌, ◌⊎◌, ℕ, List, [], ◌∷◌, ◌++◌, refl, sym, ap, subst, ◌∙◌, arith}
use Rattle.std.proofs.lemmas.List.{same_from_push}
use Rattle.cap_components.specs.Parts.{Lent}
use Rattle.cap_load.specs.declared.fault.StreamFault.{StreamFault}
use Rattle.cap_load.specs.declared.fault.StreamFault.TheVariants.{NoTag, Order, Full, AfterEnd, Unfinished}
use Rattle.cap_load.specs.LoadFile.{files_of}
use Rattle.cap_load.specs.Fault.{number, GoesOn, Begins, Follows, Shows, Faultless, IsFirst, IsRefused}
use Rattle.cap_load.specs.Laws.{OneFault}
use Rattle.cap_load.proofs.Splits.{one_split, one_parse}

-- where a byte stands among those of a list, and another
pub data Places (a b : List ℕ) (x y : ℕ) : Type 0 where
  behind : (m : List ℕ) → b ≡ a ++ x ∷ m → Places a b x y
  before : (m : List ℕ) → a ≡ b ++ y ∷ m → Places a b x y
  same : a ≡ b → x ≡ y → Places a b x y

pub places : (a b : List ℕ) (x y : ℕ) (c d : List ℕ) → a ++ x ∷ c ≡ b ++ y ∷ d → Places a b x y
places [] [] x y c d e = same refl cc
places [] (z ∷ b) x y c d e = behind b (let first : z ≡ x = cc in ap (λ (n : ℕ). n ∷ b) first)
places (z ∷ a) [] x y c d e = before a (let first : z ≡ y = cc in ap (λ (n : ℕ). n ∷ a) first)
places (z ∷ a) (w ∷ b) x y c d e =
    let first : z ≡ w = cc in
    let rest : a ++ x ∷ c ≡ b ++ y ∷ d = cc in
    elim (places a b x y c d rest) [ behind m h ↦ behind m cc | before m h ↦ before m cc | same h k ↦ same (cc) k ]

-- the contents before a byte are one list
pub one_content : (bytes c d : List ℕ) → GoesOn bytes c → GoesOn bytes d → c ≡ d
one_content bytes c d g h =
    let split = one_split g.blocks h.blocks (g.size ∷ g.got) (h.size ∷ h.got) g.each h.each (λ _. g.more) (λ _. h.more) (sym g.whole ∙ h.whole) in
    let blocks : g.blocks ≡ h.blocks = split.0 in
    let rest : (g.size ∷ g.got) ≡ (h.size ∷ h.got) = split.1 in
    let got : g.got ≡ h.got = cc in
    let c_is = g.joined in
    let d_is = h.joined in
    cc

pub one_before : (bytes : List ℕ) (ps qs : List Lent) → Begins bytes ps → Begins bytes qs → ps ≡ qs
one_before bytes ps qs b c = one_parse ps qs b.each c.each (one_content bytes (files_of ps) (files_of qs) b.goes_on c.goes_on)

one_last : (bytes : List ℕ) (first other : ℕ) → Follows bytes first → Follows bytes other → first ≡ other
one_last bytes first other f g =
    let lists = one_before bytes (f.parts ++ f.last ∷ []) (g.parts ++ g.last ∷ []) f.begins g.begins in
    let last : f.last ≡ g.last = (same_from_push f.parts g.parts f.last g.last lists).1 in
    f.is_last ∙ ap (λ (l : Lent). l.part) last ∙ sym g.is_last

-- a byte shows one fault of a number
one_of_number : (room : ℕ) (bytes : List ℕ) (byte : ℕ) (fault other : StreamFault)
    → Shows room bytes byte fault → Shows room bytes byte other → number fault ≡ number other → fault ≡ other
one_of_number room bytes byte (NoTag t) (NoTag u) s r e = ap NoTag (s.0 ∙ sym r.0)
one_of_number room bytes byte (Order a b) (Order c d) s r e = grind (arith, one_last bytes a c s.2 r.2)
one_of_number room bytes byte (Full m) (Full n) s r e = ap Full (s.0 ∙ sym r.0)
one_of_number room bytes byte AfterEnd AfterEnd s r e = refl
one_of_number room bytes byte Unfinished other s r e = absurd s
one_of_number room bytes byte fault Unfinished s r e = absurd r
one_of_number room bytes byte fault other s r e = absurd (omega arith)

pub one_first : (room : ℕ) (bytes : List ℕ) (fault other : StreamFault) → IsFirst room bytes fault → IsFirst room bytes other → fault ≡ other
one_first room bytes fault other f g =
    elim (places f.before g.before f.byte g.byte f.after g.after (sym f.whole ∙ g.whole)) [
      | behind m h ↦ absurd (g.first f.before m f.byte fault h f.shown)
      | before m h ↦ absurd (f.first g.before m g.byte other h g.shown)
      | same h k ↦
          let shown : Shows room f.before f.byte other =
          subst (λ (b : ℕ). Shows room f.before b other) (sym k) (subst (λ (a : List ℕ). Shows room a g.byte other) (sym h) g.shown) in
          let again : Shows room g.before g.byte fault =
          subst (λ (b : ℕ). Shows room g.before b fault) k (subst (λ (a : List ℕ). Shows room a f.byte fault) h f.shown) in
          let low = f.least other shown in
          let high = g.least fault again in
          one_of_number room f.before f.byte fault other f.shown shown (omega arith)
    ]

-- bytes that are refused show a fault, or end too early
refused_by : (room : ℕ) (bytes : List ℕ) (fault : StreamFault) → IsRefused room bytes fault
    → IsFirst room bytes fault ⊎ ((fault ≡ Unfinished) × Faultless room bytes)
refused_by room bytes z r = grind (arith)

pub not_faultless : (room : ℕ) (bytes : List ℕ) (fault : StreamFault) → IsFirst room bytes fault → Faultless room bytes → ⊥
not_faultless room bytes fault f none = none f.before f.after f.byte fault f.whole f.shown

pub one_fault : OneFault
one_fault room bytes fault other a b = grind (arith, refused_by, one_first, not_faultless)
