-- The bytes of an instruction are that instruction alone, and wherever they stand.
use Rattle.std.proofs.Common.{◌≡◌, ◌+◌, ℕ, Ok, List, [], ◌++◌, length, take, drop}
use Rattle.std.proofs.Common.{sym, ap, subst, ◌∙◌, ⊎_elim, arith, append_assoc}
use Rattle.std.proofs.lemmas.List.{append-nil, take-append-drop, length-take-le, length-take}
use Rattle.std.proofs.lemmas.List.{length-drop, drop-drop, get_or-take, get_or_past}
use Rattle.std.proofs.lemmas.Bool.{cases_lt}
use Rattle.jc_decode.specs.declared.insn.Insn.{Insn}
use Rattle.cap_bytes.specs.Bytes.{AreBytes}
use Rattle.jc_decode.specs.Decoding.{decoded}
use Rattle.jc_decode.specs.Cases.{cases, with_default}
use Rattle.jc_decode.specs.Encoding.{sized, ReadsBack}
use Rattle.jc_decode.proofs.Decoded.{IsWithin-decoded}
use Rattle.jc_decode.proofs.Ranges.{IsAllowed-decoded}
use Rattle.jc_decode.proofs.ReadBack.{ReadsBack-encoding}
use Rattle.jc_decode.proofs.OwnBytes.{encoding-own, AreBytes-drop}
use Rattle.cap_listing.specs.Reading.{IsOne}

-- the bytes of an instruction that is decoded at a place
abbrev pub own : List ℕ → ℕ → Insn → List ℕ
own code at i = take i.len (drop at code)

module _ (code : List ℕ) (at : ℕ) (i : Insn) (are : AreBytes code) (h : decoded code at ≡ Ok i) where
  pub reads-own : ReadsBack code at i (own code at i)
  reads-own =
      subst (ReadsBack code at i) (encoding-own code at i are h)
      (ReadsBack-encoding code at i (IsAllowed-decoded code at i are h) (λ _. ap (with_default i.x) h))

  pub length-own : length (own code at i) ≡ i.len
  length-own =
      let w = IsWithin-decoded code at i h in
      length-take-le i.len (drop at code) (omega (arith, w.reaches, length-drop at code))

  sized-own : sized (own code at i) i ≡ i
  sized-own = ap (λ (n : ℕ). record i { len = n }) length-own

  -- alone
  pub alone : decoded (own code at i) 0 ≡ Ok i
  alone =
      ap (λ (xs : List ℕ). decoded xs 0) (sym (append-nil (own code at i))) ∙ reads-own.insn [] []
      ∙ ap (λ (j : Insn). Ok j) sized-own

  pub cases-alone : cases (own code at i) 0 i ≡ cases code at i
  cases-alone =
      ap (cases (own code at i) 0) (sym sized-own)
      ∙ ap (λ (xs : List ℕ). cases xs 0 (sized (own code at i) i)) (sym (append-nil (own code at i))) ∙ reads-own.cases [] []

  -- with other bytes after the code
  whole : (more : List ℕ) → code ++ more ≡ take at code ++ (own code at i ++ (drop (at + i.len) code ++ more))
  whole more =
      let parts : code ≡ take at code ++ (own code at i ++ drop (at + i.len) code) =
      sym (take-append-drop at code)
      ∙ ap (λ (r : List ℕ). take at code ++ r)
      (sym (take-append-drop i.len (drop at code)) ∙ ap (λ (r : List ℕ). own code at i ++ r) (drop-drop i.len at code)) in
      ap (λ (c : List ℕ). c ++ more) parts
      ∙ append_assoc (take at code) (own code at i ++ drop (at + i.len) code) more
      ∙ ap (λ (r : List ℕ). take at code ++ r) (append_assoc (own code at i) (drop (at + i.len) code) more)

  before : length (take at code) ≡ at
  before = let w = IsWithin-decoded code at i h in length-take-le at code (omega (arith, w.reaches))

  pub longer : (more : List ℕ) → decoded (code ++ more) at ≡ Ok i
  longer more =
      ap (λ (n : ℕ). decoded (code ++ more) n) (sym before)
      ∙ ap (λ (xs : List ℕ). decoded xs (length (take at code))) (whole more)
      ∙ reads-own.insn (take at code) (drop (at + i.len) code ++ more) ∙ ap (λ (j : Insn). Ok j) sized-own

  pub cases-longer : (more : List ℕ) → cases (code ++ more) at i ≡ cases code at i
  cases-longer more =
      ap (λ (n : ℕ). cases (code ++ more) n i) (sym before)
      ∙ ap (λ (xs : List ℕ). cases xs (length (take at code)) i) (whole more)
      ∙ ap (cases (take at code ++ (own code at i ++ (drop (at + i.len) code ++ more))) (length (take at code))) (sym sized-own)
      ∙ reads-own.cases (take at code) (drop (at + i.len) code ++ more)

pub AreBytes-take : (n : ℕ) (xs : List ℕ) → AreBytes xs → AreBytes (take n xs)
AreBytes-take n xs h k = grind (arith, ⊎_elim, get_or-take, get_or_past, length-take, cases_lt)

pub own-one : (code : List ℕ) (at : ℕ) (i : Insn) → AreBytes code → decoded code at ≡ Ok i → IsOne (own code at i) i
own-one code at i are h = record {
  are = AreBytes-take i.len (drop at code) (AreBytes-drop at code are);
  decodes = alone code at i are h;
  whole = sym (length-own code at i are h);
}

-- bytes that are decoded at their first are decoded after others, with their cases
module _ (front bytes : List ℕ) (i : Insn) (are : AreBytes bytes) (h : decoded bytes 0 ≡ Ok i) where
  parts : front ++ bytes ≡ front ++ (own bytes 0 i ++ drop i.len bytes)
  parts = ap (λ (r : List ℕ). front ++ r) (sym (take-append-drop i.len bytes))

  pub shifted : decoded (front ++ bytes) (length front) ≡ Ok i
  shifted =
      ap (λ (xs : List ℕ). decoded xs (length front)) parts ∙ (reads-own bytes 0 i are h).insn front (drop i.len bytes)
      ∙ ap (λ (n : ℕ). Ok (record i { len = n })) (length-own bytes 0 i are h)

  pub cases-shifted : cases (front ++ bytes) (length front) i ≡ cases bytes 0 i
  cases-shifted =
      ap (λ (n : ℕ). cases (front ++ bytes) (length front) (record i { len = n })) (sym (length-own bytes 0 i are h))
      ∙ ap (λ (xs : List ℕ). cases xs (length front) (sized (own bytes 0 i) i)) parts
      ∙ (reads-own bytes 0 i are h).cases front (drop i.len bytes)
