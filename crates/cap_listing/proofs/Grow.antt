-- The lines of a code to which bytes are added.
use Rattle.std.proofs.Common.{◌≡◌, ◌≢◌, ◌+◌, ℕ, Result, Ok, Err, List, [], ◌∷◌, ◌++◌, length, take}
use Rattle.std.proofs.Common.{drop, map, refl, sym, ap, subst, ◌∙◌, arith, rules, length-append}
use Rattle.std.specs.Prelude.{IsErr}
use Rattle.std.proofs.lemmas.List.{append-nil, take-append-drop, map-append, drop_all}
use Rattle.std.proofs.Math.Seq.{drop-append_seam}
use Rattle.jc_decode.specs.declared.insn.Insn.{Insn}
use Rattle.jc_decode.specs.declared.insn.Placed.{Placed}
use Rattle.jc_decode.specs.declared.insn.CodeEnd.{CodeEnd}
use Rattle.jc_decode.specs.declared.insn.CodeEnd.TheVariants.{Cut}
use Rattle.cap_bytes.specs.Bytes.{AreBytes}
use Rattle.jc_decode.specs.Decoding.{decoded}
use Rattle.jc_decode.specs.Listing.{listing, listing_from, at_most, ListsFound, end_from, listing_end}
use Rattle.jc_decode.proofs.PastTheEnd.{decoded-past}
use Rattle.jc_decode.proofs.Listing.{Lists-listing_from, listing_from-Lists, listing_from-start}
use Rattle.cap_listing.specs.Text.{instruction_words, bytes_words, rest_lines, code_lines}
use Rattle.cap_listing.specs.Reading.{IsOne, block_words}
use Rattle.cap_listing.proofs.Blocks.{alone, longer, cases-longer, shifted, cases-shifted, AreBytes-take}

err : (r : Result Insn CodeEnd) → r ≡ Err Cut → IsErr r
err r e = rw e (search rules)

pub no-ok : (r : Result Insn CodeEnd) (i : Insn) → r ≡ Ok i → IsErr r → ⊥
no-ok r i e h = absurd (search rules)

end-append : (at : ℕ) (ps qs : List Placed) → end_from at (ps ++ qs) ≡ end_from (end_from at ps) qs
end-append at [] qs = refl
end-append at (p ∷ ps) qs = end-append (at + p.insn.len) ps qs

pub lists-all : (code : List ℕ) → ListsFound (decoded code) 0 (listing code)
lists-all code = subst (ListsFound (decoded code) 0) (listing_from-start code) (Lists-listing_from code 0)

listing-is : (code : List ℕ) (ps : List Placed) → ListsFound (decoded code) 0 ps → listing code ≡ ps
listing-is code ps l = sym (listing_from-start code) ∙ sym (listing_from-Lists code 0 ps l)

-- the instructions keep their words
words-longer : (code more : List ℕ) → AreBytes code → (at : ℕ) (ps : List Placed) → ListsFound (decoded code) at ps
    → map (instruction_words (code ++ more)) ps ≡ map (instruction_words code) ps
words-longer code more are at [] l = refl
words-longer code more are at (p ∷ ps) l = grind (arith, cases-longer, words-longer code more are (at + p.insn.len) ps l.2)

-- an instruction after the code
abbrev last : List ℕ → Insn → Placed
last code i = record { place = length code; insn = i }

module _ (code : List ℕ) (are : AreBytes code) (whole : listing_end code ≡ length code) where
  -- a code of instructions alone has no other line
  pub lines-whole : code_lines code ≡ map (instruction_words code) (listing code)
  lines-whole = grind (arith, drop_all, append-nil)

  module _ (bytes : List ℕ) (i : Insn) (one : IsOne bytes i) where
    here : decoded (code ++ bytes) (length code) ≡ Ok i
    here = shifted code bytes i one.are one.decodes

    snoc : (at : ℕ) (ps : List Placed) → ListsFound (decoded code) at ps → end_from at ps ≡ length code
        → ListsFound (decoded (code ++ bytes)) at (ps ++ last code i ∷ [])
    snoc at [] l e = (
      sym e,
      ap (decoded (code ++ bytes)) e ∙ here,
      err (decoded (code ++ bytes) (at + i.len))
          (decoded-past (code ++ bytes) (at + i.len) (omega (arith, e, one.whole, length-append code bytes))),
    )
    snoc at (p ∷ ps) l e = (l.0, longer code at p.insn are l.1 bytes, snoc (at + p.insn.len) ps l.2 e)

    listing-snoc : listing (code ++ bytes) ≡ listing code ++ last code i ∷ []
    listing-snoc = listing-is (code ++ bytes) (listing code ++ last code i ∷ []) (snoc 0 (listing code) (lists-all code) whole)

    pub whole-snoc : listing_end (code ++ bytes) ≡ length (code ++ bytes)
    whole-snoc = grind (arith, listing-snoc, end-append, length-append)

    words-last : instruction_words (code ++ bytes) (last code i) ≡ block_words (length code) bytes i
    words-last = grind (arith, cases-shifted)

  -- bytes that are no instruction
  module _ (bytes : List ℕ) (both : AreBytes (code ++ bytes)) (bare : AreBytes bytes) (none : IsErr (decoded bytes 0)) where
    stuck-here : IsErr (decoded (code ++ bytes) (length code))
    stuck-here = by (decoded (code ++ bytes) (length code)) refl
      where
        by : (r : Result Insn CodeEnd) → decoded (code ++ bytes) (length code) ≡ r → IsErr r
        by (Err e) is = search rules
        by (Ok i) is =
            let own_bytes = alone (code ++ bytes) (length code) i both is in
            let front = ap (λ (xs : List ℕ). decoded (take i.len xs) 0) (sym (drop-append_seam code bytes)) ∙ own_bytes in
            let there = longer (take i.len bytes) 0 i (AreBytes-take i.len bytes bare) front (drop i.len bytes) in
            absurd (no-ok (decoded bytes 0) i (ap (λ (xs : List ℕ). decoded xs 0) (sym (take-append-drop i.len bytes)) ∙ there) none)

    stuck : (at : ℕ) (ps : List Placed) → ListsFound (decoded code) at ps → end_from at ps ≡ length code
        → ListsFound (decoded (code ++ bytes)) at ps
    stuck at [] l e = subst (λ (n : ℕ). IsErr (decoded (code ++ bytes) n)) (sym e) stuck-here
    stuck at (p ∷ ps) l e = (l.0, longer code at p.insn are l.1 bytes, stuck (at + p.insn.len) ps l.2 e)

    listing-stuck : listing (code ++ bytes) ≡ listing code
    listing-stuck = listing-is (code ++ bytes) (listing code) (stuck 0 (listing code) (lists-all code) whole)

    pub lines-stuck : bytes ≢ [] → code_lines (code ++ bytes) ≡ code_lines code ++ bytes_words (length code) bytes ∷ []
    lines-stuck some =
        let end : listing_end (code ++ bytes) ≡ length code = ap (end_from 0) listing-stuck ∙ whole in
        let words = ap (map (instruction_words (code ++ bytes))) listing-stuck ∙ words-longer code bytes are 0 (listing code) (lists-all code) in
        ap (λ (ls : List (List (List ℕ))). ls ++ rest_lines (listing_end (code ++ bytes)) (drop (listing_end (code ++ bytes)) (code ++ bytes))) words
        ∙ ap (λ (n : ℕ). map (instruction_words code) (listing code) ++ rest_lines n (drop n (code ++ bytes))) end
        ∙ ap (λ (bs : List ℕ). map (instruction_words code) (listing code) ++ rest_lines (length code) bs) (drop-append_seam code bytes)
        ∙ ap (λ (ls : List (List (List ℕ))). map (instruction_words code) (listing code) ++ ls) (rest-some (length code) bytes some)
        ∙ ap (λ (ls : List (List (List ℕ))). ls ++ bytes_words (length code) bytes ∷ []) (sym lines-whole)
      where
        rest-some : (n : ℕ) (bs : List ℕ) → bs ≢ [] → rest_lines n bs ≡ bytes_words n bs ∷ []
        rest-some n [] h = absurd (h refl)
        rest-some n (b ∷ bs) h = refl

pub lines-snoc : (code : List ℕ) (are : AreBytes code) (whole : listing_end code ≡ length code) (bytes : List ℕ) (i : Insn) (one : IsOne bytes i)
    → AreBytes (code ++ bytes) → code_lines (code ++ bytes) ≡ code_lines code ++ block_words (length code) bytes i ∷ []
lines-snoc code are whole bytes i one both =
    lines-whole (code ++ bytes) both (whole-snoc code are whole bytes i one)
    ∙ ap (map (instruction_words (code ++ bytes))) (listing-snoc code are whole bytes i one)
    ∙ map-append (instruction_words (code ++ bytes)) (listing code) (last code i ∷ [])
    ∙ ap (λ (ls : List (List (List ℕ))). ls ++ instruction_words (code ++ bytes) (last code i) ∷ [])
    (words-longer code bytes are 0 (listing code) (lists-all code))
    ∙ ap (λ (w : List (List ℕ)). map (instruction_words code) (listing code) ++ w ∷ []) (words-last code are whole bytes i one)
    ∙ ap (λ (ls : List (List (List ℕ))). ls ++ block_words (length code) bytes i ∷ []) (sym (lines-whole code are whole))

pub lines-none : code_lines [] ≡ []
unfolding listing listing_from at_most
lines-none = refl

pub end-none : listing_end [] ≡ 0
unfolding listing listing_from at_most
end-none = refl
