-- A method that is written has the code that is laid, or the header that it had.
use Rattle.std.proofs.Common.{◌≡◌, ◌≤◌, ◌+◌, ℕ, zero, suc, List, [], ◌∷◌, ◌++◌, length, take, drop, Some, refl, sym, ap, ◌∙◌}
use Rattle.std.proofs.Common.{arith, length-take, length-drop}
use Rattle.std.proofs.lemmas.List.{drop-drop}
use Rattle.std.proofs.Math.Seq.{take-append_seam, drop-append_seam}
use Rattle.cap_bytes.specs.Number.{number_at}
use Rattle.cap_bytes.specs.Spelling.{info_of}
use Rattle.cap_bytes.proofs.Laws.{spelled-read}
use Rattle.cap_method.specs.MethodFormat.{Header, method_header}
use Rattle.cap_method.specs.MethodPart.{HeaderAt}
use Rattle.cap_components.specs.MethodPlaces.{size_by}
use Rattle.cap_package.specs.HeaderChecks.{header_in}
use Rattle.cap_laying.specs.HeaderBytes.{header_bytes, header_size, header_of}
use Rattle.cap_laying.specs.Member.{numbers_of}
use Rattle.cap_laying.specs.WrittenMethods.{FitInBytes, HeadersReadBack}
use Rattle.jc_decode.specs.declared.symbols.Laid.{Laid}
use Rattle.cap_laying.proofs.HeaderLaws.{length_header}
use Rattle.law_package.specs.Written.{lead_bytes}
use Rattle.law_package.proofs.Headers.{header_sized, some_bytes, front_of, first_same, drop_take}

pub take_more : {X : Type 0} (k n : ℕ) (xs : List X) → take k (take (k + n) xs) ≡ take k xs
take_more zero n xs = refl
take_more (suc k) n [] = let e : suc k + n ≡ suc (k + n) = omega arith in rw e refl
take_more (suc k) n (x ∷ xs) = let e : suc k + n ≡ suc (k + n) = omega arith in rw e (ap (λ zs. x ∷ zs) (take_more k n xs))

-- ---- code

pub header_there : (info : List ℕ) (at : ℕ) (h : Header) → HeaderAt info at h → header_in info at ≡ Some h
unfolding header_in
header_there info at h s = rw (spelled-read (info_of 7) method_header info at h s.0 s.1) refl

pub record IsCodeAt (info : List ℕ) (at : ℕ) (laid : Laid) : Type 0 where
  pub header : header_in info at ≡ Some (header_of (numbers_of laid))
  pub size : size_by (number_at 1 at info) ≡ header_size (numbers_of laid)
  pub code : take (length laid.code) (drop (at + size_by (number_at 1 at info)) info) ≡ laid.code

pub code_at : (info : List ℕ) (at : ℕ) (laid : Laid) → HeadersReadBack → FitInBytes (numbers_of laid)
    → take (header_size (numbers_of laid) + length laid.code) (drop at info) ≡ header_bytes (numbers_of laid) ++ laid.code → IsCodeAt info at laid
code_at info at laid back small e =
    let n = numbers_of laid in
    let hs = header_bytes n in
    let long = length_header n in
    let lead : take (header_size n) (drop at info) ≡ hs =
    sym (take_more (header_size n) (length laid.code) (drop at info)) ∙ ap (take (header_size n)) e ∙ ap (λ k. take k (hs ++ laid.code)) (sym long)
    ∙ take-append_seam hs laid.code in
    let header = header_there info at (header_of n) (back n info at small lead) in
    let size : size_by (number_at 1 at info) ≡ header_size n = sym (header_sized info at (header_of n) header) in
    record {
      header = header;
      size = size;
      code = ap (λ k. take (length laid.code) (drop (at + k) info)) size
          ∙ ap (take (length laid.code)) (sym (drop-drop (header_size n) at info))
          ∙ sym (drop_take (header_size n) (length laid.code) (drop at info))
          ∙ ap (drop (header_size n)) e
          ∙ ap (λ k. drop k (hs ++ laid.code)) (sym long)
          ∙ drop-append_seam hs laid.code;
    }

-- ---- a header

pub record IsLeadAt (xs ys lead : List ℕ) (m n : ℕ) : Type 0 where
  pub long : length lead ≡ size_by (number_at 1 m xs)
  pub bytes : lead_bytes ys n ≡ lead_bytes xs m
  pub size : size_by (number_at 1 n ys) ≡ size_by (number_at 1 m xs)

lead_size : (m : ℕ) (xs : List ℕ) → m + size_by (number_at 1 m xs) ≤ length xs → length (lead_bytes xs m) ≡ size_by (number_at 1 m xs)
unfolding lead_bytes
lead_size m xs h =
    let a = length-take (size_by (number_at 1 m xs)) (drop m xs) in
    let b = length-drop m xs in
    omega (arith, a, b)

-- the bytes of a header that are written at another offset are its bytes there
pub lead_at : (m n : ℕ) (xs ys lead : List ℕ) → m + size_by (number_at 1 m xs) ≤ length xs → lead ≡ lead_bytes xs m
    → take (length lead) (drop n ys) ≡ lead → IsLeadAt xs ys lead m n
unfolding lead_bytes
lead_at m n xs ys lead h e t =
    let s = size_by (number_at 1 m xs) in
    let long : length lead ≡ s = ap length e ∙ lead_size m xs h in
    let j = some_bytes (number_at 1 m xs) in
    let whole : take s (drop n ys) ≡ take s (drop m xs) = ap (λ k. take k (drop n ys)) (sym long) ∙ t ∙ e in
    let whole' : take (suc j.0) (drop n ys) ≡ take (suc j.0) (drop m xs) = ap (λ k. take k (drop n ys)) (sym j.1) ∙ whole
    ∙ ap (λ k. take k (drop m xs)) j.1 in
    let one : take 1 (drop n ys) ≡ take 1 (drop m xs) = sym (front_of j.0 (drop n ys)) ∙ ap (take 1) whole' ∙ front_of j.0 (drop m xs) in
    let size : size_by (number_at 1 n ys) ≡ s = ap size_by (first_same m n xs ys one) in
    record { long = long; bytes = ap (λ k. take k (drop n ys)) size ∙ whole; size = size }
