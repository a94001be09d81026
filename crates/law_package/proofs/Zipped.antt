-- The changes of methods, one for each method of a class before and after.
use Rattle.std.proofs.Common.{◌≡◌, ◌≤◌, ◌+◌, ℕ, List, [], ◌∷◌, ◌++◌, length, take, drop, map, Bool, true, false, Option, refl, ap}
use Rattle.std.proofs.Common.{arith, length-append, length-drop, length-take}
use Rattle.std.specs.Prelude.{if◌then◌else◌}
use Rattle.cap_desc.specs.DescriptorFormat.{MethodDescriptor, ClassDescriptor}
use Rattle.cap_desc.specs.Members.{methods_of, methods_but}
use Rattle.jc_decode.specs.declared.symbols.Laid.{Laid}
use Rattle.law_package.specs.Changes.{FormerMethod, Change, laid_but, sources_from, changes_of}
use Rattle.law_package.proofs.Lists.{Each}

abbrev pub now_of : Change → MethodDescriptor
now_of c = c.now

abbrev pub source_of : Change → FormerMethod
source_of c = c.source

abbrev pub method_of : FormerMethod → MethodDescriptor
method_of s = s.method

abbrev pub old_of : Change → MethodDescriptor
old_of c = c.source.method

pub changes_now : (ss : List FormerMethod) (ms : List MethodDescriptor) → length ss ≡ length ms → map now_of (changes_of ss ms) ≡ ms
changes_now [] [] e = refl
changes_now [] (m ∷ ms) e = absurd (omega arith)
changes_now (s ∷ ss) [] e = absurd (omega arith)
changes_now (s ∷ ss) (m ∷ ms) e = ap (λ ns. m ∷ ns) (changes_now ss ms (omega arith))

pub changes_source : (ss : List FormerMethod) (ms : List MethodDescriptor) → length ss ≡ length ms → map source_of (changes_of ss ms) ≡ ss
changes_source [] [] e = refl
changes_source [] (m ∷ ms) e = absurd (omega arith)
changes_source (s ∷ ss) [] e = absurd (omega arith)
changes_source (s ∷ ss) (m ∷ ms) e = ap (λ ns. s ∷ ns) (changes_source ss ms (omega arith))

pub sources_method : (n : ℕ) (ms : List MethodDescriptor) (ls : List (Option Laid)) → length ls ≡ length ms → map method_of (sources_from n ms ls)
    ≡ ms
sources_method n [] ls e = refl
sources_method n (m ∷ ms) [] e = absurd (omega arith)
sources_method n (m ∷ ms) (l ∷ ls) e = ap (λ ns. m ∷ ns) (sources_method (n + 1) ms ls (omega arith))

-- the positions rise
pub from_number : (n k : ℕ) (ms : List MethodDescriptor) (ls : List (Option Laid)) → k ≤ n
    → Each (λ (s : FormerMethod). k ≤ s.number) (sources_from n ms ls)
from_number n k [] ls h = tt
from_number n k (m ∷ ms) [] h = tt
from_number n k (m ∷ ms) (l ∷ ls) h = (h, from_number (n + 1) k ms ls (omega arith))

-- ---- one element for each method

length_by : (b : Bool) (n : ℕ) (ms : List MethodDescriptor) (laid : List (Option Laid)) (kept : List (Option Laid)) (others : List MethodDescriptor)
    → length kept ≡ length others → length laid ≡ length ms + n
    → length (if b then kept else take (length ms) laid ++ kept) ≡ length (if b then others else ms ++ others)
length_by true n ms laid kept others e h = e
length_by false n ms laid kept others e h =
    let a = length-append (take (length ms) laid) kept in
    let b = length-append ms others in
    let c = length-take (length ms) laid in
    omega (arith, a, b, c)

pub length_but : (set : ℕ → Bool) (cs : List ClassDescriptor) (laid : List (Option Laid)) → length laid ≡ length (methods_of cs)
    → length (laid_but set cs laid) ≡ length (methods_but set cs)
length_but set [] laid h = refl
length_but set (c ∷ cs) laid h =
    let a = length-append c.methods (methods_of cs) in
    let d = length-drop (length c.methods) laid in
    length_by (set c.class_ref) (length (methods_of cs)) c.methods laid (laid_but set cs (drop (length c.methods) laid)) (methods_but set cs)
    (length_but set cs (drop (length c.methods) laid) (omega (arith, a, d))) (omega (arith, a))
