-- Where nothing is wrong with listed methods in place of a package's own, the package may be written with them.
use Rattle.std.proofs.Common.{◌≡◌, ◌<◌, ◌≤◌, ◌+◌, ℕ, Bool, true, false, not, cond, ◌&&◌, ◌||◌, ltb, leb, eqb, List, [], ◌∷◌, ◌++◌}
use Rattle.std.proofs.Common.{Ok, drop, get_or, length, map, min, Option, Some, refl, sym, ap, ◌∙◌, arith, append_assoc}
use Rattle.std.proofs.lemmas.Bool.{ltb-false, ltb-true, leb-true, eqb-true, eqb-false, and_parts}
use Rattle.std.proofs.lemmas.List.{append-nil, drop_more, drop_all}
use Rattle.cap_method.specs.MethodFormat.{Header}
use Rattle.cap_desc.specs.DescriptorFormat.{MethodDescriptor, ClassDescriptor}
use Rattle.cap_components.specs.Components.{Methods}
use Rattle.cap_components.specs.PackageRecord.{PackageRecord}
use Rattle.cap_package.specs.HeaderChecks.{header_in, is_abstract}
use Rattle.jc_decode.specs.declared.symbols.Laid.{Laid}
use Rattle.jc_decode.specs.declared.symbols.LaidHandler.{LaidHandler}
use Rattle.cap_laying.specs.HandlerTable.{AreInside}
use Rattle.cap_write.specs.Condition.{handler_sum, no_method, methods_for, AreElements, MayBeLaid}
use Rattle.cap_listing.specs.declared.method.ListedMethod.{ListedMethod}
use Rattle.cap_listing.specs.declared.fault.AsmFault.{AsmFault}
use Rattle.cap_listing.specs.declared.fault.AsmFault.TheVariants.{OtherMethod, Registers, HandlerRange, CodeLength}
use Rattle.cap_listing.specs.declared.fitting.Condition.TheVariants as conditions
use Rattle.cap_listing.specs.Methods.{laid_of, listed_by, listed_from, listed_in, methods_of}
use Rattle.cap_listing.specs.Placing.{is_same, other_faults, range_faults, own_faults, faults_from}
use Rattle.cap_listing.specs.Placing.{handler_total, faults, has_code, is_coded, coded_in}
use Rattle.cap_listing.specs.Placing.{first_filled, rest_filled, filled, placed, first_refused}

-- ---- lists that are empty

pub some-none : {X : Type 0} (x : X) (xs : List X) → x ∷ xs ≡ [] → ⊥
some-none x xs e = omega (arith, ap length e)

pub first-none : {X : Type 0} (xs ys : List X) → xs ++ ys ≡ [] → xs ≡ []
first-none [] ys e = refl
first-none (x ∷ xs) ys e = absurd (some-none x (xs ++ ys) e)

second-none : {X : Type 0} (xs ys : List X) → xs ++ ys ≡ [] → ys ≡ []
second-none [] ys e = e
second-none (x ∷ xs) ys e = absurd (some-none x (xs ++ ys) e)

-- ---- what nothing wrong says

abbrev AreSame : List ListedMethod → List ListedMethod → Type 0
AreSame [] [] = Unit {0}
AreSame [] (n ∷ ns) = ⊥
AreSame (m ∷ ms) [] = ⊥
AreSame (m ∷ ms) (n ∷ ns) = (m.laid.nargs ≡ n.laid.nargs) × AreSame ms ns

one-same : (k : ℕ) (m n : ListedMethod) (ms ns : List ListedMethod) (more : List AsmFault) (b : Bool) → is_same m n ≡ b
    → (more ≡ [] → AreSame ms ns) → cond b more (OtherMethod k ∷ more) ≡ [] → AreSame (m ∷ ms) (n ∷ ns)
one-same k m n ms ns more a e rest h = grind (arith, some-none, eqb, eqb-true, and_parts)

all-same : (k : ℕ) (ms ns : List ListedMethod) → other_faults k ms ns ≡ [] → AreSame ms ns
all-same k [] [] e = tt {0}
all-same k [] (n ∷ ns) e = absurd (some-none (OtherMethod k) (other_faults (k + 1) [] ns) e)
all-same k (m ∷ ms) [] e = absurd (some-none (OtherMethod k) (other_faults (k + 1) ms []) e)
all-same k (m ∷ ms) (n ∷ ns) e = one-same k m n ms ns (other_faults (k + 1) ms ns) (is_same m n) refl (all-same (k + 1) ms ns) e

-- a method by itself
record Fits (m : ListedMethod) : Type 0 where
  registers : m.laid.nargs + m.laid.max_locals ≤ 255
  some : 1 ≤ length m.laid.code
  short : length m.laid.code ≤ 32767
  inside : AreInside (length m.laid.code) m.laid.handlers

abbrev AllFit : List ListedMethod → Type 0
AllFit [] = Unit {0}
AllFit (m ∷ ms) = Fits m × AllFit ms

few-counted : (n : ℕ) (f : AsmFault) (b : Bool) → ltb 255 n ≡ b → cond b (f ∷ []) [] ≡ [] → n ≤ 255
few-counted n f z e h = grind (arith, some-none, ltb-false)

code-length : (n : ℕ) (f : AsmFault) (a b : Bool) → eqb n 0 ≡ a → ltb 32767 n ≡ b → cond (a || b) (f ∷ []) [] ≡ [] → (1 ≤ n) × (n ≤ 32767)
code-length n f z b e g h = grind (arith, some-none, eqb-false, ltb-false)

handler-inside : (n k size : ℕ) (h : LaidHandler) (hs : List LaidHandler) (more : List AsmFault) (b : Bool)
    → (leb (h.start + h.length) size && ltb h.entry size) ≡ b → size ≤ 32767 → (more ≡ [] → AreInside size hs)
    → cond b more (HandlerRange n k ∷ more) ≡ [] → AreInside size (h ∷ hs)
handler-inside n k size h hs more a e few rest none = grind (arith, and_parts, leb, ltb, leb-true, ltb-true, some-none)

handlers-inside : (n k size : ℕ) (hs : List LaidHandler) → size ≤ 32767 → range_faults n size k hs ≡ [] → AreInside size hs
handlers-inside n k size [] few e = tt {0}
handlers-inside n k size (h ∷ hs) few e = grind (arith, handler-inside, leb, ltb, handlers-inside n (k + 1) size hs few)

all-fit : (n : ℕ) (ms : List ListedMethod) → faults_from conditions.Registers n ms ≡ [] → faults_from conditions.Handlers n ms ≡ []
    → faults_from conditions.Length n ms ≡ [] → AllFit ms
all-fit n [] r h l = tt {0}
all-fit n (m ∷ ms) r h l =
    let size = length m.laid.code in
    let count = m.laid.nargs + m.laid.max_locals in
    let own : (1 ≤ size) × (size ≤ 32767) = code-length size (CodeLength n size) (eqb size 0) (ltb 32767 size) refl refl
    (first-none (own_faults conditions.Length n m) (faults_from conditions.Length (n + 1) ms) l) in (
      record {
        registers = few-counted count (Registers n count) (ltb 255 count) refl
            (first-none (own_faults conditions.Registers n m) (faults_from conditions.Registers (n + 1) ms) r);
        some = own.0;
        short = own.1;
        inside = handlers-inside n 0 size m.laid.handlers own.1
            (first-none (own_faults conditions.Handlers n m) (faults_from conditions.Handlers (n + 1) ms) h);
      },
      all-fit (n + 1) ms (second-none (own_faults conditions.Registers n m) (faults_from conditions.Registers (n + 1) ms) r)
          (second-none (own_faults conditions.Handlers n m) (faults_from conditions.Handlers (n + 1) ms) h)
          (second-none (own_faults conditions.Length n m) (faults_from conditions.Length (n + 1) ms) l),
    )

-- ---- the elements

same-header : (x : Option Header) (g h : Header) → x ≡ Some g → x ≡ Some h → g ≡ h
same-header x g h e f = cc

module _ (interfaces : ℕ → Bool) (methods : Methods) where
  -- what comes after some records is as it is to be
  Later : List ListedMethod → List Bool → List (Option MethodDescriptor) → Type 0
  Later tail flags records =
      (ms : List ListedMethod) → AreSame ms tail → AllFit ms → AreElements methods.info records (filled flags ms)

  by-abstract : (class_no n : ℕ) (d : MethodDescriptor) (h : Header) (tail : List ListedMethod) (flags : List Bool)
      (records : List (Option MethodDescriptor)) (b : Bool) → header_in methods.info d.method_offset ≡ Some h → is_abstract h ≡ b → Later tail flags records
      → Later (cond b [] (record { class_no = class_no; method_no = n; laid = laid_of methods d h } ∷ []) ++ tail) (not b ∷ flags) (Some d ∷ records)
  unfolding Later
  by-abstract class_no n d h tail flags records b there e later ms same fit = grind (arith, same-header)

  by-header : (class_no n : ℕ) (d : MethodDescriptor) (tail : List ListedMethod) (flags : List Bool) (records : List (Option MethodDescriptor))
      (o : Option Header) → header_in methods.info d.method_offset ≡ o → Later tail flags records
      → Later (listed_by methods class_no n d o ++ tail) (has_code o ∷ flags) (Some d ∷ records)
  unfolding Later
  by-header class_no n d tail flags records a there later ms same fit = grind (arith, by-abstract)

  of-class : (class_no n : ℕ) (ds : List MethodDescriptor) (tail : List ListedMethod) (flags : List Bool) (records : List (Option MethodDescriptor))
      → Later tail flags records
      → Later (listed_from methods class_no n ds ++ tail) (map (is_coded methods.info false) ds ++ flags) (map Some ds ++ records)
  unfolding Later
  of-class class_no n [] tail flags records later ms same fit = later ms same fit
  of-class class_no n (d ∷ ds) tail flags records later ms same fit =
      grind (arith, by-header, append_assoc, of-class class_no (n + 1) ds tail flags records later)

  of-interface : (ds : List MethodDescriptor) (tail : List ListedMethod) (flags : List Bool) (records : List (Option MethodDescriptor))
      → Later tail flags records → Later tail (map (is_coded methods.info true) ds ++ flags) (map no_method ds ++ records)
  unfolding Later
  of-interface [] tail flags records later ms same fit = later ms same fit
  of-interface (d ∷ ds) tail flags records later ms same fit = (tt {0}, of-interface ds tail flags records later ms same fit)

  of-either : (class_no : ℕ) (c : ClassDescriptor) (tail : List ListedMethod) (flags : List Bool) (records : List (Option MethodDescriptor)) (b : Bool)
      → Later tail flags records
      → Later (cond b [] (listed_from methods class_no 0 c.methods) ++ tail) (map (is_coded methods.info b) c.methods ++ flags)
      (cond b (map no_method c.methods) (map Some c.methods) ++ records)
  of-either class_no c tail flags records w later = grind (arith, of-interface, of-class)

  of-classes : (class_no : ℕ) (cs : List ClassDescriptor)
      → Later (listed_in interfaces methods class_no cs) (coded_in interfaces methods.info cs) (methods_for interfaces cs)
  unfolding Later
  of-classes class_no [] [] same fit = tt {0}
  of-classes class_no [] (m ∷ ms) same fit = absurd same
  of-classes class_no (c ∷ cs) ms same fit = grind (arith, of-either, of-classes (class_no + 1) cs)

filled-total : (bs : List Bool) (ms : List ListedMethod) → handler_sum (filled bs ms) ≤ handler_total ms
filled-total [] ms = omega arith
filled-total (false ∷ bs) ms = filled-total bs ms
filled-total (true ∷ bs) [] = filled-total bs []
filled-total (true ∷ bs) (m ∷ ms) = omega (arith, filled-total bs ms)

pub placed-fits : (p : PackageRecord) (ms : List ListedMethod) → faults (methods_of p) ms ≡ [] → MayBeLaid p (placed p ms)
unfolding Later
placed-fits p ms none = grind (arith, second-none, all-same, first-none, all-fit, few-counted, min, ltb, of-classes, filled-total)

pub none-refused : (fs : List AsmFault) → first_refused fs ≡ Ok (tt {0}) → fs ≡ []
none-refused x e = grind (arith)

-- ---- one flag after the other

pub fill-step : (flags : List Bool) (n : ℕ) (b d : Bool) (out new : List (Option Laid)) (o : Option Laid) (ms rest : List ListedMethod)
    → n < length flags → b ≡ get_or flags n d → o ≡ first_filled b ms → rest ≡ rest_filled b ms → new ≡ out ++ o ∷ []
    → new ++ filled (drop (n + 1) flags) rest ≡ out ++ filled (drop n flags) ms
fill-step flags n b d out new o ms rest h is first later e = grind (arith, append_assoc, drop_more)

pub fill-end : (flags : List Bool) (n : ℕ) (out : List (Option Laid)) (ms : List ListedMethod) → length flags ≤ n
    → out ≡ out ++ filled (drop n flags) ms
fill-end flags n out ms h = sym (ap (λ (fs : List Bool). out ++ filled fs ms) (drop_all n flags h) ∙ append-nil out)
