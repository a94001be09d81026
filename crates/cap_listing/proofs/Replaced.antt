-- The methods of a package that is written with listed methods in place of its own are the listed ones.
use Rattle.std.proofs.Common.{◌≡◌, ◌+◌, ℕ, Bool, true, false, not, cond, eqb, List, [], ◌∷◌, ◌++◌, length, take, drop, map}
use Rattle.std.proofs.Common.{Option, Some}
use Rattle.std.proofs.Common.{refl, sym, ap, subst, ◌∙◌, arith, append_assoc, suc}
use Rattle.std.proofs.lemmas.Bool.{eqb-true, and_parts}
use Rattle.std.proofs.lemmas.List.{length-map}
use Rattle.std.proofs.Math.Seq.{take-append_seam, drop-append_seam}
use Rattle.cap_method.specs.MethodFormat.{Header}
use Rattle.cap_desc.specs.DescriptorFormat.{MethodDescriptor, ClassDescriptor}
use Rattle.cap_desc.specs.Members.{methods_but}
use Rattle.cap_components.specs.Components.{Methods}
use Rattle.cap_components.specs.Parts.{Lent}
use Rattle.cap_components.specs.PackageRecord.{PackageRecord, names_interface}
use Rattle.cap_package.specs.HeaderChecks.{header_in, is_abstract}
use Rattle.cap_package.specs.StandsFor.{StandsFor}
use Rattle.cap_laying.specs.HandlerTable.{handler_entry, entries_at}
use Rattle.cap_write.proofs.Sources.{are_laid_for}
use Rattle.jc_decode.specs.declared.symbols.Laid.{Laid}
use Rattle.jc_decode.specs.declared.symbols.LaidHandler.{LaidHandler}
use Rattle.law_package.specs.Changes.{changes, changes_of, laid_but, now_at, sources_from}
use Rattle.law_package.specs.Rewritten.{bare_class, IsRewritten}
use Rattle.law_package.specs.Written.{IsAs}
use Rattle.cap_package.proofs.Agreed.{agrees}
use Rattle.law_package.proofs.Bare.{but_same, same_interfaces}
use Rattle.law_package.proofs.Facts.{Fact, facts}
use Rattle.law_package.proofs.Headers.{moved}
use Rattle.law_package.proofs.Lists.{Each}
use Rattle.cap_listing.specs.declared.method.ListedMethod.{ListedMethod}
use Rattle.cap_listing.specs.declared.fault.AsmFault.{AsmFault}
use Rattle.cap_listing.specs.declared.fault.AsmFault.TheVariants.{OtherMethod}
use Rattle.cap_listing.specs.Methods.{laid_handler, laid_of, listed_by, listed_from, listed_in, methods_of}
use Rattle.cap_listing.specs.Placing.{is_same, other_faults, faults, is_coded, coded, coded_in}
use Rattle.cap_listing.specs.Placing.{first_filled, rest_filled, filled, placed, has_code}
use Rattle.cap_listing.proofs.Placed.{some-none, first-none, placed-fits}

-- ---- the numbers of methods in place of others

record HasNumbers (m n : ListedMethod) : Type 0 where
  class_no : m.class_no ≡ n.class_no
  method_no : m.method_no ≡ n.method_no

abbrev AreNumbered : List ListedMethod → List ListedMethod → Type 0
AreNumbered [] [] = Unit {0}
AreNumbered [] (n ∷ ns) = ⊥
AreNumbered (m ∷ ms) [] = ⊥
AreNumbered (m ∷ ms) (n ∷ ns) = HasNumbers m n × AreNumbered ms ns

one-numbered : (k : ℕ) (m n : ListedMethod) (ms ns : List ListedMethod) (more : List AsmFault) (b : Bool) → is_same m n ≡ b
    → (more ≡ [] → AreNumbered ms ns) → cond b more (OtherMethod k ∷ more) ≡ [] → AreNumbered (m ∷ ms) (n ∷ ns)
one-numbered k m n ms ns more a e rest h = grind (arith, some-none, and_parts, eqb, eqb-true)

all-numbered : (k : ℕ) (ms ns : List ListedMethod) → other_faults k ms ns ≡ [] → AreNumbered ms ns
all-numbered k [] [] e = tt {0}
all-numbered k [] (n ∷ ns) e = absurd (some-none (OtherMethod k) (other_faults (k + 1) [] ns) e)
all-numbered k (m ∷ ms) [] e = absurd (some-none (OtherMethod k) (other_faults (k + 1) ms []) e)
all-numbered k (m ∷ ms) (n ∷ ns) e = grind (arith, one-numbered, all-numbered (k + 1) ms ns)

-- ---- elements, one after the other

after : List Bool → List ListedMethod → List ListedMethod
after [] ms = ms
after (b ∷ bs) ms = after bs (rest_filled b ms)

filled-append : (bs cs : List Bool) (ms : List ListedMethod) → filled (bs ++ cs) ms ≡ filled bs ms ++ filled cs (after bs ms)
unfolding after
filled-append [] cs ms = refl
filled-append (b ∷ bs) cs ms = ap (λ (l : List (Option Laid)). first_filled b ms ∷ l) (filled-append bs cs (rest_filled b ms))

filled-length : (bs : List Bool) (ms : List ListedMethod) → length (filled bs ms) ≡ length bs
filled-length [] ms = refl
filled-length (b ∷ bs) ms = ap suc (filled-length bs (rest_filled b ms))

-- ---- code that is laid is listed as it was

handler-back : (start : ℕ) (stop : Bool) (h : LaidHandler) → laid_handler start (handler_entry start stop h) ≡ h
handler-back start stop h = grind (arith)

handlers-back : (start : ℕ) (hs : List LaidHandler) → map (laid_handler start) (entries_at start hs) ≡ hs
handlers-back start [] = refl
handlers-back start (h ∷ hs) = grind (arith, handler-back, handlers-back start hs)

module _ (p q : PackageRecord) where
  abbrev Become : ℕ → List MethodDescriptor → List (Option Laid) → List MethodDescriptor → Type 0
  Become x os ls ds = Each (Fact p q) (changes_of (sources_from x os ls) ds)

  abbrev flags : Bool → List MethodDescriptor → List Bool
  flags interface os = map (is_coded p.methods.info interface) os

  -- ---- one method

  abbrev own : ℕ → ℕ → MethodDescriptor → Header → ListedMethod
  own k n o h = record { class_no = k; method_no = n; laid = laid_of p.methods o h }

  one-by : (k n : ℕ) (o d : MethodDescriptor) (h : Header) (ms rest : List ListedMethod) (b : Bool) → is_abstract h ≡ b
      → header_in p.methods.info o.method_offset ≡ Some h
      → AreNumbered ms (cond b [] (own k n o h ∷ []) ++ rest) → IsAs p q o (first_filled (not b) ms) d
      → (listed_by q.methods k n d (header_in q.methods.info d.method_offset) ++ rest_filled (not b) ms ≡ ms)
      × AreNumbered (rest_filled (not b) ms) rest
  one-by k n o d h ms rest true e there num is =
      let mv = moved p.methods.info q.methods.info o.method_offset d.method_offset h is.header there in (
        ap (λ (x : Option Header). listed_by q.methods k n d x ++ ms) (mv.header ∙ there)
            ∙ ap (λ (c : Bool). cond c [] (record { class_no = k; method_no = n; laid = laid_of q.methods d h } ∷ []) ++ ms) e,
        num,
      )
  one-by k n o d h [] rest false e there num is = absurd num
  one-by k n o d h (m ∷ ms) rest false e there num is = grind (arith, cond, handlers-back)

  -- ---- the methods of a class

  record Goes (k n : ℕ) (os ds : List MethodDescriptor) (ms tail : List ListedMethod) : Type 0 where
    is : listed_from q.methods k n ds ++ after (flags false os) ms ≡ ms
    rest : AreNumbered (after (flags false os) ms) tail

  of-methods : (k n x : ℕ) (os ds : List MethodDescriptor) (ms tail : List ListedMethod) → length ds ≡ length os
      → AreNumbered ms (listed_from p.methods k n os ++ tail) → Become x os (filled (flags false os) ms) ds → Goes k n os ds ms tail
  unfolding after
  of-methods k n x [] [] ms tail long num be = record { is = refl; rest = num }
  of-methods k n x [] (d ∷ ds) ms tail long num be = absurd (omega (arith, long))
  of-methods k n x (o ∷ os) [] ms tail long num be = absurd (omega (arith, long))
  of-methods k n x (o ∷ os) (d ∷ ds) ms tail long num be =
      let f = be.0 in
      let h = f.was.header in
      let flag = is_coded p.methods.info false o in
      let flag_is : flag ≡ not (is_abstract h) = ap has_code f.was.there in
      let later = listed_from p.methods k (n + 1) os ++ tail in
      let named : AreNumbered ms (listed_by p.methods k n o (Some h) ++ later) =
      subst (λ (y : Option Header). AreNumbered ms (listed_by p.methods k n o y ++ later)) f.was.there
      (subst (AreNumbered ms)
      (append_assoc (listed_by p.methods k n o (header_in p.methods.info o.method_offset)) (listed_from p.methods k (n + 1) os) tail) num) in
      let one = one-by k n o d h ms later (is_abstract h) refl f.was.there named
      (subst (λ (c : Bool). IsAs p q o (first_filled c ms) d) flag_is f.written) in
      let rest = rest_filled (not (is_abstract h)) ms in
      let more = of-methods k (n + 1) (x + 1) os ds rest tail (omega (arith, long)) one.1
      (subst (λ (c : Bool). Become (x + 1) os (filled (flags false os) (rest_filled c ms)) ds) flag_is be.1) in
      let front = listed_by q.methods k n d (header_in q.methods.info d.method_offset) in
      let back = listed_from q.methods k (n + 1) ds in
      record {
        is = grind (arith, append_assoc);
        rest = subst (λ (c : Bool). AreNumbered (after (flags false os) (rest_filled c ms)) tail) (sym flag_is) more.rest;
      }

  -- ---- the classes

  no-flags : (os : List MethodDescriptor) (ms : List ListedMethod) → after (flags true os) ms ≡ ms
  unfolding after
  no-flags [] ms = refl
  no-flags (o ∷ os) ms = no-flags os ms

  become-append : (x : ℕ) (os more : List MethodDescriptor) (ls others : List (Option Laid)) (ds farther : List MethodDescriptor)
      → length ls ≡ length os → length ds ≡ length os → Become x (os ++ more) (ls ++ others) (ds ++ farther)
      → Become x os ls ds × ((y : ℕ) × Become y more others farther)
  become-append x [] more [] others [] farther l d be = (tt, (x, be))
  become-append x [] more [] others (e ∷ ds) farther l d be = absurd (omega (arith, d))
  become-append x [] more (y ∷ ls) others ds farther l d be = absurd (omega (arith, l))
  become-append x (o ∷ os) more [] others ds farther l d be = absurd (omega (arith, l))
  become-append x (o ∷ os) more (y ∷ ls) others [] farther l d be = absurd (omega (arith, d))
  become-append x (o ∷ os) more (y ∷ ls) others (e ∷ ds) farther l d be =
      grind (arith, become-append (x + 1) os more ls others ds farther (omega (arith, l)) (omega (arith, d)) be.1)

  module _ (set : ℕ → Bool) where
    Later : ℕ → List ClassDescriptor → List ClassDescriptor → Type 0
    Later k cs ds =
        (y : ℕ) (ns : List ListedMethod) → AreNumbered ns (listed_in set p.methods k cs)
        → Become y (methods_but set cs) (laid_but set cs (filled (coded_in set p.methods.info cs) ns)) (methods_but set ds)
        → listed_in set q.methods k ds ≡ ns

    of-kind : (k x : ℕ) (c d : ClassDescriptor) (cs ds : List ClassDescriptor) (ms : List ListedMethod) (b : Bool)
        → (b ≡ false → length d.methods ≡ length c.methods) → Later (k + 1) cs ds
        → AreNumbered ms (cond b [] (listed_from p.methods k 0 c.methods) ++ listed_in set p.methods (k + 1) cs)
        → Become x (cond b (methods_but set cs) (c.methods ++ methods_but set cs))
        (cond b (laid_but set cs (drop (length c.methods) (filled (flags b c.methods ++ coded_in set p.methods.info cs) ms)))
        (take (length c.methods) (filled (flags b c.methods ++ coded_in set p.methods.info cs) ms)
        ++ laid_but set cs (drop (length c.methods) (filled (flags b c.methods ++ coded_in set p.methods.info cs) ms))))
        (cond b (methods_but set ds) (d.methods ++ methods_but set ds))
        → cond b [] (listed_from q.methods k 0 d.methods) ++ listed_in set q.methods (k + 1) ds ≡ ms
    unfolding Later
    of-kind k x c d cs ds ms b long later num be =
        grind (arith, filled-length, length-map, filled-append, drop-append_seam, no-flags, take-append_seam, become-append, of-methods)

    same-reference : (c d : ClassDescriptor) → bare_class set d ≡ bare_class set c → d.class_ref ≡ c.class_ref
    same-reference c d e = ap (λ (x : ClassDescriptor). x.class_ref) e

    same-length : (c d : ClassDescriptor) → bare_class set d ≡ bare_class set c → set c.class_ref ≡ false → length d.methods ≡ length c.methods
    same-length c d e b = grind (arith, same-reference, length-map, cond)

    of-classes : (k : ℕ) (cs ds : List ClassDescriptor) → map (bare_class set) ds ≡ map (bare_class set) cs → Later k cs ds
    unfolding Later
    of-classes k [] [] e x [] num be = refl
    of-classes k [] [] e x (m ∷ ms) num be = absurd num
    of-classes k [] (d ∷ ds) e x ms num be = absurd (omega (arith, ap length e))
    of-classes k (c ∷ cs) [] e x ms num be = absurd (omega (arith, ap length e))
    of-classes k (c ∷ cs) (d ∷ ds) e x ms num be =
        let first : bare_class set d ≡ bare_class set c = cc in
        let others : map (bare_class set) ds ≡ map (bare_class set) cs = cc in
        let same : set d.class_ref ≡ set c.class_ref = ap set (same-reference c d first) in
        ap (λ (b : Bool). cond b [] (listed_from q.methods k 0 d.methods) ++ listed_in set q.methods (k + 1) ds) same
        ∙ of-kind k x c d cs ds ms (set c.class_ref) (same-length c d first) (of-classes (k + 1) cs ds others) num
        (subst (λ (b : Bool). Become x (methods_but set (c ∷ cs)) (laid_but set (c ∷ cs) (filled (coded_in set p.methods.info (c ∷ cs)) ms))
        (cond b (methods_but set ds) (d.methods ++ methods_but set ds))) same be)

listed-same : (s t : ℕ → Bool) (methods : Methods) (k : ℕ) (cs : List ClassDescriptor) → ((r : ℕ) → s r ≡ t r)
    → listed_in s methods k cs ≡ listed_in t methods k cs
listed-same s t methods k [] h = refl
listed-same s t methods k (c ∷ cs) h = grind (arith, cond, listed-same s t methods (k + 1) cs h)

pub methods-replaced : (parts : List Lent) (p q : PackageRecord) (ms : List ListedMethod) → StandsFor parts p → faults (methods_of p) ms ≡ []
    → IsRewritten p (placed p ms) q → methods_of q ≡ ms
unfolding Later
methods-replaced parts p q ms stands none r =
    let set = names_interface p.classes in
    let cs = p.description.items.classes in
    let ds = q.description.items.classes in
    let same : (n : ℕ) → names_interface q.classes n ≡ set n =
    λ n. ap (λ classes. names_interface classes n) r.classes ∙ same_interfaces (now_at (changes p (placed p ms) q)) p.classes n in
    let all = facts parts p q (placed p ms) (agrees parts p stands.agree) (are_laid_for p (placed p ms) (placed-fits p ms none)) r in
    let become : Become p q 0 (methods_but set cs) (laid_but set cs (filled (coded p) ms)) (methods_but set ds) =
    subst (λ (ns : List MethodDescriptor). Become p q 0 (methods_but set cs) (laid_but set cs (filled (coded p) ms)) ns)
    (but_same (names_interface q.classes) set ds same) all in
    listed-same (names_interface q.classes) set q.methods 0 ds same
    ∙ of-classes p q set 0 cs ds r.description.classes 0 ms
    (all-numbered 0 ms (methods_of p) (first-none (other_faults 0 ms (methods_of p)) _ none)) become
