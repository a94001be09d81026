-- In the new world each method has what is laid for it.
use Rattle.std.proofs.Common.{◌≡◌, ◌≤◌, ◌<◌, ◌+◌, ◌-◌, ℕ, zero, suc, List, [], ◌∷◌, ◌++◌, length, take, drop, map, min}
use Rattle.std.proofs.Common.{Bool, true, false, Option, Some, None, option_map, slice_get, slice_index, refl, sym, ap, subst, ◌∙◌, arith}
use Rattle.std.specs.Prelude.{if◌then◌else◌, IsSomeAnd, nat_le, nat_lt, ◌==◌, ◌&&◌}
use Rattle.std.proofs.lemmas.Bool.{false≢true, leb-true, eqb-true, eqb-false}
use Rattle.std.proofs.lemmas.Option.{slice_get-map}
use Rattle.cap_bytes.specs.Number.{number_at}
use Rattle.cap_components.specs.MethodPlaces.{size_by, code_start, code_end}
use Rattle.cap_desc.specs.DescriptorFormat.{MethodDescriptor}
use Rattle.cap_method.specs.declared.read_methods.HandlerInfo.{HandlerInfo}
use Rattle.cap_method.specs.MethodFormat.{Header}
use Rattle.cap_pool.specs.PoolFormat.{Entry}
use Rattle.cap_renewal.proofs.RenewedEntries.{asked-same}
use Rattle.cap_package.specs.HandlerChecks.{claims, owners, is_within, has_home, handler_fault, numbered_fault}
use Rattle.std.specs.List.{enumerate_from}
use Rattle.std.proofs.Math.Nat.{min-eq_left}
use Rattle.cap_package.specs.PackageRecord.{PackageRecord, names_interface, described_methods, handlers_of}
use Rattle.cap_package.specs.Parts.{Lent}
use Rattle.cap_package.specs.StandsFor.{StandsFor}
use Rattle.cap_package.proofs.InfoLaws.{info-short}
use Rattle.cap_package.proofs.StaticsKnown.{both_empty}
use Rattle.cap_laying.specs.HandlerTable.{stops, handler_entry, entries_at}
use Rattle.cap_laying.specs.HeaderBytes.{header_of}
use Rattle.cap_laying.specs.Member.{numbers_of}
use Rattle.cap_renewal.specs.PoolEdits.{renewed_entry}
use Rattle.jc_base.specs.declared.record.Handler.{Handler}
use Rattle.jc_base.specs.declared.record.MethodRec.{MethodRec}
use Rattle.jc_base.specs.Linked.{list_at}
use Rattle.jc_base.specs.World.{Linked}
use Rattle.jc_base.specs.World as world
use Rattle.jc_base.proofs.Lists.{slice_get-farther, slice_get-front, slice_get-some, slice_get-drop, slice_get-take}
use Rattle.jc_base.proofs.Eaching.{Each-from_All}
use Rattle.jc_control.specs.Method.{method_with}
use Rattle.jc_decode.specs.declared.symbols.LaidHandler.{LaidHandler as Laying}
use Rattle.jc_decode.specs.declared.symbols.Laid.{Laid}
use Rattle.jc_resolve.specs.Named.{infos_of}
use Rattle.jc_resolve.specs.Numbering.{numbered_methods}
use Rattle.jc_resolve.specs.NamedMethods.{class_or_none, class_in_entry, caught_class, offset_in_info, handler_named, have_headers, named_method}
use Rattle.jc_link.specs.World.{IsLinked}
use Rattle.law_package.specs.Changes.{changes, now_at}
use Rattle.law_package.specs.Written.{HasCode, IsAs}
use Rattle.law_package.specs.Rewritten.{IsRewritten}
use Rattle.law_package.proofs.Lists.{Each, Has, none_each, has_filter}
use Rattle.cap_package.proofs.Agreed.{Agrees, agrees}
use Rattle.law_package.proofs.Facts.{news}
use Rattle.law_package.proofs.Handlers.{has_map}
use Rattle.law_package.proofs.Headers.{header_sized}
use Rattle.law_package.proofs.Names.{is_told}
use Rattle.law_package.proofs.Zipped.{now_of}
use Rattle.law_laid.specs.Laid.{class_by, catching, HasLaid}
use Rattle.law_laid.proofs.Steps.{at-contains}
use Rattle.jc_resolve.proofs.Pairwise.{each-at}
use Rattle.law_package.proofs.Kept.{map_twice}
use Rattle.law_package.proofs.FromWriting.{map_same}
use Rattle.law_relink.specs.Last.{and_last}
use Rattle.law_relink.specs.Replaced.{HasPoolOf, EachMayReplace, AreMethodsOf, MethodsAreReplaced}
use Rattle.law_relink.proofs.Elements.{taken_below}
use Rattle.law_relink.proofs.Lists.{get_each}
use Rattle.law_relink.proofs.Records.{caught_same, headers_same, named_method_same, with_header, without_header}
use Rattle.law_relink.proofs.Twins.{Twin, before_in, after_in, laid_in, are_twins}
use Rattle.law_relink.proofs.Known.{IsKnownTwin, known_twins, twins_in, of_class, twin_headers, had_code, MayBeLaid}
use Rattle.law_relink.proofs.Apart.{own_methods, named_split, twin_apart}
use Rattle.law_relink.proofs.Linking.{are_parts, earlier_homes, may_twins}

-- ---- lists

list_earlier : {X Y : Type 0} (g : X → List Y) (xs : List X) (p q : X) (j : ℕ) → j < length xs
    → list_at (map g (xs ++ q ∷ [])) j ≡ list_at (map g (xs ++ p ∷ [])) j
list_earlier g [] p q j lt = absurd (omega arith)
list_earlier g (x ∷ xs) p q zero lt = refl
list_earlier g (x ∷ xs) p q (suc j) lt = list_earlier g xs p q j (omega arith)

pub list_last : {X Y : Type 0} (g : X → List Y) (xs : List X) (q : X) → list_at (map g (xs ++ q ∷ [])) (length xs) ≡ g q
list_last g [] q = refl
list_last g (x ∷ xs) q = list_last g xs q

-- the twin at a number
record IsAt (f : Twin → MethodRec) (ts : List Twin) (n : ℕ) (r : MethodRec) (l : Option Laid) : Type 0 where
  pub twin : Twin
  pub there : slice_get ts n ≡ Some twin
  pub method : f twin ≡ r
  pub laid_is : twin.laid ≡ l

twin_at : (f : Twin → MethodRec) (ts : List Twin) (n : ℕ) (r : MethodRec) (l : Option Laid) → slice_get (map f ts) n ≡ Some r
    → slice_get (map laid_in ts) n ≡ Some l → IsAt f ts n r l
twin_at f [] n r l e g = absurd cc
twin_at f (t ∷ ts) zero r l e g = record { twin = t; there = refl; method = cc; laid_is = cc }
twin_at f (t ∷ ts) (suc n) r l e g = grind (arith, twin_at f ts n r l e g)

-- ---- handlers lie in the code of their method

numbered_get : {X : Type 0} (P : ℕ × X → Type 0) (n : ℕ) (xs : List X) (i : ℕ) (x : X) → Each P (enumerate_from n xs)
    → slice_get xs i ≡ Some x → P (n + i, x)
numbered_get P n [] i x h e = absurd cc
numbered_get P n (y ∷ xs) zero x h e = grind (arith)
numbered_get P n (y ∷ xs) (suc i) x h e = grind (arith, suc, numbered_get P (n + 1) xs i x h.1 e)

one_home : (info : List ℕ) (h : HandlerInfo) (ms : List MethodDescriptor) (m : MethodDescriptor) → has_home info h ms ≡ true → Has ms m
    → is_within info h m ≡ true
one_home info h x m e k = grind (arith, false≢true)

entry_within : (q : PackageRecord) (m : MethodDescriptor) (n : ℕ) (h : HandlerInfo) → handler_fault q.methods.info (described_methods q) n h ≡ None
    → Has (described_methods q) m → claims n m ≡ true → is_within q.methods.info h m ≡ true
unfolding handler_fault owners
entry_within q m n h e k c = grind (arith, one_home, is_told, has_filter)

four_parts : (a b c d : Bool) → a && b && c && d ≡ true → (b ≡ true)
four_parts x b c d e = grind (arith, false≢true)

claimed : (m : MethodDescriptor) (j : ℕ) → j < m.handler_count → claims (m.handler_index + j) m ≡ true
claimed m j lt = grind (arith)

-- the handlers of a described method end in the info
pub handlers_end : (parts : List Lent) (q : PackageRecord) (m : MethodDescriptor) → Agrees parts q → Has (described_methods q) m
    → Each (λ (h : HandlerInfo). h.start + h.length ≤ code_end q.methods.info m) (handlers_of q m)
handlers_end parts q m a has =
    let info = q.methods.info in
    let both = both_empty _ _ a.handlers in
    let each = none_each (numbered_fault info (described_methods q)) (enumerate_from 0 q.methods.handlers) both.0 in
    get_each (λ (h : HandlerInfo). h.start + h.length ≤ code_end info m) (handlers_of q m) (λ j h e.
    let less = taken_below m.handler_count j (drop m.handler_index q.methods.handlers) h e in
    let there : slice_get q.methods.handlers (m.handler_index + j) ≡ Some h =
    sym (slice_get-drop m.handler_index j q.methods.handlers) ∙ sym (slice_get-take m.handler_count j (drop m.handler_index q.methods.handlers) less) ∙ e in
    let fault = numbered_get (λ x. numbered_fault info (described_methods q) x ≡ None) 0 q.methods.handlers (m.handler_index + j) h each
    there in
    let z : 0 + (m.handler_index + j) ≡ m.handler_index + j = omega arith in
    let within = entry_within q m (m.handler_index + j) h (subst (λ n. handler_fault info (described_methods q) n h ≡ None) z fault) has
    (claimed m j less) in
    leb-true (h.start + h.length) (code_end info m) (four_parts (nat_le (code_start info m) h.start)
    (nat_le (h.start + h.length) (code_end info m)) (nat_le (code_start info m) h.entry) (nat_lt h.entry (code_end info m)) within))

-- ---- what a handler catches

class_by_named : (ps : List PackageRecord) (throwable k : ℕ) (pool : List Entry) (code_at : ℕ) (hs : List HandlerInfo) (n : ℕ)
    (c : Handler) (i : ℕ) → slice_get (map (handler_named ps throwable k pool code_at) hs) n ≡ Some c → c.index ≡ i
    → class_by (map (handler_named ps throwable k pool code_at) hs) i ≡ caught_class ps throwable k pool i
unfolding handler_named
class_by_named ps throwable k pool code_at [] n c i e s = absurd cc
class_by_named ps throwable k pool code_at (h ∷ hs) n c i e s =
    by (h.index == i) refl n e (λ m f. class_by_named ps throwable k pool code_at hs m c i f s)
  where
    by : (b : Bool) → (h.index == i) ≡ b → (m : ℕ) → slice_get (map (handler_named ps throwable k pool code_at) (h ∷ hs)) m ≡ Some c
        → ((m : ℕ) → slice_get (map (handler_named ps throwable k pool code_at) hs) m ≡ Some c
        → class_by (map (handler_named ps throwable k pool code_at) hs) i ≡ caught_class ps throwable k pool i)
        → (if h.index == i then caught_class ps throwable k pool h.index else class_by
        (map (handler_named ps throwable k pool code_at) hs) i) ≡ caught_class ps throwable k pool i
    by true f m e more =
        ap (λ b. if b then caught_class ps throwable k pool h.index else class_by (map (handler_named ps throwable k pool code_at) hs) i)
        f ∙ ap (caught_class ps throwable k pool) (eqb-true h.index i f)
    by false f zero e more =
        let g : handler_named ps throwable k pool code_at h ≡ c = cc in
        absurd (eqb-false h.index i f (ap (λ (x : Handler). x.index) g ∙ s))
    by false f (suc m) e more =
        ap (λ b. if b then caught_class ps throwable k pool h.index else class_by (map (handler_named ps throwable k pool code_at) hs) i)
        f ∙ more m e

module _ (parts new_parts : List Lent) (ps : List PackageRecord) (p q : PackageRecord) (laid : List (Option Laid)) (roles : List ℕ)
    (s : StandsFor parts p) (t : StandsFor new_parts q) (r : IsRewritten p laid q) where
  abbrev now : List PackageRecord
  now = and_last ps q

  abbrev old : List PackageRecord
  old = and_last ps p

  abbrev last : ℕ
  last = length ps

  short : length q.methods.info ≤ 65535
  short = info-short 7 t.said.methods.file q.methods.info t.said.methods.framed

  entry_renewed : (k : ℕ) (to : ℕ → ℕ) (o : Option Entry) → class_in_entry old k (option_map (renewed_entry to) o)
      ≡ class_in_entry old k o
  entry_renewed k to None = refl
  entry_renewed k to (Some e) = asked-same (class_or_none old k) 0 (λ o. refl) to e

  caught_stays : (throwable k index : ℕ) → caught_class now throwable k q.pool index ≡ caught_class old throwable k p.pool index
  caught_stays throwable k index =
      let to = now_at (changes p laid q) in
      caught_same ps p q laid r throwable k q.pool index
      ∙ ap (λ es. caught_class old throwable k es index) r.pool
      ∙ ap (λ o. if index == 0 then throwable else class_in_entry old k o) (slice_get-map (renewed_entry to) p.pool index)
      ∙ ap (λ c. if index == 0 then throwable else c) (entry_renewed k to (slice_get p.pool index))

  -- ---- one method

  laid_handlers : (throwable start : ℕ) (hs : List Handler) (es : List HandlerInfo) (code_at : ℕ) (xs : List Laying)
      → hs ≡ map (handler_named old throwable last p.pool code_at) es → Each (HasPoolOf hs) xs
      → Each (λ (h : HandlerInfo). h.start + h.length ≤ 65535) (entries_at start xs)
      → map (handler_named now throwable last q.pool start) (entries_at start xs) ≡ map (catching hs) xs
  unfolding handler_named
  laid_handlers throwable start hs es code_at [] is h e = refl
  laid_handlers throwable start hs es code_at (x ∷ xs) is h e =
      ap (λ y. y ∷ map (handler_named now throwable last q.pool start) (entries_at start xs)) (one (stops x xs))
      ∙ ap (λ ys. catching hs x ∷ ys) (laid_handlers throwable start hs es code_at xs is h.1 e.1)
    where
      class_is : caught_class now throwable last q.pool x.pool ≡ class_by hs x.pool
      class_is =
          let a = h.0 in
          let there = at-contains hs a.1 (a.0, a.2, a.3) in
          caught_stays throwable last x.pool
          ∙ sym (class_by_named old throwable last p.pool code_at es a.0 a.1 x.pool (ap (λ ys. slice_get ys a.0) (sym is) ∙ there)
          a.4)
          ∙ ap (λ ys. class_by ys x.pool) (sym is)

      places : (start a b c : ℕ) → start + a + b ≤ 65535 → (start + a - start ≡ a) × (min (start + a + b) 65535 - start ≡ a + b)
          × (start + c - start ≡ c)
      places start a b c le = let m = min-eq_left le in (omega arith, omega (arith, m), omega arith)

      one : (stop : Bool) → handler_named now throwable last q.pool start (handler_entry start stop x) ≡ catching hs x
      one stop =
          let at = places start x.start x.length x.entry e.0 in
          let first = at.0 in
          let end = at.1 in
          let entry = at.2 in
          let class = class_is in
          rw (first, end, entry, class) refl

  -- the code begins after the header
  begins : (m : MethodDescriptor) (h : Header) → h.size ≡ size_by (number_at 1 m.method_offset q.methods.info)
      → code_end q.methods.info m ≤ length q.methods.info → offset_in_info (m.method_offset + h.size) ≡ code_start q.methods.info m
  unfolding code_end code_start
  begins m h size within = grind (arith, min-eq_left, short)

  -- the record and the code of a method that code is laid for
  pub laid_stands : (new : Linked) (number : ℕ) (x : Twin) (l : Laid) → IsLinked now roles new → IsKnownTwin p q laid x
      → x.laid ≡ Some l → MayBeLaid old roles last p x
      → Each (HasPoolOf (named_method old roles (before_in last p x)).handlers) l.handlers
      → HasLaid (named_method old roles (before_in last p x)) l
      (method_with new number (named_method now roles (after_in last q x)))
  laid_stands new number x l linked i is may pools =
      let had = had_code old roles last p q laid x l i (may l is) in
      let known = had.known in
      let code : HasCode q l x.new = subst (λ o. IsAs p q x.old o x.new) is known.written.is in
      let h = header_of (numbers_of l) in
      let headers : have_headers now last q x.new_class ≡ true = headers_same ps p q laid r last q x.new_class
      ∙ twin_headers old last p q laid x r i ∙ had.headers in
      let now_is = named_method now roles (after_in last q x) in
      let rec = with_header now roles last q x.class_no x.new_class x.method_no x.new h headers code.header in
      let size : h.size ≡ size_by (number_at 1 x.new.method_offset q.methods.info) =
      header_sized q.methods.info x.new.method_offset h code.header in
      let start : offset_in_info (x.new.method_offset + h.size) ≡ code_start q.methods.info x.new =
      begins x.new h size known.well.within in
      let at : now_is.code_at ≡ code_start q.methods.info x.new = ap (λ (m : MethodRec). m.code_at) rec ∙ start in
      let long : now_is.code_len ≡ x.new.bytecode_count = ap (λ (m : MethodRec). m.code_len) rec in
      let home : now_is.package ≡ last = ap (λ (m : MethodRec). m.package) rec in
      let ends = handlers_end new_parts q x.new (agrees new_parts q t.agree)
      (subst (λ ms. Has ms x.new) (news p q laid r) (has_map now_of (changes p laid q) _ known.has)) in
      record {
        same = twin_apart parts new_parts ps p q laid roles r last x i may;
        code = ap (λ infos. take now_is.code_len (drop now_is.code_at (list_at infos now_is.package))) linked.lists.infos
            ∙ ap (λ k. take now_is.code_len (drop now_is.code_at (list_at (infos_of now) k))) home
            ∙ ap (λ info. take now_is.code_len (drop now_is.code_at info)) (list_last (λ (y : PackageRecord). y.methods.info) ps q)
            ∙ ap (λ n. take n (drop now_is.code_at q.methods.info)) long
            ∙ ap (λ n. take x.new.bytecode_count (drop n q.methods.info)) at
            ∙ code.code;
        nargs = ap (λ (m : MethodRec). m.nargs) rec;
        max_locals = ap (λ (m : MethodRec). m.max_locals) rec;
        max_stack = ap (λ (m : MethodRec). m.max_stack) rec;
        handlers = ap (λ (m : MethodRec). m.handlers) rec
            ∙ ap (λ n. map (handler_named now (slice_index roles 1) last q.pool n) (handlers_of q x.new)) start
            ∙ ap (map (handler_named now (slice_index roles 1) last q.pool (code_start q.methods.info x.new))) code.handlers
            ∙ laid_handlers (slice_index roles 1) (code_start q.methods.info x.new)
            (named_method old roles (before_in last p x)).handlers (handlers_of p x.old) _ l.handlers
            (ap (λ (m : MethodRec). m.handlers) had.is) pools
            (subst (Each (λ (h : HandlerInfo). h.start + h.length ≤ 65535)) code.handlers
            (lower (handlers_of q x.new) known.well.within ends));
      }
    where
      lower : (hs : List HandlerInfo) → code_end q.methods.info x.new ≤ length q.methods.info
          → Each (λ (h : HandlerInfo). h.start + h.length ≤ code_end q.methods.info x.new) hs
          → Each (λ (h : HandlerInfo). h.start + h.length ≤ 65535) hs
      lower [] within h = tt
      lower (y ∷ hs) within h = let a = h.0 in (omega (arith, a, within, short), lower hs within h.1)

  -- a method that none is laid for has no code
  no_bytes : (new : Linked) (m : MethodRec) → m.code_len ≡ 0 → world.code_of new.infos m ≡ []
  no_bytes new m e = ap (λ n. take n (drop m.code_at (list_at new.infos m.package))) e

  bare_stands : (new : Linked) (x : Twin) → IsKnownTwin p q laid x → x.laid ≡ None
      → world.code_of new.infos (named_method now roles (after_in last q x)) ≡ []
  bare_stands new x i is = no_bytes new (named_method now roles (after_in last q x)) (by (have_headers now last q x.new_class) refl)
    where
      by : (b : Bool) → have_headers now last q x.new_class ≡ b → (named_method now roles (after_in last q x)).code_len ≡ 0
      by false e = ap (λ (m : MethodRec). m.code_len) (without_header now roles last q x.class_no x.new_class x.method_no x.new e)
      by true e =
          let had : have_headers old last p x.old_class ≡ true =
          sym (headers_same ps p q laid r last q x.new_class ∙ twin_headers old last p q laid x r i) ∙ e in
          let told = i.told (of_class old last p x.old_class had) in
          let as_was = subst (λ o. IsAs p q x.old o x.new) is told.1.written.is in
          ap (λ (m : MethodRec). m.code_len) (with_header now roles last q x.class_no x.new_class x.method_no x.new
          told.1.well.header e told.1.well.there) ∙ as_was.no_code

  -- ---- all methods

  pub stands : (w new : Linked) (before own : List MethodRec) → IsLinked old roles w → IsLinked now roles new
      → AreMethodsOf w before own → EachMayReplace own laid → MethodsAreReplaced before own laid w new
  stands w new before own l n parted may =
      let named_old = named_method old roles in
      let named_now = named_method now roles in
      let is = are_parts ps p roles w before own l parted in
      let two = are_twins (names_interface p.classes) last p q 0 p.description.items.classes q.description.items.classes laid
      r.description.classes r.each in
      let ts = twins_in p q laid in
      let known = known_twins parts new_parts p q laid s t r in
      let mays = may_twins ps p q laid roles w before own r l parted may in
      let own_is : own ≡ map (λ x. named_old (before_in last p x)) ts = is.own_is ∙ ap (map named_old) (sym two.before)
      ∙ map_twice named_old (before_in last p) ts in
      let first_now : map named_now (numbered_methods ps) ≡ before =
      map_same named_now named_old (numbered_methods ps) (named_method_same ps p q laid r roles) ∙ sym is.before_is in
      let own_now : map named_now (own_methods ps q) ≡ map (λ x. named_now (after_in last q x)) ts =
      ap (map named_now) (sym two.after) ∙ map_twice named_now (after_in last q) ts in
      let methods_now : new.methods ≡ before ++ map (λ x. named_now (after_in last q x)) ts =
      n.lists.methods ∙ named_split ps q roles ∙ ap (λ ms. ms ++ map named_now (own_methods ps q)) first_now
      ∙ ap (λ ms. before ++ ms) own_now in
      let homes : Each (λ (m : MethodRec). m.package < length ps) before =
      subst (Each (λ (m : MethodRec). m.package < length ps)) (sym is.before_is) (earlier_homes ps p roles) in
      let here : (k : ℕ) (x : Twin) → slice_get ts k ≡ Some x → slice_get new.methods (length before + k)
      ≡ Some (named_now (after_in last q x)) = λ k x e.
      ap (λ ms. slice_get ms (length before + k)) methods_now
      ∙ slice_get-farther before (map (λ y. named_now (after_in last q y)) ts) k (length before + k) refl
      ∙ slice_get-map (λ y. named_now (after_in last q y)) ts k
      ∙ ap (option_map (λ y. named_now (after_in last q y))) e in
      record {
        earlier = λ k lt.
            let x = slice_get-some before k lt in
            ap (λ ms. option_map (method_with new k) (slice_get ms k)) methods_now
            ∙ ap (option_map (method_with new k)) (slice_get-front before (map (λ y. named_now (after_in last q y)) ts) k x.0 x.1 ∙ sym x.1)
            ∙ as_were w new l n before homes k (slice_get before k) refl
            ∙ sym (ap (option_map (method_with w k)) (slice_get-front before own k x.0 x.1 ∙ sym x.1))
            ∙ sym (ap (λ ms. option_map (method_with w k) (slice_get ms k)) parted.parts);
        replaced = λ k m c e g pools.
            let a = twin_at (λ x. named_old (before_in last p x)) ts k m (Some c) (ap (λ ms. slice_get ms k) (sym own_is)
            ∙ e) (ap (λ ls. slice_get ls k) two.laid_is ∙ g) in
            let i = each-at (IsKnownTwin p q laid) ts k a.twin known a.there in
            let b = each-at (MayBeLaid old roles last p) ts k a.twin mays a.there in
            let each = subst (λ (y : MethodRec). Each (HasPoolOf y.handlers) c.handlers) (sym a.method)
            (Each-from_All (HasPoolOf m.handlers) c.handlers pools) in
            let laid_there = laid_stands new (length before + k) a.twin c n i a.laid_is b each in
            subst (λ o. IsSomeAnd (option_map (method_with new (length before + k)) o) (HasLaid m c)) (sym (here k a.twin a.there))
            (subst (λ y. HasLaid y c (method_with new (length before + k) (named_now (after_in last q a.twin)))) a.method
            laid_there);
        bare = λ k m e g.
            let a = twin_at (λ x. named_old (before_in last p x)) ts k m None (ap (λ ms. slice_get ms k) (sym own_is)
            ∙ e) (ap (λ ls. slice_get ls k) two.laid_is ∙ g) in
            let i = each-at (IsKnownTwin p q laid) ts k a.twin known a.there in
            subst (λ o. IsSomeAnd (option_map (method_with new (length before + k)) o) (λ y. y.code ≡ []))
            (sym (here k a.twin a.there)) (bare_stands new a.twin i a.laid_is);
      }
    where
      same_code : (w new : Linked) → IsLinked old roles w → IsLinked now roles new → (m : MethodRec) → m.package < length ps
          → world.code_of new.infos m ≡ world.code_of w.infos m
      same_code w new l n m lt =
          ap (λ infos. world.code_of infos m) n.lists.infos
          ∙ ap (λ info. take m.code_len (drop m.code_at info))
          (list_earlier (λ (y : PackageRecord). y.methods.info) ps p q m.package lt)
          ∙ sym (ap (λ infos. world.code_of infos m) l.lists.infos)

      as_were : (w new : Linked) → IsLinked old roles w → IsLinked now roles new → (ms : List MethodRec)
          → Each (λ (m : MethodRec). m.package < length ps) ms → (k : ℕ) (o : Option MethodRec) → slice_get ms k ≡ o
          → option_map (method_with new k) (slice_get ms k) ≡ option_map (method_with w k) (slice_get ms k)
      as_were w new l n ms homes k None e = ap (option_map (method_with new k)) e ∙ sym (ap (option_map (method_with w k)) e)
      as_were w new l n ms homes k (Some m) e =
          ap (option_map (method_with new k)) e
          ∙ ap (λ code. Some (record { number = k; rec = m; code = code }))
          (same_code w new l n m (each-at (λ (y : MethodRec). y.package < length ps) ms k m homes e))
          ∙ sym (ap (option_map (method_with w k)) e)
