-- Each method with code of the last package has the exact target index of its code, where this is written with the package.
use Rattle.std.proofs.Common.{◌≡◌, ◌⊎◌, inl, inr, ℕ, zero, suc, ◌+◌, ◌-◌, ◌<◌, ◌≤◌, List, [], ◌∷◌, ◌++◌, length, map, take, drop, true}
use Rattle.std.proofs.Common.{false, Option, Some, None, option_map, slice_get, refl, sym, ap, subst, ◌∙◌, arith, length-append, length-take}
use Rattle.std.specs.Prelude.{count_by, is_some, unwrap_or}
use Rattle.std.proofs.lemmas.Bool.{cases_lt}
use Rattle.std.proofs.lemmas.List.{length-map}
use Rattle.std.proofs.lemmas.Option.{none-some, same_Some, slice_get-map}
use Rattle.std.proofs.Math.Seq.{take-append-add}
use Rattle.cap_package.specs.PackageRecord.{PackageRecord, names_interface}
use Rattle.cap_package.specs.Parts.{Lent}
use Rattle.cap_package.specs.StandsFor.{StandsFor}
use Rattle.cap_bytes.specs.Spelling.{Stands}
use Rattle.cap_index.specs.IndexFormat.{index_info}
use Rattle.cap_index.specs.Indexes.{has_code, is_coded, indexes_of}
use Rattle.cap_index.specs.TargetIndex.{AreShortCodes}
use Rattle.cap_index.specs.WorldIndexes.{HasIndex}
use Rattle.cap_index.proofs.Listed.{are-indexes}
use Rattle.cap_index.proofs.ReadBack.{HasExactLists, read-back, exact-at}
use Rattle.cap_write.specs.WrittenPackage.{IsWritten}
use Rattle.jc_base.specs.declared.record.MethodRec.{MethodRec}
use Rattle.jc_base.specs.World.{Linked, code_of}
use Rattle.jc_base.proofs.Lists.{slice_get-farther, slice_get-front, slice_get-some}
use Rattle.jc_control.specs.Asked.{IsOfLast}
use Rattle.jc_control.specs.ExactIndex.{IsExactIndex, HasExactIndex}
use Rattle.jc_control.specs.Method.{Method}
use Rattle.jc_decode.specs.declared.symbols.Laid.{Laid}
use Rattle.jc_decode.specs.Laws.{InstructionsAreListed}
use Rattle.jc_resolve.specs.Numbering.{numbered_methods}
use Rattle.jc_resolve.specs.NamedMethods.{named_method}
use Rattle.jc_resolve.proofs.Pairwise.{each-at}
use Rattle.jc_link.specs.World.{IsLinked}
use Rattle.law_package.specs.Rewritten.{IsRewritten}
use Rattle.law_package.proofs.Lists.{Each}
use Rattle.law_package.proofs.Kept.{map_twice}
use Rattle.law_relink.specs.Last.{and_last}
use Rattle.law_relink.specs.Replaced.{AreMethodsOf}
use Rattle.law_relink.proofs.Twins.{Twin, AreTwins, before_in, laid_in, are_twins}
use Rattle.law_relink.proofs.Known.{IsKnownTwin, known_twins, twins_in}
use Rattle.law_relink.proofs.Apart.{named_split}
use Rattle.law_relink.proofs.Linking.{are_parts, earlier_homes}
use Rattle.law_index.specs.WrittenIndex.{IsNewCode, AreNewCodes, HasRoomForIndex, HaveExactIndexes}
use Rattle.law_index.proofs.Counts.{count-append, count-none, count-alike, count-alike-before, exact-many}
use Rattle.law_index.proofs.OwnInfo.{HasInfo, has-info}
use Rattle.law_index.proofs.NewCode.{before, after, MayHave, has-code-where-laid, code-is}

-- ---- lists

-- what stands in a list that is mapped
mapped-at : {X Y : Type 0} (f : X → Y) (xs : List X) (k : ℕ) (y : Y) → slice_get (map f xs) k ≡ Some y
    → (x : X) × (slice_get xs k ≡ Some x) × (f x ≡ y)
mapped-at f [] k y e = absurd cc
mapped-at f (x ∷ xs) zero y e = (x, refl, cc)
mapped-at f (x ∷ xs) (suc k) y e = mapped-at f xs k y e

is-there : (o : Option Laid) → is_some o ≡ true → (l : Laid) × (o ≡ Some l)
is-there x e = grind (arith)

-- ---- what is laid

new-each : (f : Twin → MethodRec) (ts : List Twin) → AreNewCodes (map f ts) (map laid_in ts)
    → Each (λ x. (l : Laid) → x.laid ≡ Some l → IsNewCode (f x) l) ts
new-each f [] h = tt
new-each f (x ∷ xs) h = by x.laid refl h (λ others. new-each f xs others)
  where
    by : (o : Option Laid) → x.laid ≡ o → AreNewCodes (f x ∷ map f xs) (o ∷ map laid_in xs)
        → (AreNewCodes (map f xs) (map laid_in xs) → Each (λ y. (l : Laid) → y.laid ≡ Some l → IsNewCode (f y) l) xs)
        → Each (λ y. (l : Laid) → y.laid ≡ Some l → IsNewCode (f y) l) (x ∷ xs)
    by None e h others = (λ l is. absurd (none-some l (sym e ∙ is)), others h)
    by (Some k) e h others = (λ l is. subst (IsNewCode (f x)) (same_Some k l (sym e ∙ is)) h.0, others h.1)

short-codes : (rs : List MethodRec) (ls : List (Option Laid)) → AreNewCodes rs ls → AreShortCodes ls
short-codes [] [] h = tt
short-codes [] (l ∷ ls) h = absurd h
short-codes (r ∷ rs) [] h = absurd h
short-codes (r ∷ rs) (None ∷ ls) h = short-codes rs ls h
short-codes (r ∷ rs) (Some l ∷ ls) h = (h.0.short, short-codes rs ls h.1)

-- ---- methods of the last package alone have code there

home-of : (ps : List PackageRecord) (q : PackageRecord) (roles : List ℕ) (x : Twin) → (after ps q roles x).package ≡ length ps
unfolding named_method
home-of ps q roles x = refl

coded-by : (n : ℕ) (m : MethodRec) → m.package ≡ n → is_coded n m ≡ has_code m
coded-by n m e = grind (arith)

none-coded : (n : ℕ) (ms : List MethodRec) → Each (λ (m : MethodRec). m.package < n) ms → Each (λ m. is_coded n m ≡ false) ms
none-coded n [] h = tt
none-coded n (m ∷ ms) h = ((grind (arith)), none-coded n ms h.1)

code-some : (infos : List (List ℕ)) (m : MethodRec) → 0 < length (code_of infos m) → has_code m ≡ true
code-some infos m filled = grind (arith, length-take, drop)

module _ (listed : InstructionsAreListed) (parts new_parts : List Lent) (ps : List PackageRecord) (p q : PackageRecord) (laid : List (Option Laid))
    (roles : List ℕ) (s : StandsFor parts p) (t : StandsFor new_parts q) (r : IsRewritten p laid q) where
  abbrev now : List PackageRecord
  now = and_last ps q

  abbrev last : ℕ
  last = length ps

  abbrev ts : List Twin
  ts = twins_in p q laid

  abbrev earlier : List MethodRec
  earlier = map (named_method now roles) (numbered_methods ps)

  abbrev own_now : List MethodRec
  own_now = map (after ps q roles) ts

  two : AreTwins last p q 0 p.description.items.classes q.description.items.classes laid
  two = are_twins (names_interface p.classes) last p q 0 p.description.items.classes q.description.items.classes laid r.description.classes r.each

  known : Each (IsKnownTwin p q laid) ts
  known = known_twins parts new_parts p q laid s t r

  module _ (w new : Linked) (first own : List MethodRec) (l : IsLinked (and_last ps p) roles w) (n : IsLinked now roles new)
      (parted : AreMethodsOf w first own) (codes : AreNewCodes own laid) where
    mays : Each (MayHave ps p roles) ts
    mays =
        let is : own ≡ map (before ps p roles) ts = (are_parts ps p roles w first own l parted).own_is
        ∙ ap (map (named_method (and_last ps p) roles)) (sym two.before) ∙ map_twice (named_method (and_last ps p) roles) (before_in last p) ts in
        new-each (before ps p roles) ts
        (subst (λ ls. AreNewCodes (map (before ps p roles) ts) ls) (sym two.laid_is) (subst (λ rs. AreNewCodes rs laid) is codes))

    methods-now : new.methods ≡ earlier ++ own_now
    methods-now = grind (arith, named_split, map, two, map_twice)

    homes : Each (λ (m : MethodRec). m.package < last) earlier
    homes = earlier_homes ps q roles

    -- those of the last package have code where it is laid
    coded-each : (xs : List Twin) → Each (IsKnownTwin p q laid) xs → Each (MayHave ps p roles) xs
        → Each (λ x. is_coded last (after ps q roles x) ≡ is_some x.laid) xs
    coded-each [] i may = tt
    coded-each (x ∷ xs) i may = (
      coded-by last (after ps q roles x) (home-of ps q roles x) ∙ has-code-where-laid ps p q laid roles new_parts t r x i.0 may.0,
      coded-each xs i.1 may.1,
    )

    coded : Each (λ x. is_coded last (after ps q roles x) ≡ is_some x.laid) ts
    coded = coded-each ts known mays

    none-earlier : count_by (is_coded last) earlier ≡ 0
    none-earlier = count-none (is_coded last) earlier (none-coded last earlier homes)

    many : count_by (is_coded last) new.methods ≡ count_by is_some laid
    many =
        let both = ap (count_by (is_coded last)) methods-now ∙ count-append (is_coded last) earlier own_now in
        let own : count_by (is_coded last) own_now ≡ count_by is_some laid =
        count-alike (is_coded last) is_some (after ps q roles) laid_in ts coded ∙ ap (count_by is_some) two.laid_is in
        omega (arith, both, none-earlier, own)

    many-before : (k : ℕ) → count_by (is_coded last) (take (length earlier + k) new.methods) ≡ count_by is_some (take k laid)
    many-before k = grind (arith, take, length, methods-now, take-append-add, count-append, count-alike-before, coded, two, none-earlier)

    -- ---- a method of the last package

    module _ (m : Method) (is : IsOfLast new m) where
      home : m.rec.package ≡ last
      home = grind (arith, length, length-map, length-append)

      there : slice_get (earlier ++ own_now) m.number ≡ Some m.rec
      there = ap (λ ms. slice_get ms m.number) (sym methods-now) ∙ is.method.rec

      behind : length earlier ≤ m.number
      behind = by (cases_lt m.number (length earlier))
        where
          by : (m.number < length earlier) ⊎ (length earlier ≤ m.number) → length earlier ≤ m.number
          by (inr le) = le
          by (inl lt) =
              let x = slice_get-some earlier m.number lt in
              let at : slice_get earlier m.number ≡ Some m.rec = x.1 ∙ (sym (slice_get-front earlier own_now m.number x.0 x.1) ∙ there) in
              let less = each-at (λ (x : MethodRec). x.package < last) earlier m.number m.rec homes at in
              let its = home in
              absurd (omega (arith, less, its))

      abbrev k : ℕ
      k = m.number - length earlier

      number-is : m.number ≡ length earlier + k
      number-is = let le = behind in omega (arith, le)

      at : slice_get own_now k ≡ Some m.rec
      at = sym (slice_get-farther earlier own_now k m.number number-is) ∙ there

      twin : (x : Twin) × (slice_get ts k ≡ Some x) × (after ps q roles x ≡ m.rec)
      twin = mapped-at (after ps q roles) ts k m.rec at

      is-coded : has_code m.rec ≡ true
      is-coded = code-some new.infos m.rec (subst (λ c. 0 < length c) is.method.code is.method.filled)

      its-known : IsKnownTwin p q laid twin.0
      its-known = each-at (IsKnownTwin p q laid) ts k twin.0 known twin.1

      its-may : MayHave ps p roles twin.0
      its-may = each-at (MayHave ps p roles) ts k twin.0 mays twin.1

      code-laid : (c : Laid) × (twin.0.laid ≡ Some c)
      code-laid =
          is-there twin.0.laid
          (sym (has-code-where-laid ps p q laid roles new_parts t r twin.0 its-known its-may) ∙ ap has_code twin.2 ∙ is-coded)

      its-code : m.code ≡ code-laid.0.code
      its-code =
          is.method.code ∙ ap (code_of new.infos) (sym twin.2)
          ∙ code-is ps p q laid roles new_parts t r twin.0 its-known code-laid.0 code-laid.1 (its-may code-laid.0 code-laid.1) new n

      laid-at : slice_get laid k ≡ Some (Some code-laid.0)
      laid-at = grind (arith, slice_get, two, slice_get-map, option_map, twin, code-laid)

      module _ (info : HasInfo q laid) where
        back : HasExactLists laid info.info
        back = read-back listed laid info.info (short-codes own laid codes) info.of_codes

        index : HasIndex now new.methods m.rec.package back.lists
        index = record {
          record_of = q;
          is = ap (slice_get now) home ∙ slice_get-farther ps (q ∷ []) 0 (length ps) (omega arith);
          info = info.info;
          named = info.named;
          formed =
              subst (λ j. Stands (index_info j) info.info back.lists)
              (exact-many laid back.lists back.exact ∙ sym many ∙ ap (λ j. count_by (is_coded j) new.methods) (sym home)) back.formed;
        }

        has-index : HasExactIndex new m
        has-index =
            let exact = exact-at laid back.lists back.exact k code-laid.0 laid-at in
            let own_index = (are-indexes now new.methods).listed m.number m.rec back.lists is.method.rec is-coded index in
            let count : count_by (is_coded m.rec.package) (take m.number new.methods) ≡ count_by is_some (take k laid) =
            ap (λ j. count_by (is_coded j) (take m.number new.methods)) home
            ∙ ap (λ j. count_by (is_coded last) (take j new.methods)) number-is
            ∙ many-before k in
            let same : own_index.0 ≡ exact.0 = same_Some own_index.0 exact.0
            (sym own_index.1 ∙ ap (slice_get back.lists) count ∙ exact.1) in
            record {
              index = exact.0;
              indexed =
                  ap (λ indexes. unwrap_or (slice_get indexes m.number) None) (n.lists.indexes ∙ ap (indexes_of now) (sym n.lists.methods))
                  ∙ ap (λ o. unwrap_or o None) own_index.2 ∙ ap Some same;
              exact = subst (λ c. IsExactIndex c exact.0) (sym its-code) exact.2;
            }

    pub exact-indexes : IsWritten p laid new_parts → HasRoomForIndex p laid → HaveExactIndexes new
    exact-indexes written room = λ m is. has-index m is (has-info p q laid new_parts t r room written)
