-- The methods of a world whose packages have a last one: those of the libraries, and then those of that package.
use Rattle.std.proofs.Common.{◌≡◌, ◌⊎◌, Bool, true, false, MatchBool, IsSomeAnd, ℕ, ◌+◌, ◌-◌, ◌<◌, ◌≤◌, List, [], ◌∷◌, ◌++◌}
use Rattle.std.proofs.Common.{length, map, take, drop, Some, sym, ap, subst, ◌∙◌, arith, inl, inr, length-append}
use Rattle.std.specs.Prelude.{All, slice_get}
use Rattle.std.proofs.lemmas.Bool.{cases_lt}
use Rattle.std.proofs.lemmas.List.{length-map, take-append-drop}
use Rattle.std.proofs.lemmas.Option.{slice_get-get_or}
use Rattle.std.proofs.Math.ListN.{drop_of_length-le}
use Rattle.cap_package.specs.PackageRecord.{PackageRecord}
use Rattle.jc_base.specs.declared.record.MethodRec.{MethodRec}
use Rattle.jc_base.specs.World.{Linked}
use Rattle.jc_base.proofs.Eaching.{All-from_Each, Each-map}
use Rattle.jc_base.proofs.Lists.{All-slice_get, IsSomeAnd-some, slice_get-farther, slice_get-front, slice_get-some, slice_get-drop, slice_get-take}
use Rattle.jc_decode.proofs.Elements.{drop-here}
use Rattle.jc_resolve.specs.NamedMethods.{named_method}
use Rattle.jc_resolve.specs.Numbering.{numbered_methods}
use Rattle.jc_link.specs.World.{IsLinked}
use Rattle.law_relink.specs.Last.{and_last}
use Rattle.law_relink.specs.Replaced.{AreMethodsOf}
use Rattle.law_relink.proofs.Apart.{named_split, own_methods}
use Rattle.law_relink.proofs.Calls.{homes_classes}
use Rattle.law_relink.proofs.Elements.{taken_below}
use Rattle.law_relink.proofs.Linking.{are_parts, earlier_homes}
use Rattle.xf_last.specs.Last.{BeginsLast, HasLast}

-- ---- the methods of packages that link

module _ (ps : List PackageRecord) (p : PackageRecord) (roles : List ℕ) where
  abbrev pub own_of : List MethodRec
  own_of = map (named_method (and_last ps p) roles) (own_methods ps p)

  abbrev earlier_of : List MethodRec
  earlier_of = map (named_method (and_last ps p) roles) (numbered_methods ps)

  own-homes : All (λ (r : MethodRec). r.package ≡ length ps) own_of
  unfolding named_method
  own-homes =
      All-from_Each (λ (r : MethodRec). r.package ≡ length ps) own_of
      (Each-map (λ (r : MethodRec). r.package ≡ length ps) (named_method (and_last ps p) roles) (own_methods ps p)
      (homes_classes (length ps) p 0 p.description.items.classes))

  module _ (w : Linked) (linked : IsLinked (and_last ps p) roles w) where
    parts : w.methods ≡ earlier_of ++ own_of
    parts = linked.lists.methods ∙ named_split ps p roles

    count : length w.infos ≡ length ps + 1
    count = grind (arith, length, length-map, length-append)

    long : length w.methods ≡ length earlier_of + length own_of
    long = ap length parts ∙ length-append earlier_of own_of

    before : (n : ℕ) (r : MethodRec) → slice_get w.methods n ≡ Some r → n < length earlier_of → r.package + 1 < length w.infos
    before n r at lt =
        let here : slice_get (earlier_of ++ own_of) n ≡ Some r = subst (λ (ms : List MethodRec). slice_get ms n ≡ Some r) parts at in
        let x = slice_get-some earlier_of n lt in
        let home = All-slice_get (λ (r : MethodRec). r.package < length ps) earlier_of n r
        (All-from_Each (λ (r : MethodRec). r.package < length ps) earlier_of (earlier_homes ps p roles))
        (x.1 ∙ (sym (slice_get-front earlier_of own_of n x.0 x.1) ∙ here)) in
        omega (arith, home, count)

    last : (n : ℕ) (r : MethodRec) → slice_get w.methods n ≡ Some r → length earlier_of ≤ n → r.package + 1 ≡ length w.infos
    last n r at le =
        let here : slice_get (earlier_of ++ own_of) n ≡ Some r = subst (λ (ms : List MethodRec). slice_get ms n ≡ Some r) parts at in
        let home = All-slice_get (λ (r : MethodRec). r.package ≡ length ps) own_of (n - length earlier_of) r own-homes
        (sym (slice_get-farther earlier_of own_of (n - length earlier_of) n (omega (arith, le))) ∙ here) in
        omega (arith, home, count)

    pub has-last : HasLast w
    has-last = (length earlier_of, record { within = omega (arith, long); before = before; last = last })

-- ---- where they begin

module _ (w : Linked) (first : ℕ) (is : BeginsLast w first) where
  pub methods-of : AreMethodsOf w (take first w.methods) (drop first w.methods)
  methods-of = record {
    parts = sym (take-append-drop first w.methods);
    earlier = λ n d lt.
        let at = slice_get-get_or (take first w.methods) n d lt in
        let below = taken_below first n w.methods _ at in
        is.before n _ (sym (slice_get-take first n w.methods below) ∙ at) below;
    last = λ n d lt.
        is.last (first + n) _ (sym (slice_get-drop first n w.methods) ∙ slice_get-get_or (drop first w.methods) n d lt) (omega arith);
  }

  pub own-is : (ps : List PackageRecord) (p : PackageRecord) (roles : List ℕ) → IsLinked (and_last ps p) roles w
      → drop first w.methods ≡ own_of ps p roles
  own-is ps p roles linked = (are_parts ps p roles w (take first w.methods) (drop first w.methods) linked methods-of).own_is

-- they are looked for from the first method on
module _ (w : Linked) (n first : ℕ) (is : BeginsLast w first) (le : n ≤ first) where
  abbrev IsOwn : MethodRec → Type 0
  IsOwn r = r.package + 1 ≡ length w.infos

  abbrev Tells : Bool → MethodRec → Type 0
  Tells b r = MatchBool b (IsOwn r) (¬ (IsOwn r))

  pub first-later : (b : Bool) → IsSomeAnd (slice_get w.methods n) (Tells b) → b ≡ false → n + 1 ≤ first
  first-later b told e = by (cases_lt n first)
    where
      by : (n < first) ⊎ (first ≤ n) → n + 1 ≤ first
      by (inl lt) = omega (arith, lt)
      by (inr ge) =
          let r = IsSomeAnd-some (Tells b) (slice_get w.methods n) told in
          let other : ¬ (IsOwn r.0) = subst (λ (a : Bool). Tells a r.0) e r.2 in
          absurd (other (is.last n r.0 r.1 ge))

  pub first-here : (b : Bool) → IsSomeAnd (slice_get w.methods n) (Tells b) → b ≡ true → BeginsLast w n
  first-here b told e = by (cases_lt n first)
    where
      by : (n < first) ⊎ (first ≤ n) → BeginsLast w n
      by (inl lt) =
          let r = IsSomeAnd-some (Tells b) (slice_get w.methods n) told in
          let own : IsOwn r.0 = subst (λ (a : Bool). Tells a r.0) e r.2 in
          let less = is.before n r.0 r.1 lt in
          absurd (omega (arith, own, less))
      by (inr ge) = let same : first ≡ n = omega (arith, ge, le) in subst (BeginsLast w) same is

  pub none-left : length w.methods ≤ n → BeginsLast w n
  none-left end = let within = is.within in let same : first ≡ n = omega (arith, le, end, within) in subst (BeginsLast w) same is

-- ---- the last of several packages

pub with-last : {X : Type 0} (xs : List X) (x : X) (n : ℕ) → slice_get xs n ≡ Some x → n + 1 ≡ length xs → (ys : List X) × (xs ≡ ys ++ x ∷ [])
with-last xs x n at long =
    let none : drop (n + 1) xs ≡ [] = drop_of_length-le xs (omega (arith, long)) in
    (take n xs, sym (take-append-drop n xs) ∙ ap (λ ys. take n xs ++ ys) (drop-here xs n x at ∙ ap (λ ys. x ∷ ys) none))
