-- From a step of a group the same handlers catch as from its place, in the same order.
use Rattle.std.proofs.Common.{◌≡◌, ℕ, suc, ◌+◌, ◌-◌, ◌<◌, ◌≤◌, ◌&&◌, Bool, true, false, if◌then◌else◌, cond, inl, inr}
use Rattle.std.proofs.Common.{List, [], ◌∷◌, ◌++◌, length, map, flat_map, refl, sym, ap, ◌∙◌, subst, arith, append_assoc}
use Rattle.std.specs.Prelude.{Some, None, Ok, ◌==◌, find, is_some, nat_le, nat_lt, slice_get}
use Rattle.std.proofs.lemmas.Bool.{false≢true, and_parts, and_from, and_left, and_right}
use Rattle.std.proofs.lemmas.Bool.Decides.{nat_tests}
use Rattle.std.proofs.lemmas.List.{length-append}
use Rattle.std.proofs.lemmas.List.Concat.{flat_map-append}
use Rattle.std.proofs.lemmas.List.Elements.{All-contains}
use Rattle.jc_base.specs.declared.record.Handler.{Handler}
use Rattle.jc_base.specs.declared.record.MethodRec.{MethodRec}
use Rattle.jc_base.specs.Order.{is_on_chain}
use Rattle.jc_base.specs.World.{Linked}
use Rattle.jc_decode.specs.declared.insn.Placed.{Placed}
use Rattle.jc_decode.specs.declared.symbols.LaidHandler.{LaidHandler as Laying}
use Rattle.jc_decode.specs.declared.symbols.Item.{Item}
use Rattle.jc_decode.specs.declared.symbols.Item.TheVariants.{Plain, Branch, Switch, Label}
use Rattle.jc_decode.specs.declared.symbols.Range.{Range}
use Rattle.jc_decode.specs.Listing.{listing}
use Rattle.jc_decode.specs.Symbols.{IsOnce, handler, place_of}
use Rattle.jc_decode.proofs.Elements.{Contains-slice_get}
use Rattle.jc_decode.proofs.InstructionLists.{all-are-listed}
use Rattle.jc_control.specs.Control.{Covers, IsReached}
use Rattle.jc_control.specs.WellFormed.{IsBoundary, IsHandlerOf, IsPlace, HasInstruction}
use Rattle.jc_ops.specs.declared.operation.Operation.{Operation}
use Rattle.vm_store.specs.declared.cell.Cell.{Cell}
use Rattle.vm_store.specs.State.{Frame}
use Rattle.vm_step.specs.Methods.{handlers_of, of_method}
use Rattle.vm_step.specs.Raising.{catches}
use Rattle.law_laid.specs.Laid.{catching, class_by}
use Rattle.xf_homes.specs.Source.{Source}
use Rattle.xf_homes.specs.Plan.{first_reached, operation}
use Rattle.xf_emission.specs.declared.origin.Origin.TheVariants.{Start}
use Rattle.xf_emission.specs.Edge.{copies}
use Rattle.xf_emission.specs.Emission.{is_live, items, range, ranges, ranges_from, rewritten}
use Rattle.xf_emission.specs.Group.{group}
use Rattle.xf_emission.specs.Jump.{handler_label}
use Rattle.xf_emission.specs.Laws.{IsCode, of_end, of_place}
use Rattle.xf_emission.proofs.GroupPlaces.{groups-stand}
use Rattle.xf_emission.proofs.Once.{labels-stand-once}
use Rattle.law_groups.specs.Laid.{IsInGroup, IsLaidIn, count_of, group_at, steps_of}
use Rattle.law_groups.specs.Beside.{StandsInGroup}
use Rattle.law_groups.specs.Laws.{CatchAlike, GroupsCatch, both_catch, none_catches}
use Rattle.law_groups.proofs.Context.{here-at, method-of, reached-some, target-at}
use Rattle.law_groups.proofs.Handling.{covers-live, first-before, first-is}
use Rattle.law_groups.proofs.Placing.{count-append, groups-stand-at-steps, place-once, steps-count}
use Rattle.law_groups.proofs.Renaming.{places-rise}
use Rattle.law_groups.proofs.Following.{some-body, steps-here}
use Rattle.law_groups.proofs.Rising.{groups-rise}
use Rattle.law_groups.proofs.Standing.{stand-inside}
use Rattle.law_groups.proofs.Starting.{ending, items-begin}
use Rattle.law_rewritten_typing.proofs.Ordered.{group-head}

-- ---- how far labels reach

-- a label stands for no more steps than there are
place-most : (l : ℕ) (xs : List Item) → place_of l xs ≤ count_of xs
place-most l [] = omega arith
place-most l (Plain i ∷ xs) = omega (arith, place-most l xs)
place-most l (Branch op m ∷ xs) = omega (arith, place-most l xs)
place-most l (Switch i at ls ∷ xs) = omega (arith, place-most l xs)
place-most l (Label m ∷ xs) = by (m == l) (place-most l xs)
  where
    by : (b : Bool) → place_of l xs ≤ count_of xs → cond {A = ℕ} b 0 (place_of l xs) ≤ count_of xs
    by true le = omega arith
    by false le = le

module _ (s : Source) (code : IsCode s) where
  -- the end's label stands after all groups
  end-is : place_of (length s.method.code) (items s) ≡ count_of (copies s Start 0 ++ flat_map (group s) (listing s.method.code))
  end-is =
      let e : ℕ = length s.method.code in
      let before = copies s Start 0 ++ flat_map (group s) (listing s.method.code) in
      let rest = ending s in
      let parts : items s ≡ before ++ rest =
      items-begin s ∙ sym (append_assoc (copies s Start 0) (flat_map (group s) (listing s.method.code)) rest) in
      let one : IsOnce (before ++ rest) e = subst (λ xs. IsOnce xs e) parts (labels-stand-once s code e of_end) in
      ap (place_of e) parts ∙ place-once e before _ one

  -- and so after each of them
  group-before-end :
      (i : Placed)
      → HasInstruction s.method.code i
      → is_some (s.frames i.place) ≡ true
      → group_at s i.place + count_of (group s i) ≤ place_of (length s.method.code) (items s)
  group-before-end i stands reached =
      let g = groups-stand s code i stands reached in
      let b = group-head s i reached in
      let cs = copies s Start 0 in
      let before = cs ++ flat_map (group s) g.earlier in
      let rest = b.0 ++ (flat_map (group s) g.later ++ ending s) in
      let all : flat_map (group s) (listing s.method.code) ≡ flat_map (group s) g.earlier ++ flat_map (group s) (i ∷ g.later) =
      ap (flat_map (group s)) g.listed ∙ flat_map-append (group s) g.earlier (i ∷ g.later) in
      let head : flat_map (group s) (i ∷ g.later) ++ ending s ≡ Label i.place ∷ rest =
      append_assoc (group s i) (flat_map (group s) g.later) (ending s)
      ∙ ap (λ xs. xs ++ (flat_map (group s) g.later ++ ending s)) b.1 in
      let parts : items s ≡ before ++ (Label i.place ∷ rest) =
      items-begin s
      ∙ (ap (λ xs. cs ++ (xs ++ ending s)) all
      ∙ (ap (λ xs. cs ++ xs) (append_assoc (flat_map (group s) g.earlier) (flat_map (group s) (i ∷ g.later)) (ending s))
      ∙ (ap (λ xs. cs ++ (flat_map (group s) g.earlier ++ xs)) head
      ∙ sym (append_assoc cs (flat_map (group s) g.earlier) (Label i.place ∷ rest))))) in
      let one : IsOnce (before ++ (Label i.place ∷ rest)) i.place =
      subst (λ xs. IsOnce xs i.place) parts (labels-stand-once s code i.place (of_place stands reached)) in
      let at : group_at s i.place ≡ count_of before = ap (place_of i.place) parts ∙ place-once i.place before rest one in
      let last = end-is in
      let c1 = count-append cs (flat_map (group s) (listing s.method.code)) in
      let c2 = ap count_of all in
      let c3 = count-append (flat_map (group s) g.earlier) (flat_map (group s) (i ∷ g.later)) in
      let c4 = count-append (group s i) (flat_map (group s) g.later) in
      let c5 = count-append cs (flat_map (group s) g.earlier) in
      omega (arith, at, last, c1, c2, c3, c4, c5)

-- ---- one place, and a step of its group

module _ {v w : Linked} {s : Source} {place : ℕ → ℕ} (laid : IsLaidIn v w s place) where
  abbrev hs : List Handler
  hs = s.method.rec.handlers

  abbrev label_at : ℕ → ℕ
  label_at l = place_of l (items s)

  -- where a label's step is laid
  abbrev laying : Range → Laying
  laying r = handler (λ l. place (place_of l (items s))) r

  all-steps : length (steps_of s) ≡ count_of (items s)
  all-steps = steps-count s.method.code (items s) (items s)

  label-most : (l : ℕ) → label_at l ≤ length (steps_of s)
  label-most l = let most = place-most l (items s) in let all = all-steps in omega (arith, most, all)

  mono : (a b : ℕ) → a ≤ b → b ≤ length (steps_of s) → place a ≤ place b
  mono a b le inside = by (nat_lt a b) refl
    where
      by : (c : Bool) → nat_lt a b ≡ c → place a ≤ place b
      by true e =
          let lt : a < b = grind (arith, nat_tests, e) in
          let more = places-rise laid a b lt inside in
          omega (arith, more)
      by false e = let same : a ≡ b = grind (arith, nat_tests, e, le) in let k = ap place same in omega (arith, k)

  module _ (i : Placed) (stands : HasInstruction s.method.code i) (reached : is_some (s.frames i.place) ≡ true) where
    i-inside : i.place < length s.method.code
    i-inside = (all-are-listed s.method.code).inside i stands

    -- a label of the first reached place from one up to this
    starts-by : (q : ℕ) → q ≤ i.place → label_at (first_reached s q) ≤ group_at s i.place
    starts-by q le = by (nat_lt (first_reached s q) i.place) refl
      where
        by : (b : Bool) → nat_lt (first_reached s q) i.place ≡ b → label_at (first_reached s q) ≤ group_at s i.place
        by false e =
            let most = first-before s q i.place reached le in
            let same : first_reached s q ≡ i.place = grind (arith, nat_tests, e, most) in
            let k = ap label_at same in
            omega (arith, k)
        by true e =
            let lt : first_reached s q < i.place = grind (arith, nat_tests, e) in
            let own = first-is s q in
            let within_code = i-inside in
            let there = own.there (omega (arith, lt, within_code, le)) in
            let h = here-at laid (first_reached s q) there in
            let also : is_some (s.frames h.instruction.place) ≡ true = ap (λ p. is_some (s.frames p)) h.at ∙ there in
            let at = h.at in
            let rise = groups-rise s laid.planned.code h.instruction i h.stands also stands reached (omega (arith, at, lt)) in
            let k = ap label_at at in
            omega (arith, rise, k)

    -- and of the first from one after it
    starts-after : (q : ℕ) → i.place < q → q ≤ length s.method.code
        → group_at s i.place + count_of (group s i) ≤ label_at (first_reached s q)
    starts-after q lt inside = by (nat_lt (first_reached s q) (length s.method.code)) refl
      where
        by : (b : Bool) → nat_lt (first_reached s q) (length s.method.code) ≡ b
            → group_at s i.place + count_of (group s i) ≤ label_at (first_reached s q)
        by true e =
            let small : first_reached s q < length s.method.code = grind (arith, nat_tests, e) in
            let own = first-is s q in
            let least = own.from in
            let there = own.there (omega (arith, small, inside)) in
            let h = here-at laid (first_reached s q) there in
            let also : is_some (s.frames h.instruction.place) ≡ true = ap (λ p. is_some (s.frames p)) h.at ∙ there in
            let at = h.at in
            let rise = groups-rise s laid.planned.code i h.instruction stands reached h.stands also
            (omega (arith, at, lt, least)) in
            let k = ap label_at at in
            omega (arith, rise, k)
        by false e =
            let own = first-is s q in
            let most = own.to in
            let large : length s.method.code ≤ first_reached s q = grind (arith, nat_tests, e) in
            let same : first_reached s q ≡ length s.method.code = omega (arith, most, large, inside) in
            let last = group-before-end s laid.planned.code i stands reached in
            let k = ap label_at same in
            omega (arith, last, k)

  -- the labels of a live handler's range are in order
  range-order :
      (h : Handler) → is_live s h ≡ true → h.end ≤ length s.method.code
      → label_at (first_reached s h.start) < label_at (first_reached s h.end)
  range-order h live inside =
      let lt : first_reached s h.start < h.end = grind (arith, nat_tests, live) in
      let own = first-is s h.start in
      let there = own.there (omega (arith, lt, inside)) in
      let j = here-at laid (first_reached s h.start) there in
      let also : is_some (s.frames j.instruction.place) ≡ true = ap (λ p. is_some (s.frames p)) j.at ∙ there in
      let at = j.at in
      let after = starts-after j.instruction j.stands also h.end (omega (arith, at, lt)) inside in
      let some = group-some j.instruction j.op j.stands also j.does in
      let k = ap label_at at in
      omega (arith, after, some, k)
    where
      group-some :
          (j : Placed) (op : Operation) → HasInstruction s.method.code j → is_some (s.frames j.place) ≡ true → operation s j ≡ Ok op
          → 1 ≤ count_of (group s j)
      group-some j op st r does =
          let g = steps-here laid j op st r does in
          let size = g.size in
          let some = some-body s j op in
          omega (arith, size, some)

  module _
      (i : Placed) (stands : HasInstruction s.method.code i) (reached : is_some (s.frames i.place) ≡ true)
      (n : ℕ) (inside : IsInGroup s i n) (class : ℕ) where
    -- a step of the group
    n-within : n < length (steps_of s)
    n-within = grind (arith, stand-inside s (group_at s i.place) (group s i) (groups-stand-at-steps s i laid.planned.code stands reached))

    covered-same :
        (h : Handler) → is_live s h ≡ true → h.start ≤ length s.method.code → h.end ≤ length s.method.code
        → (nat_le (place (label_at (first_reached s h.start))) (place n)
        && nat_lt (place n)
        (place (label_at (first_reached s h.start))
        + (place (label_at (first_reached s h.end)) - place (label_at (first_reached s h.start)))))
        ≡ (nat_le h.start i.place && nat_lt i.place h.end)
    covered-same h live small low = by (nat_lt i.place h.start) (nat_lt i.place h.end) refl refl
      where
        by : (x y : Bool) → nat_lt i.place h.start ≡ x → nat_lt i.place h.end ≡ y
            → (nat_le (place (label_at (first_reached s h.start))) (place n)
            && nat_lt (place n)
            (place (label_at (first_reached s h.start))
            + (place (label_at (first_reached s h.end)) - place (label_at (first_reached s h.start)))))
            ≡ (nat_le h.start i.place && nat_lt i.place h.end)
        by true y e k =
            let lt : i.place < h.start = grind (arith, nat_tests, e) in
            let after = starts-after i stands reached h.start lt small in
            let last = inside.before in
            let apart : n < label_at (first_reached s h.start) = omega (arith, after, last) in
            let more = places-rise laid n (label_at (first_reached s h.start)) apart
            (label-most (first_reached s h.start)) in
            let one : nat_le (place (label_at (first_reached s h.start))) (place n) ≡ false = grind (arith, nat_tests, more) in
            let two : nat_le h.start i.place ≡ false = grind (arith, nat_tests, lt) in
            and_left _ _ one ∙ sym (and_left _ _ two)
        by false true e k =
            let le : h.start ≤ i.place = grind (arith, nat_tests, e) in
            let lt : i.place < h.end = grind (arith, nat_tests, k) in
            let from_start = starts-by i stands reached h.start le in
            let to_end = starts-after i stands reached h.end lt low in
            let first = inside.from in
            let last = inside.before in
            let least = mono (label_at (first_reached s h.start)) n (omega (arith, from_start, first)) (omega (arith, n-within)) in
            let most = places-rise laid n (label_at (first_reached s h.end))
            (omega (arith, to_end, last)) (label-most (first_reached s h.end)) in
            let one : nat_le (place (label_at (first_reached s h.start))) (place n) ≡ true = grind (arith, nat_tests, least) in
            let sum : place n
            < place (label_at (first_reached s h.start))
            + (place (label_at (first_reached s h.end)) - place (label_at (first_reached s h.start))) = omega (arith, least, most) in
            let two : nat_lt (place n)
            (place (label_at (first_reached s h.start))
            + (place (label_at (first_reached s h.end)) - place (label_at (first_reached s h.start)))) ≡ true =
            grind (arith, nat_tests, sum) in
            let three : nat_le h.start i.place ≡ true = grind (arith, nat_tests, le) in
            and_from _ _ one two ∙ sym (and_from _ _ three k)
        by false false e k =
            let le : h.end ≤ i.place = grind (arith, nat_tests, k) in
            let from_end = starts-by i stands reached h.end le in
            let first = inside.from in
            let order = range-order h live low in
            let ahead = mono (label_at (first_reached s h.start)) (label_at (first_reached s h.end)) (omega (arith, order))
            (label-most (first_reached s h.end)) in
            let least = mono (label_at (first_reached s h.end)) n (omega (arith, from_end, first)) (omega (arith, n-within)) in
            let sum : place (label_at (first_reached s h.start))
            + (place (label_at (first_reached s h.end)) - place (label_at (first_reached s h.start))) ≤ place n =
            omega (arith, ahead, least) in
            let one : nat_lt (place n)
            (place (label_at (first_reached s h.start))
            + (place (label_at (first_reached s h.end)) - place (label_at (first_reached s h.start)))) ≡ false =
            grind (arith, nat_tests, sum) in
            and_right _ _ one ∙ sym (and_right _ _ k)

    -- ---- the search

    abbrev own_test : Handler → Bool
    own_test h = catches v.classes i.place class h

    abbrev laid_test : Handler → Bool
    laid_test h = catches v.classes (place n) class h

    abbrev laid_handlers : List Range → List Handler
    laid_handlers rs = map (catching hs) (map laying rs)

    data Found (rest : List Handler) (rs : List Range) : Type 0 where
      neither : find own_test rest ≡ None → find laid_test (laid_handlers rs) ≡ None → Found rest rs
      both :
          (m : ℕ) (h k : Handler)
          → find own_test rest ≡ Some h
          → slice_get hs m ≡ Some h
          → Covers h i.place
          → find laid_test (laid_handlers rs) ≡ Some k
          → k.entry ≡ place (label_at (handler_label m))
          → Found rest rs

    bounds : (h : Handler) → IsHandlerOf s.method.code h → (h.start ≤ length s.method.code) × (h.end ≤ length s.method.code)
    bounds h is = (by-place is.start, by-end is.end)
      where
        by-place : IsPlace s.method.code h.start → h.start ≤ length s.method.code
        by-place (j, st, e) = let lt = (all-are-listed s.method.code).inside j st in omega (arith, lt, e)

        by-end : IsBoundary s.method.code h.end → h.end ≤ length s.method.code
        by-end (inl e) = omega (arith, e)
        by-end (inr (j, st, e)) = let lt = (all-are-listed s.method.code).inside j st in omega (arith, lt, e)

    found-later-own : (h : Handler) (rest : List Handler) (rs : List Range) → own_test h ≡ false → Found rest rs → Found (h ∷ rest) rs
    found-later-own h rest rs e (neither a b) = neither (ap (λ c. cond c (Some h) (find own_test rest)) e ∙ a) b
    found-later-own h rest rs e (both m x k a at covers b entry) =
        both m x k (ap (λ c. cond c (Some h) (find own_test rest)) e ∙ a) at covers b entry

    found-later-laid :
        (r : Range) (rest : List Handler) (rs : List Range)
        → laid_test (catching hs (laying r)) ≡ false
        → Found rest rs
        → Found rest (r ∷ rs)
    found-later-laid r rest rs e (neither a b) = grind (arith, cond)
    found-later-laid r rest rs e (both m x k a at covers b entry) =
        both m x k a at covers (ap (λ c. cond c (Some (catching hs (laying r))) (find laid_test (laid_handlers rs))) e ∙ b) entry

    search-all : (before rest : List Handler) (m : ℕ) → m ≡ length before → before ++ rest ≡ hs → Found rest (ranges_from s m rest)
    search-all before [] m e whole = neither refl refl
    search-all before (h ∷ rest) m e whole =
        let at : slice_get hs m ≡ Some h =
        ap (slice_get hs) e ∙ (ap (λ xs. slice_get xs (length before)) (sym whole) ∙ found-here before h rest) in
        let longer = length-append before (h ∷ []) in
        let later = search-all (before ++ h ∷ []) rest (suc m) (omega (arith, e, longer))
        (append_assoc before (h ∷ []) rest ∙ whole) in
        let is = All-contains (IsHandlerOf s.method.code) hs h laid.planned.frames.formed.handlers (Contains-slice_get hs m h at) in
        by (is_live s h) refl at is later
      where
        found-here : (before : List Handler) (h : Handler) (rest : List Handler) → slice_get (before ++ h ∷ rest) (length before) ≡ Some h
        found-here [] h rest = refl
        found-here (b ∷ before) h rest = found-here before h rest

        test-same : slice_get hs m ≡ Some h → IsHandlerOf s.method.code h → is_live s h ≡ true
            → laid_test (catching hs (laying (range s m h))) ≡ own_test h
        test-same at is live =
            let b = bounds h is in
            let covered = covered-same h live b.0 b.1 in
            let same : class_by hs h.index ≡ h.class = laid.catches h (Contains-slice_get hs m h at) in
            ap (λ x. x && is_on_chain v.classes (class_by hs h.index) class) covered
            ∙ ap (λ c. (nat_le h.start i.place && nat_lt i.place h.end) && is_on_chain v.classes c class) same

        covers-of : own_test h ≡ true → Covers h i.place
        covers-of e = grind (arith, and_parts, nat_tests)

        by-test :
            (c : Bool)
            → own_test h ≡ c
            → slice_get hs m ≡ Some h
            → laid_test (catching hs (laying (range s m h))) ≡ own_test h
            → Found rest (ranges_from s (suc m) rest)
            → Found (h ∷ rest) (range s m h ∷ ranges_from s (suc m) rest)
        by-test true e at same later =
            both m h (catching hs (laying (range s m h)))
            (ap (λ c. cond c (Some h) (find own_test rest)) e) at (covers-of e)
            (ap (λ c. cond c (Some (catching hs (laying (range s m h)))) (find laid_test (laid_handlers (ranges_from s (suc m) rest))))
            (same ∙ e))
            refl
        by-test false e at same later =
            found-later-own h rest (range s m h ∷ ranges_from s (suc m) rest) e
            (found-later-laid (range s m h) rest (ranges_from s (suc m) rest) (same ∙ e) later)

        by :
            (b : Bool)
            → is_live s h ≡ b
            → slice_get hs m ≡ Some h
            → IsHandlerOf s.method.code h
            → Found rest (ranges_from s (suc m) rest)
            → Found (h ∷ rest) ((if b then range s m h ∷ [] else []) ++ ranges_from s (suc m) rest)
        by true live at is later = by-test (own_test h) refl at (test-same at is live) later
        by false dead at is later = found-later-own h rest (ranges_from s (suc m) rest) (not-covered (own_test h) refl) later
          where
            not-covered : (c : Bool) → own_test h ≡ c → own_test h ≡ false
            not-covered false e = e
            not-covered true e = absurd (false≢true (sym dead ∙ covers-live s h i.place reached (covers-of e)))

  pub groups-catch-here :
      (class : ℕ) (f g : Frame Cell)
      → IsReached s.method f.place
      → StandsInGroup s place f g
      → CatchAlike v w s place class f g
  unfolding rewritten ranges
  groups-catch-here class f g reached within_group =
      let i = within_group.instruction in
      let some : is_some (s.frames i.place) ≡ true =
      ap (λ p. is_some (s.frames p)) within_group.there ∙ reached-some laid f.place reached in
      let x = search-all i within_group.stands some within_group.step within_group.inside class [] hs 0 refl refl in
      let own : handlers_of v f.method ≡ hs =
      ap (handlers_of v) within_group.of.source
      ∙ ap (of_method [] (λ (m : MethodRec). m.handlers)) (method-of laid).rec in
      let other : handlers_of w g.method ≡ map (catching hs) (map laying (ranges s)) =
      ap (handlers_of w) within_group.of.target
      ∙ (ap (of_method [] (λ (m : MethodRec). m.handlers)) (target-at laid)
      ∙ (laid.code.has.handlers ∙ ap (map (catching hs)) laid.code.stands.handlers)) in
      by x own other
    where
      by :
          Found within_group.instruction within_group.stands
          (ap (λ p. is_some (s.frames p)) within_group.there ∙ reached-some laid f.place reached)
          within_group.step within_group.inside class hs (ranges_from s 0 hs)
          → handlers_of v f.method ≡ hs
          → handlers_of w g.method ≡ map (catching hs) (map laying (ranges_from s 0 hs))
          → CatchAlike v w s place class f g
      by (neither a b) own other =
          none_catches
          (ap (find (catches v.classes f.place class)) own
          ∙ (ap (λ p. find (catches v.classes p class) hs) (sym within_group.there) ∙ a))
          (ap (find (catches w.classes g.place class)) other
          ∙ (ap (λ p. find (catches w.classes p class) (map (catching hs) (map laying (ranges_from s 0 hs)))) within_group.at
          ∙ (ap (λ t. find (catches t (place within_group.step) class) (map (catching hs) (map laying (ranges_from s 0 hs))))
          (sym laid.code.same.classes) ∙ b)))
      by (both m h k a at covers b entry) own other =
          both_catch m h k
          (ap (find (catches v.classes f.place class)) own
          ∙ (ap (λ p. find (catches v.classes p class) hs) (sym within_group.there) ∙ a))
          at (subst (Covers h) within_group.there covers)
          (ap (find (catches w.classes g.place class)) other
          ∙ (ap (λ p. find (catches w.classes p class) (map (catching hs) (map laying (ranges_from s 0 hs)))) within_group.at
          ∙ (ap (λ t. find (catches t (place within_group.step) class) (map (catching hs) (map laying (ranges_from s 0 hs))))
          (sym laid.code.same.classes) ∙ b)))
          entry

pub groups-catch : (v : Linked) → GroupsCatch v
groups-catch v w s place laid class f g reached within_group = groups-catch-here laid class f g reached within_group
