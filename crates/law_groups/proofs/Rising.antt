-- Groups follow one another, and no two places of reached instructions are laid as one.
use Rattle.std.proofs.Common.{◌≡◌, ℕ, zero, suc, ◌+◌, ◌<◌, ◌≤◌, true, List, []}
use Rattle.std.proofs.Common.{◌∷◌, ◌++◌, flat_map, length, sym, ap, ◌∙◌, subst, arith, append_assoc}
use Rattle.std.specs.Prelude.{Some, is_some, slice_get}
use Rattle.std.proofs.lemmas.List.Concat.{flat_map-append, flat_map-cons}
use Rattle.std.proofs.lemmas.Option.{slice_get_within}
use Rattle.jc_decode.specs.declared.insn.Placed.{Placed}
use Rattle.jc_decode.specs.declared.symbols.Item.TheVariants.{Label}
use Rattle.jc_decode.specs.Listing.{listing}
use Rattle.jc_decode.specs.Symbols.{IsOnce, place_of}
use Rattle.jc_decode.proofs.InstructionLists.{all-are-listed}
use Rattle.jc_control.specs.WellFormed.{HasInstruction}
use Rattle.xf_homes.specs.Source.{Source}
use Rattle.xf_emission.specs.Emission.{items}
use Rattle.xf_emission.specs.Group.{group}
use Rattle.xf_emission.specs.Laws.{GroupStands, IsCode, of_place}
use Rattle.xf_emission.proofs.GroupPlaces.{groups-stand}
use Rattle.xf_emission.proofs.Once.{labels-stand-once}
use Rattle.law_laid.proofs.Steps.{at-contains}
use Rattle.law_groups.specs.Laid.{count_of, group_at}
use Rattle.law_groups.proofs.Placing.{count-append, place-once}
use Rattle.jc_base.proofs.Lists.{slice_get-farther}
use Rattle.law_rewritten_typing.proofs.Ordered.{group-head}

-- ---- where an instruction stands in a listing

pub record Split (i : Placed) (ps : List Placed) : Type 0 where
  pub before : List Placed
  pub after : List Placed
  pub parts : ps ≡ before ++ i ∷ after

split-at : (ps : List Placed) (k : ℕ) (i : Placed) → slice_get ps k ≡ Some i → Split i ps
split-at [] k i e = absurd (let lt = slice_get_within [] k i e in omega (arith, lt))
split-at (p ∷ ps) zero i e = let same : p ≡ i = cc in record { before = []; after = ps; parts = ap (λ q. q ∷ ps) same }
split-at (p ∷ ps) (suc k) i e =
    let rest = split-at ps k i e in
    record { before = p ∷ rest.before; after = rest.after; parts = ap (λ qs. p ∷ qs) rest.parts }

-- a place in two lists one after the other is in the one or in the other
pub data InParts (before after : List Placed) (k : ℕ) (x : Placed) : Type 0 where
  in_first : slice_get before k ≡ Some x → InParts before after k x
  in_second : (n : ℕ) → slice_get after n ≡ Some x → k ≡ length before + n → InParts before after k x

in-parts : (before after : List Placed) (k : ℕ) (x : Placed) → slice_get (before ++ after) k ≡ Some x → InParts before after k x
in-parts [] after k x e = in_second k e (omega arith)
in-parts (b ∷ before) after zero x e = in_first e
in-parts (b ∷ before) after (suc k) x e = by (in-parts before after k x e)
  where
    by : InParts before after k x → InParts (b ∷ before) after (suc k) x
    by (in_first h) = in_first h
    by (in_second n h at) = in_second n h (omega (arith, at))

-- ---- groups

module _ (s : Source) (code : IsCode s) where
  -- the group of a later reached instruction comes after that of an earlier one
  pub groups-rise :
      (i j : Placed)
      → HasInstruction s.method.code i
      → is_some (s.frames i.place) ≡ true
      → HasInstruction s.method.code j
      → is_some (s.frames j.place) ≡ true
      → i.place < j.place
      → group_at s i.place + count_of (group s i) ≤ group_at s j.place
  groups-rise i j stands reached next also lt =
      by (in-parts g.earlier (i ∷ g.later) next.0 j (ap (λ ps. slice_get ps next.0) (sym g.listed) ∙ at-contains (listing s.method.code) j next))
    where
      g : GroupStands s i
      g = groups-stand s code i stands reached

      -- its number in the listing
      own : slice_get (listing s.method.code) (length g.earlier) ≡ Some i
      own = ap (λ ps. slice_get ps (length g.earlier)) g.listed ∙ slice_get-farther g.earlier (i ∷ g.later) 0 (length g.earlier) (omega arith)

      after-it :
          (n : ℕ)
          → slice_get g.later n ≡ Some j
          → group_at s i.place + count_of (group s i) ≤ group_at s j.place
      after-it n h =
          let l = split-at g.later n j h in
          let b = group-head s j also in
          let before = g.before ++ (group s i ++ flat_map (group s) l.before) in
          let rest = b.0 ++ (flat_map (group s) l.after ++ g.after) in
          let tail : flat_map (group s) g.later ++ g.after ≡ flat_map (group s) l.before ++ (Label j.place ∷ rest) =
          ap (λ ps. flat_map (group s) ps ++ g.after) l.parts
          ∙ (ap (λ xs. xs ++ g.after) (flat_map-append (group s) l.before (j ∷ l.after))
          ∙ (append_assoc (flat_map (group s) l.before) (flat_map (group s) (j ∷ l.after)) g.after
          ∙ ap (λ xs. flat_map (group s) l.before ++ xs)
          (ap (λ xs. xs ++ g.after) (flat_map-cons (group s) j l.after)
          ∙ (append_assoc (group s j) (flat_map (group s) l.after) g.after
          ∙ ap (λ xs. xs ++ (flat_map (group s) l.after ++ g.after)) b.1)))) in
          let parts : items s ≡ before ++ (Label j.place ∷ rest) =
          g.parts
          ∙ (ap (λ xs. g.before ++ (group s i ++ xs)) tail
          ∙ (ap (λ xs. g.before ++ xs) (sym (append_assoc (group s i) (flat_map (group s) l.before) (Label j.place ∷ rest)))
          ∙ sym (append_assoc g.before (group s i ++ flat_map (group s) l.before) (Label j.place ∷ rest)))) in
          let one : IsOnce (before ++ (Label j.place ∷ rest)) j.place =
          subst (λ xs. IsOnce xs j.place) parts (labels-stand-once s code j.place (of_place next also)) in
          let at : group_at s j.place ≡ count_of before = ap (place_of j.place) parts ∙ place-once j.place before rest one in
          let two = count-append g.before (group s i ++ flat_map (group s) l.before) in
          let three = count-append (group s i) (flat_map (group s) l.before) in
          let here = g.at in
          omega (arith, at, two, three, here)

      by : InParts g.earlier (i ∷ g.later) next.0 j → group_at s i.place + count_of (group s i) ≤ group_at s j.place
      by (in_first h) =
          let sooner : next.0 < length g.earlier = slice_get_within g.earlier next.0 j h in
          let back = (all-are-listed s.method.code).rising next.0 (length g.earlier) j i (at-contains (listing s.method.code) j next) own sooner in
          absurd (omega (arith, back, lt))
      by (in_second zero h at) = grind (arith)
      by (in_second (suc n) h at) = after-it n h
