-- Where the groups of a rewritten method stand.
use Rattle.std.proofs.Common.{◌≡◌, ◌⊎◌, ℕ, suc, ◌+◌, ◌≤◌, Bool, true, false, if◌then◌else◌, inl, inr, List, [], ◌∷◌}
use Rattle.std.proofs.Common.{◌++◌, flat_map, length, All, Contains, Option, Some, None, refl, sym, ◌∙◌, ap, subst, arith, append_assoc}
use Rattle.std.specs.Prelude.{is_some}
use Rattle.std.proofs.lemmas.List.Concat.{flat_map-append, flat_map-cons}
use Rattle.std.proofs.lemmas.Bool.{ne_eqb}
use Rattle.jc_base.specs.Each.{Each}
use Rattle.jc_base.proofs.Eaching.{All-from_Each}
use Rattle.jc_decode.specs.declared.insn.Placed.{Placed}
use Rattle.jc_decode.specs.declared.symbols.Item.{Item}
use Rattle.jc_decode.specs.declared.symbols.Item.TheVariants.{Plain, Branch, Switch, Label}
use Rattle.jc_decode.specs.Decoding.{IsWithin}
use Rattle.jc_decode.specs.Listing.{listing, Lists}
use Rattle.jc_decode.specs.Symbols.{place_of, is_label}
use Rattle.jc_decode.proofs.Decoded.{IsWithin-decoded}
use Rattle.jc_decode.proofs.Labels.{label-between}
use Rattle.jc_control.specs.WellFormed.{HasInstruction}
use Rattle.jc_decode.proofs.Elements.{nothing-in, Contains-either}
use Rattle.jc_rules.specs.Demand.{Frame}
use Rattle.xf_homes.specs.Source.{Source}
use Rattle.xf_homes.specs.Plan.{stack_homes, is_leader, operation}
use Rattle.xf_emission.specs.declared.origin.Origin.TheVariants.{Start}
use Rattle.xf_emission.specs.Move.{loads}
use Rattle.xf_emission.specs.Edge.{copies}
use Rattle.xf_emission.specs.Group.{done, group_by, group}
use Rattle.xf_emission.specs.Emission.{stubs, catching_stubs, items}
use Rattle.xf_emission.specs.Laws.{IsCode, GroupStands, GroupsStand}
use Rattle.xf_emission.proofs.Labels.{labels, labels-append, copies-none, group-label}
use Rattle.xf_emission.proofs.Rises.{Rises, rises-append}

-- ---- lists

pub record Parts {X : Type 0} (xs : List X) (x : X) : Type 0 where
  pub before : List X
  pub after : List X
  pub parts : xs ≡ before ++ x ∷ after

pub split : {X : Type 0} (xs : List X) (x : X) → Contains xs x → Parts xs x
split [] x c = absurd (nothing-in x c)
split (y ∷ ys) x c = by (Contains-either y ys x c) (split ys x)
  where
    by : (y ≡ x) ⊎ Contains ys x → (Contains ys x → Parts ys x) → Parts (y ∷ ys) x
    by (inl e) rest = record { before = []; after = ys; parts = ap (λ z. z ∷ ys) e }
    by (inr r) rest = let t = rest r in record { before = y ∷ t.before; after = t.after; parts = ap (λ zs. y ∷ zs) t.parts }

-- ---- labels before a place

pub none-named : (low high l : ℕ) (xs : List Item) → high ≤ l → Rises low high (labels xs) → Each (λ x. is_label l x ≡ false) xs
none-named low high l [] le r = tt
none-named low high l (Label m ∷ xs) le r = (ne_eqb m l (λ e. omega (arith, e, r.1, le)), none-named (suc m) high l xs le r.2)
none-named low high l (Plain i ∷ xs) le r = (refl, none-named low high l xs le r)
none-named low high l (Branch op m ∷ xs) le r = (refl, none-named low high l xs le r)
none-named low high l (Switch i at ls ∷ xs) le r = (refl, none-named low high l xs le r)

module _ (s : Source) where
  group-rises : (at : ℕ) (i : Placed) → i.place ≡ at → IsWithin s.method.code at i.insn → Rises at (at + i.insn.len) (labels (group s i))
  group-rises at i e w = subst (Rises at (at + i.insn.len)) (sym (group-label s i)) (by (is_some (s.frames i.place)))
    where
      by : (b : Bool) → Rises at (at + i.insn.len) (if b then i.place ∷ [] else [])
      by true = (omega (arith, e), omega (arith, e, w.one), omega (arith, e, w.one))
      by false = omega arith

  earlier-rise : (at : ℕ) (earlier : List Placed) (i : Placed) (later : List Placed) → Lists s.method.code at (earlier ++ i ∷ later)
      → Rises at i.place (labels (flat_map (group s) earlier))
  earlier-rise at [] i later l = omega (arith, l.0)
  earlier-rise at (j ∷ js) i later l =
      let inside = IsWithin-decoded s.method.code at j.insn l.1 in
      subst (Rises at i.place) (sym (labels-append (group s j) (flat_map (group s) js)))
      (rises-append at (at + j.insn.len) i.place _ _ (group-rises at j l.0 inside) (earlier-rise (at + j.insn.len) js i later l.2))

  abbrev tail : Placed → List Item
  tail i = (if is_leader s i.place then loads s (stack_homes s i.place) else []) ++ done s i (operation s i)

  group-head : (i : Placed) → is_some (s.frames i.place) ≡ true → group s i ≡ Label i.place ∷ tail i
  unfolding group
  group-head i reached = by (s.frames i.place) reached
    where
      by : (f : Option Frame) → is_some f ≡ true → group_by s i f ≡ Label i.place ∷ tail i
      by None e = absurd (cc)
      by (Some f) e = refl

  -- all items after the groups
  abbrev ending : List Item
  ending = Label (length s.method.code) ∷ flat_map (stubs s) (listing s.method.code) ++ catching_stubs s 0 s.method.rec.handlers

  items-are : (earlier : List Placed) (i : Placed) (later : List Placed) → listing s.method.code ≡ earlier ++ i ∷ later
      → items s ≡ (copies s Start 0 ++ flat_map (group s) earlier) ++ (group s i ++ (flat_map (group s) later ++ ending))
  unfolding items
  items-are earlier i later e = grind (arith, flat_map, flat_map-append, flat_map-cons, append_assoc)

  stands : IsCode s → (i : Placed) → HasInstruction s.method.code i → is_some (s.frames i.place) ≡ true → GroupStands s i
  stands code i st reached =
      let p = split (listing s.method.code) i st in
      let before = copies s Start 0 ++ flat_map (group s) p.before in
      let rest = flat_map (group s) p.after ++ ending in
      let are = items-are p.before i p.after p.parts in
      let rise : Rises 0 i.place (labels before) =
      subst (Rises 0 i.place)
      (sym (labels-append (copies s Start 0) (flat_map (group s) p.before) ∙ ap (λ ls. ls ++ labels (flat_map (group s) p.before))
      (copies-none s Start 0)))
      (earlier-rise 0 p.before i p.after (subst (Lists s.method.code 0) p.parts code.lists)) in
      let none : All (λ x. is_label i.place x ≡ false) before = All-from_Each (λ x. is_label i.place x ≡ false) before
      (none-named 0 i.place i.place before (omega arith) rise) in
      record {
        earlier = p.before;
        later = p.after;
        listed = p.parts;
        before = before;
        after = ending;
        parts = are;
        at = ap (place_of i.place) (are ∙ ap (λ xs. before ++ (xs ++ rest)) (group-head i reached)) ∙ label-between before (tail i ++ rest) i.place none;
      }

pub groups-stand : GroupsStand
groups-stand s code i st reached = stands s code i st reached
