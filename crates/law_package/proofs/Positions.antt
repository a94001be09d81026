-- An offset that named a method names the one at the same position when it is renewed.
use Rattle.std.proofs.Common.{◌≡◌, ℕ, zero, suc, List, [], ◌∷◌, map, find, slice_get}
use Rattle.std.proofs.Common.{cond, Option, Some, inl, inr, refl, sym, ap, ◌∙◌, arith}
use Rattle.std.proofs.lemmas.Bool.{ne_eqb, eq-eqb}
use Rattle.cap_desc.specs.DescriptorFormat.{MethodDescriptor}
use Rattle.cap_components.specs.Parts.{Lent}
use Rattle.cap_components.specs.PackageRecord.{PackageRecord}
use Rattle.cap_package.specs.StandsFor.{StandsFor}
use Rattle.jc_decode.specs.declared.symbols.Laid.{Laid}
use Rattle.law_package.specs.Changes.{Change, changes, stood_at, offset_by, now_at}
use Rattle.law_package.specs.Rewritten.{IsRewritten}
use Rattle.law_package.specs.Naming.{Names}
use Rattle.law_package.proofs.Lists.{Has, each_at}
use Rattle.law_package.proofs.Owners.{Distinct}
use Rattle.cap_package.proofs.Agreed.{agrees}
use Rattle.law_package.proofs.Zipped.{now_of, old_of}
use Rattle.law_package.proofs.Facts.{news, olds}
use Rattle.law_package.proofs.Standing.{offset_of, apart}

has_get : (cs : List Change) (k : ℕ) (c : Change) → slice_get cs k ≡ Some c → Has cs c
has_get [] k c e = absurd cc
has_get (x ∷ cs) zero c e = let s : c ≡ x = cc in inl s
has_get (x ∷ cs) (suc k) c e = inr (has_get cs k c e)

find_at : (cs : List Change) (k : ℕ) (c : Change) → slice_get cs k ≡ Some c → Distinct offset_of cs → find (stood_at (offset_of c)) cs ≡ Some c
find_at [] k c e d = absurd cc
find_at (x ∷ cs) zero c e d = grind (arith, cond, find, eq-eqb)
find_at (x ∷ cs) (suc k) c e d =
    grind (arith, has_get cs k c e, find (stood_at (offset_of c)) cs, find_at cs k c e d.1, each_at, cond, ne_eqb)

pub record IsAt (cs : List Change) (k : ℕ) (m : MethodDescriptor) : Type 0 where
  pub change : Change
  pub there : slice_get cs k ≡ Some change
  pub is : change.source.method ≡ m

get_old : (cs : List Change) (k : ℕ) (m : MethodDescriptor) → slice_get (map old_of cs) k ≡ Some m → IsAt cs k m
get_old [] k m e = absurd cc
get_old (c ∷ cs) zero m e = let s : c.source.method ≡ m = cc in record { change = c; there = refl; is = s }
get_old (c ∷ cs) (suc k) m e = let r = get_old cs k m e in record { change = r.change; there = r.there; is = r.is }

get_now : (cs : List Change) (k : ℕ) (c : Change) → slice_get cs k ≡ Some c → slice_get (map now_of cs) k ≡ Some c.now
get_now [] k c e = absurd cc
get_now (x ∷ cs) zero c e = let s : x ≡ c = cc in ap (λ (y : Change). Some y.now) s
get_now (x ∷ cs) (suc k) c e = get_now cs k c e

pub names_stay : (parts : List Lent) (p q : PackageRecord) (laid : List (Option Laid)) → StandsFor parts p → IsRewritten p laid q
    → (offset position : ℕ) → Names p offset position → Names q (now_at (changes p laid q) offset) position
unfolding now_at
names_stay parts p q laid s r offset position n =
    let cs = changes p laid q in
    let i = get_old cs position n.method (ap (λ ms. slice_get ms position) (olds p q laid r) ∙ n.there) in
    let at : offset_of i.change ≡ offset = ap (λ (m : MethodDescriptor). m.method_offset) i.is ∙ n.stands in
    let found = find_at cs position i.change i.there (apart parts p q laid (agrees parts p s.agree) r) in
    record {
      method = i.change.now;
      there = ap (λ ms. slice_get ms position) (sym (news p q laid r)) ∙ get_now cs position i.change i.there;
      stands = sym (ap (λ o. offset_by offset (find (stood_at o) cs)) (sym at) ∙ ap (offset_by offset) found);
    }
