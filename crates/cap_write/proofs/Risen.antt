-- Parts that are put by rising tag.
use Rattle.std.proofs.Common.{◌≡◌, ◌≤◌, ◌<◌, ◌+◌, ◌⊎◌, inl, inr, ℕ, Bool, true, false, cond, List, [], ◌∷◌, ◌++◌, Option}
use Rattle.std.proofs.Common.{Some, None, refl, sym, subst, ◌∙◌, arith}
use Rattle.std.specs.Prelude.{◌==◌}
use Rattle.std.specs.Option.{option_map}
use Rattle.std.specs.List.{find}
use Rattle.std.proofs.lemmas.Bool.{cases_eq}
use Rattle.std.proofs.lemmas.Bool.Decides.{nat_tests}
use Rattle.std.proofs.lemmas.List.{append-nil}
use Rattle.cap_components.specs.Parts.{Lent, is_of, bytes_of, held}
use Rattle.cap_write.specs.Filed.{IsRising, lents, PutsFile, AreFiled}

held_old : (parts others : List Lent) (tag : ℕ) (file : List ℕ) → held parts tag ≡ Some file → held (parts ++ others) tag ≡ Some file
held_old [] others tag file h = absurd (cc)
held_old (l ∷ ls) others tag file h = by (l.part == tag) h (λ k. held_old ls others tag file k)
  where
    by : (b : Bool) → option_map bytes_of (cond b (Some l) (find (is_of tag) ls)) ≡ Some file
        → (held ls tag ≡ Some file → held (ls ++ others) tag ≡ Some file)
        → option_map bytes_of (cond b (Some l) (find (is_of tag) (ls ++ others))) ≡ Some file
    by true h rest = h
    by false h rest = rest h

held_new : (parts others : List Lent) (tag : ℕ) → held parts tag ≡ None → held (parts ++ others) tag ≡ held others tag
held_new [] others tag h = refl
held_new (l ∷ ls) others tag h = by (l.part == tag) h (λ k. held_new ls others tag k)
  where
    by : (b : Bool) → option_map bytes_of (cond b (Some l) (find (is_of tag) ls)) ≡ None
        → (held ls tag ≡ None → held (ls ++ others) tag ≡ held others tag)
        → option_map bytes_of (cond b (Some l) (find (is_of tag) (ls ++ others))) ≡ held others tag
    by true h rest = absurd (cc)
    by false h rest = rest h

lents_own : (tag : ℕ) (file : Option (List ℕ)) → held (lents tag file) tag ≡ file
lents_own tag None = refl
lents_own tag (Some file) = by (tag == tag) (grind (arith, nat_tests))
  where
    by : (b : Bool) → b ≡ true → option_map bytes_of (cond b (Some (record { part = tag; bytes = file })) None) ≡ Some file
    by true e = refl
    by false e = absurd (cc)

lents_other : (k tag : ℕ) (file : Option (List ℕ)) → (k ≡ tag → ⊥) → held (lents k file) tag ≡ None
lents_other k tag None h = refl
lents_other k tag (Some file) h = by (k == tag) refl
  where
    by : (b : Bool) → (k == tag) ≡ b → option_map bytes_of (cond b (Some (record { part = k; bytes = file })) None) ≡ None
    by true e = absurd (h (grind (arith, nat_tests)))
    by false e = refl

rising_higher : (low high more : ℕ) (parts : List Lent) → high ≤ more → IsRising low parts high → IsRising low parts more
rising_higher low high more [] h r = omega (arith, r)
rising_higher low high more (l ∷ ls) h r = (r.0, rising_higher (l.part + 1) high more ls h r.1)

rising_push : (low high : ℕ) (parts : List Lent) (file : List ℕ) → IsRising low parts high
    → IsRising low (parts ++ record { part = high; bytes = file } ∷ []) (high + 1)
rising_push low high [] file r = (r, omega arith)
rising_push low high (l ∷ ls) file r = (r.0, rising_push (l.part + 1) high ls file r.1)

rising_more : (low high : ℕ) (parts : List Lent) (file : Option (List ℕ)) → IsRising low parts high → IsRising low (parts ++ lents high file) (high + 1)
rising_more low high parts u r = grind (arith, append-nil, rising_higher, rising_push)

-- what a list holds stays where another tag is put
held_kept : (k : ℕ) (parts : List Lent) (file : Option (List ℕ)) (tag : ℕ) → (k ≡ tag → ⊥) → held (parts ++ lents k file) tag ≡ held parts tag
held_kept k parts file tag other = by (held parts tag) refl
  where
    by : (o : Option (List ℕ)) → held parts tag ≡ o → held (parts ++ lents k file) tag ≡ held parts tag
    by None e = held_new parts (lents k file) tag e ∙ lents_other k tag file other ∙ sym e
    by (Some f) e = held_old parts (lents k file) tag f e ∙ sym e

pub filed_more : (Is : ℕ → Option (List ℕ) → Type 0) (k : ℕ) (old new : List Lent) → AreFiled Is k old → PutsFile (Is k) k old new
    → AreFiled Is (k + 1) new
filed_more Is k old new f p = subst (AreFiled Is (k + 1)) (sym p.put) (record {
  each = λ tag lt. by tag lt (cases_eq tag k);
  none = λ tag le. held_kept k old p.file tag (λ e. omega arith) ∙ f.none tag (omega arith);
  rising = rising_more 0 k old p.file f.rising;
})
  where
    by : (tag : ℕ) → tag < k + 1 → (tag ≡ k) ⊎ (tag ≡ k → ⊥) → Is tag (held (old ++ lents k p.file) tag)
    by tag lt (inl e) =
        let own : held (old ++ lents k p.file) k ≡ p.file = held_new old (lents k p.file) k (f.none k (omega arith)) ∙ lents_own k p.file in
        subst (λ t. Is t (held (old ++ lents k p.file) t)) (sym e) (subst (Is k) (sym own) p.is)
    by tag lt (inr other) = subst (Is tag) (sym (held_kept k old p.file tag (λ e. other (sym e)))) (f.each tag (omega (arith, other)))
