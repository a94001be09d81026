-- An entry whose value is put back is as it was.
use Rattle.std.proofs.Common.{◌≡◌, ℕ, Bool, true, false, cond, List, [], ◌∷◌, Some, None, refl, sym, ap}
use Rattle.indexmap.specs.IndexMap.{insert_entry}
use Rattle.jc_resolve.specs.declared.fault.RecordPlace.{RecordPlace}
use Rattle.jc_resolve.specs.Numbering.{same_place}
use Rattle.jc_resolve.specs.Numbers.{number_by_place, added_entry}

put_back : (place : RecordPlace) (n m : ℕ) (es : List (RecordPlace × ℕ)) → number_by_place es place ≡ Some m
    → insert_entry same_place (insert_entry same_place es place n) place m ≡ es
put_back place n m [] e = absurd cc
put_back place n m (x ∷ es) e = by (λ found. put_back place n m es found) (same_place place x.0) refl e
  where
    by : (number_by_place es place ≡ Some m → insert_entry same_place (insert_entry same_place es place n) place m ≡ es) → (b : Bool)
        → same_place place x.0 ≡ b → cond b (Some x.1) (number_by_place es place) ≡ Some m
        → insert_entry same_place (cond b ((x.0, n) ∷ es) (x ∷ insert_entry same_place es place n)) place m ≡ x ∷ es
    by later true h found = let same : x.1 ≡ m = cc in rw h (ap (λ k. (x.0, k) ∷ es) (sym same))
    by later false h found = rw h (ap (λ l. x ∷ l) (later found))

pub restored : (es : List (RecordPlace × ℕ)) (place : RecordPlace) (n m : ℕ) → number_by_place es place ≡ Some m
    → insert_entry same_place (insert_entry same_place es place n) place m ≡ added_entry es place n
unfolding added_entry
restored es place n m e = rw e (put_back place n m es e)

pub newly-entered : (es : List (RecordPlace × ℕ)) (place : RecordPlace) (n : ℕ) → number_by_place es place ≡ None
    → insert_entry same_place es place n ≡ added_entry es place n
unfolding added_entry
newly-entered es place n e = rw e refl

pub ruleset restoring = (restored, newly-entered)
