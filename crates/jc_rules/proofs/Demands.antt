-- Lemmas on lists of demands, met one after another.
use Rattle.std.proofs.Common.{◌≡◌, ℕ, ◌+◌, ◌<◌, List, [], ◌∷◌, ◌++◌, ◌-◌, reverse, zero, suc, ◌≤◌, length}
use Rattle.std.proofs.Common.{get_or, drop, subst, sym, arith, Result, Ok, Err, MatchResult}
use Rattle.std.proofs.lemmas.List.{drop_more, drop_all, length-reverse, get_or-reverse}
use Rattle.jc_base.specs.declared.ty.Ty.{Ty}
use Rattle.jc_base.specs.Class.{ClassTable}
use Rattle.jc_ops.specs.declared.fault.RuleFault.{RuleFault}
use Rattle.jc_rules.specs.declared.demand.Demand.{Demand}
use Rattle.jc_rules.specs.declared.demand.Demand.TheVariants.{Cell}
use Rattle.jc_ops.specs.declared.operation.Want.TheVariants.{Value}
use Rattle.jc_rules.specs.Rule.{cells_wanted}
use Rattle.jc_rules.specs.Demand.{Frame, Satisfies, SatisfiesAll, IsFirstUnmet, here, later, demand_fault, IsKnownDemand, AreKnownDemands}

-- what breaks the rest of the demands breaks them all
abbrev pub Carries : ClassTable → Frame → List Demand → ℕ → Type 0
Carries t f ds i = (fault : RuleFault) → IsFirstUnmet t f (drop i ds) fault → IsFirstUnmet t f ds fault

-- where the rest of the demands is met all are
abbrev pub CarriesAll : ClassTable → Frame → List Demand → ℕ → Type 0
CarriesAll t f ds i = SatisfiesAll t f (drop i ds) → SatisfiesAll t f ds

module _ (t : ClassTable) (f : Frame) (ds : List Demand) (i : ℕ) (d : Demand) (inside : i < length ds) where
  pub IsFirstUnmet-at : (fault : RuleFault) → Carries t f ds i → (¬ (Satisfies t f (get_or ds i d))) × (fault ≡ demand_fault t f (get_or ds i d))
      → IsFirstUnmet t f ds fault
  IsFirstUnmet-at fault carries b = carries fault (subst (λ es. IsFirstUnmet t f es fault) (sym (drop_more ds i d inside)) (here b.0 b.1))

  pub Carries-more : Carries t f ds i → Satisfies t f (get_or ds i d) → Carries t f ds (i + 1)
  Carries-more carries holds fault b = carries fault (subst (λ es. IsFirstUnmet t f es fault) (sym (drop_more ds i d inside)) (later holds b))

  pub CarriesAll-more : CarriesAll t f ds i → Satisfies t f (get_or ds i d) → CarriesAll t f ds (i + 1)
  CarriesAll-more carries holds all = carries (subst (SatisfiesAll t f) (sym (drop_more ds i d inside)) (holds, all))

pub CarriesAll-end : (t : ClassTable) (f : Frame) (ds : List Demand) (i : ℕ) → length ds ≤ i → CarriesAll t f ds i → SatisfiesAll t f ds
CarriesAll-end t f ds i h carries = carries (subst (SatisfiesAll t f) (sym (drop_all i ds h)) tt)

pub Known-at : (t : ClassTable) (ds : List Demand) (i : ℕ) (d : Demand) → i < length ds → AreKnownDemands t ds → IsKnownDemand t (get_or ds i d)
Known-at t [] i d h known = absurd (omega arith)
Known-at t (e ∷ ds) zero d h known = known.0
Known-at t (e ∷ ds) (suc i) d h known = Known-at t ds i d (omega arith) known.1

-- a demand that is met goes before others
pub judged-later : (t : ClassTable) (f : Frame) (d : Demand) (ds : List Demand) (r : Result (Unit {0}) RuleFault) → Satisfies t f d
    → MatchResult r (λ _. SatisfiesAll t f ds) (IsFirstUnmet t f ds) → MatchResult r (λ _. SatisfiesAll t f (d ∷ ds)) (IsFirstUnmet t f (d ∷ ds))
judged-later t f d ds (Ok u) h all = (h, all)
judged-later t f d ds (Err fault) h b = later h b

-- demands one after another
pub SatisfiesAll-append : (t : ClassTable) (f : Frame) (ds es : List Demand) → SatisfiesAll t f ds → SatisfiesAll t f es → SatisfiesAll t f (ds ++ es)
SatisfiesAll-append t f [] es h k = k
SatisfiesAll-append t f (d ∷ ds) es h k = (h.0, SatisfiesAll-append t f ds es h.1 k)

pub IsFirstUnmet-front : (t : ClassTable) (f : Frame) (ds es : List Demand) (fault : RuleFault) → IsFirstUnmet t f ds fault
    → IsFirstUnmet t f (ds ++ es) fault
IsFirstUnmet-front t f [] es fault b = elim b [ ]
IsFirstUnmet-front t f (d ∷ ds) es fault (here no_d is) = here no_d is
IsFirstUnmet-front t f (d ∷ ds) es fault (later h b) = later h (IsFirstUnmet-front t f ds es fault b)

pub IsFirstUnmet-farther : (t : ClassTable) (f : Frame) (ds es : List Demand) (fault : RuleFault) → SatisfiesAll t f ds → IsFirstUnmet t f es fault
    → IsFirstUnmet t f (ds ++ es) fault
IsFirstUnmet-farther t f [] es fault h b = b
IsFirstUnmet-farther t f (d ∷ ds) es fault h b = later h.0 (IsFirstUnmet-farther t f ds es fault h.1 b)

pub judged-farther : (t : ClassTable) (f : Frame) (ds es : List Demand) (r : Result (Unit {0}) RuleFault) → SatisfiesAll t f ds
    → MatchResult r (λ _. SatisfiesAll t f es) (IsFirstUnmet t f es) → MatchResult r (λ _. SatisfiesAll t f (ds ++ es)) (IsFirstUnmet t f (ds ++ es))
judged-farther t f ds es (Ok u) h k = SatisfiesAll-append t f ds es h k
judged-farther t f ds es (Err fault) h b = IsFirstUnmet-farther t f ds es fault h b

-- the cells of arguments, of which the first n are met
pub record Wanted (t : ClassTable) (f : Frame) (tys : List Ty) (n : ℕ) : Type 0 where
  pub all : SatisfiesAll t f (cells_wanted n (drop n tys)) → SatisfiesAll t f (cells_wanted 0 tys)
  pub breaks : (fault : RuleFault) → IsFirstUnmet t f (cells_wanted n (drop n tys)) fault → IsFirstUnmet t f (cells_wanted 0 tys) fault

module _ (t : ClassTable) (f : Frame) (args : List Ty) (n : ℕ) (d : Ty) (inside : n < length args) where
  wanted-step : cells_wanted n (drop n (reverse args)) ≡ Cell n (Value (get_or args (length args - 1 - n) d)) ∷ cells_wanted (n + 1)
      (drop (n + 1) (reverse args))
  wanted-step = grind (arith, drop_more, reverse, length-reverse, get_or-reverse)

  pub Wanted-breaks : (fault : RuleFault) → Wanted t f (reverse args) n → (¬ (Satisfies t f (Cell n (Value (get_or args (length args - 1 - n) d)))))
      × (fault ≡ demand_fault t f (Cell n (Value (get_or args (length args - 1 - n) d)))) → IsFirstUnmet t f (cells_wanted 0 (reverse args)) fault
  Wanted-breaks fault w b = w.breaks fault (subst (λ es. IsFirstUnmet t f es fault) (sym wanted-step) (here b.0 b.1))

  pub Wanted-more : Wanted t f (reverse args) n → Satisfies t f (Cell n (Value (get_or args (length args - 1 - n) d))) → Wanted t f (reverse args) (n + 1)
  Wanted-more w h = record {
    all = λ k. w.all (subst (SatisfiesAll t f) (sym wanted-step) (h, k));
    breaks = λ fault b. w.breaks fault (subst (λ es. IsFirstUnmet t f es fault) (sym wanted-step) (later h b));
  }

pub SatisfiesAll-front : (t : ClassTable) (f : Frame) (ds es : List Demand) → SatisfiesAll t f (ds ++ es) → SatisfiesAll t f ds
SatisfiesAll-front t f [] es h = tt
SatisfiesAll-front t f (d ∷ ds) es h = (h.0, SatisfiesAll-front t f ds es h.1)

pub SatisfiesAll-rest : (t : ClassTable) (f : Frame) (ds es : List Demand) → SatisfiesAll t f (ds ++ es) → SatisfiesAll t f es
SatisfiesAll-rest t f [] es h = h
SatisfiesAll-rest t f (d ∷ ds) es h = SatisfiesAll-rest t f ds es h.1
