-- Marks that a search sets.
use Rattle.std.proofs.Common.{◌≡◌, ℕ, ◌+◌, ◌<◌, ◌⊎◌, inl, inr, ⊎_elim, Bool, true, false, List, [], ◌∷◌, ◌++◌, length, sym, refl, ◌∙◌, subst, arith}
use Rattle.std.specs.Prelude.{All, Contains, slice_index_or, replicate}
use Rattle.std.proofs.Math.ListN.{set, length-set}
use Rattle.std.proofs.lemmas.Bool.{cases_eq, cases_lt, false≢true}
use Rattle.std.proofs.lemmas.List.{get_or-replicate, get_or_past, length-replicate, get_or-set_same, get_or-set_other, length-append}
use Rattle.std.proofs.lemmas.List.Elements.{All-nil, All-cons, All-append, All-weaker, All-contains, Contains-append_left, Contains-append_right}
use Rattle.std.proofs.lemmas.List.Elements.{Contains-push, Contains-push_cases}
use Rattle.std.proofs.lemmas.List.Sums.{sum_by-set}
use Rattle.digraph.specs.Way.{Leads, by_step, by_more}
use Rattle.digraph.specs.Graph.{next, Edge}
use Rattle.digraph.specs.Marks.{IsMarked, unmarked, Marks, IsMet, IsSearch, AreLedTo}
use Rattle.digraph.proofs.Leading.{leads-more}

nothing-in : (v : ℕ) → Contains [] v → ⊥
nothing-in v c = let l : c.0 < 0 = c.1 in omega arith

pub marked-inside : (marks : List Bool) (v : ℕ) → IsMarked marks v → v < length marks
marked-inside marks v h = grind (arith, cases_lt, length, false≢true, get_or_past)

pub marked-none : (n v : ℕ) → IsMarked (replicate n false) v → ⊥
marked-none n v h = grind (arith, cases_lt, false≢true, get_or-replicate, get_or_past, length-replicate)

-- ---- one vertex

pub marks-set : (v : ℕ) (marks : List Bool) (pending : List ℕ) → v < length marks → slice_index_or marks v false ≡ false
    → Marks (v ∷ []) marks pending (set marks v true) (pending ++ v ∷ [])
marks-set v marks pending inside had = record {
  lengths = length-set marks v true;
  as_many = many;
  kept = kept;
  all = All-cons (IsMarked (set marks v true)) v [] here (All-nil (IsMarked (set marks v true)));
  only = only;
  waits = λ u h. Contains-append_left pending (v ∷ []) u h;
  fresh = λ u h. ⊎_elim (λ old. inl old) (λ is. inr (subst (IsMarked (set marks v true)) is here)) (Contains-push_cases pending v u h);
}
  where
    here : IsMarked (set marks v true) v
    here = get_or-set_same marks v true false inside

    kept : (u : ℕ) → IsMarked marks u → IsMarked (set marks v true) u
    kept u h = grind (arith, cases_eq, set, get_or-set_other)

    only : (u : ℕ) → IsMarked (set marks v true) u → IsMarked marks u ⊎ (Contains (v ∷ []) u × Contains (pending ++ v ∷ []) u)
    only u h = elim (cases_eq u v) [
      | inl is ↦ inr (subst (Contains (v ∷ [])) (sym is) (Contains-push [] v), subst (Contains (pending ++ v ∷ [])) (sym is) (Contains-push pending v))
      | inr other ↦ inl (sym (get_or-set_other marks v u true false other) ∙ h)
    ]

    many : length (pending ++ v ∷ []) + unmarked (set marks v true) ≡ length pending + unmarked marks
    many = grind (arith, sum_by-set, length-append)

-- ---- several

pub marks-append :
    (vs us : List ℕ) (m1 m2 m3 : List Bool) (p1 p2 p3 : List ℕ)
    → Marks vs m1 p1 m2 p2 → Marks us m2 p2 m3 p3 → Marks (vs ++ us) m1 p1 m3 p3
marks-append vs us m1 m2 m3 p1 p2 p3 a b = record {
  lengths = b.lengths ∙ a.lengths;
  as_many = b.as_many ∙ a.as_many;
  kept = λ u h. b.kept u (a.kept u h);
  all = All-append (IsMarked m3) vs us (All-weaker (IsMarked m2) (IsMarked m3) b.kept vs a.all) b.all;
  only = λ u h. ⊎_elim
      (λ old. ⊎_elim (λ older. inl older) (λ new. inr (Contains-append_left vs us u new.0, b.waits u new.1)) (a.only u old))
      (λ new. inr (Contains-append_right vs us u new.0, new.1)) (b.only u h);
  waits = λ u h. b.waits u (a.waits u h);
  fresh = λ u h. ⊎_elim (λ old. ⊎_elim (λ older. inl older) (λ marked. inr (b.kept u marked)) (a.fresh u old)) (λ marked. inr marked) (b.fresh u h);
}

-- ---- the search

pub search-goes :
    (g : List (List ℕ)) (from v : ℕ) (marks marked : List Bool) (rest waiting : List ℕ)
    → IsSearch g from marks (rest ++ v ∷ []) → Marks (next g v) marks rest marked waiting → IsSearch g from marked waiting
search-goes g from v marks marked rest waiting s m = record {
  lengths = m.lengths ∙ s.lengths;
  sound = sound;
  met = λ u h. ⊎_elim (λ old. met-kept u (s.met u (Contains-append_left rest (v ∷ []) u old))) (λ now. inr now) (m.fresh u h);
  closed = λ u h. ⊎_elim (λ old. closed u old) (λ now. inl now) (met-cases u h);
}
  where
    met-kept : (u : ℕ) → IsMet from marks u → IsMet from marked u
    met-kept u h = ⊎_elim (λ is. inl is) (λ old. inr (m.kept u old)) h

    met-cases : (u : ℕ) → IsMet from marked u → IsMet from marks u ⊎ Contains waiting u
    met-cases u h = ⊎_elim (λ is. inl (inl is)) (λ now. ⊎_elim (λ old. inl (inr old)) (λ new. inr new.1) (m.only u now)) h

    from-v : (u : ℕ) → Edge g v u → Leads (Edge g) from u
    from-v u e = ⊎_elim
        (λ is. by_step (subst (λ x. Edge g x u) (sym is) e))
        (λ old. leads-more (s.sound v old) e) (s.met v (Contains-push rest v))

    sound : (u : ℕ) → IsMarked marked u → Leads (Edge g) from u
    sound u h = ⊎_elim (λ old. s.sound u old) (λ new. from-v u new.0) (m.only u h)

    closed : (u : ℕ) → IsMet from marks u → Contains waiting u ⊎ All (IsMarked marked) (next g u)
    closed u h = ⊎_elim
        (λ waits. ⊎_elim (λ old. inl (m.waits u old)) (λ is. inr (subst (λ x. All (IsMarked marked) (next g x)) is m.all)) (Contains-push_cases rest v u waits))
        (λ all. inr (All-weaker (IsMarked marks) (IsMarked marked) m.kept (next g u) all)) (s.closed u h)

pub search-ends : (g : List (List ℕ)) (from : ℕ) (marks : List Bool) → IsSearch g from marks [] → AreLedTo g from marks
search-ends g from marks s = record { lengths = s.lengths; sound = s.sound; complete = λ v h. on from v (inl refl) h }
  where
    all : (u : ℕ) → IsMet from marks u → All (IsMarked marks) (next g u)
    all u h = ⊎_elim (λ waits. absurd (nothing-in u waits)) (λ all. all) (s.closed u h)

    on : (a v : ℕ) → IsMet from marks a → Leads (Edge g) a v → IsMarked marks v
    on a v h (by_step e) = All-contains (IsMarked marks) (next g a) v (all a h) e
    on a v h (by_more {b = b} e more) = on b v (inr (All-contains (IsMarked marks) (next g a) b (all a h) e)) more

-- what waits is a vertex of the graph
pub waiting-inside : (g : List (List ℕ)) (from v : ℕ) (marks : List Bool) (pending rest : List ℕ) → IsSearch g from marks pending → pending ≡ rest ++ v ∷ []
    → from < length g → v < length g
waiting-inside g from v marks pending rest s e inside =
    ⊎_elim (λ is. subst (λ x. x < length g) is inside) (λ marked. let l = marked-inside marks v marked in omega (arith, s.lengths))
    (s.met v (subst (λ vs. Contains vs v) (sym e) (Contains-push rest v)))
