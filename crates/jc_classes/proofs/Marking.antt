-- A climb marks exactly what stands above the number from which it starts.
use Rattle.std.proofs.Common.{◌≡◌, ℕ, zero, suc, ◌+◌, ◌*◌, ◌<◌, ◌≤◌, ◌⊎◌, inl, inr, Bool, true, false, not, cond, List, []}
use Rattle.std.proofs.Common.{◌∷◌, ◌++◌, length, get_or, set, replicate, Some, refl}
use Rattle.std.proofs.Common.{sym, ap, subst, ◌∙◌, arith, length-set, get_or-set_same}
use Rattle.std.proofs.Common.{get_or-set_other, length-append}
use Rattle.std.specs.Prelude.{Contains, slice_get, count_by}
use Rattle.std.proofs.lemmas.Bool.{false≢true, cases_eq}
use Rattle.std.proofs.lemmas.List.{length-replicate}
use Rattle.std.proofs.lemmas.List.Sums.{sum_by-set}
use Rattle.std.proofs.lemmas.List.Elements.{Contains-append_left, Contains-append_right, Contains-append_cases}
use Rattle.std.proofs.lemmas.List.Elements.{Contains-push, Contains-push_cases}
use Rattle.std.proofs.lemmas.Option.{slice_get-get_or}
use Rattle.jc_base.specs.Leads.{Leads, at_once, further}
use Rattle.jc_classes.specs.Marks.{MarkedNumbers, mark, mark_all}
use Rattle.jc_base.proofs.Leading.{Leads-join}

-- a number is marked
abbrev pub IsMarked : MarkedNumbers → ℕ → Type 0
IsMarked s c = get_or s.marked c false ≡ true

-- what is left to do: a number that is not marked is to be marked and then climbed from
abbrev pub work : MarkedNumbers → ℕ
work s = 2 * count_by not s.marked + length s.pending

-- what marking these numbers does
pub record Marked (ds : List ℕ) (s t : MarkedNumbers) : Type 0 where
  pub size : length t.marked ≡ length s.marked
  pub kept : (c : ℕ) → IsMarked s c → IsMarked t c
  pub done : (c : ℕ) → Contains ds c → IsMarked t c
  pub only : (c : ℕ) → IsMarked t c → IsMarked s c ⊎ Contains ds c
  pub waits : (c : ℕ) → Contains s.pending c → Contains t.pending c
  pub taken : (c : ℕ) → IsMarked t c → IsMarked s c ⊎ Contains t.pending c
  pub known : (c : ℕ) → Contains t.pending c → Contains s.pending c ⊎ IsMarked t c
  pub less : work t ≤ work s

contains_none : (c : ℕ) → Contains [] c → ⊥
contains_none c h = omega (arith, h.1)

contains_one : (d c : ℕ) → Contains (d ∷ []) c → d ≡ c
contains_one d c h = elim (Contains-push_cases [] d c h) [ inl none ↦ absurd (contains_none c none) | inr e ↦ e ]

marked_none : (s : MarkedNumbers) → Marked [] s s
marked_none s = record {
  size = refl;
  kept = λ c h. h;
  done = λ c h. absurd (contains_none c h);
  only = λ c h. inl h;
  waits = λ c h. h;
  taken = λ c h. inl h;
  known = λ c h. inl h;
  less = omega arith;
}

-- a number that is marked
marked_before : (s : MarkedNumbers) (d : ℕ) → IsMarked s d → Marked (d ∷ []) s s
marked_before s d m = record {
  size = refl;
  kept = λ c h. h;
  done = λ c h. subst (λ (x : ℕ). IsMarked s x) (contains_one d c h) m;
  only = λ c h. inl h;
  waits = λ c h. h;
  taken = λ c h. inl h;
  known = λ c h. inl h;
  less = omega arith;
}

-- a number that is not marked
abbrev with : MarkedNumbers → ℕ → MarkedNumbers
with s d = record { marked = set s.marked d true; pending = s.pending ++ d ∷ [] }

still : (s : MarkedNumbers) (d c : ℕ) → d < length s.marked → IsMarked s c → IsMarked (with s d) c
still s d c h m = grind (arith, cases_eq, get_or-set_same, get_or-set_other)

fewer : (s : MarkedNumbers) (d : ℕ) → d < length s.marked → get_or s.marked d false ≡ false → work (with s d) ≤ work s
fewer s d h e = grind (arith, not, cond, get_or, sum_by-set, length-append)

here : (s : MarkedNumbers) (d : ℕ) → d < length s.marked → IsMarked (with s d) d
here s d h = get_or-set_same s.marked d true false h

before_or_here : (s : MarkedNumbers) (d c : ℕ) → d < length s.marked → IsMarked (with s d) c → IsMarked s c ⊎ (d ≡ c)
before_or_here s d c h m = grind (arith, cases_eq, get_or-set_other)

marked_now : (s : MarkedNumbers) (d : ℕ) → d < length s.marked → get_or s.marked d false ≡ false → Marked (d ∷ []) s (with s d)
marked_now s d h e = record {
  size = length-set s.marked d true;
  kept = λ c m. still s d c h m;
  done = λ c m. subst (λ (x : ℕ). IsMarked (with s d) x) (contains_one d c m) (here s d h);
  only = λ c m. elim (before_or_here s d c h m) [ inl b ↦ inl b | inr same ↦ inr (subst (λ (x : ℕ). Contains (d ∷ []) x) same (Contains-push [] d)) ];
  waits = λ c m. Contains-append_left s.pending (d ∷ []) c m;
  taken =
      λ c m. elim (before_or_here s d c h m)
      [ inl b ↦ inl b | inr same ↦ inr (subst (λ (x : ℕ). Contains (s.pending ++ d ∷ []) x) same (Contains-push s.pending d)) ];
  known =
      λ c m. elim (Contains-push_cases s.pending d c m)
      [ inl b ↦ inl b | inr same ↦ inr (subst (λ (x : ℕ). IsMarked (with s d) x) same (here s d h)) ];
  less = fewer s d h e;
}

mark-one : (s : MarkedNumbers) (d : ℕ) (b : Bool) → d < length s.marked → get_or s.marked d false ≡ b → Marked (d ∷ []) s (mark s d)
mark-one s d true h e =
    let read : slice_get s.marked d ≡ Some true = slice_get-get_or s.marked d false h ∙ ap Some e in
    rw read (marked_before s d e)
mark-one s d false h e =
    let read : slice_get s.marked d ≡ Some false = slice_get-get_or s.marked d false h ∙ ap Some e in
    rw read (marked_now s d h e)

marked-more : (d : ℕ) (ds : List ℕ) (s t u : MarkedNumbers) → Marked (d ∷ []) s t → Marked ds t u → Marked (d ∷ ds) s u
marked-more d ds s t u g h = record {
  size = h.size ∙ g.size;
  kept = λ c m. h.kept c (g.kept c m);
  done = λ c m. elim (Contains-append_cases (d ∷ []) ds c m) [ inl one ↦ h.kept c (g.done c one) | inr more ↦ h.done c more ];
  only = λ c m. elim (h.only c m) [
    | inl b ↦ elim (g.only c b) [ inl a ↦ inl a | inr one ↦ inr (Contains-append_left (d ∷ []) ds c one) ]
    | inr more ↦ inr (Contains-append_right (d ∷ []) ds c more)
  ];
  waits = λ c m. h.waits c (g.waits c m);
  taken = λ c m. elim (h.taken c m) [
    | inl b ↦ elim (g.taken c b) [ inl a ↦ inl a | inr p ↦ inr (h.waits c p) ]
    | inr p ↦ inr p
  ];
  known = λ c m. elim (h.known c m) [
    | inl p ↦ elim (g.known c p) [ inl a ↦ inl a | inr k ↦ inr (h.kept c k) ]
    | inr k ↦ inr k
  ];
  less = omega (arith, g.less, h.less);
}

head_of : (d : ℕ) (ds : List ℕ) → Contains (d ∷ ds) d
head_of d ds = Contains-append_left (d ∷ []) ds d (Contains-push [] d)

mark-all : (ds : List ℕ) (s : MarkedNumbers) → ((d : ℕ) → Contains ds d → d < length s.marked) → Marked ds s (mark_all s ds)
mark-all [] s inside = marked_none s
mark-all (d ∷ ds) s inside =
    let first = mark-one s d (get_or s.marked d false) (inside d (head_of d ds)) refl in
    let fits : (e : ℕ) → Contains ds e → e < length (mark s d).marked = λ e h. let k = inside e (Contains-append_right (d ∷ []) ds e h) in
    let same = first.size in omega arith in
    marked-more d ds s (mark s d) (mark_all s (d ∷ ds)) first (mark-all ds (mark s d) fits)

-- ---- a climb

-- a climb from a number: what is marked stands above it, and what stands directly above what is marked is marked, or waits
pub record IsClimb (next : ℕ → List ℕ) (n from : ℕ) (s : MarkedNumbers) : Type 0 where
  pub size : length s.marked ≡ n
  pub sound : (d : ℕ) → IsMarked s d → Leads next from d
  pub begun : (d : ℕ) → Contains (next from) d → IsMarked s d
  pub closed : (d : ℕ) → IsMarked s d → Contains s.pending d ⊎ ((e : ℕ) → Contains (next d) e → IsMarked s e)
  pub known : (d : ℕ) → Contains s.pending d → IsMarked s d

abbrev pub blank : ℕ → MarkedNumbers
blank n = record { marked = replicate n false; pending = [] }

not_blank : (n d : ℕ) → IsMarked (blank n) d → ⊥
not_blank zero d h = false≢true h
not_blank (suc n) zero h = false≢true h
not_blank (suc n) (suc d) h = not_blank n d h

pub climb-starts : (next : ℕ → List ℕ) (n from : ℕ) → ((a b : ℕ) → Contains (next a) b → b < n)
    → IsClimb next n from (mark_all (blank n) (next from))
climb-starts next n from inside =
    let size : length (blank n).marked ≡ n = length-replicate n false in
    let g = mark-all (next from) (blank n) (λ d h. let k = inside from d h in omega arith) in
    record {
      size = g.size ∙ size;
      sound = λ d m. elim (g.only d m) [ inl b ↦ absurd (not_blank n d b) | inr h ↦ at_once h ];
      begun = λ d h. g.done d h;
      closed = λ d m. elim (g.taken d m) [ inl b ↦ absurd (not_blank n d b) | inr p ↦ inl p ];
      known = λ d p. elim (g.known d p) [ inl none ↦ absurd (contains_none d none) | inr m ↦ m ];
    }

pub record Goes (next : ℕ → List ℕ) (n from : ℕ) (s t : MarkedNumbers) : Type 0 where
  pub climbs : IsClimb next n from t
  pub falls : work t < work s

-- one step of a climb, by which c no longer waits
pub climb-goes : (next : ℕ → List ℕ) (n from c : ℕ) (s u : MarkedNumbers) → ((a b : ℕ) → Contains (next a) b → b < n) → IsClimb next n from s
    → u.marked ≡ s.marked → s.pending ≡ u.pending ++ c ∷ [] → Goes next n from s (mark_all u (next c))
climb-goes next n from c s u inside is same rest =
    let at : (d : ℕ) → IsMarked s d → IsMarked u d = λ d m. ap (λ ms. get_or ms d false) same ∙ m in
    let back : (d : ℕ) → IsMarked u d → IsMarked s d = λ d m. ap (λ ms. get_or ms d false) (sym same) ∙ m in
    let size : length u.marked ≡ n = ap length same ∙ is.size in
    let g = mark-all (next c) u (λ d h. let k = inside c d h in omega arith) in
    let waited : Contains s.pending c = subst (λ ps. Contains ps c) (sym rest) (Contains-push u.pending c) in
    let counted : work s ≡ work u + 1 = omega (arith, ap length rest, length-append u.pending (c ∷ []), ap (count_by not) same) in
    record {
      climbs = record {
        size = g.size ∙ size;
        sound = λ d m. elim (g.only d m) [ inl b ↦ is.sound d (back d b) | inr h ↦ Leads-join (is.sound c (is.known c waited)) (at_once h) ];
        begun = λ d h. g.kept d (at d (is.begun d h));
        closed = λ d m. elim (g.taken d m) [
          | inr p ↦ inl p
          | inl b ↦ elim (is.closed d (back d b)) [
            | inl p ↦ elim (Contains-push_cases u.pending c d (subst (λ ps. Contains ps d) rest p)) [
              | inl q ↦ inl (g.waits d q)
              | inr e ↦ inr (λ x h. g.done x (subst (λ (y : ℕ). Contains (next y) x) (sym e) h))
            ]
            | inr all ↦ inr (λ x h. g.kept x (at x (all x h)))
          ]
        ];
        known = λ d p. elim (g.known d p) [
          | inl q ↦ g.kept d (at d (is.known d (subst (λ ps. Contains ps d) (sym rest) (Contains-append_left u.pending (c ∷ []) d q))))
          | inr m ↦ m
        ];
      };
      falls = omega (arith, g.less, counted);
    }

follow : (next : ℕ → List ℕ) (n from x d : ℕ) (s : MarkedNumbers) → IsClimb next n from s → s.pending ≡ [] → Leads next x d
    → ((e : ℕ) → Contains (next x) e → IsMarked s e) → IsMarked s d
follow next n from x d s is none (at_once h) all = all d h
follow next n from x d s is none (further {b = b} h rest) all = elim (is.closed b (all b h)) [
  | inl p ↦ absurd (contains_none b (subst (λ ps. Contains ps b) none p))
  | inr more ↦ follow next n from b d s is none rest more
]

-- where nothing waits, what stands above is marked
pub climb-ends : (next : ℕ → List ℕ) (n from d : ℕ) (s : MarkedNumbers) → IsClimb next n from s → s.pending ≡ [] → Leads next from d
    → IsMarked s d
climb-ends next n from d s is none leads = follow next n from from d s is none leads is.begun

-- ---- the steps of the loop

pub climb-begun : (next : ℕ → List ℕ) (n m from : ℕ) (s t : MarkedNumbers) → ((a b : ℕ) → Contains (next a) b → b < n) → m ≡ n
    → t ≡ blank m → s ≡ mark_all t (next from) → IsClimb next n from s
climb-begun next n m from s t inside same start e = grind (arith, climb-starts next n from inside)

pub climb-gone : (next : ℕ → List ℕ) (n from c : ℕ) (s u t : MarkedNumbers) → ((a b : ℕ) → Contains (next a) b → b < n)
    → IsClimb next n from s
    → u.marked ≡ s.marked → s.pending ≡ u.pending ++ c ∷ [] → t ≡ mark_all u (next c) → Goes next n from s t
climb-gone next n from c s u t inside is same rest e = subst (Goes next n from s) (sym e) (climb-goes next n from c s u inside is same rest)
