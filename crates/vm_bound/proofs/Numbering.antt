-- Numbers of vertices, as their meanings are met.
use Rattle.std.proofs.Common.{◌≡◌, ℕ, ◌+◌, ◌-◌, ◌^◌, ◌<◌, ◌≤◌, inl, inr, ⊎_elim, List, [], ◌∷◌, ◌++◌, length, refl, sym, ap, ◌∙◌}
use Rattle.std.proofs.Common.{subst, arith}
use Rattle.std.specs.Prelude.{Some, None, All, Contains, slice_get, slice_index_or}
use Rattle.std.proofs.lemmas.Bool.{cases_lt}
use Rattle.std.proofs.lemmas.Option.{same_Some, none-some, slice_get_within}
use Rattle.std.proofs.lemmas.List.{get_or_append_left, get_or_push, length-append}
use Rattle.std.proofs.lemmas.List.Elements.{All-from_get_or, Contains-get_or, Contains-append_left, Contains-push, Contains-push_cases}
use Rattle.jc_base.specs.World.{Linked, IsWorld}
use Rattle.jc_base.proofs.Lists.{slice_get-some}
use Rattle.digraph.specs.Graph.{next, IsGraph}
use Rattle.vm_bound.specs.declared.spread.Spread.{Spread}
use Rattle.vm_bound.specs.declared.graph.Meaning.{Meaning}
use Rattle.vm_bound.specs.declared.graph.Vertex.{Vertex}
use Rattle.vm_bound.specs.declared.graph.Vertex.TheVariants.{Method, Means}
use Rattle.vm_bound.specs.Vertices.{Stands, Extends, IsFitBelow}
use Rattle.vm_bound.specs.Edges.{Leads}
use Rattle.vm_bound.specs.Rows.{AreTargets, HasVertex, HasNumber, AreNumbers, AreRows}

-- ---- more meanings

pub extends-on : (a b c : List Meaning) → Extends a b → Extends b c → Extends a c
extends-on a b c first second = λ k m e. second k m (first k m e)

pub stands-on : (methods : ℕ) (old new : List Meaning) (v : Vertex) (u : ℕ) → Extends old new → Stands methods old v u → Stands methods new v u
stands-on methods old new u u2 more stands = grind (arith)

-- a vertex with the number of an early meaning was there
pub stands-before : (methods : ℕ) (old new : List Meaning) (v : Vertex) (u : ℕ) → Extends old new → u < methods + length old
    → Stands methods new v u → Stands methods old v u
stands-before methods old new (Method n) u more low stands = stands
stands-before methods old new (Means m) u more low stands =
    let l = stands.0 in
    let inside : u - methods < length old = omega (arith, l, low) in
    let was = slice_get-some old (u - methods) inside in
    let same : was.0 ≡ m = same_Some was.0 m (sym (more (u - methods) was.0 was.1) ∙ stands.1) in
    (l, was.1 ∙ ap Some same)

pub stands-inside : (methods : ℕ) (ms : List Meaning) (v : Vertex) (u : ℕ) → Stands methods ms v u → u < methods + length ms
stands-inside methods ms z u stands = grind (arith, slice_get_within)

pub method-there : (methods : ℕ) (ms : List Meaning) (v : Vertex) (u : ℕ) → Stands methods ms v u → u < methods → v ≡ Method u
method-there methods ms z u stands l = grind (arith)

pub meaning-there : (methods : ℕ) (ms : List Meaning) (v : Vertex) (place : ℕ) (m : Meaning) → Stands methods ms v (methods + place)
    → slice_get ms place ≡ Some m → v ≡ Means m
meaning-there methods ms z place m stands at = grind (arith, same_Some)

-- ---- a row

has-later : (methods : ℕ) (old new : List Meaning) (IsOne : Vertex → Type 0) (u : ℕ) → Extends old new → HasVertex methods old IsOne u
    → HasVertex methods new IsOne u
has-later methods old new IsOne u more has = grind (arith, stands-on)

pub numbers-later : (methods : ℕ) (old new : List Meaning) (IsOne : Vertex → Type 0) (row : List ℕ) → Extends old new
    → AreNumbers methods old IsOne row → AreNumbers methods new IsOne row
numbers-later methods old new IsOne row more are = record {
  only = λ u c. has-later methods old new IsOne u more (are.only u c);
  all = grind (arith, stands-on);
}

pub numbers-more : (methods : ℕ) (old new : List Meaning) (seen : List Vertex) (row : List ℕ) (v : Vertex) (u : ℕ) → Extends old new
    → Stands methods new v u → AreNumbers methods old (Contains seen) row → AreNumbers methods new (Contains (seen ++ v ∷ [])) (row ++ u ∷ [])
numbers-more methods old new seen row v u more stands before =
    let are = numbers-later methods old new (Contains seen) row more before in
    record { only = only are; all = all are }
  where
    only : AreNumbers methods new (Contains seen) row → (k : ℕ) → Contains (row ++ u ∷ []) k → HasVertex methods new (Contains (seen ++ v ∷ [])) k
    only are k c = ⊎_elim
        (λ old.
        let has = are.only k old in
        record { vertex = has.vertex; is_one = Contains-append_left seen (v ∷ []) has.vertex has.is_one; stands = has.stands })
        (λ is. record { vertex = v; is_one = Contains-push seen v; stands = subst (Stands methods new v) is stands }) (Contains-push_cases row u k c)

    all : AreNumbers methods new (Contains seen) row → (x : Vertex) → Contains (seen ++ v ∷ []) x → HasNumber methods new (row ++ u ∷ []) x
    all are x c = ⊎_elim
        (λ old.
        let has = are.all x old in
        record { number = has.number; there = Contains-append_left row (u ∷ []) has.number has.there; stands = has.stands })
        (λ is. record { number = u; there = Contains-push row u; stands = subst (λ (y : Vertex). Stands methods new y u) is stands })
        (Contains-push_cases seen v x c)

pub numbers-of : (w : Linked) (methods : ℕ) (ms : List Meaning) (IsTarget : Vertex → Type 0) (vertices : List Vertex) (row : List ℕ)
    → AreTargets w IsTarget vertices → AreNumbers methods ms (Contains vertices) row → AreNumbers methods ms IsTarget row
numbers-of w methods ms IsTarget vertices row targets are = record {
  only = λ u c.
      let has = are.only u c in
      record { vertex = has.vertex; is_one = targets.only has.vertex has.is_one; stands = has.stands };
  all = λ v is. are.all v (targets.all v is);
}

pub all-fit : (w : Linked) (IsTarget : Vertex → Type 0) (vertices xs : List Vertex) (methods : ℕ) → AreTargets w IsTarget vertices → xs ≡ vertices
    → methods ≡ length w.methods → All (IsFitBelow methods) xs
all-fit w IsTarget vertices xs methods are e same =
    subst (λ (ys : List Vertex). All (IsFitBelow methods) ys) (sym e)
    (subst (λ (m : ℕ). All (IsFitBelow m) vertices) (sym same) (λ k d l. are.fit (slice_index_or vertices k d) (Contains-get_or vertices k d l)))

-- the same row, read by other names
pub numbers-here : (w : Linked) (methods : ℕ) (ms : List Meaning) (vertices xs : List Vertex) (row : List ℕ) → xs ≡ vertices
    → methods ≡ length w.methods → AreNumbers methods ms (Contains xs) row → AreNumbers (length w.methods) ms (Contains vertices) row
numbers-here w methods ms vertices xs row e same are = grind (arith)

-- ---- all rows

pub rows-more : (w : Linked) (s : Spread) (old new : List Meaning) (rows : List (List ℕ)) (row : List ℕ)
    → length rows ≤ length w.methods + length old → Extends old new → AreRows w s old rows
    → ((v : Vertex) → Stands (length w.methods) new v (length rows) → AreNumbers (length w.methods) new (Leads w s v) row)
    → AreRows w s new (rows ++ row ∷ [])
rows-more w s old new rows row many more before here = λ v u l stands. elim (cases_lt u (length rows)) [
  | inl lower ↦
      let was = stands-before (length w.methods) old new v u more (omega (arith, lower, many)) stands in
      subst (AreNumbers (length w.methods) new (Leads w s v)) (sym (get_or_append_left rows (row ∷ []) [] u lower))
      (numbers-later (length w.methods) old new (Leads w s v) (next rows u) more (before v u lower was))
  | inr past ↦
      let long = length-append rows (row ∷ []) in
      let last : length rows ≡ u = omega (arith, long, l, past) in
      subst (AreNumbers (length w.methods) new (Leads w s v)) (sym (get_or_push rows row [] u last))
      (here v (subst (Stands (length w.methods) new v) (sym last) stands))
]

-- the row of a method
pub method-row : (w : Linked) (s : Spread) (ms : List Meaning) (m : ℕ) (vertices : List Vertex) (row : List ℕ) → m < length w.methods
    → AreTargets w (Leads w s (Method m)) vertices → AreNumbers (length w.methods) ms (Contains vertices) row
    → (v : Vertex) → Stands (length w.methods) ms v m → AreNumbers (length w.methods) ms (Leads w s v) row
method-row w s ms m vertices row l targets are v stands = grind (arith, method-there, numbers-of)

-- and of a meaning
pub meaning-row : (w : Linked) (s : Spread) (ms : List Meaning) (place : ℕ) (m : Meaning) (vertices : List Vertex) (row : List ℕ)
    → slice_get ms place ≡ Some m → AreTargets w (Leads w s (Means m)) vertices → AreNumbers (length w.methods) ms (Contains vertices) row
    → (v : Vertex) → Stands (length w.methods) ms v (length w.methods + place) → AreNumbers (length w.methods) ms (Leads w s v) row
meaning-row w s ms place m vertices row at targets are v stands = grind (arith, meaning-there, numbers-of)

vertex-of : (w : Linked) (ms : List Meaning) (u : ℕ) → u < length w.methods + length ms → (v : Vertex) × Stands (length w.methods) ms v u
vertex-of w ms u l = elim (cases_lt u (length w.methods)) [
  | inl inside ↦ (Method u, (inside, refl))
  | inr past ↦
      let there = slice_get-some ms (u - length w.methods) (omega (arith, l, past)) in
      (Means there.0, (past, there.1))
]

pub rows-graph : (w : Linked) (s : Spread) (ms : List Meaning) (rows : List (List ℕ)) → IsWorld w → length rows ≡ length w.methods + length ms
    → length ms ≤ 2 ^ 31 → AreRows w s ms rows → IsGraph rows
rows-graph w s ms rows world long few are = record {
  edges = All-from_get_or (All (λ u. u < length rows)) rows [] (λ v l. All-from_get_or (λ u. u < length rows) (next rows v) 0 (λ k inside. edge v l k inside));
  few = (let b = world.limits.methods in omega (arith, long, few, b));
}
  where
    edge : (u : ℕ) → u < length rows → (k : ℕ) → k < length (next rows u) → slice_index_or (next rows u) k 0 < length rows
    edge u l k inside =
        let v = vertex-of w ms u (omega (arith, l, long)) in
        let to = (are v.0 u l v.1).only (slice_index_or (next rows u) k 0) (Contains-get_or (next rows u) k 0 inside) in
        let low = stands-inside (length w.methods) ms to.vertex (slice_index_or (next rows u) k 0) to.stands in
        omega (arith, low, long)

-- where no meaning is, all are before
pub none-past : (ms : List Meaning) (place : ℕ) → slice_get ms place ≡ None → length ms ≤ place
none-past ms place e = elim (cases_lt place (length ms)) [
  | inl inside ↦
      let there = slice_get-some ms place inside in
      absurd (none-some there.0 (sym e ∙ there.1))
  | inr past ↦ past
]
