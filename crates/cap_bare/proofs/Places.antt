-- The tests of places and of targets, and what a search along the code finds.
use Rattle.std.proofs.Common.{◌≡◌, ◌∙◌, sym, ap, subst, ℕ, zero, suc, ◌+◌, ◌<◌, ◌≤◌, ◌⊎◌, inr, ⊎_elim, Bool, true}
use Rattle.std.proofs.Common.{false, Some, None, Result, Ok, Err, List, [], refl, arith, ◌==◌, eq-eqb, Contains, All}
use Rattle.std.specs.Prelude.{ℤ, pos, negsuc, is_ok, IsTrue, ◌↔◌, slice_get}
use Rattle.std.specs.List.{list_any}
use Rattle.std.proofs.lemmas.Bool.{eqb-true}
use Rattle.std.proofs.lemmas.Bool.Decides.{nat_tests, same_from_decides}
use Rattle.std.proofs.lemmas.List.Elements.{All-weaker, All-contains_itself}
use Rattle.std.proofs.lemmas.List.Folds.{Any-from_list_any, list_any_at}
use Rattle.jc_decode.specs.declared.insn.Insn.{Insn}
use Rattle.jc_decode.specs.declared.insn.Placed.{Placed}
use Rattle.jc_decode.specs.declared.insn.CodeEnd.{CodeEnd}
use Rattle.jc_decode.specs.declared.layout.Layout.{Layout}
use Rattle.jc_decode.specs.Layout.{layout_of}
use Rattle.jc_decode.specs.declared.layout.Cases.{Cases}
use Rattle.jc_decode.specs.Cases.{cases, cases_by, cases_in, is_table, has_cases, is_switch}
use Rattle.jc_decode.specs.Listing.{targets, target, jumps}
use Rattle.jc_decode.proofs.Elements.{Contains-slice_get, slice_get-Contains}
use Rattle.jc_decode.proofs.Targets.{targets-none, targets-first, targets-later}
use Rattle.cap_bare.specs.Code.{fetched, instructions, HasInstruction, IsPlace, IsTargetPlace, IsTarget}
use Rattle.cap_bare.specs.Walk.{is_place, is_at, leads_to, is_target}
use Rattle.cap_bare.specs.Machine.{branch_target}
use Rattle.cap_bare.specs.Window.{IsSuffixAt, IsTrailing}
use Rattle.cap_bare.proofs.Operands.{no-switch}
use Rattle.cap_bare.proofs.Instructions.{here, is-here, fetched-bare, stands-here, one-at, apart, reached-after, stands-at, ends-at, before-end}

-- a test finds an element exactly where one passes it
any-of : {A : Type 0} (test : A → Bool) (xs : List A) (x : A) → Contains xs x → test x ≡ true → list_any test xs ≡ true
any-of test xs x c h = list_any_at test xs c.0 x c.1 (ap test c.2 ∙ h)

any-from : {A : Type 0} (test : A → Bool) (xs : List A) → list_any test xs ≡ true → (x : A) × Contains xs x × (test x ≡ true)
any-from test xs h = let a = Any-from_list_any test xs h in (a.1, (a.0, a.2, a.3), a.4)

at-true : (place : ℕ) (t : ℤ) → t ≡ pos place → is_at place t ≡ true
at-true place t e = rw e (eq-eqb place place refl)

at-from : (place : ℕ) (t : ℤ) → is_at place t ≡ true → t ≡ pos place
at-from place x h = grind (arith, eqb-true)

module _ (code : List ℕ) where
  -- the test of a place
  pub place-true : (t : ℤ) → IsTargetPlace code t → is_place code t ≡ true
  place-true (pos p) h = any-of (λ i. i.place == p) (instructions code) h.0 h.1 (eq-eqb _ _ h.2)
  place-true (negsuc n) h = absurd h

  pub place-from : (t : ℤ) → is_place code t ≡ true → IsTargetPlace code t
  place-from x h = grind (arith, any-from, eqb-true)

  pub place-means : (t : ℤ) → IsTrue (is_place code t) ↔ IsTargetPlace code t
  place-means t = (place-from t, place-true t)

  -- the test of a target
  pub target-true : (p : ℕ) → IsTarget code p → is_target code p ≡ true
  target-true p h =
      any-of (leads_to code p) (instructions code) h.from h.stands
      (any-of (is_at p) (targets code h.from) (pos p) h.leads (at-true p (pos p) refl))

  pub target-from : (p : ℕ) → is_target code p ≡ true → IsTarget code p
  target-from p h = grind (arith, any-from, at-from)

  pub target-is : (place : ℕ) (r : Bool) → (r ≡ true → IsTarget code place) → (IsTarget code place → r ≡ true)
      → r ≡ is_target code place
  target-is place r f g = grind (arith, same_from_decides, target-true, target-from)

  -- ---- an instruction leads to one place at most

  pub leads-there : (i : Placed) → jumps i.insn.op ≡ true → Contains (targets code i) (target i.place i.insn.x)
  leads-there i h = Contains-slice_get (targets code i) 0 _ (targets-first code i h)

  pub branch-leads : (i : Placed) → jumps i.insn.op ≡ true → branch_target code i ≡ target i.place i.insn.x
  unfolding targets
  branch-leads i h = rw h refl

  no-table : (k : Cases) (table : ℕ) (i : Insn) → is_table k ≡ false → cases_in k code table i ≡ []
  no-table x table i h = grind (arith)

  no-cases-in : (l : Result Layout CodeEnd) (at : ℕ) (i : Insn) → has_cases l ≡ false → cases_by l code at i ≡ []
  no-cases-in x at i h = grind (arith, no-table)

  no-cases : (i : Placed) → is_switch i.insn.op ≡ false → cases code i.place i.insn ≡ []
  unfolding cases
  no-cases i h = no-cases-in (layout_of i.insn.op) i.place i.insn h

  pub leads-one : (i : Placed) (t : ℤ) → HasInstruction code i → Contains (targets code i) t
      → (jumps i.insn.op ≡ true) × (t ≡ target i.place i.insn.x)
  leads-one i t s c = by_number (slice_get-Contains (targets code i) t c) (jumps i.insn.op) refl
    where
      none : cases code i.place i.insn ≡ []
      none = no-cases i (no-switch i.insn (fetched-bare code i.place i.insn (stands-here code i s).found))

      by_number : (n : ℕ) × (slice_get (targets code i) n ≡ Some t) → (b : Bool) → jumps i.insn.op ≡ b
          → (jumps i.insn.op ≡ true) × (t ≡ target i.place i.insn.x)
      by_number (n, h) false j = let no = targets-none code i n j in absurd (cc)
      by_number (zero, h) true j = let first = targets-first code i j in (j, cc)
      by_number (suc n, h) true j =
          let later = targets-later code i (suc n) j (omega arith) in
          let nothing : slice_get (targets code i) (suc n) ≡ None = later ∙ (rw none refl) in absurd (cc)

  -- the first of those that it names
  pub leads-first : (i : Placed) (t : ℤ) → HasInstruction code i → Contains (targets code i) t → slice_get (targets code i) 0 ≡ Some t
  leads-first i t s c = let one = leads-one i t s c in targets-first code i one.0 ∙ ap Some (sym one.1)

  pub leads-all : (P : ℤ → Type 0) (i : Placed) → HasInstruction code i → ((t : ℤ) → slice_get (targets code i) 0 ≡ Some t → P t)
      → All P (targets code i)
  leads-all P i s f =
      All-weaker (Contains (targets code i)) P (λ t c. f t (leads-first i t s c)) (targets code i) (All-contains_itself (targets code i))

  pub leads-some : (i : Placed) (place : ℕ) (t : ℤ) → HasInstruction code i → Some t ≡ slice_get (targets code i) 0 → (b : Bool)
      → b ≡ is_at place t
      → IsTrue b ↔ Contains (targets code i) (pos place)
  leads-some i place t s e b is = (
    (λ h. subst (Contains (targets code i)) (at-from place t (sym is ∙ h)) (Contains-slice_get (targets code i) 0 t (sym e))),
    (λ c. let first = leads-first i (pos place) s c in is ∙ at-true place t (cc (e, first))),
  )

  pub leads-none : (i : Placed) (place : ℕ) → HasInstruction code i → None ≡ slice_get (targets code i) 0
      → IsTrue false ↔ Contains (targets code i) (pos place)
  leads-none i place s e = ((λ h. absurd (cc)), (λ c. let first = leads-first i (pos place) s c in absurd (cc)))

  -- ---- a search from an instruction on

  -- a place ahead is not passed by
  pub place-ahead : (at place : ℕ) (i : Insn) → IsSuffixAt code at → fetched code at ≡ Ok i → at < place → IsPlace code place
      → at + i.len ≤ place
  place-ahead at place i r f lt p =
      let le = apart code (here at i) p.0 (stands-at code at (here at i) r (is-here code at i f)) p.1 (omega (arith, p.2)) in omega (arith, p.2)

  pub place-none : (at place : ℕ) (end : CodeEnd) → IsSuffixAt code at → fetched code at ≡ Err end → at ≤ place
      → IsPlace code place → ⊥
  place-none at place end r f le p = let before = before-end code p.0 p.1 in omega (arith, p.2, ends-at code at end r f)

  -- where the search comes to the place, an instruction begins there or none does
  pub place-here : (at place : ℕ) (q : Result Insn CodeEnd) (b : Bool) → IsSuffixAt code at → fetched code at ≡ q
      → b ≡ is_ok q → at ≡ place
      → IsTrue b ↔ IsPlace code place
  place-here at place (Ok i) b r f is e = ((λ h. (here at i, stands-at code at (here at i) r (is-here code at i f), e)), (λ p. is))
  place-here at place (Err end) b r f is e = ((λ h. absurd (cc (h, is))), (λ p. absurd (place-none at place end r f (omega arith) p)))

  -- nor is a branch ahead
  pub target-ahead : (at place : ℕ) (i : Insn) → IsSuffixAt code at → fetched code at ≡ Ok i
      → ¬ (Contains (targets code (here at i)) (pos place))
      → (t : IsTarget code place) → at ≤ t.from.place → at + i.len ≤ t.from.place
  target-ahead at place i r f no_branch t le =
      ⊎_elim (λ e. absurd (no_branch (is_there e))) (λ lt. apart code (here at i) t.from stands t.stands lt)
      (by_order (at == t.from.place) refl)
    where
      stands : HasInstruction code (here at i)
      stands = stands-at code at (here at i) r (is-here code at i f)

      by_order : (b : Bool) → (at == t.from.place) ≡ b → (at ≡ t.from.place) ⊎ (at < t.from.place)
      by_order x e = grind (arith, eqb-true, nat_tests)

      is_there : at ≡ t.from.place → Contains (targets code (here at i)) (pos place)
      is_there e = subst (λ (k : Placed). Contains (targets code k) (pos place)) (sym (one-at code (here at i) t.from stands t.stands e)) t.leads

  pub target-none : (at place : ℕ) (end : CodeEnd) → IsSuffixAt code at → fetched code at ≡ Err end
      → (t : IsTarget code place) → at ≤ t.from.place → ⊥
  target-none at place end r f t le = let before = before-end code t.from t.stands in omega (arith, ends-at code at end r f)

  -- a step of the instruction that trails
  pub trails-on : (farther at : ℕ) (i : Insn) → IsTrailing code farther at → fetched code farther ≡ Ok i
      → farther + i.len + 128 ≤ at
      → IsTrailing code (farther + i.len) at
  trails-on farther at i h f le = record { reached = reached-after code farther (here farther i) h.reached (is-here code farther i f); far = inr le }

  pub trails-later : (farther at later : ℕ) → IsTrailing code farther at → at ≤ later → IsTrailing code farther later
  trails-later farther at later h le = grind (arith, ⊎_elim)
