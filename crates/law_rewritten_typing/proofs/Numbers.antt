-- The numbers of the instructions in rewritten code: where each group's instruction stands, one to one.
use Rattle.std.proofs.Common.{◌≡◌, ℕ, suc, ◌+◌, ◌<◌, ◌≤◌, ◌==◌, Bool, true, false, ◌&&◌, if◌then◌else◌, List, [], ◌∷◌}
use Rattle.std.proofs.Common.{◌++◌, flat_map, Contains, Option, Some, None, Ok, refl, sym, ◌∙◌, ap, arith}
use Rattle.std.specs.Prelude.{⊤, is_some}
use Rattle.std.proofs.lemmas.Bool.Decides.{nat_tests}
use Rattle.std.proofs.lemmas.Bool.{and_parts}
use Rattle.jc_base.specs.Each.{Each}
use Rattle.jc_base.specs.declared.ty.Kind.{Kind}
use Rattle.jc_decode.specs.declared.insn.Placed.{Placed}
use Rattle.jc_decode.specs.declared.symbols.Item.{Item}
use Rattle.jc_decode.specs.Listing.{targets, Lists}
use Rattle.jc_ops.specs.declared.operation.Branch.TheVariants as branches
use Rattle.jc_ops.specs.declared.operation.Holder.TheVariants as holders
use Rattle.jc_ops.specs.declared.operation.Operation.{Operation}
use Rattle.jc_ops.specs.declared.operation.Operation.TheVariants as ops
use Rattle.jc_ops.specs.declared.operation.Sort.{Sort}
use Rattle.jc_ops.specs.declared.operation.Sort.TheVariants as sorts
use Rattle.xf_homes.specs.declared.home.Home.{Home}
use Rattle.xf_homes.specs.Walk.{operands_of}
use Rattle.xf_homes.specs.Source.{Source}
use Rattle.xf_homes.specs.Plan.{local, needed}
use Rattle.xf_emission.specs.Jump.{branch, jump_to}
use Rattle.xf_emission.specs.Group.{body, itself, loaded, increased, store_to_homes, stays}
use Rattle.xf_emission.specs.Group.{field_read, field_written, gone, branch_by, first_place, entrance}
use Rattle.xf_emission.specs.Group.{group}
use Rattle.law_rewritten_typing.proofs.Walks.{count, count-append}

-- ---- each body has an instruction

pub right-some : (xs ys : List Item) → 0 < count ys → 0 < count (xs ++ ys)
right-some xs ys lt = omega (arith, lt, count-append xs ys)

module _ (s : Source) (i : Placed) where
  loaded-some : (h : Option Home) → 0 < count (loaded s i h)
  loaded-some None = omega arith
  loaded-some (Some h) = omega arith

  increased-some : (h : Option Home) → 0 < count (increased s i h)
  increased-some None = omega arith
  increased-some (Some h) = omega arith

  stored-some : (letter : Sort) (hs : List Home) → 0 < count (store_to_homes s letter hs)
  stored-some sorts.Int [] = omega arith
  stored-some letter [] = omega arith
  stored-some letter (h ∷ hs) = omega arith

  if-some : (b : Bool) (xs ys : List Item) → 0 < count xs → 0 < count ys → 0 < count (if b then xs else ys)
  if-some true xs ys p q = p
  if-some false xs ys p q = q

  read-some : (h : Option Home) → 0 < count (field_read s i h)
  read-some None = omega arith
  read-some (Some h) = if-some (stays s h) (itself i) _ (omega arith) (omega arith)

  written-some : (k : Kind) (h : Option Home) → 0 < count (field_written s i k h)
  written-some k None = omega arith
  written-some k (Some h) = if-some (stays s h) (itself i) _ (omega arith) (omega arith)

  jump-some : (op : Operation) (ls : List ℕ) → 0 < count (jump_to i op ls ∷ [])
  jump-some (ops.Switch width) ls = omega arith
  jump-some op ls = omega arith

  branch-some : (op : Operation) (n : ℕ) → 0 < count (branch s i op n)
  unfolding branch
  branch-some op n = grind (arith, right-some, jump-some)

  by-some : (op : Operation) (n : Option ℕ) → 0 < count (branch_by s i op n)
  by-some op None = omega arith
  by-some op (Some n) = branch-some op n

  gone-some : (op : Operation) (q : ℕ) → 0 < count (gone s i.place op q)
  gone-some op q = grind (arith, right-some)

  pub body-some : (op : Operation) → 0 < count (body s i op)
  unfolding body
  body-some (ops.Load letter x) = loaded-some (local s i.place x)
  body-some (ops.Increment width x amount) = increased-some (local s i.place x)
  body-some (ops.Store letter x) = stored-some letter (needed s (i.place + i.insn.len) x)
  body-some (ops.FieldRead f holders.This) = read-some (local s i.place 0)
  body-some (ops.FieldWrite f holders.This) = written-some f.kind (local s i.place 0)
  body-some (ops.Branch branches.Always) = gone-some (ops.Branch branches.Always) (first_place (targets s.method.code i))
  body-some op = by-some op (operands_of s.world (Ok op))

-- ---- numbers

module _ (s : Source) where
  -- a `new` is numbered by where its group's instruction stands
  abbrev pub IsNumbered : (ℕ → ℕ) → ℕ → List Placed → Type 0
  IsNumbered new n [] = ⊤
  IsNumbered new n (i ∷ xs) =
      (is_some (s.frames i.place) ≡ true → new i.place ≡ n + count (entrance s i.place)) × IsNumbered new (n + count (group s i)) xs

  -- the number of the instruction of the group of a place, in groups from a number on
  number : ℕ → List Placed → ℕ → Option ℕ
  number n [] p = None
  number n (i ∷ xs) p = if i.place == p && is_some (s.frames i.place) then Some (n + count (entrance s i.place)) else number (n + count (group s i)) xs p

  -- each group that is reached has an instruction after its head
  abbrev pub AreFilled : List Placed → Type 0
  AreFilled xs = Each (λ i. is_some (s.frames i.place) ≡ true → count (entrance s i.place) < count (group s i)) xs

  is-number : (a b : ℕ) → ◌≡◌ {A = Option ℕ} (Some a) (Some b) → a ≡ b
  is-number a b e = cc

  number-within : (n k p : ℕ) (xs : List Placed) → AreFilled xs → number n xs p ≡ Some k → (n ≤ k) × (k < n + count (flat_map (group s) xs))
  unfolding number
  number-within n k p [] filled e = absurd (cc)
  number-within n k p (i ∷ xs) filled e =
      by (i.place == p && is_some (s.frames i.place)) refl e (λ f. number-within (n + count (group s i)) k p xs filled.1 f)
    where
      parts : count (flat_map (group s) (i ∷ xs)) ≡ count (group s i) + count (flat_map (group s) xs)
      parts = count-append (group s i) (flat_map (group s) xs)

      by : (b : Bool) → (i.place == p && is_some (s.frames i.place)) ≡ b
          → (if b then Some (n + count (entrance s i.place)) else number (n + count (group s i)) xs p) ≡ Some k
          → (number (n + count (group s i)) xs p ≡ Some k → (n + count (group s i) ≤ k) × (k < n + count (group s i) + count (flat_map (group s) xs)))
          → (n ≤ k) × (k < n + count (flat_map (group s) (i ∷ xs)))
      by true q f rest =
          let own = is-number (n + count (entrance s i.place)) k f in
          let less = filled.0 (and_parts (i.place == p) (is_some (s.frames i.place)) q).1 in
          (omega (arith, own), omega (arith, own, less, parts))
      by false q f rest = let r = rest f in (omega (arith, r.0), omega (arith, r.1, parts))

  number-one : (n k p q : ℕ) (xs : List Placed) → AreFilled xs → number n xs p ≡ Some k → number n xs q ≡ Some k → p ≡ q
  unfolding number
  number-one n k p q [] filled e g = absurd (cc)
  number-one n k p q (i ∷ xs) filled e g =
      by (i.place == p && is_some (s.frames i.place)) (i.place == q && is_some (s.frames i.place)) refl refl e g
      (λ x y. number-one (n + count (group s i)) k p q xs filled.1 x y)
    where
      here : (m : ℕ) → (i.place == m && is_some (s.frames i.place)) ≡ true → i.place ≡ m
      here m t = let b = and_parts (i.place == m) (is_some (s.frames i.place)) t in let c = b.0 in grind (arith, nat_tests, c)

      clash : (m : ℕ) → (i.place == m && is_some (s.frames i.place)) ≡ true → n + count (entrance s i.place) ≡ k → (j : ℕ)
          → number (n + count (group s i)) xs j ≡ Some k → ⊥
      clash m t own j f = grind (arith, and_parts, number-within)

      by : (a b : Bool) → (i.place == p && is_some (s.frames i.place)) ≡ a → (i.place == q && is_some (s.frames i.place)) ≡ b
          → (if a then Some (n + count (entrance s i.place)) else number (n + count (group s i)) xs p) ≡ Some k
          → (if b then Some (n + count (entrance s i.place)) else number (n + count (group s i)) xs q) ≡ Some k
          → (number (n + count (group s i)) xs p ≡ Some k → number (n + count (group s i)) xs q ≡ Some k → p ≡ q)
          → p ≡ q
      by true true t u x y rest = sym (here p t) ∙ here q u
      by true false t u x y rest = absurd (clash p t (is-number (n + count (entrance s i.place)) k x) q y)
      by false true t u x y rest = absurd (clash q u (is-number (n + count (entrance s i.place)) k y) p x)
      by false false t u x y rest = rest x y

  -- places of no group have numbers beyond all
  or-beyond : ℕ → ℕ → Option ℕ → ℕ
  or-beyond total p None = total + p
  or-beyond total p (Some k) = k

  pub numbered : ℕ → List Placed → ℕ → ℕ
  numbered n xs p = or-beyond (n + count (flat_map (group s) xs)) p (number n xs p)

  pub numbered-apart : (n : ℕ) (xs : List Placed) → AreFilled xs → (p q : ℕ) → numbered n xs p ≡ numbered n xs q → p ≡ q
  unfolding numbered or-beyond
  numbered-apart n xs filled p q e = by (number n xs p) (number n xs q) refl refl e
    where
      total : ℕ
      total = n + count (flat_map (group s) xs)

      by : (a b : Option ℕ) → number n xs p ≡ a → number n xs q ≡ b → or-beyond total p a ≡ or-beyond total q b → p ≡ q
      by None None f g e = omega (arith, e)
      by (Some k) None f g e = let r = number-within n k p xs filled f in absurd (omega (arith, r.1, e))
      by None (Some k) f g e = let r = number-within n k q xs filled g in absurd (omega (arith, r.1, e))
      by (Some k) (Some j) f g e = number-one n k p q xs filled f (g ∙ ap Some (sym e))

  numbers-agree : (code : List ℕ) (new : ℕ → ℕ) (at n : ℕ) (xs : List Placed) → Lists code at xs
      → ((i : Placed) → Contains xs i → 0 < i.insn.len) → ((p k : ℕ) → at ≤ p → number n xs p ≡ Some k → new p ≡ k)
      → IsNumbered new n xs
  unfolding number
  numbers-agree code new at n [] lists long h = tt
  numbers-agree code new at n (i ∷ xs) lists long h = (
    (λ some. h i.place (n + count (entrance s i.place)) (omega (arith, lists.0))
        (ap (λ (b : Bool). if b then Some (n + count (entrance s i.place)) else number (n + count (group s i)) xs i.place) (own some))),
    numbers-agree code new (at + i.insn.len) (n + count (group s i)) xs lists.2 (λ j c. long j (suc c.0, omega (arith, c.1), c.2))
        (λ p k le e. h p k (omega (arith, le))
        (ap (λ (b : Bool). if b then Some (n + count (entrance s i.place)) else number (n + count (group s i)) xs p) (other p le) ∙ e)),
  )
    where
      own : is_some (s.frames i.place) ≡ true → (i.place == i.place && is_some (s.frames i.place)) ≡ true
      own some = let same_place : (i.place == i.place) ≡ true = grind (arith, nat_tests) in rw (same_place, some) refl

      other : (p : ℕ) → at + i.insn.len ≤ p → (i.place == p && is_some (s.frames i.place)) ≡ false
      other p le =
          let place_is = lists.0 in
          let n_long = long i (0, omega arith, refl) in
          let far : (i.place == p) ≡ false = grind (arith, nat_tests, place_is, n_long, le) in
          rw far refl

  pub numbered-is : (code : List ℕ) (n : ℕ) (xs : List Placed) → Lists code 0 xs → ((i : Placed) → Contains xs i → 0 < i.insn.len)
      → IsNumbered (numbered n xs) n xs
  unfolding numbered or-beyond
  numbered-is code n xs lists long = numbers-agree code (numbered n xs) 0 n xs lists long (λ p k le e. ap (or-beyond (n + count (flat_map (group s) xs)) p) e)
