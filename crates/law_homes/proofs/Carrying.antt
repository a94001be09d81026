-- Lists of copies, one after the other: those of an edge, and those of cells.
use Rattle.std.proofs.Common.{◌≡◌, ◌⊎◌, inl, inr, ℕ, zero, suc, ◌+◌, ◌*◌, ◌<◌, ◌≤◌, ◌==◌, Bool, true, false}
use Rattle.std.proofs.Common.{if◌then◌else◌, List, [], ◌∷◌, ◌++◌, length, map, refl, sym, ap, ◌∙◌, subst, arith, length-append}
use Rattle.std.specs.Prelude.{Option, Some, None, flat_map, slice_get}
use Rattle.std.proofs.lemmas.Bool.{cases_lt}
use Rattle.std.proofs.lemmas.List.Concat.{flat_map-cons}
use Rattle.jc_base.specs.declared.ty.Ty.{Ty}
use Rattle.jc_base.specs.declared.ty.Ty.TheVariants.{Short}
use Rattle.jc_base.specs.declared.record.MethodRec.{MethodRec}
use Rattle.jc_base.specs.Each.{Each}
use Rattle.jc_base.specs.Laws.{SameTypeDecides}
use Rattle.jc_base.specs.World.{Linked}
use Rattle.jc_decode.specs.declared.insn.Insn.{Insn}
use Rattle.jc_decode.specs.declared.symbols.Item.{Item}
use Rattle.jc_decode.specs.declared.symbols.Item.TheVariants.{Plain, Branch, Switch, Label}
use Rattle.jc_decode.specs.Listing.{listing}
use Rattle.jc_decode.specs.Standing.{AreSteps}
use Rattle.jc_decode.specs.Symbols.{Step}
use Rattle.jc_ops.specs.declared.operation.Sort.{Sort}
use Rattle.jc_ops.specs.declared.operation.Sort.TheVariants as sorts
use Rattle.vm_store.specs.declared.cell.Cell.{Cell}
use Rattle.vm_store.specs.Cells.{tagged}
use Rattle.vm_store.specs.State.{State, Frame, Object}
use Rattle.vm_step.specs.Methods.{code_at, max_stack_of}
use Rattle.vm_step.specs.Raising.{running}
use Rattle.vm_step.specs.Run.{Runs, stands}
use Rattle.vm_step.proofs.Running.{continues-on}
use Rattle.xf_homes.specs.declared.home.Home.{Home}
use Rattle.xf_homes.specs.Laws.{HasRegister}
use Rattle.xf_homes.specs.Walk.{has, same_home}
use Rattle.xf_homes.proofs.Events.{home-itself, homes-equal}
use Rattle.xf_homes.specs.Source.{Source}
use Rattle.xf_homes.specs.Plan.{needed, register}
use Rattle.xf_emission.specs.declared.origin.Origin.{Origin}
use Rattle.xf_emission.specs.Edge.{home_before, homes_held, copy_new, copies_from, local_copies, locals_copies, cell_copies}
use Rattle.xf_emission.specs.Move.{copy, load_op}
use Rattle.xf_emission.specs.Mnemonics.{sload, iload}
use Rattle.law_homes.specs.Edges.{insns}
use Rattle.law_homes.specs.Held.{HoldsValue}
use Rattle.law_homes.specs.Moves.{IsExecutable, size, letter_of, InstructionsStandFrom, copy_of, CanLoad, OwnRegisters, IsCopy}
use Rattle.law_homes.proofs.Copies.{homes-are-copied}
use Rattle.law_homes.proofs.Valued.{asked_types, CellsAt}
use Rattle.law_homes.proofs.Beside.{held-as, held-can-load}

-- ---- letters

abbrev letter_by : ℕ → Sort
letter_by n = if n == sload then sorts.Short else if n == iload then sorts.Int else sorts.Reference

letter-is : (ty : Ty) → letter_of ty ≡ letter_by (load_op ty)
letter-is ty = grind (arith)

-- types whose loads have the same letter
pub same-letter : (a b : Ty) → load_op a ≡ load_op b → letter_of a ≡ letter_of b
same-letter a b e = letter-is a ∙ (ap letter_by e ∙ sym (letter-is b))

by-letter : (a b : Ty) → letter_of b ≡ letter_of a → (b ≡ a) ⊎ (letter_of a ≡ sorts.Reference)
by-letter a b e = grind (arith)

-- only references have homes of several types
pub same-or-reference : (a b : Ty) → load_op a ≡ load_op b → (b ≡ a) ⊎ (letter_of a ≡ sorts.Reference)
same-or-reference a b e = by-letter a b (sym (same-letter a b e))

-- ---- which copies there are

pub insns-append : (xs ys : List Item) → insns (xs ++ ys) ≡ insns xs ++ insns ys
insns-append [] ys = refl
insns-append (Plain i ∷ xs) ys = ap (λ (is : List Insn). i ∷ is) (insns-append xs ys)
insns-append (Branch op n ∷ xs) ys = insns-append xs ys
insns-append (Switch i at ls ∷ xs) ys = insns-append xs ys
insns-append (Label n ∷ xs) ys = insns-append xs ys

pub stand-append :
    (steps : List Step) (n : ℕ) (xs ys : List Insn) → InstructionsStandFrom steps n (xs ++ ys) → InstructionsStandFrom steps n xs
    × InstructionsStandFrom steps (n + length xs) ys
stand-append steps n [] ys stand = let e : n ≡ n + 0 = omega arith in (tt, subst (λ (k : ℕ). InstructionsStandFrom steps k ys) e stand)
stand-append steps n (x ∷ xs) ys stand = grind (arith, suc, stand-append steps (n + 1) xs ys stand.1)

-- the homes to which something is copied: those in which the value does not stand already
abbrev pub missing : List Home → List Home → List Home
missing there [] = []
missing there (k ∷ ks) = if has there k then missing there ks else k ∷ missing there ks

pub new-copies : (s : Source) (from : Home) (there ks : List Home) → insns (flat_map (copy_new s from there) ks) ≡ flat_map (copy_of s from)
    (missing there ks)
new-copies s from there [] = refl
new-copies s from there (k ∷ ks) =
    ap insns (flat_map-cons (copy_new s from there) k ks)
    ∙ (insns-append (copy_new s from there k) (flat_map (copy_new s from there) ks)
    ∙ (ap (λ (is : List Insn). insns (copy_new s from there k) ++ is) (new-copies s from there ks) ∙ by (has there k)))
  where
    by :
        (b : Bool)
        → insns (if b then [] else copy s from k) ++ flat_map (copy_of s from) (missing there ks)
        ≡ flat_map (copy_of s from) (if b then missing there ks else k ∷ missing there ks)
    by true = refl
    by false = sym (flat_map-cons (copy_of s from) k (missing there ks))

pub copies-count : (s : Source) (from : Home) (ks : List Home) → length (flat_map (copy_of s from) ks) ≡ 2 * length ks
copies-count s from [] = refl
copies-count s from (k ∷ ks) = ap length (flat_map-cons (copy_of s from) k ks) ∙ omega (arith, copies-count s from ks)

-- what is said of all is said of those that are missing
missing-each : (P Q : Home → Type 0) (there ks : List Home) → ((k : Home) → P k → has there k ≡ false → Q k) → Each P ks
    → Each Q (missing there ks)
missing-each P Q there [] h all = tt
missing-each P Q there (k ∷ ks) h all = by (has there k) refl (missing-each P Q there ks h all.1)
  where
    by : (b : Bool) → has there k ≡ b → Each Q (missing there ks) → Each Q (if b then missing there ks else k ∷ missing there ks)
    by true e rest = rest
    by false e rest = (h k all.0 e, rest)

-- there is none, or a first one
none-missing : (P : Home → Type 0) (there ks : List Home) → Each P ks → (missing there ks ≡ []) ⊎ ((k : Home) × P k × (has there k ≡ false))
none-missing P there [] all = inl refl
none-missing P there (k ∷ ks) all = by (has there k) refl (none-missing P there ks all.1)
  where
    by :
        (b : Bool) → has there k ≡ b → (missing there ks ≡ []) ⊎ ((j : Home) × P j × (has there j ≡ false))
        → ((if b then missing there ks else k ∷ missing there ks) ≡ []) ⊎ ((j : Home) × P j × (has there j ≡ false))
    by true e rest = rest
    by false e rest = inr (k, all.0, e)

-- those that were there and those that were missing are all
missing-all : (P Q : Home → Type 0) (there ks : List Home) → ((k : Home) → P k → has there k ≡ true → Q k) → Each P ks
    → Each Q (missing there ks) → Each Q ks
missing-all P Q there [] h all some = tt
missing-all P Q there (k ∷ ks) h all some = by (has there k) refl some (missing-all P Q there ks h all.1)
  where
    by :
        (b : Bool) → has there k ≡ b → Each Q (if b then missing there ks else k ∷ missing there ks) → (Each Q (missing there ks) → Each Q ks)
        → Each Q (k ∷ ks)
    by true e some rest = (h k all.0 e, rest some)
    by false e some rest = (some.0, rest some.1)

each-map : (P Q : Home → Type 0) (ks : List Home) → ((k : Home) → P k → Q k) → Each P ks → Each Q ks
each-map P Q [] h all = tt
each-map P Q (k ∷ ks) h all = (h k all.0, each-map P Q ks h all.1)

module _
    (w : Linked) (world : IsExecutable w) (place : ℕ → ℕ) (steps : List Step) (s : Source) (owns : OwnRegisters s)
    (values : List Cell)
    (method : ℕ) (stack : List Cell) (below : List (Frame Cell)) (heap : List (Object Cell)) (statics : List Cell)
    (m : MethodRec) (is_method : slice_get w.methods method ≡ Some m)
    (are : AreSteps (code_at w method) place 0 steps (listing (code_at w method)))
    (room : 1 + length stack ≤ max_stack_of w method) where
  abbrev frame : ℕ → List Cell → Frame Cell
  frame p registers = record { method = method; place = p; registers = registers; stack = stack }

  abbrev at : ℕ → List Cell → State Cell
  at p registers = record { frames = frame p registers ∷ below; heap = heap; statics = statics }

  -- the value stands in the home
  abbrev Has : List Cell → Home → Type 0
  Has registers h = HoldsValue s values (frame 0 registers) h

  -- after some copies: each value stands where it stood
  pub record Went (n : ℕ) (registers : List Cell) (count : ℕ) (ks : List Home) : Type 0 where
    pub after : List Cell
    pub runs : Runs tagged w count (at (place n) registers) (running (at (place (n + count)) after))
    pub many : length after ≡ length registers
    pub keeps : (a : Home) → HasRegister s.homes a → Has registers a → Has after a
    pub holds : Each (Has after) ks

  went-nowhere : (n : ℕ) (registers : List Cell) (ks : List Home) → Each (Has registers) ks → Went n registers 0 ks
  went-nowhere n registers ks holds =
      let e : n ≡ n + 0 = omega arith in
      record {
        after = registers;
        runs = subst (λ (k : ℕ). Runs tagged w 0 (at (place n) registers) (running (at (place k) registers))) e stands;
        many = refl;
        keeps = λ a own held. held;
        holds = holds;
      }

  pub went-then :
      (n : ℕ) (registers : List Cell) (a b : ℕ) (hs ks : List Home) → Each (HasRegister s.homes) hs → (first : Went n registers a hs)
      → Went (n + a) first.after b ks
      → Went n registers (a + b) (hs ++ ks)
  went-then n registers a b hs ks own first second =
      let e : n + a + b ≡ n + (a + b) = omega arith in
      record {
        after = second.after;
        runs = subst (λ (x : ℕ). Runs tagged w (a + b) (at (place n) registers) (running (at (place x) second.after))) e
            (continues-on tagged w a b (running (at (place n) registers)) (running (at (place (n + a)) first.after))
            (running (at (place (n + a + b)) second.after)) first.runs second.runs);
        many = second.many ∙ first.many;
        keeps = λ h has held. second.keeps h has (first.keeps h has held);
        holds = both hs own first.holds;
      }
    where
      both : (js : List Home) → Each (HasRegister s.homes) js → Each (Has first.after) js → Each (Has second.after) (js ++ ks)
      both [] own held = second.holds
      both (j ∷ js) own held = (second.keeps j own.0 held.0, both js own.1 held.1)

  -- a value that stands in a home, and can be loaded from there
  pub record Stands (registers : List Cell) (from : Home) : Type 0 where
    pub own : HasRegister s.homes from
    pub small : register s from < 256
    pub holds : Has registers from
    pub value : CellsAt w.classes (map (λ (o : Object Cell). o.kind) heap) values from.slot (asked_types w.classes (letter_of from.ty))

  pub copy-fits :
      (n : ℕ) (registers : List Cell) (from : Home) (ks : List Home)
      → InstructionsStandFrom steps n (flat_map (copy_of s from) ks)
      → n + 2 * length ks < length steps
      → Stands registers from
      → size (letter_of from.ty) + length stack ≤ max_stack_of w method
      → Each (IsCopy s (length registers) from) ks
      → Went n registers (2 * length ks) ks
  copy-fits n registers from ks stand further stood fits copies =
      let t : State Cell = at (place n) registers in
      let held : HoldsValue s values (frame (place n) registers) from = held-as s values (frame 0 registers) (frame (place n) registers) from refl
      stood.holds in
      let can : CanLoad w s t from = held-can-load w s values t from stood.small held stood.value in
      let ran = homes-are-copied w world place steps t n s values from ks owns
      (record { runs = omega arith; method = m; is_method = is_method; are = are; at = refl; further = further })
      stand stood.own can held copies fits in
      record {
        after = ran.registers;
        runs = ran.runs;
        many = ran.count;
        keeps = grind (arith, held-as);
        holds = grind (arith, each-map, held-as);
      }

  pub copy-all :
      (n : ℕ) (registers : List Cell) (from : Home) (ks : List Home)
      → InstructionsStandFrom steps n (flat_map (copy_of s from) ks)
      → n + 2 * length ks < length steps
      → Stands registers from
      → letter_of from.ty ≡ sorts.Reference
      → Each (IsCopy s (length registers) from) ks
      → Went n registers (2 * length ks) ks
  copy-all n registers from ks stand further stood letter copies = grind (arith, copy-fits)

  -- ---- one local

  -- a home that is needed for a local which is copied from another
  pub record IsFrom (registers : List Cell) (there : List Home) (from k : Home) : Type 0 where
    pub stood : Stands registers from
    pub copies : IsCopy s (length registers) from k
    pub already : has there k ≡ true → Has registers k
    pub single : has there k ≡ false → letter_of from.ty ≡ sorts.Reference

  -- what is known of a local where the edge begins
  abbrev pub LocalIs : List Cell → Origin → ℕ → ℕ → Option Home → Type 0
  LocalIs registers o q x None = Each (Has registers) (needed s q x)
  LocalIs registers o q x (Some from) = Each (IsFrom registers (homes_held s o x from) from) (needed s q x)

  -- in registers where each value stands where it stood
  pub record Keep (registers others : List Cell) : Type 0 where
    pub many : length others ≡ length registers
    pub keeps : (a : Home) → HasRegister s.homes a → Has registers a → Has others a

  from-later : (registers others : List Cell) (there : List Home) (from k : Home) → Keep registers others → HasRegister s.homes k
      → IsFrom registers there from k → IsFrom others there from k
  from-later registers others there from k keep own is = grind (arith)

  later-each : (registers others : List Cell) (there : List Home) (from : Home) (ks : List Home) → Keep registers others → Each (HasRegister s.homes) ks
      → Each (IsFrom registers there from) ks → Each (IsFrom others there from) ks
  later-each registers others there from [] keep own all = tt
  later-each registers others there from (k ∷ ks) keep own all =
      (from-later registers others there from k keep own.0 all.0, later-each registers others there from ks keep own.1 all.1)

  holds-later : (registers others : List Cell) (ks : List Home) → Keep registers others → Each (HasRegister s.homes) ks → Each (Has registers) ks
      → Each (Has others) ks
  holds-later registers others [] keep own all = tt
  holds-later registers others (k ∷ ks) keep own all = (keep.keeps k own.0 all.0, holds-later registers others ks keep own.1 all.1)

  local-later :
      (registers others : List Cell) (o : Origin) (q x : ℕ) (h : Option Home) → Keep registers others → Each (HasRegister s.homes) (needed s q x)
      → LocalIs registers o q x h → LocalIs others o q x h
  local-later registers others o q x w keep own is = grind (arith, holds-later, later-each)

  from-runs :
      (n : ℕ) (registers : List Cell) (there ks : List Home) (from : Home)
      → InstructionsStandFrom steps n (insns (flat_map (copy_new s from there) ks))
      → n + length (insns (flat_map (copy_new s from there) ks)) < length steps
      → Each (HasRegister s.homes) ks
      → Each (IsFrom registers there from) ks
      → Went n registers (length (insns (flat_map (copy_new s from there) ks))) ks
  from-runs n registers there ks from stand further own all = by (none-missing (IsFrom registers there from) there ks all)
    where
      are_copies : insns (flat_map (copy_new s from there) ks) ≡ flat_map (copy_of s from) (missing there ks)
      are_copies = new-copies s from there ks

      count : length (insns (flat_map (copy_new s from there) ks)) ≡ 2 * length (missing there ks)
      count = ap length are_copies ∙ copies-count s from (missing there ks)

      all-hold : (after : List Cell) → ((a : Home) → HasRegister s.homes a → Has registers a → Has after a) → Each (Has after) (missing there ks)
          → Each (Has after) ks
      all-hold after keeps some =
          missing-all (λ k. HasRegister s.homes k × IsFrom registers there from k) (Has after) there ks (λ k p e. keeps k p.0 (p.1.already e))
          (pairs ks own all) some
        where
          pairs : (js : List Home) → Each (HasRegister s.homes) js → Each (IsFrom registers there from) js
              → Each (λ k. HasRegister s.homes k × IsFrom registers there from k) js
          pairs [] a b = tt
          pairs (j ∷ js) a b = ((a.0, b.0), pairs js a.1 b.1)

      by :
          (missing there ks ≡ []) ⊎ ((k : Home) × IsFrom registers there from k × (has there k ≡ false))
          → Went n registers (length (insns (flat_map (copy_new s from there) ks))) ks
      by (inl none) =
          let zero_is : length (insns (flat_map (copy_new s from there) ks)) ≡ 0 = count ∙ ap (λ (js : List Home). 2 * length js) none in
          subst (λ (c : ℕ). Went n registers c ks) (sym zero_is)
          (went-nowhere n registers ks (all-hold registers (λ a has held. held) (subst (Each (Has registers)) (sym none) tt)))
      by (inr (k, is, e)) =
          let ran = copy-all n registers from (missing there ks) (subst (InstructionsStandFrom steps n) are_copies stand) (omega (arith, further, count))
          is.stood (is.single e)
          (missing-each (IsFrom registers there from) (IsCopy s (length registers) from) there ks (λ j p f. p.copies) all) in
          subst (λ (c : ℕ). Went n registers c ks) (sym count)
          (record { after = ran.after; runs = ran.runs; many = ran.many; keeps = ran.keeps; holds = all-hold ran.after ran.keeps ran.holds })

  local-runs :
      (n : ℕ) (registers : List Cell) (o : Origin) (q x : ℕ)
      → InstructionsStandFrom steps n (insns (local_copies s o q x))
      → n + length (insns (local_copies s o q x)) < length steps
      → Each (HasRegister s.homes) (needed s q x)
      → LocalIs registers o q x (home_before s o x)
      → Went n registers (length (insns (local_copies s o q x))) (needed s q x)
  unfolding local_copies
  local-runs n registers o q x stand further own is = by (home_before s o x) stand further is
    where
      by :
          (h : Option Home) → InstructionsStandFrom steps n (insns (copies_from s o q x h)) → n + length (insns (copies_from s o q x h)) < length steps
          → LocalIs registers o q x h → Went n registers (length (insns (copies_from s o q x h))) (needed s q x)
      by None stand further is = went-nowhere n registers (needed s q x) is
      by (Some from) stand further is = from-runs n registers (homes_held s o x from) (needed s q x) from stand further own is

  -- ---- all locals

  pub record WentAll (n : ℕ) (registers : List Cell) (count q x many_locals : ℕ) : Type 0 where
    pub after : List Cell
    pub runs : Runs tagged w count (at (place n) registers) (running (at (place (n + count)) after))
    pub many : length after ≡ length registers
    pub keeps : (a : Home) → HasRegister s.homes a → Has registers a → Has after a
    pub locals : (y : ℕ) → x ≤ y → y < x + many_locals → Each (Has after) (needed s q y)

  pub locals-run :
      (start registers : List Cell) (o : Origin) (q : ℕ) → ((y : ℕ) → Each (HasRegister s.homes) (needed s q y))
      → ((y : ℕ) → LocalIs start o q y (home_before s o y))
      → (n x many_locals : ℕ) → Keep start registers
      → InstructionsStandFrom steps n (insns (locals_copies s o q x many_locals))
      → n + length (insns (locals_copies s o q x many_locals)) < length steps
      → WentAll n registers (length (insns (locals_copies s o q x many_locals))) q x many_locals
  locals-run start registers o q own is n x zero keep stand further =
      let e : n ≡ n + 0 = omega arith in
      record {
        after = registers;
        runs = subst (λ (k : ℕ). Runs tagged w 0 (at (place n) registers) (running (at (place k) registers))) e stands;
        many = refl;
        keeps = λ a own held. held;
        locals = λ y low high. absurd (omega (arith, low, high));
      }
  locals-run start registers o q own is n x (suc many_locals) keep stand further =
      let xs : List Item = local_copies s o q x in
      let ys : List Item = locals_copies s o q (suc x) many_locals in
      let parts : insns (xs ++ ys) ≡ insns xs ++ insns ys = insns-append xs ys in
      let total : length (insns (xs ++ ys)) ≡ length (insns xs) + length (insns ys) = ap length parts ∙ length-append (insns xs) (insns ys) in
      let halves = stand-append steps n (insns xs) (insns ys) (subst (InstructionsStandFrom steps n) parts stand) in
      let first = local-runs n registers o q x halves.0 (omega (arith, further, total)) (own x)
      (local-later start registers o q x (home_before s o x) keep (own x) (is x)) in
      let rest = locals-run start first.after o q own is (n + length (insns xs)) (suc x) many_locals
      (record { many = first.many ∙ keep.many; keeps = λ a has held. first.keeps a has (keep.keeps a has held) }) halves.1 (omega (arith, further, total)) in
      let e : n + length (insns xs) + length (insns ys) ≡ n + (length (insns xs) + length (insns ys)) = omega arith in
      subst (λ (c : ℕ). WentAll n registers c q x (suc many_locals)) (sym total)
      (record {
        after = rest.after;
        runs = subst (λ (k : ℕ). Runs tagged w (length (insns xs) + length (insns ys)) (at (place n) registers) (running (at (place k) rest.after))) e
            (continues-on tagged w (length (insns xs)) (length (insns ys)) (running (at (place n) registers))
            (running (at (place (n + length (insns xs))) first.after)) (running (at (place (n + length (insns xs) + length (insns ys))) rest.after))
            first.runs rest.runs);
        many = rest.many ∙ first.many;
        keeps = λ a has held. rest.keeps a has (first.keeps a has held);
        locals = λ y low high. by y low high (cases_lt x y) first.holds rest.keeps rest.locals;
      })
    where
      by :
          {middle after : List Cell} (y : ℕ) → x ≤ y → y < x + suc many_locals → (x < y) ⊎ (y ≤ x) → Each (Has middle) (needed s q x)
          → ((a : Home) → HasRegister s.homes a → Has middle a → Has after a)
          → ((z : ℕ) → suc x ≤ z → z < suc x + many_locals → Each (Has after) (needed s q z)) → Each (Has after) (needed s q y)
      by {middle = middle} {after = after} y low high (inl later) first keeps rest = rest y (omega (arith, later)) (omega (arith, high))
      by {middle = middle} {after = after} y low high (inr here) first keeps rest =
          let same : x ≡ y = omega (arith, low, here) in
          subst (λ (z : ℕ). Each (Has after) (needed s q z)) same (kept (needed s q x) (own x) first)
        where
          kept : (js : List Home) → Each (HasRegister s.homes) js → Each (Has middle) js → Each (Has after) js
          kept [] a b = tt
          kept (j ∷ js) a b = (keeps j a.0 b.0, kept js a.1 b.1)

  -- ---- cells

  -- a home, and another to which its value goes
  pub record IsPair (registers : List Cell) (h k : Home) : Type 0 where
    pub stood : Stands registers h
    pub copies : IsCopy s (length registers) h k
    pub single : (k ≡ h) ⊎ (letter_of h.ty ≡ sorts.Reference)

  pub data ArePairs (registers : List Cell) : List Home → List Home → Type 0 where
    no_pairs : ArePairs registers [] []
    more_pairs : {h k : Home} {hs ks : List Home} → IsPair registers h k → ArePairs registers hs ks → ArePairs registers (h ∷ hs) (k ∷ ks)

  pair-later : (registers others : List Cell) (h k : Home) → Keep registers others → IsPair registers h k → IsPair others h k
  pair-later registers others h k keep is = grind (arith)

  one-cell :
      (same_is : SameTypeDecides) (n : ℕ) (registers : List Cell) (h k : Home) → IsPair registers h k
      → InstructionsStandFrom steps n (insns (if same_home h k then [] else copy s h k)) → n + length (insns (if same_home h k then [] else copy s h k))
      < length steps
      → Went n registers (length (insns (if same_home h k then [] else copy s h k))) (k ∷ [])
  one-cell same_is n registers h k is stand further = by (same_home h k) refl stand further
    where
      by :
          (b : Bool) → same_home h k ≡ b → InstructionsStandFrom steps n (insns (if b then [] else copy s h k))
          → n + length (insns (if b then [] else copy s h k)) < length steps
          → Went n registers (length (insns (if b then [] else copy s h k))) (k ∷ [])
      by true e stand further = went-nowhere n registers (k ∷ []) (subst (Has registers) (homes-equal same_is h k e) is.stood.holds, tt)
      by false e stand further = copy-all n registers h (k ∷ []) stand further is.stood (letter is.single) (is.copies, tt)
        where
          differ : (b : Bool) → b ≡ true → b ≡ false → ⊥
          differ b e f = absurd (cc)

          letter : (k ≡ h) ⊎ (letter_of h.ty ≡ sorts.Reference) → letter_of h.ty ≡ sorts.Reference
          letter (inl same) = absurd (differ (same_home h k) (ap (same_home h) same ∙ home-itself same_is h) e)
          letter (inr is) = is

  pub cells-run :
      (same_is : SameTypeDecides) (start registers : List Cell) {hs ks : List Home} → ArePairs start hs ks → (n : ℕ) → Keep start registers
      → InstructionsStandFrom steps n (insns (cell_copies s hs ks))
      → n + length (insns (cell_copies s hs ks)) < length steps
      → Went n registers (length (insns (cell_copies s hs ks))) ks
  cells-run same_is start registers no_pairs n keep stand further = went-nowhere n registers [] tt
  cells-run same_is start registers (more_pairs {h = h} {k = k} {hs = hs} {ks = ks} is more) n keep stand further =
      let xs : List Item = if same_home h k then [] else copy s h k in
      let ys : List Item = cell_copies s hs ks in
      let parts : insns (xs ++ ys) ≡ insns xs ++ insns ys = insns-append xs ys in
      let total : length (insns (xs ++ ys)) ≡ length (insns xs) + length (insns ys) = ap length parts ∙ length-append (insns xs) (insns ys) in
      let halves = stand-append steps n (insns xs) (insns ys) (subst (InstructionsStandFrom steps n) parts stand) in
      let first = one-cell same_is n registers h k (pair-later start registers h k keep is) halves.0 (omega (arith, further, total)) in
      let rest = cells-run same_is start first.after more (n + length (insns xs))
      (record { many = first.many ∙ keep.many; keeps = λ a has held. first.keeps a has (keep.keeps a has held) }) halves.1 (omega (arith, further, total)) in
      subst (λ (c : ℕ). Went n registers c (k ∷ ks)) (sym total)
      (went-then n registers (length (insns xs)) (length (insns ys)) (k ∷ []) ks (is.copies.own, tt) first rest)
