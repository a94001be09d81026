-- What the operation of an instruction speaks of is in the world.
use Rattle.std.proofs.Common.{◌≡◌, ℕ, ◌+◌, ◌/◌, ◌%◌, ◌<◌, ◌≤◌, ◌==◌, ◌&&◌, not, if◌then◌else◌, cond, zero, suc}
use Rattle.std.proofs.Common.{Bool, true, false, List, [], ◌∷◌, ◌++◌, length, Option, Some, None, IfSome, IsSomeAnd, Result, Ok, IfOk, slice_get}
use Rattle.std.proofs.Common.{slice_index_or, filter, All, Contains, refl, sym, subst, arith}
use Rattle.std.proofs.lemmas.Bool.Decides.{nat_tests}
use Rattle.std.proofs.lemmas.Bool.{and_parts, not-true, eqb-true, eqb-false, or_parts}
use Rattle.jc_base.specs.declared.ty.Ty.{Ty}
use Rattle.jc_base.specs.declared.ty.Ty.TheVariants.{IntLow, Class, ArrBool, ArrByte, ArrShort, ArrInt, ArrRef}
use Rattle.jc_base.specs.declared.ty.Kind.{Kind}
use Rattle.jc_base.specs.declared.record.Member.{Member}
use Rattle.jc_base.specs.declared.record.Member.TheVariants.{Field, Super, StaticCall}
use Rattle.jc_base.specs.declared.record.MethodRec.{MethodRec}
use Rattle.jc_base.specs.Class.{IsClass, is_interface, object, parent_of}
use Rattle.jc_base.specs.Order.{joined, same, subclass, IsArray, of_booleans, of_bytes, of_shorts, of_ints, of_references}
use Rattle.jc_base.specs.Cell.{IsDeclared}
use Rattle.jc_base.specs.Dispatch.{entry_at, cells_of, public_of, visible_of}
use Rattle.jc_base.specs.Laws.{ConcreteDecides}
use Rattle.jc_base.specs.Linked.{IsInherited, IsMember, IsMethod, list_at, lacks_code}
use Rattle.jc_base.specs.World.{Linked, IsWorld, member_at}
use Rattle.jc_base.proofs.Lists.{All-slice_get}
use Rattle.jc_decode.specs.declared.insn.Insn.{Insn}
use Rattle.jc_ops.specs.declared.fault.RuleFault.{RuleFault}
use Rattle.jc_ops.specs.declared.operation.Want.{Want}
use Rattle.jc_ops.specs.declared.operation.Want.TheVariants.{Value, Receiver}
use Rattle.jc_ops.specs.declared.operation.Sort.{Sort}
use Rattle.jc_ops.specs.declared.operation.Move.TheVariants as moves
use Rattle.jc_ops.specs.declared.operation.Choice.{Choice}
use Rattle.jc_ops.specs.declared.operation.Choice.TheVariants as choices
use Rattle.jc_ops.specs.declared.operation.Operation.{Operation}
use Rattle.jc_ops.specs.declared.operation.Operation.TheVariants as ops
use Rattle.jc_ops.specs.declared.row.Invocation.{Invocation}
use Rattle.jc_ops.specs.declared.row.Row.{Row}
use Rattle.jc_ops.specs.declared.row.Row.TheVariants as rows
use Rattle.jc_ops.specs.Row.{table, row_at, unused, by_sort, by_width, by_kind, first_four, by_register, literals, binaries, orders_all, branching}
use Rattle.jc_ops.specs.Resolve.{byte_of, short_of, taken_if, on, same_kind, static_field, instance_field, callee_if, entry_callee, virtual_callee}
use Rattle.jc_ops.specs.Resolve.{own_receiver, special_callee, static_callee, described, only, described_callee, interface_callee}
use Rattle.jc_ops.specs.Resolve.{callee, class_type, array_of, tested_type, returns, result_returned, new_object, resolved, Resolves}
use Rattle.jc_ops.specs.Sound.{IsKnownWant, IsStaticOf, IsFieldOf, IsReceiverOf, IsCalleeOf, IsNamedType, IsResult, IsSound, OperationsAreSound}
use Rattle.jc_ops.proofs.Members.{argument_room, entry-inherits, super-inherits, static-known, cells-declared}
use Rattle.std.proofs.Common.{Err}
use Rattle.std.proofs.Common.{◌∙◌}
use Rattle.std.specs.List.{range_with_len}
use Rattle.jc_base.specs.declared.record.Member.TheVariants.{ClassOf, Static, Virtual}
use Rattle.jc_base.specs.Cell.{IsOfKind}
use Rattle.jc_base.specs.Dispatch.{is_concrete}
use Rattle.jc_base.specs.Linked.{IsStatic}
use Rattle.jc_ops.specs.declared.fault.RuleFault.TheVariants.{BadMember, NotConcrete, Mismatch}
use Rattle.jc_ops.specs.declared.operation.Sort.TheVariants as sorts
use Rattle.jc_ops.specs.declared.row.Invocation.TheVariants as invocations
use Rattle.jc_ops.specs.Resolve.{is_described, passes_test}
use Rattle.jc_ops.specs.Resolve.{returned, result_type}

-- ---- rows whose opcode says all

-- an operation that names nothing of the world
needs_nothing : Operation → Bool
needs_nothing (ops.Constant c) = true
needs_nothing (ops.Load s x) = true
needs_nothing (ops.Store s x) = true
needs_nothing (ops.Move moves.Pop) = true
needs_nothing (ops.Move moves.PopTwo) = true
needs_nothing (ops.Move moves.Duplicate) = true
needs_nothing (ops.Move moves.DuplicateTwo) = true
needs_nothing (ops.Arithmetic a) = true
needs_nothing (ops.ArrayRead k) = true
needs_nothing (ops.ArrayWrite k) = true
needs_nothing ops.ArrayLength = true
needs_nothing (ops.Branch b) = true
needs_nothing (ops.Switch width) = true
needs_nothing ops.Throw = true
needs_nothing _ = false

is_fine : Row → Bool
is_fine (rows.Plain op) = needs_nothing op
is_fine _ = true

all_fine : List Row → Bool
all_fine [] = true
all_fine (r ∷ rs) = is_fine r && all_fine rs

table-fine : all_fine table ≡ true
unfolding all_fine is_fine needs_nothing table by_sort by_width by_kind first_four by_register literals binaries orders_all branching unused
table-fine = refl

fine-at : (rs : List Row) (n : ℕ) → all_fine rs ≡ true → is_fine (slice_index_or rs n unused) ≡ true
unfolding all_fine is_fine needs_nothing unused
fine-at [] n h = refl
fine-at (r ∷ rs) zero h = (and_parts (is_fine r) (all_fine rs) h).0
fine-at (r ∷ rs) (suc n) h = fine-at rs n (and_parts (is_fine r) (all_fine rs) h).1

row-fine : (n : ℕ) → is_fine (row_at n) ≡ true
unfolding row_at
row-fine n = fine-at table n table-fine

-- ---- tests

taken-sound : {X : Type 0} (P : X → Type 0) (b : Bool) (pool : ℕ) (x : X) → (b ≡ true → P x) → IfOk (taken_if b pool x) P
taken-sound P true pool x h = h refl
taken-sound P false pool x h = tt

on-sound : {X : Type 0} (P : Operation → Type 0) (op : X → Operation) (r : Result X RuleFault) → IfOk r (λ x. P (op x)) → IfOk (on op r) P
on-sound P op (Ok x) h = h
on-sound P op (Err fault) h = tt

if-sound : {X : Type 0} (P : X → Type 0) (b : Bool) (r s : Result X RuleFault) → (b ≡ true → IfOk r P) → (b ≡ false → IfOk s P)
    → IfOk (if b then r else s) P
if-sound P true r s h k = h refl
if-sound P false r s h k = k refl

-- ---- the only one of a search

filter-first : (p : ℕ → Bool) (xs : List ℕ) (n : ℕ) (ns : List ℕ) → filter p xs ≡ n ∷ ns → p n ≡ true
filter-first p [] n ns e = absurd (cc)
filter-first p (x ∷ xs) n ns e = at (p x) refl e (filter-first p xs n ns)
  where
    at : (b : Bool) → p x ≡ b → cond b (x ∷ filter p xs) (filter p xs) ≡ n ∷ ns → (filter p xs ≡ n ∷ ns → p n ≡ true) → p n ≡ true
    at true q e rest = let h : x ≡ n = cc in subst (λ y. p y ≡ true) h q
    at false q e rest = rest e

only-passes : (p : ℕ → Bool) (xs : List ℕ) (n : ℕ) → only (filter p xs) ≡ Some n → p n ≡ true
only-passes p xs n h = at (filter p xs) refl h
  where
    at : (l : List ℕ) → filter p xs ≡ l → only l ≡ Some n → p n ≡ true
    at [] e q = absurd (cc)
    at (x ∷ []) e q = let is_n : x ≡ n = cc in subst (λ y. p y ≡ true) is_n (filter-first p xs x [] e)
    at (x ∷ y ∷ ys) e q = absurd (cc)

described-is : (methods : List MethodRec) (c token n : ℕ) (m : MethodRec) → only (described methods c token) ≡ Some n
    → slice_get methods n ≡ Some m → (m.class ≡ c) × (m.token ≡ token)
unfolding described
described-is methods c token n m h e =
    let p : passes_test (is_described c token) (slice_get methods n) ≡ true = only-passes (λ n. passes_test (is_described c token) (slice_get methods n))
    (range_with_len 0 (length methods)) n h in
    let q : is_described c token m ≡ true = subst (λ o. passes_test (is_described c token) o ≡ true) e p in
    let r = and_parts (m.class == c) (m.token == token) q in
    (eqb-true m.class c r.0, eqb-true m.token token r.1)

module _ (w : Linked) (is : IsWorld w) (decides : ConcreteDecides w.classes w.methods) where
  method-is : (n : ℕ) (m : MethodRec) → slice_get w.methods n ≡ Some m → IsMethod w.infos w.pools w.classes m
  method-is n m e = All-slice_get (IsMethod w.infos w.pools w.classes) w.methods n m is.methods e

  -- ---- fields

  static-sound : (pool : ℕ) (k : Kind) (o : Option Member) → IfSome o (IsMember w.classes w.methods w.statics)
      → IfOk (static_field pool k o) (IsStaticOf w)
  static-sound pool k (Some (Static slot kind ty)) (i, f, lt, at, slot_of) =
      let static : IsStatic (length w.infos) w.classes w.arrays f = static-known w is f i lt at in
      taken-sound (IsStaticOf w) (same_kind k kind) pool (record { slot = slot; kind = kind; ty = ty }) (λ b. record {
        there = (i, f, lt, at, slot_of);
        kind = subst (λ x. IsOfKind x ty) slot_of.kind (subst (IsOfKind f.kind) slot_of.ty static.kind);
        ty = subst (IsDeclared w.classes) slot_of.ty static.ty;
      })
  static-sound pool k _ h = tt

  field-sound : (pool : ℕ) (k : Kind) (o : Option Member) → IfSome o (IsMember w.classes w.methods w.statics)
      → IfOk (instance_field w.classes pool k o) (IsFieldOf w)
  field-sound pool k (Some (Field c cell kind ty)) h =
      taken-sound (IsFieldOf w) (same_kind k kind && not (c == object w.classes)) pool (record { class = c; cell = cell; kind = kind; ty = ty }) (λ b. record {
        cells = h;
        ty = All-slice_get (IsDeclared w.classes) (cells_of w.classes c) cell ty (cells-declared w is c) h.first;
        not_object = eqb-false c (object w.classes) (not-true (c == object w.classes) (and_parts (same_kind k kind) (not (c == object w.classes)) b).1);
      })
  field-sound pool k _ h = tt

  -- ---- calls

  callee-by : (test : MethodRec → Bool) (pool n : ℕ) (o : Option MethodRec) (receiver : MethodRec → Option Want) (choice : Choice)
      → ((m : MethodRec) → o ≡ Some m → test m ≡ true → IsCalleeOf w (record { method = n; receiver = receiver m; choice = choice }))
      → IfOk (callee_if test pool n o receiver choice) (IsCalleeOf w)
  callee-by test pool n None receiver choice h = tt
  callee-by test pool n (Some m) receiver choice h =
      taken-sound (IsCalleeOf w) (test m) pool (record { method = n; receiver = receiver m; choice = choice }) (λ b. h m refl b)

  of_some : (P : MethodRec → Type 0) (o : Option MethodRec) (m : MethodRec) → o ≡ Some m → IsSomeAnd o P → P m
  of_some P o m e h = subst (λ x. IsSomeAnd x P) e h

  entry-sound : (pool c token : ℕ) (o : Option ℕ) → entry_at w.classes c token ≡ o → IsClass w.classes c
      → IfOk (entry_callee w pool c token o) (IsCalleeOf w)
  entry-sound pool c token None e h = tt
  entry-sound pool c token (Some n) e h =
      callee-by (λ m. not (c == object w.classes && m.is_abstract)) pool n (slice_get w.methods n) (λ m. Some (Value (Class c))) (choices.Virtual c token)
      (λ m q b.
      let inherited : IsInherited w.classes c m =
      of_some (IsInherited w.classes c) (slice_get w.methods n) m q
      (subst (λ x. IfSome x (λ n. IsSomeAnd (slice_get w.methods n) (IsInherited w.classes c))) e (entry-inherits w is c token)) in
      record {
        rec = m;
        is_method = q;
        chosen = record {
          class = h;
          entry = e;
          receiver_is = refl;
          inherited = inherited;
          body = λ alike. has_body c (object w.classes) m.is_abstract alike (not-true (c == object w.classes && m.is_abstract) b);
        };
        known = h;
        room = argument_room w.infos w.pools w.classes m (method-is n m q) inherited.dynamic;
      })
    where
      has_body : (a b : ℕ) (abstract : Bool) → a ≡ b → (a == b && abstract) ≡ false → abstract ≡ false
      has_body a b true alike h = let e : (a == b) ≡ true = grind (arith, nat_tests) in absurd (cc)
      has_body a b false alike h = refl

  virtual-sound : (pool : ℕ) (o : Option Member) → IfSome o (IsMember w.classes w.methods w.statics) → IfOk (virtual_callee w pool o) (IsCalleeOf w)
  virtual-sound pool (Some (Virtual c token)) h = entry-sound pool c token (entry_at w.classes c token) refl h.0
  virtual-sound pool _ h = tt

  super-sound : (pool c n : ℕ) (o : Option ℕ) → parent_of w.classes c ≡ o → IsClass w.classes c
      → IsSomeAnd o (λ p. Contains (public_of w.classes p ++ visible_of w.classes p) n)
      → IfOk (special_callee w pool (Some (Super c n))) (IsCalleeOf w)
  super-sound pool c n None e h k = absurd k
  super-sound pool c n (Some p) e h k =
      callee-by (λ m. not (lacks_code w.classes m)) pool n (slice_get w.methods n) (λ m. Some (Value (Class c))) choices.Special (λ m q b.
      let inherited : IsInherited w.classes p m = of_some (IsInherited w.classes p) (slice_get w.methods n) m q (super-inherits w is p n k) in
      record {
        rec = m;
        is_method = q;
        chosen = record {
          body = not-true (lacks_code w.classes m) b;
          dynamic = inherited.dynamic;
          receives = (inherited.no_constructor, h, joined (subclass e) inherited.class);
        };
        known = h;
        room = argument_room w.infos w.pools w.classes m (method-is n m q) inherited.dynamic;
      })

  own_class : (n : ℕ) (m : MethodRec) → slice_get w.methods n ≡ Some m → lacks_code w.classes m ≡ false → IsClass w.classes m.class
  own_class n m q body = record { number = (method-is n m q).class; class = (or_parts m.is_abstract (is_interface w.classes m.class) body).1 }

  own-receives : (m : MethodRec) (b : Bool) → m.is_init ≡ b → IsClass w.classes m.class
      → IsReceiverOf w m (Some (if b then Receiver m.class else Value (Class m.class)))
  own-receives m true e h = (e, refl, h)
  own-receives m false e h = (e, h, same)

  own-known : (m : MethodRec) (b : Bool) → IsClass w.classes m.class → IsKnownWant w.classes (if b then Receiver m.class else Value (Class m.class))
  own-known m true h = h
  own-known m false h = h

  own-sound : (pool n : ℕ) → IfOk (special_callee w pool (Some (StaticCall n))) (IsCalleeOf w)
  own-sound pool n =
      callee-by (λ m. not m.is_static && not (lacks_code w.classes m)) pool n (slice_get w.methods n) (λ m. Some (own_receiver m)) choices.Special (λ m q b.
      let parts = and_parts (not m.is_static) (not (lacks_code w.classes m)) b in
      let dynamic : m.is_static ≡ false = not-true m.is_static parts.0 in
      let body : lacks_code w.classes m ≡ false = not-true (lacks_code w.classes m) parts.1 in
      let class : IsClass w.classes m.class = own_class n m q body in
      record {
        rec = m;
        is_method = q;
        chosen = record { body = body; dynamic = dynamic; receives = own-receives m m.is_init refl class };
        known = own-known m m.is_init class;
        room = argument_room w.infos w.pools w.classes m (method-is n m q) dynamic;
      })

  special-sound : (pool : ℕ) (o : Option Member) → IfSome o (IsMember w.classes w.methods w.statics) → IfOk (special_callee w pool o) (IsCalleeOf w)
  special-sound pool (Some (Super c n)) h = super-sound pool c n (parent_of w.classes c) refl h.0 h.1
  special-sound pool (Some (StaticCall n)) h = own-sound pool n
  special-sound pool _ h = tt

  static_call-sound : (pool : ℕ) (o : Option Member) → IfOk (static_callee w pool o) (IsCalleeOf w)
  static_call-sound pool (Some (StaticCall n)) =
      callee-by (λ m. m.is_static && not m.is_init && not (lacks_code w.classes m)) pool n (slice_get w.methods n) (λ m. None) choices.Static (λ m q b.
      let parts = three_true m.is_static (not m.is_init) (not (lacks_code w.classes m)) b in
      let declared : IsMethod w.infos w.pools w.classes m = method-is n m q in
      record {
        rec = m;
        is_method = q;
        chosen = record { body = not-true (lacks_code w.classes m) parts.2; static = parts.0; no_constructor = not-true m.is_init parts.1; receiver_is = refl };
        known = tt;
        room = omega (arith, declared.words, declared.registers);
      })
    where
      three_true : (a b c : Bool) → (a && b && c) ≡ true → (a ≡ true) × (b ≡ true) × (c ≡ true)
      three_true true true true h = (refl, refl, refl)
      three_true true true false h = absurd (cc)
      three_true true false c h = absurd (cc)
      three_true false b c h = absurd (cc)
  static_call-sound pool _ = tt

  described-sound : (pool nargs c token : ℕ) (o : Option ℕ) → nargs ≤ 255 → is_interface w.classes c ≡ true
      → only (described w.methods c token) ≡ o → IfOk (described_callee w pool nargs c token o) (IsCalleeOf w)
  described-sound pool nargs c token None few interface e = tt
  described-sound pool nargs c token (Some n) few interface e =
      callee-by (λ m. nargs == length m.sig.args + 1) pool n (slice_get w.methods n) (λ m. Some (Value (Class (object w.classes))))
      (choices.Interface c token nargs) (λ m q b.
      let names = described-is w.methods c token n m e q in
      let words : nargs ≡ length m.sig.args + 1 = eqb-true nargs (length m.sig.args + 1) b in
      record {
        rec = m;
        is_method = q;
        chosen = record { interface = interface; described_is = e; class = names.0; token_is = names.1; words_are = words; receiver_is = refl };
        known = is.roles.objects;
        room = omega (arith, words, few);
      })

  interface-sound : (pool nargs token : ℕ) (o : Option Member) → nargs ≤ 255 → IfOk (interface_callee w pool nargs token o) (IsCalleeOf w)
  interface-sound pool nargs token (Some (ClassOf c)) few =
      if-sound (IsCalleeOf w) (is_interface w.classes c) (described_callee w pool nargs c token (only (described w.methods c token))) (Err (BadMember pool))
      (λ interface. described-sound pool nargs c token (only (described w.methods c token)) few interface refl) (λ q. tt)
  interface-sound pool nargs token _ few = tt

  -- the entry of a pool
  all_at : (pools : List (List Member)) (home : ℕ) → All (All (IsMember w.classes w.methods w.statics)) pools
      → All (IsMember w.classes w.methods w.statics) (list_at pools home)
  all_at [] home h = λ k d lt. absurd (omega arith)
  all_at (p ∷ ps) zero h = h 0 p (omega arith)
  all_at (p ∷ ps) (suc home) h = all_at ps home (λ k d lt. h (suc k) d (omega arith))

  member-at : (home pool : ℕ) → IfSome (member_at w home pool) (IsMember w.classes w.methods w.statics)
  member-at home pool = at (slice_get (list_at w.pools home) pool) refl
    where
      at : (o : Option Member) → slice_get (list_at w.pools home) pool ≡ o → IfSome o (IsMember w.classes w.methods w.statics)
      at None e = tt
      at (Some m) e = All-slice_get (IsMember w.classes w.methods w.statics) (list_at w.pools home) pool m (all_at w.pools home is.members) e

  callee-sound : (home : ℕ) (i : Insn) (by : Invocation) → IfOk (callee w home i by) (IsCalleeOf w)
  callee-sound home i invocations.Virtual = virtual-sound (short_of i.x) (member_at w home (short_of i.x)) (member-at home (short_of i.x))
  callee-sound home i invocations.Special = special-sound (short_of i.x) (member_at w home (short_of i.x)) (member-at home (short_of i.x))
  callee-sound home i invocations.Static = static_call-sound (short_of i.x) (member_at w home (short_of i.x))
  callee-sound home i invocations.Interface = interface-sound (short_of i.y) (byte_of i.x) (byte_of i.z) (member_at w home (short_of i.y)) (omega arith)

  -- ---- types

  class-sound : (P : Ty → Type 0) (make : ℕ → Ty) (pool : ℕ) (o : Option Member) → ((c : ℕ) → c < length w.classes.records → P (make c))
      → IfSome o (IsMember w.classes w.methods w.statics) → IfOk (class_type make pool o) P
  class-sound P make pool (Some (ClassOf c)) g h = g c h
  class-sound P make pool _ g h = tt

  array_if : (P : Ty → Type 0) (b : Bool) (x y : Ty) → P x → P y → P (if b then x else y)
  array_if P true x y h k = h
  array_if P false x y h k = k

  array-of : (P : Ty → Type 0) → P ArrBool → P ArrByte → P ArrShort → P ArrInt → (atype : ℕ) → P (array_of atype)
  array-of P of_bool of_byte of_short of_int atype =
      array_if P (atype == 10) ArrBool (if atype == 11 then ArrByte else if atype == 12 then ArrShort else ArrInt) of_bool
      (array_if P (atype == 11) ArrByte (if atype == 12 then ArrShort else ArrInt) of_byte (array_if P (atype == 12) ArrShort ArrInt of_short of_int))

  tested-sound : (atype pool : ℕ) (o : Option Member) → IfSome o (IsMember w.classes w.methods w.statics)
      → IfOk (tested_type atype pool o) (IsNamedType w.classes)
  tested-sound atype pool o h =
      if-sound (IsNamedType w.classes) (atype == 0) (class_type Class pool o) (if atype == 14 then class_type ArrRef pool o else Ok (array_of atype))
      (λ q. class-sound (IsNamedType w.classes) Class pool o (λ c lt. lt) h)
      (λ q. if-sound (IsNamedType w.classes) (atype == 14) (class_type ArrRef pool o) (Ok (array_of atype))
      (λ r. class-sound (IsNamedType w.classes) ArrRef pool o (λ c lt. lt) h) (λ r. array-of (IsNamedType w.classes) tt tt tt tt atype))

  low-unreturned : (sort : Option Sort) → returns sort (Some IntLow) ≡ false
  low-unreturned None = refl
  low-unreturned (Some sorts.Reference) = refl
  low-unreturned (Some sorts.Short) = refl
  low-unreturned (Some sorts.Int) = refl

  result-is : (sort : Option Sort) (result : Option Ty) → IfSome result (IsDeclared w.classes) → returns sort result ≡ true
      → IfSome result (IsResult w.classes)
  result-is sort None h q = tt
  result-is sort (Some ty) h q = record {
    declared = h;
    no_low = λ e. let never : false ≡ true = sym (low-unreturned sort) ∙ subst (λ x. returns sort (Some x) ≡ true) e q in absurd (cc);
  }

  return-sound : (sort : Option Sort) (result : Option Ty) → IfSome result (IsDeclared w.classes)
      → IfOk (result_returned w.classes sort result) (λ r. (r ≡ result) × IfSome r (IsResult w.classes))
  return-sound sort result h =
      if-sound (λ r. (r ≡ result) × IfSome r (IsResult w.classes)) (returns sort result) (Ok result)
      (Err (Mismatch (returned w.classes sort) (result_type result)))
      (λ q. (refl, result-is sort result h q)) (λ q. tt)

  -- ---- operations

  module _ (m : MethodRec) (place : ℕ) where
    plain-sound : (op : Operation) → needs_nothing op ≡ true → IsSound w m place op
    unfolding needs_nothing
    plain-sound (ops.Constant c) h = tt
    plain-sound (ops.Load s x) h = tt
    plain-sound (ops.Store s x) h = tt
    plain-sound (ops.Move moves.Pop) h = tt
    plain-sound (ops.Move moves.PopTwo) h = tt
    plain-sound (ops.Move moves.Duplicate) h = tt
    plain-sound (ops.Move moves.DuplicateTwo) h = tt
    plain-sound (ops.Arithmetic a) h = tt
    plain-sound (ops.ArrayRead k) h = tt
    plain-sound (ops.ArrayWrite k) h = tt
    plain-sound ops.ArrayLength h = tt
    plain-sound (ops.Branch b) h = tt
    plain-sound (ops.Switch width) h = tt
    plain-sound ops.Throw h = tt
    plain-sound _ h = absurd (cc)

    nibbles : (x : ℕ) → x < 256 → x / 16 + x % 16 ≤ 255
    nibbles x h = omega arith

    byte-small : (i : Insn) → byte_of i.x < 256
    byte-small i = omega arith

    new-sound : (pool : ℕ) (o : Option Member) → IfOk (new_object w place pool o) (IsSound w m place)
    new-sound pool (Some (ClassOf c)) =
        if-sound (IsSound w m place) (is_concrete w.classes w.methods c) (Ok (ops.New place c)) (Err (NotConcrete c))
        (λ concrete. (refl, (decides c).0 concrete)) (λ abstract. tt)
    new-sound pool _ = tt

    from_equal : {r s : Result Operation RuleFault} → r ≡ s → IfOk s (IsSound w m place) → IfOk r (IsSound w m place)
    from_equal e h = subst (λ x. IfOk x (IsSound w m place)) (sym e) h

    row-sound : (i : Insn) (row : Row) (r : Result Operation RuleFault) → is_fine row ≡ true → IfSome m.sig.result (IsDeclared w.classes)
        → r ≡ resolved w m place i row → IfOk r (IsSound w m place)
    unfolding is_fine
    row-sound i (rows.Plain op) r fine q e = from_equal e (plain-sound op fine)
    row-sound i rows.PushShort r fine q e = from_equal e tt
    row-sound i rows.PushInt r fine q e = from_equal e tt
    row-sound i (rows.Load s) r fine q e = from_equal e tt
    row-sound i (rows.Store s) r fine q e = from_equal e tt
    row-sound i (rows.Increment width) r fine q e = from_equal e tt
    row-sound i rows.CopyUnder r fine q e = from_equal e (nibbles (byte_of i.x) (byte-small i))
    row-sound i rows.Exchange r fine q e = from_equal e (nibbles (byte_of i.x) (byte-small i))
    row-sound i (rows.StaticRead k) r fine q e =
        from_equal e (on-sound (IsSound w m place) ops.StaticRead (static_field (short_of i.x) k (member_at w m.package (short_of i.x)))
        (static-sound (short_of i.x) k (member_at w m.package (short_of i.x)) (member-at m.package (short_of i.x))))
    row-sound i (rows.StaticWrite k) r fine q e =
        from_equal e (on-sound (IsSound w m place) ops.StaticWrite (static_field (short_of i.x) k (member_at w m.package (short_of i.x)))
        (static-sound (short_of i.x) k (member_at w m.package (short_of i.x)) (member-at m.package (short_of i.x))))
    row-sound i (rows.FieldRead k h) r fine q e =
        from_equal e (on-sound (IsSound w m place) (λ f. ops.FieldRead f h) (instance_field w.classes (short_of i.x) k (member_at w m.package (short_of i.x)))
        (field-sound (short_of i.x) k (member_at w m.package (short_of i.x)) (member-at m.package (short_of i.x))))
    row-sound i (rows.FieldWrite k h) r fine q e =
        from_equal e (on-sound (IsSound w m place) (λ f. ops.FieldWrite f h) (instance_field w.classes (short_of i.x) k (member_at w m.package (short_of i.x)))
        (field-sound (short_of i.x) k (member_at w m.package (short_of i.x)) (member-at m.package (short_of i.x))))
    row-sound i (rows.Call by) r fine q e = from_equal e (on-sound (IsSound w m place) ops.Call (callee w m.package i by) (callee-sound m.package i by))
    row-sound i rows.New r fine q e = from_equal e (new-sound (short_of i.x) (member_at w m.package (short_of i.x)))
    row-sound i rows.NewNumbers r fine q e =
        from_equal e (array-of (λ ty. IsArray ty × IsNamedType w.classes ty) (of_booleans, tt) (of_bytes, tt) (of_shorts, tt) (of_ints, tt) (byte_of i.x))
    row-sound i rows.NewReferences r fine q e =
        from_equal e (on-sound (IsSound w m place) ops.NewArray (class_type ArrRef (short_of i.x) (member_at w m.package (short_of i.x)))
        (class-sound (λ ty. IsArray ty × IsNamedType w.classes ty) ArrRef (short_of i.x) (member_at w m.package (short_of i.x))
        (λ c lt. (of_references, lt)) (member-at m.package (short_of i.x))))
    row-sound i (rows.TypeTest test) r fine q e =
        from_equal e (on-sound (IsSound w m place) (ops.TypeTest test) (tested_type (byte_of i.x) (short_of i.y) (member_at w m.package (short_of i.y)))
        (tested-sound (byte_of i.x) (short_of i.y) (member_at w m.package (short_of i.y)) (member-at m.package (short_of i.y))))
    row-sound i (rows.Return s) r fine q e =
        from_equal e (on-sound (IsSound w m place) ops.Return (result_returned w.classes s m.sig.result) (return-sound s m.sig.result q))

  -- what an instruction of a method is resolved to is sound
  pub resolved-sound : (m : MethodRec) (place : ℕ) (i : Insn) (r : Result Operation RuleFault) → IfSome m.sig.result (IsDeclared w.classes)
      → Resolves w m place i r → IfOk r (IsSound w m place)
  resolved-sound m place i r q h = row-sound m place i (row_at i.op) r (row-fine i.op) q h

pub operations-are-sound : (w : Linked) → IsWorld w → ConcreteDecides w.classes w.methods → OperationsAreSound w
operations-are-sound w is decides m place i op q h = resolved-sound w is decides m place i (Ok op) q h
