-- What a linked world says of the entries of a constant pool.
use Rattle.std.proofs.Common.{◌≡◌, ℕ, ◌+◌, ◌<◌, ◌≤◌, false, nat_lt, List, [], ◌∷◌, ◌++◌, length, refl, subst}
use Rattle.std.proofs.Common.{arith, All, Option, Some, None, IfSome, IsSomeAnd, slice_get, cond, Contains, flat_map, reverse, get_or}
use Rattle.std.proofs.lemmas.List.Elements.{All-contains, All-append}
use Rattle.std.proofs.lemmas.Option.{slice_get_within}
use Rattle.jc_base.proofs.Lists.{All-slice_get}
use Rattle.jc_base.specs.declared.record.Member.{Member}
use Rattle.jc_base.specs.declared.record.Member.TheVariants.{ClassOf, Field, Static, Virtual, Super, StaticCall}
use Rattle.jc_base.specs.declared.record.ClassRec.{ClassRec}
use Rattle.jc_base.specs.declared.record.MethodRec.{MethodRec}
use Rattle.jc_base.specs.declared.record.StaticRec.{StaticRec}
use Rattle.jc_base.specs.Class.{ClassTable, parent_of, chain}
use Rattle.jc_base.specs.Laws.{DeclaredAreKnown}
use Rattle.jc_base.specs.Cell.{IsDeclared}
use Rattle.jc_base.specs.Dispatch.{of_record, public_of, visible_of, entry_at, cells_of, own_cells}
use Rattle.jc_base.specs.Linked.{IsInherited, IsMethod, IsMember, IsLinkedClass, IsStatic}
use Rattle.jc_base.specs.World.{Linked, IsWorld}
use Rattle.jc_ops.specs.Sound.{TakesReceiver, IsKnownMember}
use Rattle.std.proofs.Common.{◌-◌, true}
use Rattle.jc_base.specs.Linked.{receiver_words}

-- the arguments of a method that is not static leave room for its receiver
pub argument_room : (infos : List (List ℕ)) (pools : List (List Member)) (t : ClassTable) (m : MethodRec) → IsMethod infos pools t m
    → m.is_static ≡ false → length m.sig.args + 1 ≤ 255
argument_room infos pools t m is dynamic =
    let words : m.nargs ≡ length m.sig.args + 1 = subst (λ b. m.nargs ≡ length m.sig.args + receiver_words b) dynamic is.words in
    let room : m.nargs + m.max_locals ≤ 255 = is.registers in
    omega arith

module _ (w : Linked) (is : IsWorld w) where
  -- a method that a class inherits takes a receiver
  inherited_at : (c : ℕ) (o : Option MethodRec) → ((m : MethodRec) → o ≡ Some m → IsMethod w.infos w.pools w.classes m)
      → IsSomeAnd o (IsInherited w.classes c) → IsSomeAnd o (λ m. length m.sig.args + 1 ≤ 255)
  inherited_at c None all h = h
  inherited_at c (Some m) all h = argument_room w.infos w.pools w.classes m (all m refl) h.dynamic

  in_list : (n : ℕ) (o : Option MethodRec) (P : MethodRec → Type 0) → slice_get w.methods n ≡ o → IsSomeAnd o P → n < length w.methods
  in_list n None P e h = absurd h
  in_list n (Some m) P e h = slice_get_within w.methods n m e

  pub inherited-receives : (c n : ℕ) → IsSomeAnd (slice_get w.methods n) (IsInherited w.classes c) → TakesReceiver w.methods n
  inherited-receives c n h = record {
    number = in_list n (slice_get w.methods n) (IsInherited w.classes c) refl h;
    room = inherited_at c (slice_get w.methods n) (λ m e. All-slice_get (IsMethod w.infos w.pools w.classes) w.methods n m is.methods e) h;
  }

  -- the entries of a class's lists
  lists_at : (c : ℕ) (o : Option ClassRec) → IfSome o (IsLinkedClass (length w.infos) w.classes w.methods c) →
      All (λ n. IsSomeAnd (slice_get w.methods n) (IsInherited w.classes c)) (of_record [] (λ r. r.public) o)
      × All (λ n. IsSomeAnd (slice_get w.methods n) (IsInherited w.classes c)) (of_record [] (λ r. r.visible) o)
  lists_at c None h = ((λ k d lt. absurd (omega arith)), (λ k d lt. absurd (omega arith)))
  lists_at c (Some r) h = (h.public.entries, h.visible.entries)

  pub public-inherits : (c : ℕ) → All (λ n. IsSomeAnd (slice_get w.methods n) (IsInherited w.classes c)) (public_of w.classes c)
  unfolding public_of
  public-inherits c = (lists_at c (slice_get w.classes.records c) (is.classes c)).0

  pub visible-inherits : (c : ℕ) → All (λ n. IsSomeAnd (slice_get w.methods n) (IsInherited w.classes c)) (visible_of w.classes c)
  unfolding visible_of
  visible-inherits c = (lists_at c (slice_get w.classes.records c) (is.classes c)).1

  list-inherits : (c : ℕ) (list : List ℕ) → All (λ n. IsSomeAnd (slice_get w.methods n) (IsInherited w.classes c)) list
      → (k : ℕ) (o : Option ℕ) → slice_get list k ≡ o → IfSome o (λ n. IsSomeAnd (slice_get w.methods n) (IsInherited w.classes c))
  list-inherits c list all k None e = tt
  list-inherits c list all k (Some n) e = All-slice_get (λ n. IsSomeAnd (slice_get w.methods n) (IsInherited w.classes c)) list k n all e

  -- an entry of a class's lists is a method that it inherits
  pub entry-inherits : (c token : ℕ) → IfSome (entry_at w.classes c token) (λ n. IsSomeAnd (slice_get w.methods n) (IsInherited w.classes c))
  unfolding entry_at
  entry-inherits c token =
      elim (nat_lt token 128) as (λ b. IfSome (cond b (slice_get (public_of w.classes c) token) (slice_get (visible_of w.classes c) (token - 128)))
      (λ n. IsSomeAnd (slice_get w.methods n) (IsInherited w.classes c))) [
        | true ↦ list-inherits c (public_of w.classes c) (public-inherits c) token (slice_get (public_of w.classes c) token) refl
        | false ↦ list-inherits c (visible_of w.classes c) (visible-inherits c) (token - 128) (slice_get (visible_of w.classes c) (token - 128)) refl
      ]

  receives_at : (c : ℕ) (o : Option ℕ) → IfSome o (λ n. IsSomeAnd (slice_get w.methods n) (IsInherited w.classes c))
      → IfSome o (TakesReceiver w.methods)
  receives_at c None h = tt
  receives_at c (Some n) h = inherited-receives c n h

  pub entry-receives : (c token : ℕ) → IfSome (entry_at w.classes c token) (TakesReceiver w.methods)
  entry-receives c token = receives_at c (entry_at w.classes c token) (entry-inherits c token)

  own_at : (c : ℕ) (o : Option ClassRec) → IfSome o (IsLinkedClass (length w.infos) w.classes w.methods c)
      → All (IsDeclared w.classes) (of_record [] (λ r. r.own) o)
  own_at c None h = λ k d lt. absurd (omega arith)
  own_at c (Some r) h = h.own

  own-declared : (c : ℕ) → All (IsDeclared w.classes) (own_cells w.classes c)
  unfolding own_cells
  own-declared c = own_at c (slice_get w.classes.records c) (is.classes c)

  flat-declared : (cs : List ℕ) → All (IsDeclared w.classes) (flat_map (own_cells w.classes) cs)
  flat-declared [] = λ k d lt. absurd (omega arith)
  flat-declared (c ∷ cs) = All-append (IsDeclared w.classes) (own_cells w.classes c) (flat_map (own_cells w.classes) cs) (own-declared c) (flat-declared cs)

  pub cells-declared : (c : ℕ) → All (IsDeclared w.classes) (cells_of w.classes c)
  unfolding cells_of
  cells-declared c = flat-declared (reverse (chain w.classes c))

  pub static-known : (f : StaticRec) (k : ℕ) → k < length w.statics → get_or w.statics k f ≡ f → IsStatic (length w.infos) w.classes w.arrays f
  static-known f k lt at = subst (λ g. IsStatic (length w.infos) w.classes w.arrays g) at (is.statics k f lt)

  -- a method that the superclass has
  pub super-inherits : (p n : ℕ) → Contains (public_of w.classes p ++ visible_of w.classes p) n
      → IsSomeAnd (slice_get w.methods n) (IsInherited w.classes p)
  super-inherits p n h =
      All-contains (λ k. IsSomeAnd (slice_get w.methods k) (IsInherited w.classes p)) (public_of w.classes p ++ visible_of w.classes p) n
      (All-append (λ k. IsSomeAnd (slice_get w.methods k) (IsInherited w.classes p)) (public_of w.classes p) (visible_of w.classes p) (public-inherits p)
      (visible-inherits p)) h

  super-receives : (c n : ℕ) → (o : Option ℕ) → IsSomeAnd o (λ p. Contains (public_of w.classes p ++ visible_of w.classes p) n)
      → TakesReceiver w.methods n
  super-receives c n None h = absurd h
  super-receives c n (Some p) h = inherited-receives p n (super-inherits p n h)

  pub member-known : DeclaredAreKnown w.classes → (m : Member) → IsMember w.classes w.methods w.statics m → IsKnownMember w m
  member-known known (ClassOf c) h = h
  member-known known (Field c cell kind ty) h =
      (h.class, known ty (All-slice_get (IsDeclared w.classes) (cells_of w.classes c) cell ty (cells-declared c) h.first))
  member-known known (Static slot kind ty) (k, f, lt, at, slot_of) = known ty (subst (IsDeclared w.classes) slot_of.ty (static-known f k lt at).ty)
  member-known known (Virtual c token) h = (h.0, entry-receives c token)
  member-known known (Super c n) h = (h.0, super-receives c n (parent_of w.classes c) h.1)
  member-known known (StaticCall n) h = h
