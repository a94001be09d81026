-- The sample world meets the invariant of worlds.
use Rattle.std.proofs.Common.{◌≡◌, ℕ, zero, suc, ◌+◌, ◌<◌, ◌≤◌, inl, inr, Bool, true, false, List, [], ◌∷◌, length, Option, Some, None, refl, sym}
use Rattle.std.proofs.Common.{subst, arith, lit<, lit≤}
use Rattle.std.specs.Prelude.{All, IfSome, IsSomeAnd, replicate, slice_get, slice_index, slice_index_or, option_and_then, get_or, ◌==◌}
use Rattle.std.proofs.lemmas.List.Elements.{All-from_recursion, All-nil, All-weaker}
use Rattle.jc_base.specs.declared.ty.Ty.TheVariants.{Short, IntHigh, IntLow, Class}
use Rattle.jc_base.specs.declared.ty.Kind.TheVariants as kinds
use Rattle.jc_base.specs.declared.record.Member.{Member}
use Rattle.jc_base.specs.declared.record.Member.TheVariants.{Static, Virtual, Super}
use Rattle.jc_base.specs.declared.record.StaticRec.{StaticRec}
use Rattle.jc_base.specs.declared.record.ArrayRec.{ArrayRec}
use Rattle.jc_base.specs.declared.record.MethodRec.{MethodRec}
use Rattle.jc_base.specs.ByClass.{listed}
use Rattle.jc_base.specs.Class.{ClassTable, IsClass, AreClasses, EndsWithObject, is_interface, parent_of, chain, chain_over}
use Rattle.jc_base.specs.Order.{Below, same, joined, subclass}
use Rattle.jc_base.specs.Cell.{IsDeclared, no_cells, one_cell, AreElementsOf, IsByteWord}
use Rattle.jc_base.specs.Dispatch.{HasBody, visible_in, nearest_of, package_of, public_of, visible_of, cell_count, cells_of, own_cells, entry_at, signature_at}
use Rattle.jc_base.specs.Interface.{extended, NoneExtendsItself}
use Rattle.jc_base.proofs.Leading.{leads-nowhere}
use Rattle.jc_base.proofs.Bodies.{linked_more}
use Rattle.jc_base.specs.Linked.{AreLinkedClasses, IsMethod, IsHandler, IsLinkedClass, IsInherited, IsDispatch, IsImplemented, IsStatic, IsMember}
use Rattle.jc_base.specs.Linked.{IsField, list_at}
use Rattle.jc_base.specs.World.{IsWorld, IsThrown}
use Rattle.jc_tests.specs.TwoPackages.{sample, HasSampleSizes, classes, methods, statics, arrays, first_pool, second_pool, first_info, second_info}
use Rattle.jc_tests.specs.TwoPackages.{instance_method, interface_method, static_method}

-- ---- the classes

is_object : IsClass classes 0
unfolding is_interface
is_object = record { number = lit< tt; class = refl }

is_throwable : IsClass classes 1
unfolding is_interface
is_throwable = record { number = lit< tt; class = refl }

is_base : IsClass classes 3
unfolding is_interface
is_base = record { number = lit< tt; class = refl }

is_derived : IsClass classes 4
unfolding is_interface
is_derived = record { number = lit< tt; class = refl }

is_last : IsClass classes 5
unfolding is_interface
is_last = record { number = lit< tt; class = refl }

no_class : IsClass classes 2 → ⊥
unfolding is_interface
no_class is = let e : true ≡ false = is.class in cc

chains_end : (c : ℕ) → IsClass classes c → EndsWithObject classes c
unfolding chain chain_over parent_of
chains_end zero is = record { classes = All-from_recursion (IsClass classes) (0 ∷ []) (is_object, tt); ends = refl }
chains_end (suc zero) is = record { classes = All-from_recursion (IsClass classes) (1 ∷ 0 ∷ []) (is_throwable, (is_object, tt)); ends = refl }
chains_end (suc (suc zero)) is = absurd (no_class is)
chains_end (suc (suc (suc zero))) is = record { classes = All-from_recursion (IsClass classes) (3 ∷ 0 ∷ []) (is_base, (is_object, tt)); ends = refl }
chains_end (suc (suc (suc (suc zero)))) is =
    record { classes = All-from_recursion (IsClass classes) (4 ∷ 3 ∷ 0 ∷ []) (is_derived, (is_base, (is_object, tt))); ends = refl }
chains_end (suc (suc (suc (suc (suc zero))))) is =
    record { classes = All-from_recursion (IsClass classes) (5 ∷ 4 ∷ 3 ∷ 0 ∷ []) (is_last, (is_derived, (is_base, (is_object, tt)))); ends = refl }
chains_end (suc (suc (suc (suc (suc (suc c)))))) is = let lt : suc (suc (suc (suc (suc (suc c))))) < 6 = is.number in absurd (omega arith)

pub are_classes : AreClasses classes
unfolding parent_of
are_classes = record { objects = is_object; object_ends = refl; chains = chains_end }

throwable_below : Below classes (Class 1) (Class 0)
unfolding parent_of
throwable_below = subclass refl

base_below : Below classes (Class 3) (Class 0)
unfolding parent_of
base_below = subclass refl

derived_below : Below classes (Class 4) (Class 3)
unfolding parent_of
derived_below = subclass refl

last_below : Below classes (Class 5) (Class 4)
unfolding parent_of
last_below = subclass refl

-- ---- their dispatch lists

inherited : (c : ℕ) (m : MethodRec) → Below classes (Class c) (Class m.class) → m.is_static ≡ false → m.is_init ≡ false → IsInherited classes c m
inherited c m below dynamic plain = record { class = below; dynamic = dynamic; no_constructor = plain }

nothing_inherited : (c : ℕ) → IsDispatch classes methods c [] []
nothing_inherited c = record { longer = omega arith; entries = All-nil _; signatures = λ token h. absurd (omega arith) }

-- one entry, of a class above
one_entry : (c n : ℕ) → IsSomeAnd (slice_get methods n) (IsInherited classes c) → (ms : List ℕ) → length ms ≤ 1
    → ((token : ℕ) → token < length ms → signature_at methods (n ∷ []) token ≡ signature_at methods ms token)
    → IsDispatch classes methods c ms (n ∷ [])
one_entry c n is ms short signatures =
    record {
      longer = short;
      entries = All-from_recursion (λ x. IsSomeAnd (slice_get methods x) (IsInherited classes c)) (n ∷ []) (is, tt);
      signatures = signatures;
    }

two_entries : (c n m : ℕ) → IsSomeAnd (slice_get methods n) (IsInherited classes c) → IsSomeAnd (slice_get methods m) (IsInherited classes c)
    → (ms : List ℕ) → length ms ≤ 2
    → ((token : ℕ) → token < length ms → signature_at methods (n ∷ m ∷ []) token ≡ signature_at methods ms token)
    → IsDispatch classes methods c ms (n ∷ m ∷ [])
two_entries c n m first second ms short signatures =
    record {
      longer = short;
      entries = All-from_recursion (λ x. IsSomeAnd (slice_get methods x) (IsInherited classes c)) (n ∷ m ∷ [])
          (first, (second, tt));
      signatures = signatures;
    }

same_first : (token : ℕ) → token < 1 → signature_at methods (0 ∷ 2 ∷ []) token ≡ signature_at methods (0 ∷ []) token
same_first zero h = refl
same_first (suc token) h = absurd (omega arith)

same_both : (token : ℕ) → token < 2 → signature_at methods (0 ∷ 4 ∷ []) token ≡ signature_at methods (0 ∷ 2 ∷ []) token
same_both zero h = refl
same_both (suc zero) h = refl
same_both (suc (suc token)) h = absurd (omega arith)

same_visible : (token : ℕ) → token < 1 → signature_at methods (6 ∷ []) token ≡ signature_at methods (5 ∷ []) token
same_visible zero h = refl
same_visible (suc token) h = absurd (omega arith)

-- the override of the second package serves the interface
served : (k : ℕ) (d : MethodRec) → k < 8 → (get_or methods k d).class ≡ 2
    → option_and_then (signature_at methods (0 ∷ 4 ∷ [])) (slice_get (1 ∷ []) (get_or methods k d).token) ≡ Some (get_or methods k d).sig
served zero d h e = absurd (omega (arith, e))
served (suc zero) d h e = refl
served (suc (suc zero)) d h e = absurd (omega (arith, e))
served (suc (suc (suc zero))) d h e = absurd (omega (arith, e))
served (suc (suc (suc (suc zero)))) d h e = absurd (omega (arith, e))
served (suc (suc (suc (suc (suc zero))))) d h e = absurd (omega (arith, e))
served (suc (suc (suc (suc (suc (suc zero)))))) d h e = absurd (omega (arith, e))
served (suc (suc (suc (suc (suc (suc (suc zero))))))) d h e = absurd (omega (arith, e))
served (suc (suc (suc (suc (suc (suc (suc (suc k)))))))) d h e = absurd (omega arith)

implemented : IsImplemented classes methods (0 ∷ 4 ∷ []) (record { class = 2; tokens = 1 ∷ [] })
unfolding is_interface
implemented = record { number = lit< tt; interface = refl; serves = λ k d h. served k d h }

linked : (c : ℕ) → IfSome (slice_get classes.records c) (IsLinkedClass 2 classes methods c)
unfolding parent_of package_of public_of visible_of cell_count
linked zero =
    record {
      home = lit< tt;
      earlier = tt;
      cells = refl;
      size = lit≤ tt;
      own = All-nil _;
      public = one_entry 0 0 (inherited 0 _ same refl refl) [] (lit≤ tt) (λ token h. absurd (omega arith));
      visible = nothing_inherited 0;
      implements = All-nil _;
    }
linked (suc zero) =
    record {
      home = lit< tt;
      earlier = lit≤ tt;
      cells = refl;
      size = lit≤ tt;
      own = All-nil _;
      public = one_entry 1 0 (inherited 1 _ throwable_below refl refl) (0 ∷ []) (lit≤ tt) (λ token h. refl);
      visible = nothing_inherited 1;
      implements = All-nil _;
    }
linked (suc (suc zero)) =
    record {
      home = lit< tt;
      earlier = tt;
      cells = refl;
      size = lit≤ tt;
      own = All-nil _;
      public = nothing_inherited 2;
      visible = nothing_inherited 2;
      implements = All-nil _;
    }
linked (suc (suc (suc zero))) =
    record {
      home = lit< tt;
      earlier = lit≤ tt;
      cells = refl;
      size = lit≤ tt;
      own = All-from_recursion (IsDeclared classes) (Short ∷ []) (tt, tt);
      public = two_entries 3 0 2 (inherited 3 _ base_below refl refl) (inherited 3 _ same refl refl) (0 ∷ []) (lit≤ tt) same_first;
      visible = one_entry 3 3 (inherited 3 _ same refl refl) [] (lit≤ tt) (λ token h. absurd (omega arith));
      implements = All-nil _;
    }
linked (suc (suc (suc (suc zero)))) =
    record {
      home = lit< tt;
      earlier = lit≤ tt;
      cells = refl;
      size = lit≤ tt;
      own = All-from_recursion (IsDeclared classes) (IntHigh ∷ IntLow ∷ []) (tt, (tt, tt));
      public =
          two_entries 4 0 4 (inherited 4 _ (joined derived_below base_below) refl refl) (inherited 4 _ same refl refl) (0 ∷ 2 ∷ []) (lit≤ tt)
          same_both;
      visible = one_entry 4 5 (inherited 4 _ same refl refl) [] (lit≤ tt) (λ token h. absurd (omega arith));
      implements = All-from_recursion (IsImplemented classes methods (0 ∷ 4 ∷ [])) (record { class = 2; tokens = 1 ∷ [] } ∷ []) (implemented, tt);
    }
linked (suc (suc (suc (suc (suc zero))))) =
    record {
      home = lit< tt;
      earlier = lit≤ tt;
      cells = refl;
      size = lit≤ tt;
      own = All-nil _;
      public =
          two_entries 5 0 4 (inherited 5 _ (joined last_below (joined derived_below base_below)) refl refl) (inherited 5 _ last_below refl refl)
          (0 ∷ 4 ∷ []) (lit≤ tt) (λ token h. refl);
      visible = one_entry 5 6 (inherited 5 _ same refl refl) (5 ∷ []) (lit≤ tt) same_visible;
      implements = All-nil _;
    }
linked (suc (suc (suc (suc (suc (suc c)))))) = tt

-- ---- the methods

plain_method : (home class token class_no method_no at : ℕ) → home < 2 → class < 6 → is_interface classes class ≡ false → at + 2 ≤ 6
    → IsMethod (first_info ∷ second_info ∷ []) (first_pool ∷ second_pool ∷ []) classes (instance_method home class token class_no method_no at)
plain_method home class token class_no method_no at home_is class_is plain reach =
    record {
      home = home_is;
      class = class_is;
      words = refl;
      registers = lit≤ tt;
      arguments = All-from_recursion (IsDeclared classes) (Short ∷ []) (tt, tt);
      result = tt;
      whole = one_cell tt no_cells;
      first = tt;
      code = rw plain (record { least = lit< tt; most = lit≤ tt });
      inside = reaches home home_is;
      handlers = All-nil _;
      few_handlers = lit≤ tt;
    }
  where
    reaches : (n : ℕ) → n < 2 → at + 2 ≤ length (list_at (first_info ∷ second_info ∷ []) n)
    reaches zero h = omega arith
    reaches (suc zero) h = omega arith
    reaches (suc (suc n)) h = absurd (omega arith)

abstract_method : IsMethod (first_info ∷ second_info ∷ []) (first_pool ∷ second_pool ∷ []) classes interface_method
abstract_method =
    record {
      home = lit< tt;
      class = lit< tt;
      words = refl;
      registers = lit≤ tt;
      arguments = All-from_recursion (IsDeclared classes) (Short ∷ []) (tt, tt);
      result = tt;
      whole = one_cell tt no_cells;
      first = tt;
      code = refl;
      inside = lit≤ tt;
      handlers = All-nil _;
      few_handlers = lit≤ tt;
    }

last_method : IsMethod (first_info ∷ second_info ∷ []) (first_pool ∷ second_pool ∷ []) classes static_method
unfolding is_interface
last_method =
    record {
      home = lit< tt;
      class = lit< tt;
      words = refl;
      registers = lit≤ tt;
      arguments = All-from_recursion (IsDeclared classes) (Short ∷ []) (tt, tt);
      result = tt;
      whole = one_cell tt no_cells;
      first = tt;
      code = record { least = lit< tt; most = lit≤ tt };
      inside = lit≤ tt;
      handlers = All-from_recursion (IsHandler classes second_pool 4) static_method.handlers
          (record { range = lit≤ tt; inside = lit≤ tt; entry = lit< tt; catches = refl; class = is_throwable; thrown = same }, tt);
      few_handlers = lit≤ tt;
    }

are_methods : All (IsMethod (first_info ∷ second_info ∷ []) (first_pool ∷ second_pool ∷ []) classes) methods
are_methods = All-from_recursion (IsMethod (first_info ∷ second_info ∷ []) (first_pool ∷ second_pool ∷ []) classes) methods (
  plain_method 0 0 0 0 0 0 (lit< tt) (lit< tt) is_object.class (lit≤ tt),
  (
    abstract_method,
    (
      plain_method 0 3 1 3 0 2 (lit< tt) (lit< tt) is_base.class (lit≤ tt),
      (
        plain_method 0 3 128 3 1 4 (lit< tt) (lit< tt) is_base.class (lit≤ tt),
        (
          plain_method 1 4 1 0 0 0 (lit< tt) (lit< tt) is_derived.class (lit≤ tt),
          (
            plain_method 1 4 128 0 1 2 (lit< tt) (lit< tt) is_derived.class (lit≤ tt),
            (
              plain_method 1 5 128 1 0 4 (lit< tt) (lit< tt) is_last.class (lit≤ tt),
              (last_method, tt),
            ),
          ),
        ),
      ),
    ),
  ),
)

-- ---- interfaces

extends_nothing : (i : ℕ) → extended classes i ≡ []
unfolding extended
extends_nothing zero = refl
extends_nothing (suc zero) = refl
extends_nothing (suc (suc zero)) = refl
extends_nothing (suc (suc (suc zero))) = refl
extends_nothing (suc (suc (suc (suc zero)))) = refl
extends_nothing (suc (suc (suc (suc (suc zero))))) = refl
extends_nothing (suc (suc (suc (suc (suc (suc i)))))) = refl

none_extends : NoneExtendsItself classes
none_extends = λ i leads. leads-nowhere extends_nothing leads

-- ---- the members, the static fields and the roles

a_field : IsField classes 4 1 kinds.Int IntHigh
unfolding cells_of own_cells chain chain_over parent_of
a_field = record { class = is_derived; kind = refl; first = refl; second = refl }

a_slot : IsMember classes methods statics (Static 0 kinds.Byte Short)
a_slot = (
  0,
  slice_index_or statics 0 (record { «package» = 1; offset = 2; kind = kinds.Byte; ty = Short; slot = 0; initial = [] }),
  lit< tt,
  refl,
  record { slot = refl; kind = refl; ty = refl },
)

a_super : IsMember classes methods statics (Super 4 2)
unfolding parent_of public_of visible_of
a_super = (is_derived, (1, lit< tt, refl))

a_public : IsMember classes methods statics (Virtual 4 1)
unfolding entry_at public_of
a_public = (is_derived, refl)

a_visible : IsMember classes methods statics (Virtual 4 128)
unfolding entry_at visible_of
a_visible = (is_derived, refl)

are_members : All (All (IsMember classes methods statics)) (first_pool ∷ second_pool ∷ [])
are_members = All-from_recursion (All (IsMember classes methods statics)) (first_pool ∷ second_pool ∷ []) (
  All-from_recursion (IsMember classes methods statics) first_pool (lit< tt, tt),
  (
    All-from_recursion (IsMember classes methods statics) second_pool (lit< tt, (a_field, (a_slot, (a_public, (a_visible, (a_super, (lit< tt, tt))))))),
    tt,
  ),
)

are_statics : All (IsStatic 2 classes arrays) statics
are_statics = All-from_recursion (IsStatic 2 classes arrays) statics (
  record { home = lit< tt; ty = tt; kind = refl; words = inr (lit≤ tt) },
  (record { home = lit< tt; ty = tt; kind = tt; words = same }, tt),
)

no_visible : (home : ℕ) (a b : Bool) → (0 == home) ≡ a → visible_in classes home 1 ≡ []
unfolding visible_in nearest_of package_of visible_of chain chain_over parent_of
no_visible home true b e = rw e refl
no_visible home false b e = rw e refl

thrown : IsThrown classes methods 1
unfolding public_of
thrown =
    record {
      concrete = record {
        class = is_throwable;
        public = All-from_recursion (HasBody methods) (0 ∷ []) (refl, tt);
        visible = λ home. subst (λ (ms : List ℕ). All (HasBody methods) ms) (sym (no_visible home (0 == home) true refl)) (All-nil _);
      };
      thrown = same;
    }

all_thrown : (k : ℕ) → 2 ≤ k → k < 8 → IsThrown classes methods (slice_index classes.roles k)
all_thrown zero low high = absurd (omega arith)
all_thrown (suc zero) low high = absurd (omega arith)
all_thrown (suc (suc zero)) low high = thrown
all_thrown (suc (suc (suc zero))) low high = thrown
all_thrown (suc (suc (suc (suc zero)))) low high = thrown
all_thrown (suc (suc (suc (suc (suc zero))))) low high = thrown
all_thrown (suc (suc (suc (suc (suc (suc zero)))))) low high = thrown
all_thrown (suc (suc (suc (suc (suc (suc (suc zero))))))) low high = thrown
all_thrown (suc (suc (suc (suc (suc (suc (suc (suc k)))))))) low high = absurd (omega arith)

-- ---- the world

pub is_world : IsWorld sample
is_world =
    record {
      limits = record {
        packages = lit≤ tt;
        bytes = All-from_recursion (λ info. length info ≤ 65535) (first_info ∷ second_info ∷ []) (lit≤ tt, (lit≤ tt, tt));
        entries = All-from_recursion (λ pool. length pool ≤ 65535) (first_pool ∷ second_pool ∷ []) (lit≤ tt, (lit≤ tt, tt));
        classes = lit≤ tt;
        methods = lit≤ tt;
        static_cells = lit≤ tt;
        arrays = lit≤ tt;
        array_cells = lit≤ tt;
      };
      one_pool_each = refl;
      members = are_members;
      chains = are_classes;
      extension = none_extends;
      classes = linked;
      methods = are_methods;
      statics = are_statics;
      slots = (refl, (refl, tt));
      arrays =
          All-from_recursion (λ a. AreElementsOf a.kind a.initial) arrays
          (All-from_recursion IsByteWord (1 ∷ 65535 ∷ []) (inl (lit< tt), (inr (lit≤ tt), tt)), tt);
      roles = record { count = refl; objects = is_object; throwables = is_throwable; others = all_thrown };
      one_index_each = refl;
    }

pub has_sizes : HasSampleSizes sample
has_sizes =
    record { infos = refl; first_pool_is = refl; second_pool_is = refl; records_are = refl; methods_are = refl; statics_are = refl; arrays_are = refl }

-- ---- what the index of the classes asks

pub few_classes : length classes.records ≤ 4096
few_classes = lit≤ tt

pub few_methods : length methods ≤ 32768
few_methods = lit≤ tt

pub all_linked : AreLinkedClasses 16 classes methods
all_linked = linked_more 2 16 classes methods (lit≤ tt) linked

pub classes_known : All (λ (m : MethodRec). m.class < length classes.records) methods
classes_known =
    All-weaker (IsMethod (first_info ∷ second_info ∷ []) (first_pool ∷ second_pool ∷ []) classes) (λ (m : MethodRec). m.class < length classes.records)
    (λ m is. is.class) methods are_methods

-- ---- the world as it is made

-- lists that are those of the sample make it
pub is_sample : {i : List (List ℕ)} {p : List (List Member)} {t : ClassTable} {ms : List MethodRec} {fs : List StaticRec} {xs : List ArrayRec}
    {targets : List (Option (List ℕ))}
    → i ≡ first_info ∷ second_info ∷ [] → p ≡ first_pool ∷ second_pool ∷ [] → t ≡ classes → ms ≡ methods → fs ≡ statics → xs ≡ arrays
    → targets ≡ replicate 8 None
    → listed i p t ms fs xs targets ≡ sample
is_sample ei ep et em ef ex eg = λ k. record {
  infos = ei k;
  pools = ep k;
  classes = et k;
  methods = em k;
  statics = ef k;
  arrays = ex k;
  indexes = eg k;
}
