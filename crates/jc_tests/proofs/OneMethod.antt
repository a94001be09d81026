-- The sample world meets the invariant of worlds.
use Rattle.std.proofs.Common.{◌≡◌, ℕ, zero, suc, ◌+◌, ◌<◌, ◌≤◌, Bool, true, false, List, [], ◌∷◌, length, Option, None, refl, sym, subst, arith}
use Rattle.std.proofs.Common.{lit<, lit≤, All}
use Rattle.std.specs.Prelude.{IfSome, slice_get, slice_index, ◌==◌}
use Rattle.std.proofs.lemmas.List.Elements.{All-from_recursion, All-nil}
use Rattle.jc_base.specs.declared.ty.Ty.TheVariants.{Class, IntHigh, IntLow, Short}
use Rattle.jc_base.specs.declared.record.Member.{Member}
use Rattle.jc_base.specs.declared.record.Member.TheVariants.{ClassOf}
use Rattle.jc_base.specs.declared.record.StaticRec.{StaticRec}
use Rattle.jc_base.specs.declared.record.ArrayRec.{ArrayRec}
use Rattle.jc_base.specs.ByClass.{listed}
use Rattle.jc_base.specs.Cell.{IsDeclared, IsFirstCell, AreWhole, no_cells, one_cell, whole_int}
use Rattle.jc_base.specs.declared.record.Handler.{Handler}
use Rattle.jc_base.specs.declared.record.MethodRec.{MethodRec}
use Rattle.jc_base.specs.Class.{ClassTable, IsClass, AreClasses, EndsWithObject, is_interface, parent_of, chain, chain_over}
use Rattle.jc_base.specs.Order.{same}
use Rattle.jc_base.specs.Dispatch.{HasBody, visible_in, nearest_of, package_of, public_of, visible_of, cell_count}
use Rattle.jc_base.specs.Interface.{extended, NoneExtendsItself}
use Rattle.jc_base.proofs.Leading.{leads-nowhere}
use Rattle.jc_base.proofs.Bodies.{linked_more}
use Rattle.jc_base.specs.Linked.{AreLinkedClasses, IsMethod, IsHandler, IsLinkedClass, IsDispatch, IsMember}
use Rattle.jc_base.specs.World.{IsWorld, IsThrown}
use Rattle.jc_tests.specs.declared.shape.Shape.{Shape}
use Rattle.jc_tests.specs.declared.shape.Shape.TheVariants as shapes
use Rattle.jc_tests.specs.OneMethod.{arguments_of, classes, locals_of, only_method, own_cells, result_of, sample, words_of}

-- ---- the classes

is_object : IsClass classes 0
unfolding is_interface
is_object = record { number = lit< tt; class = refl }

pub is_throwable : IsClass classes 1
unfolding is_interface
is_throwable = record { number = lit< tt; class = refl }

pub is_first : IsClass classes 2
unfolding is_interface
is_first = record { number = lit< tt; class = refl }

pub is_second : IsClass classes 3
unfolding is_interface
is_second = record { number = lit< tt; class = refl }

chains_end : (c : ℕ) → IsClass classes c → EndsWithObject classes c
unfolding chain chain_over parent_of
chains_end zero is = record { classes = All-from_recursion (IsClass classes) (0 ∷ []) (is_object, tt); ends = refl }
chains_end (suc zero) is = record { classes = All-from_recursion (IsClass classes) (1 ∷ 0 ∷ []) (is_throwable, (is_object, tt)); ends = refl }
chains_end (suc (suc zero)) is =
    record { classes = All-from_recursion (IsClass classes) (2 ∷ 1 ∷ 0 ∷ []) (is_first, (is_throwable, (is_object, tt))); ends = refl }
chains_end (suc (suc (suc zero))) is =
    record { classes = All-from_recursion (IsClass classes) (3 ∷ 1 ∷ 0 ∷ []) (is_second, (is_throwable, (is_object, tt))); ends = refl }
chains_end (suc (suc (suc (suc c)))) is = let lt : suc (suc (suc (suc c))) < 4 = is.number in absurd (omega arith)

pub are_classes : AreClasses classes
unfolding parent_of
are_classes = record { objects = is_object; object_ends = refl; chains = chains_end }

nothing_inherited : (methods : List MethodRec) (c : ℕ) → IsDispatch classes methods c [] []
nothing_inherited methods c = record { longer = omega arith; entries = All-nil _; signatures = λ token h. absurd (omega arith) }

own_declared : All (IsDeclared classes) own_cells
own_declared = All-from_recursion (IsDeclared classes) own_cells (tt, (tt, (tt, (is_object, tt))))

linked : (methods : List MethodRec) (c : ℕ) → IfSome (slice_get classes.records c) (IsLinkedClass 1 classes methods c)
unfolding parent_of package_of public_of visible_of cell_count
linked methods zero =
    record {
      home = lit< tt;
      earlier = tt;
      cells = refl;
      size = lit≤ tt;
      own = All-nil _;
      public = nothing_inherited methods 0;
      visible = nothing_inherited methods 0;
      implements = All-nil _;
    }
linked methods (suc zero) =
    record {
      home = lit< tt;
      earlier = lit≤ tt;
      cells = refl;
      size = lit≤ tt;
      own = All-nil _;
      public = nothing_inherited methods 1;
      visible = nothing_inherited methods 1;
      implements = All-nil _;
    }
linked methods (suc (suc zero)) =
    record {
      home = lit< tt;
      earlier = lit≤ tt;
      cells = refl;
      size = lit≤ tt;
      own = own_declared;
      public = nothing_inherited methods 2;
      visible = nothing_inherited methods 2;
      implements = All-nil _;
    }
linked methods (suc (suc (suc zero))) =
    record {
      home = lit< tt;
      earlier = lit≤ tt;
      cells = refl;
      size = lit≤ tt;
      own = All-nil _;
      public = nothing_inherited methods 3;
      visible = nothing_inherited methods 3;
      implements = All-nil _;
    }
linked methods (suc (suc (suc (suc c)))) = tt

no_visible : (home : ℕ) (b : Bool) → (0 == home) ≡ b → visible_in classes home 1 ≡ []
unfolding visible_in nearest_of package_of visible_of chain chain_over parent_of
no_visible home true e = rw e refl
no_visible home false e = rw e refl

thrown : (methods : List MethodRec) → IsThrown classes methods 1
unfolding public_of
thrown methods =
    record {
      concrete = record {
        class = is_throwable;
        public = All-nil _;
        visible = λ home. subst (λ (ms : List ℕ). All (HasBody methods) ms) (sym (no_visible home (0 == home) refl)) (All-nil _);
      };
      thrown = same;
    }

all_thrown : (methods : List MethodRec) (k : ℕ) → 2 ≤ k → k < 8 → IsThrown classes methods (slice_index classes.roles k)
all_thrown methods zero low high = absurd (omega arith)
all_thrown methods (suc zero) low high = absurd (omega arith)
all_thrown methods (suc (suc zero)) low high = thrown methods
all_thrown methods (suc (suc (suc zero))) low high = thrown methods
all_thrown methods (suc (suc (suc (suc zero)))) low high = thrown methods
all_thrown methods (suc (suc (suc (suc (suc zero))))) low high = thrown methods
all_thrown methods (suc (suc (suc (suc (suc (suc zero)))))) low high = thrown methods
all_thrown methods (suc (suc (suc (suc (suc (suc (suc zero))))))) low high = thrown methods
all_thrown methods (suc (suc (suc (suc (suc (suc (suc (suc k)))))))) low high = absurd (omega arith)

extends_nothing : (i : ℕ) → extended classes i ≡ []
unfolding extended
extends_nothing zero = refl
extends_nothing (suc zero) = refl
extends_nothing (suc (suc zero)) = refl
extends_nothing (suc (suc (suc zero))) = refl
extends_nothing (suc (suc (suc (suc i)))) = refl

none_extends : NoneExtendsItself classes
none_extends = λ i leads. leads-nowhere extends_nothing leads

-- ---- the method and the world

pub caught_all : (len start end entry : ℕ) → start ≤ end → end ≤ len → entry < len
    → IsHandler classes (ClassOf 1 ∷ []) len (record { start = start; end = end; entry = entry; index = 0; class = 1 })
caught_all len start end entry range inside enters =
    record { range = range; inside = inside; entry = enters; catches = refl; class = is_throwable; thrown = same }

declared : (shape : Shape) → All (IsDeclared classes) (arguments_of shape)
declared shapes.Thrown = All-from_recursion (IsDeclared classes) (Class 2 ∷ Class 3 ∷ []) (is_first, (is_second, tt))
declared shapes.Shorts = All-from_recursion (IsDeclared classes) (Short ∷ Short ∷ []) (tt, (tt, tt))
declared shapes.Object = All-from_recursion (IsDeclared classes) (Class 0 ∷ []) (is_object, tt)
declared shapes.Wide = All-from_recursion (IsDeclared classes) (Short ∷ []) (tt, tt)
declared shapes.Ints = All-from_recursion (IsDeclared classes) (IntHigh ∷ IntLow ∷ []) (tt, (tt, tt))

given : (shape : Shape) → IfSome (result_of shape) (IsDeclared classes)
given shapes.Thrown = is_throwable
given shapes.Shorts = tt
given shapes.Object = tt
given shapes.Wide = tt
given shapes.Ints = tt

first_cell : (shape : Shape) → IfSome (result_of shape) IsFirstCell
first_cell shapes.Thrown = tt
first_cell shapes.Shorts = tt
first_cell shapes.Object = tt
first_cell shapes.Wide = tt
first_cell shapes.Ints = tt

whole_arguments : (shape : Shape) → AreWhole (arguments_of shape)
whole_arguments shapes.Thrown = one_cell tt (one_cell tt no_cells)
whole_arguments shapes.Shorts = one_cell tt (one_cell tt no_cells)
whole_arguments shapes.Object = one_cell tt no_cells
whole_arguments shapes.Wide = one_cell tt no_cells
whole_arguments shapes.Ints = whole_int no_cells

words_are : (shape : Shape) → words_of shape ≡ length (arguments_of shape) + 0
words_are shapes.Thrown = refl
words_are shapes.Shorts = refl
words_are shapes.Object = refl
words_are shapes.Wide = refl
words_are shapes.Ints = refl

few_registers : (shape : Shape) → words_of shape + locals_of shape ≤ 255
few_registers shapes.Thrown = lit≤ tt
few_registers shapes.Shorts = lit≤ tt
few_registers shapes.Object = lit≤ tt
few_registers shapes.Wide = lit≤ tt
few_registers shapes.Ints = lit≤ tt

module _ (shape : Shape) (code : List ℕ) (handlers : List Handler) (filled : 0 < length code) (short : length code ≤ 32767)
    (few : length handlers ≤ 255) (fit : All (IsHandler classes (ClassOf 1 ∷ []) (length code)) handlers) where
  the_method : IsMethod (code ∷ []) ((ClassOf 1 ∷ []) ∷ []) classes (only_method shape (length code) handlers)
  unfolding is_interface
  the_method =
      record {
        home = lit< tt;
        class = lit< tt;
        words = words_are shape;
        registers = few_registers shape;
        arguments = declared shape;
        result = given shape;
        whole = whole_arguments shape;
        first = first_cell shape;
        code = record { least = filled; most = short };
        inside = omega arith;
        handlers = fit;
        few_handlers = few;
      }

  pub is_world : IsWorld (sample shape code handlers)
  is_world =
      record {
        limits = record {
          packages = lit≤ tt;
          bytes = All-from_recursion (λ info. length info ≤ 65535) (code ∷ []) (omega arith, tt);
          entries = All-from_recursion (λ pool. length pool ≤ 65535) ((ClassOf 1 ∷ []) ∷ []) (lit≤ tt, tt);
          classes = lit≤ tt;
          methods = lit≤ tt;
          static_cells = lit≤ tt;
          arrays = lit≤ tt;
          array_cells = lit≤ tt;
        };
        one_pool_each = refl;
        members =
            All-from_recursion (All (IsMember classes (only_method shape (length code) handlers ∷ []) [])) ((ClassOf 1 ∷ []) ∷ [])
            (All-from_recursion (IsMember classes (only_method shape (length code) handlers ∷ []) []) (ClassOf 1 ∷ []) (lit< tt, tt), tt);
        chains = are_classes;
        extension = none_extends;
        classes = linked (only_method shape (length code) handlers ∷ []);
        methods =
            All-from_recursion (IsMethod (code ∷ []) ((ClassOf 1 ∷ []) ∷ []) classes) (only_method shape (length code) handlers ∷ [])
            (the_method, tt);
        statics = All-nil _;
        slots = tt;
        arrays = All-nil _;
        roles = record { count = refl; objects = is_object; throwables = is_throwable; others = all_thrown (only_method shape (length code) handlers ∷ []) };
        one_index_each = refl;
      }

-- ---- what the index of the classes asks

pub few_classes : length classes.records ≤ 4096
few_classes = lit≤ tt

pub all_linked : (methods : List MethodRec) → AreLinkedClasses 16 classes methods
all_linked methods = linked_more 1 16 classes methods (lit≤ tt) (linked methods)

pub one_only : (shape : Shape) (len : ℕ) (handlers : List Handler) → length (only_method shape len handlers ∷ []) ≤ 1
one_only shape len handlers = lit≤ tt

pub class_known : (shape : Shape) (len : ℕ) (handlers : List Handler)
    → All (λ (m : MethodRec). m.class < 4) (only_method shape len handlers ∷ [])
class_known shape len handlers =
    All-from_recursion (λ (m : MethodRec). m.class < 4) (only_method shape len handlers ∷ []) (lit< tt, tt)

-- ---- the world as it is made

-- lists that are those of the sample make it
pub is_sample : {i : List (List ℕ)} {p : List (List Member)} {t : ClassTable} {ms : List MethodRec} {fs : List StaticRec} {xs : List ArrayRec}
    {targets : List (Option (List ℕ))} (shape : Shape) (code : List ℕ) (handlers : List Handler)
    → i ≡ code ∷ [] → p ≡ (ClassOf 1 ∷ []) ∷ [] → t ≡ classes → ms ≡ only_method shape (length code) handlers ∷ [] → fs ≡ [] → xs ≡ []
    → targets ≡ None ∷ []
    → listed i p t ms fs xs targets ≡ sample shape code handlers
is_sample shape code handlers ei ep et em ef ex eg = λ k. record {
  infos = ei k;
  pools = ep k;
  classes = et k;
  methods = em k;
  statics = ef k;
  arrays = ex k;
  indexes = eg k;
}
