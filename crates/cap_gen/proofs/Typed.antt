-- Each of the four kinds of method has a dataflow typing, whatever its two constants are, in every world.
use Rattle.std.proofs.Common.{◌<◌, ℕ, zero, suc, List, [], ◌∷◌, refl, arith}
use Rattle.jc_base.specs.declared.ty.Ty.{Ty}
use Rattle.jc_base.specs.declared.ty.Ty.TheVariants.{Short, Null, Class, Top}
use Rattle.jc_base.specs.World.{Linked}
use Rattle.jc_decode.specs.Layout.{opcode, layout_of}
use Rattle.jc_decode.specs.Decoding.{decoded}
use Rattle.jc_decode.specs.Listing.{listing, listing_from, at_most, targets}
use Rattle.jc_decode.specs.Cases.{cases}
use Rattle.jc_ops.specs.Row.{table, row_at, unused, by_sort, by_width, by_kind, first_four, by_register, literals, binaries, orders_all, branching}
use Rattle.jc_rules.specs.Demand.{Frame}
use Rattle.jc_rules.specs.Flow.{HasFlowTyping}
use Rattle.jc_control.specs.Method.{Method}
use Rattle.cap_gen.specs.Shape.{of_kind}
use Rattle.cap_gen.specs.Linked.{record_of}
use Rattle.cap_gen.proofs.Rows.{Row, rows_of, AreRows, rows_typing}

-- a frame by its registers and its stack
abbrev frame : List Ty → List Ty → Frame
frame regs stack = record { regs = regs; stack = stack }

abbrev one : List Ty
one = Short ∷ []

abbrev two : List Ty
two = Short ∷ Short ∷ []

-- three registers, the last with a type
abbrev and : Ty → List Ty
and ty = Short ∷ Short ∷ ty ∷ []

abbrev choosing_frames : List Frame
choosing_frames = frame two [] ∷ frame two one ∷ frame two two ∷ frame two one ∷ frame two two ∷ frame two one ∷ frame two two
    ∷ frame two one ∷ []

abbrev reusing_frames : List Frame
reusing_frames = frame (and Top) [] ∷ frame (and Top) one ∷ frame (and Short) [] ∷ frame (and Short) one ∷ frame (and Short) two
    ∷ frame (and Short) one ∷ frame (and Short) [] ∷ frame (and Short) (Null ∷ []) ∷ frame (and Null) [] ∷ frame (and Null) (Null ∷ [])
    ∷ frame (and Null) [] ∷ frame (and Null) one ∷ frame (and Null) [] ∷ frame (and Null) one ∷ []

abbrev dividing_frames : List Frame
dividing_frames = frame two [] ∷ frame two one ∷ frame two two ∷ frame two one
    ∷ frame two (Class 3 ∷ []) ∷ frame two [] ∷ frame two one
    ∷ frame two (Class 1 ∷ []) ∷ frame two [] ∷ frame two one ∷ []

abbrev looping_frames : List Frame
looping_frames = frame (and Top) [] ∷ frame (and Top) one ∷ frame (and Short) [] ∷ frame (and Short) one ∷ frame (and Short) two
    ∷ frame (and Short) one ∷ frame (and Short) [] ∷ frame (and Short) [] ∷ frame (and Short) one ∷ frame (and Short) []
    ∷ frame (and Short) one ∷ []

abbrev pub method_of : ℕ → ℕ → ℕ → ℕ → ℕ → Method
method_of n kind k c d = record { number = n; rec = record_of kind k; code = (of_kind kind c d).code }

abbrev rows : ℕ → ℕ → ℕ → List Frame → List Row
rows kind c d frames = rows_of (listing (of_kind kind c d).code) frames

module _ (w : Linked) (n k c d : ℕ) where
  choosing_rows : AreRows w (method_of n 0 k c d) (rows 0 c d choosing_frames)
  unfolding listing listing_from at_most decoded layout_of opcode targets cases row_at table by_sort by_width by_kind first_four by_register literals
      binaries orders_all branching unused
  choosing_rows = record { listed = refl; ends = refl; start = refl; handlers = refl; apart = refl; each = refl }

  reusing_rows : AreRows w (method_of n 1 k c d) (rows 1 c d reusing_frames)
  unfolding listing listing_from at_most decoded layout_of opcode targets cases row_at table by_sort by_width by_kind first_four by_register literals
      binaries orders_all branching unused
  reusing_rows = record { listed = refl; ends = refl; start = refl; handlers = refl; apart = refl; each = refl }

  dividing_rows : AreRows w (method_of n 2 k c d) (rows 2 c d dividing_frames)
  unfolding listing listing_from at_most decoded layout_of opcode targets cases row_at table by_sort by_width by_kind first_four by_register literals
      binaries orders_all branching unused
  dividing_rows = record { listed = refl; ends = refl; start = refl; handlers = refl; apart = refl; each = refl }

  looping_rows : AreRows w (method_of n 3 k c d) (rows 3 c d looping_frames)
  unfolding listing listing_from at_most decoded layout_of opcode targets cases row_at table by_sort by_width by_kind first_four by_register literals
      binaries orders_all branching unused
  looping_rows = record { listed = refl; ends = refl; start = refl; handlers = refl; apart = refl; each = refl }

-- the kinds by number
pub kind_typed : (w : Linked) (n kind k c d : ℕ) → kind < 4 → HasFlowTyping w (method_of n kind k c d) Top
kind_typed w n zero k c d h = rows_typing w (method_of n 0 k c d) (rows 0 c d choosing_frames) (choosing_rows w n k c d)
kind_typed w n (suc zero) k c d h = rows_typing w (method_of n 1 k c d) (rows 1 c d reusing_frames) (reusing_rows w n k c d)
kind_typed w n (suc (suc zero)) k c d h = rows_typing w (method_of n 2 k c d) (rows 2 c d dividing_frames) (dividing_rows w n k c d)
kind_typed w n (suc (suc (suc zero))) k c d h = rows_typing w (method_of n 3 k c d) (rows 3 c d looping_frames) (looping_rows w n k c d)
kind_typed w n (suc (suc (suc (suc kind)))) k c d h = absurd (omega (arith, h))
