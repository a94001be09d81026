-- Constants and arithmetic at a frame's turn.
use Rattle.std.proofs.Common.{◌≡◌, ℕ, ◌+◌, true, List, [], ◌∷◌, refl, ap, ◌∙◌, arith}
use Rattle.std.specs.Prelude.{ℤ, Option}
use Rattle.std.proofs.lemmas.List.Elements.{All-nil}
use Rattle.jc_base.specs.Order.{same}
use Rattle.jc_base.specs.World.{Linked, IsWorld}
use Rattle.jc_ops.specs.declared.operation.Width.{Width}
use Rattle.jc_ops.specs.declared.operation.Width.TheVariants as widths
use Rattle.jc_ops.specs.declared.operation.Constant.{Constant}
use Rattle.jc_ops.specs.declared.operation.Constant.TheVariants as constants
use Rattle.jc_ops.specs.declared.operation.Arithmetic.{Arithmetic}
use Rattle.jc_ops.specs.declared.operation.Arithmetic.TheVariants as arithmetic
use Rattle.jc_ops.specs.declared.operation.Operation.{Operation}
use Rattle.jc_ops.specs.declared.operation.Operation.TheVariants as ops
use Rattle.jc_ops.specs.Next.{falls_from}
use Rattle.jc_rules.specs.declared.effect.Cells.TheVariants as given
use Rattle.jc_rules.specs.Rule.{effect, replacing, number_given}
use Rattle.jc_rules.specs.Flow.{no_cells, more_cells}
use Rattle.vm_arithmetic.specs.Arithmetic.{high_word, low_word, int_to_short, short_to_byte, int_to_byte, compared}
use Rattle.vm_store.specs.declared.cell.Cell.{Cell}
use Rattle.vm_store.specs.declared.cell.Cell.TheVariants as cells
use Rattle.vm_store.specs.Cells.{tagged}
use Rattle.vm_store.specs.State.{Frame, Object}
use Rattle.vm_step.specs.Numbers.{short_at, int_on, number_on, number_cells, replaced}
use Rattle.vm_step.specs.Values.{with_constant, binary, negated, computed, arithmetic_act}
use Rattle.vm_step.specs.Settled.{goes_to, settled}
use Rattle.law_sound.specs.Frames.{Typings, types_of_frame, IsStacked}
use Rattle.law_sound.specs.Soundness.{IsTypedOutcome}
use Rattle.law_sound.proofs.Handles.{kinds_of}
use Rattle.law_sound.proofs.Cells.{one-stacked, two-stacked}
use Rattle.law_sound.proofs.SafeTurns.{Here, replace-safe, some-safe}

module _ (w : Linked) (world : IsWorld w) (assigned : Typings) (f : Frame Cell) (below : List (Frame Cell)) (heap : List (Object Cell)) (statics : List Cell)
    (here : Here w assigned f below heap statics)
  where
    -- a number in place of cells of the stack
    number-safe :
        (taken : ℕ) (width : Width) (n : ℤ) (op : Operation)
        → here.turn.operation ≡ op → effect w op (types_of_frame w.classes (assigned.unset f.method) (kinds_of heap) f) ≡ replacing taken
        (number_given width) → falls_from op ≡ true
        → IsTypedOutcome w assigned
        (goes_to tagged w (here.turn.stands.instruction.place + here.turn.stands.instruction.insn.len)
        (record { frames = f ∷ below; heap = heap; statics = statics })
        (replaced (record { frames = f ∷ below; heap = heap; statics = statics }) taken (number_cells tagged width n)))
    number-safe taken widths.Short n op is does falls =
        replace-safe w world assigned f below heap statics here taken (given.One _) (cells.Short n ∷ []) heap statics
        (ap (λ o. effect w o (types_of_frame w.classes (assigned.unset f.method) (kinds_of heap) f)) is ∙ does) (ap falls_from is ∙ falls)
        (more_cells same no_cells) (one-stacked w here.turn.stands.rec (kinds_of heap) (cells.Short n) tt) here.store refl
    number-safe taken widths.Int n op is does falls =
        replace-safe w world assigned f below heap statics here taken given.Int (cells.Low (low_word n) ∷ cells.High (high_word n) ∷ []) heap statics
        (ap (λ o. effect w o (types_of_frame w.classes (assigned.unset f.method) (kinds_of heap) f)) is ∙ does) (ap falls_from is ∙ falls)
        (more_cells same (more_cells same no_cells))
        (two-stacked w here.turn.stands.rec (kinds_of heap) (cells.Low (low_word n)) (cells.High (high_word n)) tt tt) here.store refl

    pub constant-safe :
        (c : Constant) → here.turn.operation ≡ ops.Constant c
        → IsTypedOutcome w assigned
        (goes_to tagged w (here.turn.stands.instruction.place + here.turn.stands.instruction.insn.len)
        (record { frames = f ∷ below; heap = heap; statics = statics })
        (with_constant tagged c (record { frames = f ∷ below; heap = heap; statics = statics })))
    constant-safe constants.Nothing is =
        replace-safe w world assigned f below heap statics here 0 given.Nothing [] heap statics
        (ap (λ o. effect w o (types_of_frame w.classes (assigned.unset f.method) (kinds_of heap) f)) is) (ap falls_from is)
        no_cells (All-nil (IsStacked w here.turn.stands.rec (kinds_of heap))) here.store refl
    constant-safe constants.Null is =
        replace-safe w world assigned f below heap statics here 0 (given.One _) (cells.Ref 0 ∷ []) heap statics
        (ap (λ o. effect w o (types_of_frame w.classes (assigned.unset f.method) (kinds_of heap) f)) is) (ap falls_from is)
        (more_cells same no_cells) (one-stacked w here.turn.stands.rec (kinds_of heap) (cells.Ref 0) tt) here.store refl
    constant-safe (constants.Short n) is = number-safe 0 widths.Short (int_to_short n) (ops.Constant (constants.Short n)) is refl refl
    constant-safe (constants.Int n) is = number-safe 0 widths.Int n (ops.Constant (constants.Int n)) is refl refl

    -- ---- arithmetic

    computed-safe :
        (taken : ℕ) (width : Width) (result : Option ℤ) (op : Operation)
        → here.turn.operation ≡ op → effect w op (types_of_frame w.classes (assigned.unset f.method) (kinds_of heap) f) ≡ replacing taken
        (number_given width) → falls_from op ≡ true
        → IsTypedOutcome w assigned (settled tagged w (here.turn.stands.instruction.place + here.turn.stands.instruction.insn.len)
        (record { frames = f ∷ below; heap = heap; statics = statics })
        (computed tagged width (record { frames = f ∷ below; heap = heap; statics = statics }) taken result))
    computed-safe taken width result op is does falls = grind (arith, some-safe, number-safe)

    pub arithmetic-safe :
        (a : Arithmetic) → here.turn.operation ≡ ops.Arithmetic a
        → IsTypedOutcome w assigned (settled tagged w (here.turn.stands.instruction.place + here.turn.stands.instruction.insn.len)
        (record { frames = f ∷ below; heap = heap; statics = statics })
        (arithmetic_act tagged a (record { frames = f ∷ below; heap = heap; statics = statics })))
    arithmetic-safe (arithmetic.Binary o widths.Short) is =
        computed-safe 2 widths.Short (binary tagged o widths.Short f.stack) (ops.Arithmetic (arithmetic.Binary o widths.Short)) is refl refl
    arithmetic-safe (arithmetic.Binary o widths.Int) is =
        computed-safe 4 widths.Int (binary tagged o widths.Int f.stack) (ops.Arithmetic (arithmetic.Binary o widths.Int)) is refl refl
    arithmetic-safe (arithmetic.Negate widths.Short) is =
        number-safe 1 widths.Short (negated widths.Short (number_on tagged widths.Short f.stack)) (ops.Arithmetic (arithmetic.Negate widths.Short)) is refl refl
    arithmetic-safe (arithmetic.Negate widths.Int) is =
        number-safe 2 widths.Int (negated widths.Int (number_on tagged widths.Int f.stack)) (ops.Arithmetic (arithmetic.Negate widths.Int)) is refl refl
    arithmetic-safe arithmetic.ShortToByte is =
        number-safe 1 widths.Short (short_to_byte (short_at tagged f.stack 0)) (ops.Arithmetic arithmetic.ShortToByte) is refl refl
    arithmetic-safe arithmetic.ShortToInt is = number-safe 1 widths.Int (short_at tagged f.stack 0) (ops.Arithmetic arithmetic.ShortToInt) is refl refl
    arithmetic-safe arithmetic.IntToByte is =
        number-safe 2 widths.Short (int_to_byte (int_on tagged f.stack 0)) (ops.Arithmetic arithmetic.IntToByte) is refl refl
    arithmetic-safe arithmetic.IntToShort is =
        number-safe 2 widths.Short (int_to_short (int_on tagged f.stack 0)) (ops.Arithmetic arithmetic.IntToShort) is refl refl
    arithmetic-safe arithmetic.CompareInts is =
        number-safe 4 widths.Short (compared (int_on tagged f.stack 2) (int_on tagged f.stack 0)) (ops.Arithmetic arithmetic.CompareInts) is refl refl
