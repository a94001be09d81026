-- A field's descriptor has seven bytes, a method's twelve, and a number of a table two.
use Rattle.std.proofs.Common.{◌≡◌, ℕ, ◌*◌, arith}
use Rattle.cap_bytes.specs.Grammar.{piece, repeat, u1, u2}
use Rattle.cap_desc.specs.DescriptorFormat.{field_descriptor_info, method_descriptor_info}
use Rattle.cap_desc.proofs.Widths.{HasWidth, width-number, width-piece, width-give, width-then, width-repeat}

pub field_width : HasWidth 7 field_descriptor_info
field_width =
    width-then 1 6 u1 _ (width-number 1) (λ token. width-then 1 5 u1 _ (width-number 1) (λ flags.
    width-then 3 2 (piece 3) _ (width-piece 3) (λ bytes. width-then 2 0 u2 _ (width-number 2) (λ ty. width-give _))))

pub method_width : HasWidth 12 method_descriptor_info
method_width =
    width-then 1 11 u1 _ (width-number 1) (λ token. width-then 1 10 u1 _ (width-number 1) (λ flags.
    width-then 2 8 u2 _ (width-number 2) (λ offset. width-then 2 6 u2 _ (width-number 2) (λ ty.
    width-then 2 4 u2 _ (width-number 2) (λ bytecodes. width-then 2 2 u2 _ (width-number 2) (λ handlers.
    width-then 2 0 u2 _ (width-number 2) (λ index. width-give _)))))))

pub fields_width : (count : ℕ) → HasWidth (7 * count) (repeat count field_descriptor_info)
fields_width count = let e : 7 * count ≡ count * 7 = omega arith in width-repeat 7 count (7 * count) field_descriptor_info field_width e

pub methods_width : (count : ℕ) → HasWidth (12 * count) (repeat count method_descriptor_info)
methods_width count = let e : 12 * count ≡ count * 12 = omega arith in width-repeat 12 count (12 * count) method_descriptor_info method_width e
