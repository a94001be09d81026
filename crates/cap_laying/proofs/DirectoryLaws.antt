-- The info that is written stands for its items.
use Rattle.std.proofs.Common.{◌≡◌, ◌<◌, ◌+◌, ℕ, List, [], ◌∷◌, ◌++◌, length, Option, Some, None, Bool, true, false, refl}
use Rattle.std.proofs.Common.{sym, ap, subst, ◌∙◌, arith, append_assoc, length-append}
use Rattle.std.specs.Prelude.{IsTrue, if◌then◌else◌}
use Rattle.std.specs.List.{flat_map}
use Rattle.std.proofs.lemmas.List.{append-nil}
use Rattle.std.proofs.lemmas.Bool.Decides.{nat_tests}
use Rattle.byteorder.specs.Endian.{big_bytes}
use Rattle.cap_bytes.specs.declared.fault.FormKind.{FormKind}
use Rattle.cap_bytes.specs.declared.fault.FormKind.TheVariants.{BadValue}
use Rattle.cap_bytes.specs.declared.fault.Format.{Format}
use Rattle.cap_bytes.specs.Grammar.{Grammar, any, that, u1, u2, number, piece, aid, is_aid_length, each, repeat, table, finish, give, ◌>>=◌}
use Rattle.cap_bytes.specs.Spelling.{Stands}
use Rattle.cap_frame.specs.DirectoryFormat.{Custom, DirectoryItems, ImageSizes, image_sizes_info, size_count, is_new_tag, and_that_of, none, custom_info}
use Rattle.cap_frame.specs.DirectoryFormat.{after_tag, customs_info, directory_info}
use Rattle.cap_bytes.specs.Writing.{SpellsInPlace}
use Rattle.cap_bytes.proofs.Written.{writes_give, writes_number, writes_piece, writes_finish, writes_then, writes_stands}
use Rattle.cap_laying.specs.DirectoryBytes.{custom_bytes, head_bytes, directory_bytes}
use Rattle.cap_laying.specs.WrittenDirectory.{AreSmall, AreCustoms, MayStand}

writes_last : {X Y : Type 0} (total at : ℕ) (g : Grammar X) (f : X → Y) (out : List ℕ) (x : X) → SpellsInPlace total g at out x
    → SpellsInPlace total (g >>= λ x. give (f x)) at out (f x)
writes_last total at g f out x w = grind (arith, append-nil out, length out, writes_then, writes_give)

one_byte : (total at n : ℕ) (wrong : ℕ → Option FormKind) → n < 256 → wrong n ≡ None → SpellsInPlace total (number 1 wrong) at (n ∷ []) n
one_byte total at n wrong h right = grind (arith, writes_number total 1 n at wrong h right)

passed : (test : ℕ → Bool) (n : ℕ) → IsTrue (test n) → that test n ≡ None
passed test n h = by (test n) h
  where
    by : (b : Bool) → IsTrue b → (if b then None else Some BadValue) ≡ None
    by true h = refl
    by false h = absurd (cc)

sizes_written : (total at : ℕ) (ns : List ℕ) → AreSmall ns → SpellsInPlace total (repeat (length ns) u2) at (flat_map (big_bytes 2) ns) ns
sizes_written total at [] small = writes_give total at []
sizes_written total at (n ∷ ns) small =
    let next = at + length (big_bytes 2 n) in
    writes_then total at u2 (λ x. repeat (length ns) u2 >>= λ xs. give (x ∷ xs)) (big_bytes 2 n) (flat_map (big_bytes 2) ns) n (n ∷ ns)
    (writes_number total 2 n at any small.0 refl)
    (writes_last total next (repeat (length ns) u2) (λ xs. n ∷ xs) (flat_map (big_bytes 2) ns) ns (sizes_written total next ns small.1))

custom_written : (total at : ℕ) (named : ℕ → Bool) (c : Custom) → IsTrue (is_new_tag named c.tag) → c.tag < 256 → c.size < 65536
    → IsTrue (is_aid_length (length c.aid)) → SpellsInPlace total (custom_info named) at (custom_bytes c) c
custom_written total at named c new tag size long =
    let few : length c.aid < 256 = short (length c.aid) long in
    let p1 = at + length (c.tag ∷ []) in
    let p2 = p1 + length (big_bytes 2 c.size) in
    let identifier : SpellsInPlace total aid p2 (length c.aid ∷ c.aid) c.aid =
    writes_then total p2 (number 1 (that is_aid_length)) piece (length c.aid ∷ []) c.aid (length c.aid) c.aid
    (one_byte total p2 (length c.aid) (that is_aid_length) few (passed is_aid_length (length c.aid) long))
    (writes_piece total (length c.aid) (p2 + length (length c.aid ∷ [])) c.aid refl) in
    let rest : SpellsInPlace total (after_tag c.tag) p1 (big_bytes 2 c.size ++ (length c.aid ∷ c.aid)) c =
    writes_then total p1 u2 (λ size. aid >>= λ identifier. give (record { tag = c.tag; size = size; aid = identifier })) (big_bytes 2 c.size)
    (length c.aid ∷ c.aid) c.size c (writes_number total 2 c.size p1 any size refl)
    (writes_last total p2 aid (λ identifier. record { tag = c.tag; size = c.size; aid = identifier }) (length c.aid ∷ c.aid) c.aid identifier) in
    writes_then total at (number 1 (that (is_new_tag named))) after_tag (c.tag ∷ []) (big_bytes 2 c.size ++ (length c.aid ∷ c.aid)) c.tag c
    (one_byte total at c.tag (that (is_new_tag named)) tag (passed (is_new_tag named) c.tag new)) rest
  where
    short : (n : ℕ) → IsTrue (is_aid_length n) → n < 256
    short n h = grind (arith, nat_tests)

customs_written : (total at : ℕ) (named : ℕ → Bool) (cs : List Custom) → AreCustoms named cs
    → SpellsInPlace total (each (length cs) custom_info and_that_of named) at (flat_map custom_bytes cs) cs
customs_written total at named [] are = writes_give total at []
customs_written total at named (c ∷ cs) are =
    let next = at + length (custom_bytes c) in
    writes_then total at (custom_info named) (λ x. each (length cs) custom_info and_that_of (and_that_of named x) >>= λ xs. give (x ∷ xs))
    (custom_bytes c) (flat_map custom_bytes cs) c (c ∷ cs)
    (custom_written total at named c are.0 are.1 are.2 are.3)
    (writes_last total next (each (length cs) custom_info and_that_of (and_that_of named c)) (λ xs. c ∷ xs) (flat_map custom_bytes cs) cs
    (customs_written total next (and_that_of named c) cs are.4))

image_written : (total at : ℕ) (d : DirectoryItems) → d.image_size < 65536 → d.array_init_count < 65536 → d.array_init_size < 65536
    → SpellsInPlace total image_sizes_info at (big_bytes 2 d.image_size ++ (big_bytes 2 d.array_init_count ++ big_bytes 2 d.array_init_size))
    (record { image_size = d.image_size; array_init_count = d.array_init_count; array_init_size = d.array_init_size })
image_written total at d a b c =
    let image : ImageSizes = record { image_size = d.image_size; array_init_count = d.array_init_count; array_init_size = d.array_init_size } in
    let p1 = at + length (big_bytes 2 d.image_size) in
    let p2 = p1 + length (big_bytes 2 d.array_init_count) in
    writes_then total at u2 (λ i. u2 >>= λ j. u2 >>= λ k. give (record { image_size = i; array_init_count = j; array_init_size = k }))
    (big_bytes 2 d.image_size) (big_bytes 2 d.array_init_count ++ big_bytes 2 d.array_init_size) d.image_size image
    (writes_number total 2 d.image_size at any a refl)
    (writes_then total p1 u2 (λ j. u2 >>= λ k. give (record { image_size = d.image_size; array_init_count = j; array_init_size = k }))
    (big_bytes 2 d.array_init_count) (big_bytes 2 d.array_init_size) d.array_init_count image (writes_number total 2 d.array_init_count p1 any b refl)
    (writes_last total p2 u2 (λ k. record { image_size = d.image_size; array_init_count = d.array_init_count; array_init_size = k })
    (big_bytes 2 d.array_init_size) d.array_init_size (writes_number total 2 d.array_init_size p2 any c refl)))

regroup : (s a b c y t : List ℕ) → (s ++ (a ++ (b ++ (c ++ y)))) ++ t ≡ s ++ ((a ++ (b ++ c)) ++ (y ++ t))
regroup s a b c y t = simp append_assoc

pub directories_stand : (format : Format) (d : DirectoryItems) → MayStand format d → Stands (directory_info format) (directory_bytes d) d
unfolding directory_bytes table
directories_stand format d m =
    let s = flat_map (big_bytes 2) d.sizes in
    let i = big_bytes 2 d.image_size ++ (big_bytes 2 d.array_init_count ++ big_bytes 2 d.array_init_size) in
    let n = length d.customs in
    let f = flat_map custom_bytes d.customs in
    let image : ImageSizes = record { image_size = d.image_size; array_init_count = d.array_init_count; array_init_size = d.array_init_size } in
    let out = head_bytes d ++ (n ∷ f) in
    let total = length out in
    let p1 = 0 + length s in
    let p2 = p1 + length i in
    let p3 = p2 + length (d.import_count ∷ []) in
    let p4 = p3 + length (d.applet_count ∷ []) in
    let p5 = p4 + length (n ∷ f) in
    let whole : s ++ (i ++ ((d.import_count ∷ []) ++ ((d.applet_count ∷ []) ++ ((n ∷ f) ++ ([] ++ []))))) ≡ out =
    ap (λ q. s ++ (i ++ ((d.import_count ∷ []) ++ ((d.applet_count ∷ []) ++ q)))) (append-nil (n ∷ f))
    ∙ sym
    (regroup s (big_bytes 2 d.image_size) (big_bytes 2 d.array_init_count) (big_bytes 2 d.array_init_size) (d.import_count ∷ d.applet_count ∷ [])
    (n ∷ f)) in
    let size : total ≡ length (s ++ (i ++ ((d.import_count ∷ []) ++ ((d.applet_count ∷ []) ++ ((n ∷ f) ++ ([] ++ [])))))) = ap length (sym whole) in
    let a = length-append s (i ++ ((d.import_count ∷ []) ++ ((d.applet_count ∷ []) ++ ((n ∷ f) ++ ([] ++ []))))) in
    let b = length-append i ((d.import_count ∷ []) ++ ((d.applet_count ∷ []) ++ ((n ∷ f) ++ ([] ++ [])))) in
    let c : length ((n ∷ f) ++ ([] ++ [])) ≡ length (n ∷ f) = ap length (append-nil (n ∷ f)) in
    let end : total ≡ p5 = omega arith in
    let last : SpellsInPlace total (finish >>= λ end. give d) p5 ([] ++ []) d = writes_then total p5 finish (λ end. give d) [] [] (tt {0}) d
    (writes_finish total p5 end) (writes_give total (p5 + 0) d) in
    let customs : SpellsInPlace total customs_info p4 (n ∷ f) d.customs = writes_then total p4 u1 (λ count. each count custom_info and_that_of none)
    (n ∷ []) f n d.customs (one_byte total p4 n any m.few refl) (customs_written total (p4 + length (n ∷ [])) none d.customs m.customs) in
    let five = writes_then total p4 customs_info
    (λ customs. finish >>= λ end. give
    (record {
      sizes = d.sizes;
      image_size = d.image_size;
      array_init_count = d.array_init_count;
      array_init_size = d.array_init_size;
      import_count = d.import_count;
      applet_count = d.applet_count;
      customs = customs;
    })) (n ∷ f) ([] ++ []) d.customs d customs last in
    let four = writes_then total p3 u1
    (λ applet_count. customs_info >>= λ customs. finish >>= λ end. give
    (record {
      sizes = d.sizes;
      image_size = d.image_size;
      array_init_count = d.array_init_count;
      array_init_size = d.array_init_size;
      import_count = d.import_count;
      applet_count = applet_count;
      customs = customs;
    })) (d.applet_count ∷ []) ((n ∷ f) ++ ([] ++ [])) d.applet_count d
    (one_byte total p3 d.applet_count any m.applet_count refl) five in
    let three = writes_then total p2 u1
    (λ import_count. u1 >>= λ applet_count. customs_info >>= λ customs. finish >>= λ end. give
    (record {
      sizes = d.sizes;
      image_size = d.image_size;
      array_init_count = d.array_init_count;
      array_init_size = d.array_init_size;
      import_count = import_count;
      applet_count = applet_count;
      customs = customs;
    })) (d.import_count ∷ [])
    ((d.applet_count ∷ []) ++ ((n ∷ f) ++ ([] ++ []))) d.import_count d (one_byte total p2 d.import_count any m.import_count refl) four in
    let two = writes_then total p1 image_sizes_info
    (λ image. u1 >>= λ import_count. u1 >>= λ applet_count. customs_info >>= λ customs. finish >>= λ end. give
    (record {
      sizes = d.sizes;
      image_size = image.image_size;
      array_init_count = image.array_init_count;
      array_init_size = image.array_init_size;
      import_count = import_count;
      applet_count = applet_count;
      customs = customs;
    })) i
    ((d.import_count ∷ []) ++ ((d.applet_count ∷ []) ++ ((n ∷ f) ++ ([] ++ [])))) image d
    (image_written total p1 d m.image_size m.array_init_count m.array_init_size) three in
    let sizes : SpellsInPlace total (repeat (size_count format) u2) 0 s d.sizes = subst (λ k. SpellsInPlace total (repeat k u2) 0 s d.sizes) m.counted
    (sizes_written total 0 d.sizes m.sizes) in
    let one : SpellsInPlace total (directory_info format) 0
    (s ++ (i ++ ((d.import_count ∷ []) ++ ((d.applet_count ∷ []) ++ ((n ∷ f) ++ ([] ++ [])))))) d = writes_then total 0
    (repeat (size_count format) u2)
    (λ sizes. image_sizes_info >>= λ image. u1 >>= λ import_count. u1 >>= λ applet_count. customs_info >>= λ customs. finish >>= λ end. give
    (record {
      sizes = sizes;
      image_size = image.image_size;
      array_init_count = image.array_init_count;
      array_init_size = image.array_init_size;
      import_count = import_count;
      applet_count = applet_count;
      customs = customs;
    })) s
    (i ++ ((d.import_count ∷ []) ++ ((d.applet_count ∷ []) ++ ((n ∷ f) ++ ([] ++ []))))) d.sizes d sizes two in
    writes_stands (directory_info format) out d (subst (λ bytes. SpellsInPlace total (directory_info format) 0 bytes d) whole one)
