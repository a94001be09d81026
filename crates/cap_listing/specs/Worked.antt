-- A listing, worked out.
use Rattle.std.specs.Prelude.{◌≡◌, [], ◌∷◌, codes}
use Rattle.std.proofs.Common.{refl}
use Rattle.std.specs.Fmt.{digits}
use Rattle.jc_decode.specs.Layout.{layout_of, opcode}
use Rattle.jc_decode.specs.Decoding.{decoded}
use Rattle.jc_decode.specs.Cases.{cases}
use Rattle.jc_decode.specs.Listing.{listing, listing_from, at_most}
use Rattle.jc_decode.specs.Names.{names}
use Rattle.hex.specs.Hex.{encode_with}
use Rattle.cap_listing.specs.declared.method.ListedMethod.{ListedMethod}
use Rattle.cap_listing.specs.Text.{text_of}

-- a method of two arguments that picks one of two constants and adds it to the first argument
abbrev pick : ListedMethod
pick = record {
  class_no = 0;
  method_no = 1;
  laid =
      record {
        code = 28 ∷ 29 ∷ 96 ∷ 5 ∷ 4 ∷ 112 ∷ 3 ∷ 5 ∷ 65 ∷ 120 ∷ [];
        handlers = [];
        max_stack = 2;
        nargs = 2;
        max_locals = 0;
      };
}

pick_text : text_of (pick ∷ [])
    ≡ codes "method 0.1 stack 2 args 2 locals 0\n0 sload_0\n1 sload_1\n2 ifeq 7\n4 sconst_1\n5 goto 8\n7 sconst_2\n8 sadd\n9 sreturn\nend\n"
unfolding layout_of opcode decoded cases listing listing_from at_most names digits
pick_text = refl

-- a goto before the code, an slookupswitch of one pair, bytes that are no instruction, and a handler
abbrev odd : ListedMethod
odd = record {
  class_no = 0;
  method_no = 0;
  laid = record {
    code = 112 ∷ 251 ∷ 117 ∷ 0 ∷ 9 ∷ 0 ∷ 1 ∷ 255 ∷ 254 ∷ 0 ∷ 3 ∷ 113 ∷ 0 ∷ [];
    handlers = record { start = 0; length = 2; entry = 2; pool = 7 } ∷ [];
    max_stack = 0;
    nargs = 0;
    max_locals = 0;
  };
}

odd_text : text_of (odd ∷ [])
    ≡ codes "method 0.0 stack 0 args 0 locals 0\n0 goto -5\n2 slookupswitch 11 1 -2 5\nbytes 11 7100\nhandler 0 2 2 7\nend\n"
unfolding layout_of opcode decoded cases listing listing_from at_most names digits encode_with
odd_text = refl
