-- The names of instructions by opcode (JCVM 2.2, chapter 7; `jsr` and `ret` are named, though none is decoded).
use Rattle.std.specs.Prelude.{◌≡◌, ◌<◌, ℕ, List, [], ◌∷◌, length, codes, slice_index_or}
use Rattle.std.proofs.Common.{refl}

-- the names of the opcodes from 0 to 184
unfoldable pub names : List (List ℕ)
names =
    codes "nop" ∷ codes "aconst_null"
    ∷ codes "sconst_m1" ∷ codes "sconst_0" ∷ codes "sconst_1" ∷ codes "sconst_2" ∷ codes "sconst_3" ∷ codes "sconst_4"
    ∷ codes "sconst_5"
    ∷ codes "iconst_m1" ∷ codes "iconst_0" ∷ codes "iconst_1" ∷ codes "iconst_2" ∷ codes "iconst_3" ∷ codes "iconst_4"
    ∷ codes "iconst_5"
    ∷ codes "bspush" ∷ codes "sspush" ∷ codes "bipush" ∷ codes "sipush" ∷ codes "iipush"
    ∷ codes "aload" ∷ codes "sload" ∷ codes "iload"
    ∷ codes "aload_0" ∷ codes "aload_1" ∷ codes "aload_2" ∷ codes "aload_3" ∷ codes "sload_0" ∷ codes "sload_1"
    ∷ codes "sload_2"
    ∷ codes "sload_3" ∷ codes "iload_0" ∷ codes "iload_1" ∷ codes "iload_2" ∷ codes "iload_3"
    ∷ codes "aaload" ∷ codes "baload" ∷ codes "saload" ∷ codes "iaload"
    ∷ codes "astore" ∷ codes "sstore" ∷ codes "istore"
    ∷ codes "astore_0" ∷ codes "astore_1" ∷ codes "astore_2" ∷ codes "astore_3" ∷ codes "sstore_0" ∷ codes "sstore_1"
    ∷ codes "sstore_2"
    ∷ codes "sstore_3" ∷ codes "istore_0" ∷ codes "istore_1" ∷ codes "istore_2" ∷ codes "istore_3"
    ∷ codes "aastore" ∷ codes "bastore" ∷ codes "sastore" ∷ codes "iastore"
    ∷ codes "pop" ∷ codes "pop2" ∷ codes "dup" ∷ codes "dup2" ∷ codes "dup_x" ∷ codes "swap_x"
    ∷ codes "sadd" ∷ codes "iadd" ∷ codes "ssub" ∷ codes "isub" ∷ codes "smul" ∷ codes "imul" ∷ codes "sdiv" ∷ codes "idiv"
    ∷ codes "srem" ∷ codes "irem" ∷ codes "sneg" ∷ codes "ineg"
    ∷ codes "sshl" ∷ codes "ishl" ∷ codes "sshr" ∷ codes "ishr" ∷ codes "sushr" ∷ codes "iushr" ∷ codes "sand"
    ∷ codes "iand"
    ∷ codes "sor" ∷ codes "ior" ∷ codes "sxor" ∷ codes "ixor"
    ∷ codes "sinc" ∷ codes "iinc" ∷ codes "s2b" ∷ codes "s2i" ∷ codes "i2b" ∷ codes "i2s" ∷ codes "icmp"
    ∷ codes "ifeq" ∷ codes "ifne" ∷ codes "iflt" ∷ codes "ifge" ∷ codes "ifgt" ∷ codes "ifle" ∷ codes "ifnull"
    ∷ codes "ifnonnull"
    ∷ codes "if_acmpeq" ∷ codes "if_acmpne" ∷ codes "if_scmpeq" ∷ codes "if_scmpne" ∷ codes "if_scmplt" ∷ codes "if_scmpge"
    ∷ codes "if_scmpgt" ∷ codes "if_scmple" ∷ codes "goto"
    ∷ codes "jsr" ∷ codes "ret"
    ∷ codes "stableswitch" ∷ codes "itableswitch" ∷ codes "slookupswitch" ∷ codes "ilookupswitch"
    ∷ codes "areturn" ∷ codes "sreturn" ∷ codes "ireturn" ∷ codes "return"
    ∷ codes "getstatic_a" ∷ codes "getstatic_b" ∷ codes "getstatic_s" ∷ codes "getstatic_i" ∷ codes "putstatic_a"
    ∷ codes "putstatic_b"
    ∷ codes "putstatic_s" ∷ codes "putstatic_i"
    ∷ codes "getfield_a" ∷ codes "getfield_b" ∷ codes "getfield_s" ∷ codes "getfield_i" ∷ codes "putfield_a"
    ∷ codes "putfield_b"
    ∷ codes "putfield_s" ∷ codes "putfield_i"
    ∷ codes "invokevirtual" ∷ codes "invokespecial" ∷ codes "invokestatic" ∷ codes "invokeinterface"
    ∷ codes "new" ∷ codes "newarray" ∷ codes "anewarray" ∷ codes "arraylength" ∷ codes "athrow" ∷ codes "checkcast"
    ∷ codes "instanceof"
    ∷ codes "sinc_w" ∷ codes "iinc_w"
    ∷ codes "ifeq_w" ∷ codes "ifne_w" ∷ codes "iflt_w" ∷ codes "ifge_w" ∷ codes "ifgt_w" ∷ codes "ifle_w" ∷ codes "ifnull_w"
    ∷ codes "ifnonnull_w"
    ∷ codes "if_acmpeq_w" ∷ codes "if_acmpne_w" ∷ codes "if_scmpeq_w" ∷ codes "if_scmpne_w" ∷ codes "if_scmplt_w"
    ∷ codes "if_scmpge_w"
    ∷ codes "if_scmpgt_w" ∷ codes "if_scmple_w" ∷ codes "goto_w"
    ∷ codes "getfield_a_w" ∷ codes "getfield_b_w" ∷ codes "getfield_s_w" ∷ codes "getfield_i_w" ∷ codes "getfield_a_this"
    ∷ codes "getfield_b_this" ∷ codes "getfield_s_this" ∷ codes "getfield_i_this"
    ∷ codes "putfield_a_w" ∷ codes "putfield_b_w" ∷ codes "putfield_s_w" ∷ codes "putfield_i_w" ∷ codes "putfield_a_this"
    ∷ codes "putfield_b_this" ∷ codes "putfield_s_this" ∷ codes "putfield_i_this"
    ∷ []

-- the name of an opcode; none has an opcode above 184, of which the standard leaves the last two to an implementation
abbrev pub name : ℕ → List ℕ
name op = slice_index_or names op []

abbrev pub width : ℕ → ℕ
width op = length (name op)

-- an opcode of that name
abbrev pub HasName : List ℕ → ℕ → Type 0
HasName word op = (op < 185) × (word ≡ name op)

-- each name is that of one opcode
abbrev pub NamesAreApart : Type 0
NamesAreApart = (p q : ℕ) → p < 185 → q < 185 → name p ≡ name q → p ≡ q

wide_goto : name 168 ≡ codes "goto_w"
unfolding names
wide_goto = refl
