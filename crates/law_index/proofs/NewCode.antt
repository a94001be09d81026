-- In the new world a method of the last package has code exactly where some is laid for it, and this is its code.
use Rattle.std.proofs.Common.{◌≡◌, ◌<◌, ◌+◌, ℕ, List, length, take, drop, Bool, true, false, Option}
use Rattle.std.proofs.Common.{Some, None, refl, sym, ap, subst, ◌∙◌, arith}
use Rattle.std.specs.Prelude.{is_some}
use Rattle.std.proofs.Math.Nat.{min-eq_left}
use Rattle.cap_bytes.specs.Number.{number_at}
use Rattle.cap_components.specs.MethodPlaces.{size_by, code_start, code_end}
use Rattle.cap_index.specs.Indexes.{has_code}
use Rattle.cap_method.specs.MethodFormat.{Header}
use Rattle.cap_package.specs.PackageRecord.{PackageRecord}
use Rattle.cap_package.specs.Parts.{Lent}
use Rattle.cap_package.specs.StandsFor.{StandsFor}
use Rattle.cap_package.proofs.InfoLaws.{info-short}
use Rattle.cap_laying.specs.HeaderBytes.{header_of}
use Rattle.cap_laying.specs.Member.{numbers_of}
use Rattle.jc_base.specs.declared.record.MethodRec.{MethodRec}
use Rattle.jc_base.specs.Linked.{list_at}
use Rattle.jc_base.specs.World.{Linked}
use Rattle.jc_base.specs.World as world
use Rattle.jc_decode.specs.declared.symbols.Laid.{Laid}
use Rattle.jc_resolve.specs.Named.{infos_of}
use Rattle.jc_resolve.specs.NamedMethods.{offset_in_info, have_headers, named_method}
use Rattle.jc_link.specs.World.{IsLinked}
use Rattle.law_package.specs.Changes.{changes}
use Rattle.law_package.specs.Written.{HasCode, IsAs}
use Rattle.law_package.specs.Rewritten.{IsRewritten}
use Rattle.law_package.proofs.Headers.{header_sized}
use Rattle.law_relink.specs.Last.{and_last}
use Rattle.law_relink.proofs.Records.{headers_same, with_header, without_header}
use Rattle.law_relink.proofs.Twins.{Twin, Told, before_in, after_in}
use Rattle.law_relink.proofs.Known.{IsKnown, IsKnownTwin, of_class, twin_headers}
use Rattle.law_relink.proofs.Standing.{list_last}
use Rattle.law_index.specs.WrittenIndex.{IsNewCode}

-- a method of the last package, before and after
abbrev pub before : List PackageRecord → PackageRecord → List ℕ → Twin → MethodRec
before ps p roles x = named_method (and_last ps p) roles (before_in (length ps) p x)

abbrev pub after : List PackageRecord → PackageRecord → List ℕ → Twin → MethodRec
after ps q roles x = named_method (and_last ps q) roles (after_in (length ps) q x)

-- code is laid for a method that had code
abbrev pub MayHave : List PackageRecord → PackageRecord → List ℕ → Twin → Type 0
MayHave ps p roles x = (l : Laid) → x.laid ≡ Some l → IsNewCode (before ps p roles x) l

module _ (ps : List PackageRecord) (p q : PackageRecord) (laid : List (Option Laid)) (roles : List ℕ) (new_parts : List Lent)
    (t : StandsFor new_parts q) (r : IsRewritten p laid q) where
  abbrev now : List PackageRecord
  now = and_last ps q

  abbrev old : List PackageRecord
  old = and_last ps p

  abbrev last : ℕ
  last = length ps

  module _ (x : Twin) (i : IsKnownTwin p q laid x) where
    -- a method that had code had a header
    had-header : 0 < (before ps p roles x).code_len → have_headers old last p x.old_class ≡ true
    had-header filled = by (have_headers old last p x.old_class) refl
      where
        by : (b : Bool) → have_headers old last p x.old_class ≡ b → b ≡ true
        by true e = refl
        by false e =
            let none = ap (λ (m : MethodRec). m.code_len) (without_header old roles last p x.class_no x.old_class x.method_no x.old e) in
            absurd (omega (arith, none, filled))

    headers-stay : have_headers now last q x.new_class ≡ have_headers old last p x.old_class
    headers-stay = headers_same ps p q laid r last q x.new_class ∙ twin_headers old last p q laid x r i

    -- ---- no code is laid

    bare-by : (b : Bool) → have_headers now last q x.new_class ≡ b → x.laid ≡ None → (after ps q roles x).code_len ≡ 0
    bare-by false e is = ap (λ (m : MethodRec). m.code_len) (without_header now roles last q x.class_no x.new_class x.method_no x.new e)
    bare-by true e is =
        let told = i.told (of_class old last p x.old_class (sym headers-stay ∙ e)) in
        let as_was = subst (λ o. IsAs p q x.old o x.new) is told.1.written.is in
        ap (λ (m : MethodRec). m.code_len) (with_header now roles last q x.class_no x.new_class x.method_no x.new told.1.well.header e
        told.1.well.there) ∙ as_was.no_code

    bare : x.laid ≡ None → (after ps q roles x).code_len ≡ 0
    bare is = bare-by (have_headers now last q x.new_class) refl is

    -- ---- code is laid

    module _ (l : Laid) (is : x.laid ≡ Some l) (may : IsNewCode (before ps p roles x) l) where
      headers : have_headers now last q x.new_class ≡ true
      headers = headers-stay ∙ had-header may.filled

      told : Told (IsKnown p q (changes p laid q)) x
      told = i.told (of_class old last p x.old_class (had-header may.filled))

      code : HasCode q l x.new
      code = subst (λ o. IsAs p q x.old o x.new) is told.1.written.is

      abbrev h : Header
      h = header_of (numbers_of l)

      code-begins : offset_in_info (x.new.method_offset + h.size) ≡ code_start q.methods.info x.new
      unfolding code_end code_start
      code-begins =
          let size = header_sized q.methods.info x.new.method_offset h code.header in
          let within = told.1.well.within in
          let short = info-short 7 t.said.methods.file q.methods.info t.said.methods.framed in
          ap (λ n. offset_in_info (x.new.method_offset + n)) size
          ∙ min-eq_left {n = x.new.method_offset + size_by (number_at 1 x.new.method_offset q.methods.info)} {m = 65535} (omega (arith, within, short))

      pub long : (after ps q roles x).code_len ≡ length l.code
      long =
          ap (λ (m : MethodRec). m.code_len) (with_header now roles last q x.class_no x.new_class x.method_no x.new h headers code.header)
          ∙ code.long

      pub code-is : (new : Linked) → IsLinked now roles new → world.code_of new.infos (after ps q roles x) ≡ l.code
      code-is new linked =
          let rec = with_header now roles last q x.class_no x.new_class x.method_no x.new h headers code.header in
          let at : (after ps q roles x).code_at ≡ code_start q.methods.info x.new = ap (λ (m : MethodRec). m.code_at) rec ∙ code-begins in
          let size : (after ps q roles x).code_len ≡ x.new.bytecode_count = ap (λ (m : MethodRec). m.code_len) rec in
          let home : (after ps q roles x).package ≡ last = ap (λ (m : MethodRec). m.package) rec in
          ap (λ infos. take (after ps q roles x).code_len (drop (after ps q roles x).code_at (list_at infos (after ps q roles x).package))) linked.lists.infos
          ∙ ap (λ k. take (after ps q roles x).code_len (drop (after ps q roles x).code_at (list_at (infos_of now) k))) home
          ∙ ap (λ info. take (after ps q roles x).code_len (drop (after ps q roles x).code_at info)) (list_last (λ (y : PackageRecord). y.methods.info) ps q)
          ∙ ap (λ n. take n (drop (after ps q roles x).code_at q.methods.info)) size
          ∙ ap (λ n. take x.new.bytecode_count (drop n q.methods.info)) at
          ∙ code.code

    -- ---- both

    filled-by : (o : Option Laid) → x.laid ≡ o → MayHave ps p roles x → has_code (after ps q roles x) ≡ is_some o
    filled-by x is may = grind (arith, bare, long, length, code)

    pub has-code-where-laid : MayHave ps p roles x → has_code (after ps q roles x) ≡ is_some x.laid
    has-code-where-laid may = filled-by x.laid refl may
