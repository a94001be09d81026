-- What a method's header and its code tell, since the parts of its package agree.
use Rattle.std.proofs.Common.{◌≡◌, ℕ, ◌+◌, ◌≤◌, Bool, true, false, not, ◌&&◌, List, length, map, refl, sym, ap, ◌∙◌, arith}
use Rattle.std.specs.Prelude.{All, MatchBool}
use Rattle.std.proofs.lemmas.Bool.{false≢true}
use Rattle.std.proofs.lemmas.List.{length-map, length-take, length-drop}
use Rattle.std.proofs.lemmas.List.Elements.{All-map, All-weaker}
use Rattle.cap_method.specs.declared.read_methods.HandlerInfo.{HandlerInfo}
use Rattle.cap_desc.specs.DescriptorFormat as described
use Rattle.cap_desc.specs.DescriptorFormat.{MethodDescriptor}
use Rattle.cap_package.specs.HeaderChecks.{is_static, header_in}
use Rattle.cap_package.specs.MethodChecks.{code_start, code_end}
use Rattle.cap_package.specs.PackageRecord.{PackageRecord, names_interface, handlers_of}
use Rattle.cap_package.specs.StandsFor.{StandsFor}
use Rattle.jc_base.specs.declared.record.Sig.{Sig}
use Rattle.jc_base.specs.Linked.{receiver_words, IsCodeLength}
use Rattle.jc_resolve.specs.declared.method_records.Body.{Body}
use Rattle.jc_resolve.proofs.Faultless.{IsOneOf}
use Rattle.jc_resolve.specs.Named.{HandlerLiesIn}
use Rattle.jc_resolve.specs.NamedMethods.{handler_named, offset_in_info, no_body, body_after, body_by, body_of, is_class, have_headers}
use Rattle.jc_resolve.specs.References.{class_named}
use Rattle.jc_resolve.specs.WorldTypes.{declared_signature}
use Rattle.jc_resolve.proofs.MethodFacts.{HasWords, IsPlaced, interface-words, is-placed}
use Rattle.jc_resolve.proofs.NumberedLaws.{from-any, from-class, from-interface}
use Rattle.jc_resolve.proofs.OwnedHandlers.{LiesIn}
use Rattle.jc_resolve.proofs.WordLaws.{words-counted}

-- a body over an info, of so many argument words, and whether it is one of a class
pub record IsBody (info : List ℕ) (count : ℕ) (class : Bool) (b : Body) : Type 0 where
  pub words : b.nargs ≡ count
  pub registers : b.nargs + b.max_locals ≤ 255
  pub code : MatchBool b.is_abstract (b.code_len ≡ 0) (IsCodeLength b.code_len)
  pub proper : b.is_abstract ≡ false → class ≡ true
  pub inside : b.code_at + b.code_len ≤ length info
  pub handlers : All (HandlerLiesIn b.code_len) b.handlers
  pub few_handlers : length b.handlers ≤ 255

bodiless : (info : List ℕ) (flags : ℕ) (sig : Sig) (class : Bool) → length sig.args + receiver_words (is_static flags) ≤ 255
    → IsBody info (length sig.args + receiver_words (is_static flags)) class (no_body flags sig)
bodiless info flags sig class few = grind (arith, false≢true)

module _ (ps : List PackageRecord) (throwable k : ℕ) (p : PackageRecord) (m : MethodDescriptor) (sig : Sig) where
  handler_in : (code_at : ℕ) (h : HandlerInfo) → code_at ≡ code_start p.methods.info m → code_end p.methods.info m ≤ 65535
      → LiesIn p.methods.info m h → HandlerLiesIn m.bytecode_count (handler_named ps throwable k p.pool code_at h)
  unfolding handler_named code_end
  handler_in code_at h at short lies = grind (arith)

  starts : (x : IsPlaced p m) → offset_in_info (m.method_offset + x.header.size) ≡ code_start p.methods.info m
  unfolding code_end
  starts x = grind (arith)

  handlers_in : (x : IsPlaced p m) (code_at : ℕ) → code_at ≡ code_start p.methods.info m
      → All (HandlerLiesIn m.bytecode_count) (map (handler_named ps throwable k p.pool code_at) (handlers_of p m))
  handlers_in x code_at at =
      let ends = x.ends in
      let short = x.short in
      All-map (HandlerLiesIn m.bytecode_count) (handler_named ps throwable k p.pool code_at) (handlers_of p m)
      (All-weaker (LiesIn p.methods.info m) (λ h. HandlerLiesIn m.bytecode_count (handler_named ps throwable k p.pool code_at h))
      (λ h lies. handler_in code_at h at (omega arith) lies) (handlers_of p m) x.handlers)

  handlers_few : (code_at : ℕ) → length p.methods.handlers ≤ 255 → length (map (handler_named ps throwable k p.pool code_at) (handlers_of p m)) ≤ 255
  handlers_few code_at few = grind (arith, length-map, length-take, length-drop)

  ends_in : (x : IsPlaced p m) (code_at : ℕ) → code_at ≡ code_start p.methods.info m → code_at + m.bytecode_count ≤ length p.methods.info
  unfolding code_end
  ends_in x code_at at = let ends = x.ends in omega arith

  farther : (x : IsPlaced p m) → length p.methods.handlers ≤ 255 → length sig.args ≡ x.words
      → IsBody p.methods.info (length sig.args + receiver_words (is_static m.flags)) true
      (body_after ps throwable k p m x.header (offset_in_info (m.method_offset + x.header.size)))
  farther x few counted =
      let code_at = offset_in_info (m.method_offset + x.header.size) in
      record {
        words = x.nargs ∙ ap (λ n. n + receiver_words (is_static m.flags)) (sym counted);
        registers = x.registers;
        code = x.length;
        proper = λ e. refl;
        inside = ends_in x code_at (starts x);
        handlers = handlers_in x code_at (starts x);
        few_handlers = handlers_few code_at few;
      }

  body_there : (x : IsPlaced p m) → length p.methods.handlers ≤ 255 → length sig.args ≡ x.words
      → IsBody p.methods.info (length sig.args + receiver_words (is_static m.flags)) true
      (body_by ps throwable k p m sig (header_in p.methods.info m.method_offset))
  body_there x few counted = rw x.there (farther x few counted)

  few_words : (x : IsPlaced p m) → length sig.args ≡ x.words → length sig.args + receiver_words (is_static m.flags) ≤ 255
  few_words x counted = grind (arith)

  body_placed : (class : Bool) (x : IsPlaced p m) → length p.methods.handlers ≤ 255 → length sig.args ≡ x.words
      → IsBody p.methods.info (length sig.args + receiver_words (is_static m.flags)) class (body_of ps throwable k p m sig (true && class))
  unfolding body_of
  body_placed true x few counted = body_there x few counted
  body_placed false x few counted = bodiless p.methods.info m.flags sig false (few_words x counted)

  receiver_one : (b : Bool) → receiver_words b ≤ 1
  receiver_one x = grind (arith)

  body_else : (class : Bool) (x : HasWords p.description m 254) → length sig.args ≡ x.words
      → IsBody p.methods.info (length sig.args + receiver_words (is_static m.flags)) class (body_of ps throwable k p m sig false)
  unfolding body_of
  body_else class x counted = grind (arith, receiver_one, bodiless)

-- the body of a method of a class that its package describes
module _ (ps : List PackageRecord) (object throwable k : ℕ) (p : PackageRecord) (c : described.ClassDescriptor) (m : MethodDescriptor) where
  abbrev sig_of : Sig
  sig_of = declared_signature ps object k p.description m.type_offset

  body_by_place : (interface class : Bool) → names_interface p.classes c.class_ref ≡ interface → StandsFor p.parts p
      → length p.methods.handlers ≤ 255 → IsOneOf p.description.items.classes c → IsOneOf c.methods m
      → IsBody p.methods.info (length (sig_of).args + receiver_words (is_static m.flags)) class (body_of ps throwable k p m sig_of (not interface && class))
  body_by_place false class e agreed few one of_class =
      let x = is-placed p agreed m (from-class (names_interface p.classes) p.description.items.classes c m one e of_class)
      (from-any p.description.items.classes c m one of_class) in
      body_placed ps throwable k p m sig_of class x few (words-counted ps object k p.description m.type_offset x.words x.told)
  body_by_place true class e agreed few one of_class =
      let x = interface-words p agreed m (from-interface (names_interface p.classes) p.description.items.classes c m one e of_class) in
      body_else ps throwable k p m sig_of class x (words-counted ps object k p.description m.type_offset x.words x.told)

  pub body-known : StandsFor p.parts p → length p.methods.handlers ≤ 255 → IsOneOf p.description.items.classes c → IsOneOf c.methods m
      → IsBody p.methods.info (length (declared_signature ps object k p.description m.type_offset).args + receiver_words (is_static m.flags))
      (is_class ps (class_named ps k c.class_ref))
      (body_of ps throwable k p m (declared_signature ps object k p.description m.type_offset) (have_headers ps k p c))
  unfolding have_headers
  body-known agreed few one of_class = grind (arith, body_by_place)
