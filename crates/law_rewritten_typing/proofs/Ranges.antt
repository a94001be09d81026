-- The ranges of a rewritten method enter where the caught object is asked for.
use Rattle.std.proofs.Common.{◌≡◌, ℕ, suc, ◌+◌, Bool, true, false, if◌then◌else◌, List, [], ◌∷◌, ◌++◌, slice_get, Some, refl, sym}
use Rattle.std.proofs.Common.{◌∙◌, ap, subst, arith}
use Rattle.std.proofs.lemmas.List.Elements.{All-contains}
use Rattle.jc_base.specs.Class.{IsClass}
use Rattle.jc_base.specs.Each.{Each, IsAmong}
use Rattle.jc_base.specs.Linked.{IsHandler, list_at}
use Rattle.jc_base.specs.declared.record.Handler.{Handler}
use Rattle.jc_decode.specs.declared.symbols.Range.{Range}
use Rattle.jc_decode.proofs.Elements.{Contains-slice_get}
use Rattle.jc_control.specs.Method.{IsMethodOf}
use Rattle.jc_rules.specs.FlowLaws.{AreRules}
use Rattle.jc_flow.proofs.Derived.{of_world}
use Rattle.xf_homes.specs.Source.{Source}
use Rattle.xf_emission.specs.Jump.{handler_label}
use Rattle.xf_emission.specs.Emission.{is_live, range, ranges_from, items}
use Rattle.xf_emission.specs.Laws.{of_handler}
use Rattle.xf_emission.proofs.Labels.{labels}
use Rattle.xf_emission.proofs.Once.{named-among}
use Rattle.law_laid.specs.Laid.{class_by}
use Rattle.law_laid.proofs.Catching.{catches-by-pool}
use Rattle.law_rewritten_typing.proofs.Walks.{catching}
use Rattle.law_rewritten_typing.proofs.LabelDemands.{asks_of, caught_by, at-handler}

module _ (s : Source) (rules : AreRules s.world) (mo : IsMethodOf s.world s.method) where
  handler-is : (n : ℕ) (h : Handler) → slice_get s.method.rec.handlers n ≡ Some h
      → IsHandler s.world.classes (list_at s.world.pools s.method.rec.package) s.method.rec.code_len h
  handler-is n h e =
      All-contains (IsHandler s.world.classes (list_at s.world.pools s.method.rec.package) s.method.rec.code_len) s.method.rec.handlers h
      (of_world s.world rules s.method mo).handlers (Contains-slice_get s.method.rec.handlers n h e)

  class-is : (n : ℕ) (h : Handler) → slice_get s.method.rec.handlers n ≡ Some h → class_by s.method.rec.handlers h.index ≡ h.class
  class-is n h e =
      catches-by-pool s.world.classes (list_at s.world.pools s.method.rec.package) s.method.rec.code_len s.method.rec.handlers h h.class
      (of_world s.world rules s.method mo).handlers (Contains-slice_get s.method.rec.handlers n h e) (handler-is n h e).catches

  abbrev pub IsCaught : Range → Type 0
  IsCaught q =
      IsAmong q.entry (labels (items s)) × (asks_of s q.entry ≡ catching (class_by s.method.rec.handlers q.pool))
      × IsClass s.world.classes (class_by s.method.rec.handlers q.pool)

  pub ranges-caught : (n : ℕ) (hs : List Handler)
      → ((j : ℕ) (h : Handler) → slice_get hs j ≡ Some h → slice_get s.method.rec.handlers (n + j) ≡ Some h)
      → Each IsCaught (ranges_from s n hs)
  ranges-caught n [] inside = tt
  ranges-caught n (h ∷ hs) inside =
      by (is_live s h) refl
      (ranges-caught (suc n) hs (λ j k e. let next : n + suc j ≡ suc n + j = omega arith in ap (slice_get s.method.rec.handlers) (sym next)
      ∙ inside (suc j) k e))
    where
      here : slice_get s.method.rec.handlers n ≡ Some h
      here = let same_n : n + 0 ≡ n = omega arith in ap (slice_get s.method.rec.handlers) (sym same_n) ∙ inside 0 h refl

      by : (b : Bool) → is_live s h ≡ b → Each IsCaught (ranges_from s (suc n) hs)
          → Each IsCaught ((if b then range s n h ∷ [] else []) ++ ranges_from s (suc n) hs)
      by true live rest =
          let own = class-is n h here in
          let first : IsCaught (range s n h) = (
            named-among s (handler_label n) (of_handler n here live),
            at-handler s n ∙ ap caught_by here ∙ ap catching (sym own),
            subst (IsClass s.world.classes) (sym own) (handler-is n h here).class,
          ) in
          (first, rest)
      by false live rest = rest
