-- The handlers of the laid code are those of the method, at other places.
use Rattle.std.proofs.Common.{◌≡◌, ℕ, ◌<◌, Bool, List, map, Contains, inr, sym, ap, ◌∙◌, subst, arith}
use Rattle.std.specs.Prelude.{nat_le, nat_lt, ◌&&◌}
use Rattle.std.proofs.lemmas.List.Elements.{All-contains}
use Rattle.std.proofs.lemmas.Simd.{map-map}
use Rattle.jc_base.specs.declared.record.Handler.{Handler}
use Rattle.jc_base.specs.World.{Linked, IsWorld}
use Rattle.jc_base.specs.Linked.{list_at}
use Rattle.jc_base.specs.Order.{is_on_chain}
use Rattle.jc_decode.specs.declared.symbols.Laid.{Laid}
use Rattle.jc_decode.specs.Symbols.{handler as laid_handler}
use Rattle.jc_control.specs.Method.{Method, IsMethodOf}
use Rattle.jc_control.specs.WellFormed.{IsPlace, IsBoundary, IsHandlerOf, IsWellFormed}
use Rattle.vm_step.specs.Raising.{catches}
use Rattle.law_laid.specs.Laid.{catching, HasLaid}
use Rattle.law_laid.proofs.Catching.{catches-by-pool}
use Rattle.law_share.specs.Renamed.{CatchAlike}
use Rattle.law_renumbered.specs.Symbols.{range_of}
use Rattle.jc_rules.proofs.Starts.{of_world, handler_of}

-- places come to places, and keep their order
pub record KeepsOrder (code there : List ℕ) (f : ℕ → ℕ) : Type 0 where
  pub place : (p : ℕ) → IsPlace code p → IsPlace there (f p)
  pub boundary : (p : ℕ) → IsBoundary code p → IsBoundary there (f p)
  pub rises : (p q : ℕ) → IsBoundary code p → IsBoundary code q → p < q → f p < f q
  pub le : (p q : ℕ) → IsBoundary code p → IsBoundary code q → nat_le (f p) (f q) ≡ nat_le p q
  pub lt : (p q : ℕ) → IsBoundary code p → IsBoundary code q → nat_lt (f p) (f q) ≡ nat_lt p q

module _ (v : Linked) (links : IsWorld v) (m target : Method) (is : IsMethodOf v m) (formed : IsWellFormed m) (laid : Laid)
    (has : HasLaid m.rec laid target) (at_label : ℕ → ℕ) (laid_for : laid.handlers ≡ map (laid_handler at_label) (map range_of m.rec.handlers))
    (f : ℕ → ℕ) (comes : (p : ℕ) → IsBoundary m.code p → f p ≡ at_label p) (keeps : KeepsOrder m.code target.code f)
  where
    pub there : Handler → Handler
    there h = catching m.rec.handlers (laid_handler at_label (range_of h))

    handlers-there : target.rec.handlers ≡ map there m.rec.handlers
    unfolding there
    handlers-there = grind (arith, map, map-map)

    formed-of : (h : Handler) → Contains m.rec.handlers h → IsHandlerOf m.code h
    formed-of h c = All-contains (IsHandlerOf m.code) m.rec.handlers h formed.handlers c

    start-there : (h : Handler) → Contains m.rec.handlers h → (there h).start ≡ f h.start
    unfolding there
    start-there h c = sym (comes h.start (inr (formed-of h c).start))

    end-there : (h : Handler) → Contains m.rec.handlers h → (there h).end ≡ f h.end
    unfolding there
    end-there h c =
        let own = formed-of h c in
        let up = keeps.rises h.start h.end (inr own.start) own.end own.order in
        let a = comes h.start (inr own.start) in
        let b = comes h.end own.end in
        omega (arith, up, a, b)

    entry-there : (h : Handler) → Contains m.rec.handlers h → (there h).entry ≡ f h.entry
    unfolding there
    entry-there h c = sym (comes h.entry (inr (formed-of h c).entry))

    class-there : (h : Handler) → Contains m.rec.handlers h → (there h).class ≡ h.class
    unfolding there
    class-there h c =
        catches-by-pool v.classes (list_at v.pools m.rec.package) m.rec.code_len m.rec.handlers h h.class (of_world v links m is).handlers c
        (handler_of v links m is h c).catches

    both : (a b c d : Bool) → a ≡ b → c ≡ d → (a && c) ≡ (b && d)
    both a b c d p q = ap (λ x. x && c) p ∙ ap (λ x. b && x) q

    catch-there : (p class : ℕ) (h : Handler) → IsPlace m.code p → Contains m.rec.handlers h
        → catches v.classes (f p) class (there h) ≡ catches v.classes p class h
    catch-there p class h here c =
        let own = formed-of h c in
        let from : nat_le (there h).start (f p) ≡ nat_le h.start p =
        ap (λ n. nat_le n (f p)) (start-there h c) ∙ keeps.le h.start p (inr own.start) (inr here) in
        let before : nat_lt (f p) (there h).end ≡ nat_lt p h.end = ap (λ n. nat_lt (f p) n) (end-there h c) ∙ keeps.lt p h.end (inr here) own.end in
        both (nat_le (there h).start (f p) && nat_lt (f p) (there h).end) (nat_le h.start p && nat_lt p h.end)
        (is_on_chain v.classes (there h).class class) (is_on_chain v.classes h.class class)
        (both (nat_le (there h).start (f p)) (nat_le h.start p) (nat_lt (f p) (there h).end) (nat_lt p h.end) from before)
        (ap (λ n. is_on_chain v.classes n class) (class-there h c))

    pub catch-alike : CatchAlike v m target f there
    catch-alike = record { handlers = handlers-there; entry = entry-there; class = class-there; catch = catch-there }

    pub handler-formed : (h : Handler) → Contains m.rec.handlers h → IsHandlerOf target.code (there h)
    handler-formed h c =
        let own = formed-of h c in
        let up = keeps.rises h.start h.end (inr own.start) own.end own.order in
        let a = start-there h c in
        let b = end-there h c in
        record {
          start = subst (IsPlace target.code) (sym a) (keeps.place h.start own.start);
          end = subst (IsBoundary target.code) (sym b) (keeps.boundary h.end own.end);
          order = omega (arith, up, a, b);
          entry = subst (IsPlace target.code) (sym (entry-there h c)) (keeps.place h.entry own.entry);
        }
