use Rattle.std.proofs.Common.{◌≡◌, ◌∙◌, List, ℕ, length, map, arith, sym, ap, subst}
use Rattle.std.specs.Prelude.{slice_index, count_by}
use Rattle.xf_layout.specs.declared.form.Form.{Form}
use Rattle.xf_layout.specs.Form.{AreForms, length_of_forms, label_place}
use Rattle.xf_layout.specs.Shortest.{Fit, NoWider}
use Rattle.xf_layout.specs.Places.{FormsFit}
use Rattle.xf_layout.specs.Settling.{Settles}
use Rattle.xf_layout.specs.Widening.{is_short_jump, shortest, widened}
use Rattle.xf_layout.proofs.Sizes.{forms-no-longer}
use Rattle.xf_layout.proofs.Notes.{rooms-widened}
use Rattle.xf_layout.proofs.Turns.{forms-widened, widened-least, same-widened, fit-same}
use Rattle.xf_layout.proofs.Least.{forms-shortest, shortest-least, places-after, jumps-after}
use Rattle.xf_layout.proofs.plan.LayoutPlan.of.Goals as goal

pub turns-init : goal.turns-init
turns-init c =
    let items = c.args.items.now in
    let are : c.in_ok-forms.forms.items ≡ map shortest items = c.in_ok-forms.ensures in
    let forms = subst (AreForms items) (sym are) (forms-shortest items) in
    let settled : Settles items c.in_ok-forms.forms.items c.settle.new.forms.items = c.in_ok-settle.ensures in
    record {
      forms = settled.forms forms;
      least = λ others p q. settled.least forms others p q
          (subst (λ (fs : List Form). NoWider fs others) (sym are) (shortest-least items others));
      room = subst (FormsFit (length c.in_ok-places.places)) c.deref.ensures.value c.in_ok-places.ensures;
    }

pub note-end-requires-clause-end : goal.note-end-requires-clause-end
note-end-requires-clause-end c =
    let shorter = c.short_is_no_longer.ensures in
    let few = forms-no-longer shorter c.args.items.now c.turns.forms.items c.turns.invariant.forms in
    omega (arith, few, c.requires.size, ap length_of_forms c.deref-in-turns.ensures.value)

pub returns-then-end-gt-LONGEST_CODE : goal.returns-then-end-gt-LONGEST_CODE
returns-then-end-gt-LONGEST_CODE c =
    let old = c.turns.invariant in
    let same = c.deref-in-turns.ensures.value in
    record {
      forms = old.forms;
      least = old.least;
      end = c.note-end.ensures.end ∙ ap length_of_forms same;
      fit = λ few. absurd (omega (arith, few, c.if-end-gt-LONGEST_CODE.true));
      places = places-after c.args.items.now c.turns.forms.items _ c.turns.places c.note-end.new.self c.note-end.ensures.places same old.forms old.room;
    }

pub returns-then-widen-eq0 : goal.returns-then-widen-eq0
returns-then-widen-eq0 c =
    let items = c.args.items.now in
    let fs = c.turns.forms.items in
    let old = c.turns.invariant in
    let value = c.deref-in-turns.ensures.value in
    let place = slice_index c.note-end.new.self in
    let noted_so = c.note-end.ensures.places in
    let new : c.widen.new.forms.items ≡ widened place 0 fs = c.widen.ensures.forms in
    let count : count_by is_short_jump (widened place 0 fs) ≡ count_by is_short_jump fs =
    ap (count_by is_short_jump) (sym new) ∙ omega (arith, c.widen.ensures.risen, c.if-widen-eq0.true) in
    let still : widened place 0 fs ≡ fs = same-widened place 0 fs count in
    let same : c.widen.new.forms.items ≡ fs = new ∙ still in
    let jumps = jumps-after c.requires.items.0 items fs _ c.turns.places c.note-end.new.self noted_so value c.requires.items.1 old.forms old.room in
    record {
      forms = subst (AreForms items) (sym same) old.forms;
      least = λ others p q. subst (λ (gs : List Form). NoWider gs others) (sym same) (old.least others p q);
      end = c.note-end.ensures.end ∙ ap length_of_forms value ∙ ap length_of_forms (sym same);
      fit = λ few. subst Fit (sym same) (fit-same place fs jumps still);
      places = λ l once.
          places-after items fs _ c.turns.places c.note-end.new.self noted_so value old.forms old.room l once
          ∙ ap (λ (gs : List Form). label_place gs l) (sym same);
    }

pub turns-preserved : goal.turns-preserved
turns-preserved c =
    let items = c.args.items.now in
    let fs = c.turns.forms.items in
    let old = c.turns.invariant in
    let place = slice_index c.note-end.new.self in
    let size = length c.note-end.new.self in
    let new : c.widen.new.forms.items ≡ widened place 0 fs = c.widen.ensures.forms in
    let room = subst (λ (n : ℕ). FormsFit n fs) (sym c.note-end.ensures.room) old.room in
    let jumps = jumps-after c.requires.items.0 items fs _ c.turns.places c.note-end.new.self c.note-end.ensures.places
    c.deref-in-turns.ensures.value c.requires.items.1 old.forms old.room in
    record {
      forms = subst (AreForms items) (sym new) (forms-widened place 0 items fs old.forms);
      least = λ others p q. subst (λ (gs : List Form). NoWider gs others) (sym new)
          (widened-least place items fs others jumps old.forms p q (old.least others p q));
      room = subst (FormsFit size) (sym new) (rooms-widened size place 0 fs room);
    }
