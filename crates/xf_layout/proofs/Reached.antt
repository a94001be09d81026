-- Where labels stand in code that is not too long, and that its short jumps fit.
use Rattle.std.proofs.Common.{◌≡◌, ◌≤◌, ◌+◌, ℕ, zero, suc, Bool, true, false, cond, Some, List, [], ◌∷◌, length, refl, sym, ap}
use Rattle.std.proofs.Common.{◌∙◌, subst, arith, All, ◌<◌, get_or}
use Rattle.std.specs.Prelude.{pos, ◌-ℤ◌, ◌==◌, slice_get, slice_index, IsTrue}
use Rattle.std.proofs.lemmas.List.Elements.{All-nil, All-cons, All-weaker, All-get_or}
use Rattle.std.proofs.lemmas.Option.{slice_get_read}
use Rattle.std.proofs.lemmas.Slice.Zip.{AllZip-long}
use Rattle.jc_decode.specs.declared.symbols.Item.{Item}
use Rattle.jc_decode.specs.declared.symbols.Item.TheVariants.{Plain, Branch, Switch, Label}
use Rattle.jc_decode.specs.declared.symbols.Range.{Range}
use Rattle.jc_decode.specs.Forms.{is_near}
use Rattle.jc_decode.specs.Symbols.{IsItem, IsOnce, IsRange, place_of}
use Rattle.xf_layout.specs.declared.form.Form.{Form}
use Rattle.xf_layout.specs.declared.form.Form.TheVariants.{Fixed, Jump, Mark}
use Rattle.xf_layout.specs.declared.plan.LayoutPlan.{LayoutPlan}
use Rattle.xf_layout.specs.Form.{IsForm, AreForms, form_bytes, begins, length_of_forms, label_place}
use Rattle.xf_layout.specs.Plan.{IsLayoutPlan}
use Rattle.xf_layout.specs.Laid.{AreInReach, IsNearFrom, IsPlacedRange, ItemsStand, labels_of}
use Rattle.xf_layout.proofs.Notes.{jump-once}
use Rattle.xf_layout.proofs.Stood.{label-instruction, instruction-rises}

label-end : (fs : List Form) (l : ℕ) → label_place fs l ≤ length_of_forms fs
label-end [] l = omega arith
label-end (Fixed n ∷ fs) l = omega (arith, label-end fs l)
label-end (Jump m w ∷ fs) l = omega (arith, label-end fs l)
label-end (Mark m ∷ fs) l = by_test (m == l) (label-end fs l)
  where
    by_test : (b : Bool) → label_place fs l ≤ length_of_forms fs → cond b 0 (label_place fs l) ≤ form_bytes (Mark m) + length_of_forms fs
    by_test true h = omega arith
    by_test false h = omega (arith, h)

pub begins-end : (fs : List Form) (k : ℕ) → begins fs k ≤ length_of_forms fs
begins-end [] k = omega arith
begins-end (f ∷ fs) zero = omega arith
begins-end (f ∷ fs) (suc k) = omega (arith, begins-end fs k)

pub begins-start : (fs : List Form) → begins fs 0 ≡ 0
begins-start [] = refl
begins-start (f ∷ fs) = refl

begins-suc : (fs : List Form) (k : ℕ) (f : Form) → slice_get fs k ≡ Some f → begins fs (suc k) ≡ begins fs k + form_bytes f
begins-suc [] k f e = absurd (cc)
begins-suc (x ∷ fs) zero f e = let a : x ≡ f = cc in omega (arith, begins-start fs, ap form_bytes a)
begins-suc (x ∷ fs) (suc k) f e = omega (arith, begins-suc fs k f e)

pub begins-more : (fs : List Form) (k : ℕ) (f : Form) → slice_get fs k ≡ Some f → begins fs (k + 1) ≡ begins fs k + form_bytes f
begins-more fs k f h = let e : k + 1 ≡ suc k = omega arith in ap (begins fs) e ∙ begins-suc fs k f h

pub form-of : (items : List Item) (fs : List Form) → AreForms items fs → (k : ℕ) (i : Item) (f : Form) → slice_get items k ≡ Some i
    → slice_get fs k ≡ Some f
    → IsForm i f
form-of [] fs h k i f e g = absurd (cc)
form-of (x ∷ is) [] h k i f e g = absurd h
form-of (x ∷ is) (y ∷ fs) h zero i f e g = grind (arith)
form-of (x ∷ is) (y ∷ fs) h (suc k) i f e g = form-of is fs h.1 k i f e g

pub form-few : (fs : List Form) (k : ℕ) (f : Form) → slice_get fs k ≡ Some f → form_bytes f ≤ length_of_forms fs
form-few [] k f e = absurd (cc)
form-few (x ∷ fs) zero f e = let a : x ≡ f = cc in omega (arith, ap form_bytes a)
form-few (x ∷ fs) (suc k) f e = omega (arith, form-few fs k f e)

once-reached : (items : List Item) (p : LayoutPlan) → IsLayoutPlan items p → p.end ≤ 32767 → (l : ℕ) → IsOnce items l
    → slice_index p.places l ≤ 32767
once-reached items p plan few l once = omega (arith, plan.places l once, label-end p.forms.items l, plan.end, few)

pub item-reached : (source : List ℕ) (items : List Item) (p : LayoutPlan) → IsLayoutPlan items p → p.end ≤ 32767 → (i : Item)
    → IsItem source items i
    → AreInReach p.places (labels_of i)
item-reached source items p plan few (Plain i) item = All-nil (λ l. slice_index p.places l ≤ 32767)
item-reached source items p plan few (Branch op l) item =
    All-cons (λ l. slice_index p.places l ≤ 32767) l [] (once-reached items p plan few l item.1) (All-nil (λ l. slice_index p.places l ≤ 32767))
item-reached source items p plan few (Switch i at labels) item =
    All-weaker (IsOnce items) (λ l. slice_index p.places l ≤ 32767) (once-reached items p plan few) labels item.3
item-reached source items p plan few (Label l) item = All-nil (λ l. slice_index p.places l ≤ 32767)

pub form-near : (source : List ℕ) (items : List Item) (p : LayoutPlan) → IsLayoutPlan items p → p.end ≤ 32767 → All (IsItem source items) items
    → (k : ℕ) (f : Form) → slice_get p.forms.items k ≡ Some f → IsNearFrom (slice_index p.places) (begins p.forms.items k) f
form-near source items p plan few ok k (Fixed n) e = tt
form-near source items p plan few ok k (Mark l) e = tt
form-near source items p plan few ok k (Jump l true) e = tt
form-near source items p plan few ok k (Jump l false) e =
    let once = jump-once source items items p.forms.items ok plan.forms k l false e in
    subst (λ (n : ℕ). IsTrue (is_near (pos n -ℤ pos (begins p.forms.items k)))) (sym (plan.places l once)) (plan.fit few k l e)

pub range-placed : (items : List Item) (p : LayoutPlan) → IsLayoutPlan items p → p.end ≤ 32767 → (r : Range) → IsRange items r
    → IsPlacedRange p.places r
range-placed items p plan few r range = record {
  to = once-reached items p plan few r.to range.to;
  entry = once-reached items p plan few r.entry range.entry;
  order = omega (
    arith,
    plan.places r.from range.from,
    plan.places r.to range.to,
    label-instruction items p.forms.items plan.forms r.from,
    label-instruction items p.forms.items plan.forms r.to,
    instruction-rises p.forms.items (place_of r.from items) (place_of r.to items) range.order,
  );
}

-- the items reach to the end of the code
pub items-end : (source : List ℕ) (place : ℕ → ℕ) (code : List ℕ) (here : ℕ) (items : List Item) (fs : List Form)
    → ItemsStand source place code here items fs
    → here + length_of_forms fs ≡ length code
items-end source place code here [] [] h = omega (arith, h)
items-end source place code here (i ∷ is) (f ∷ fs) h = let e = items-end source place code (here + form_bytes f) is fs h.1 in omega (arith, e)
items-end source place code here [] (f ∷ fs) h = absurd h
items-end source place code here (i ∷ is) [] h = absurd h

-- the k-th item and its form
pub record Reads (source : List ℕ) (items : List Item) (fs : List Form) (k : ℕ) (i : Item) (f : Form) : Type 0 where
  pub item : slice_get items k ≡ Some i
  pub form : slice_get fs k ≡ Some f
  pub is : IsItem source items i

pub reads-at : (source : List ℕ) (items : List Item) (fs : List Form) (k : ℕ) (i : Item) (f : Form) → AreForms items fs
    → All (IsItem source items) items → k < length items → i ≡ get_or items k i → f ≡ get_or fs k f → Reads source items fs k i f
reads-at source items fs k i f forms ok inside item form =
    let long = AllZip-long IsForm items fs forms in
    record {
      item = slice_get_read items (length items) k i refl inside item;
      form = slice_get_read fs (length fs) k f refl (omega (arith, long, inside)) form;
      is = subst (IsItem source items) (sym item) (All-get_or (IsItem source items) items k i inside ok);
    }
