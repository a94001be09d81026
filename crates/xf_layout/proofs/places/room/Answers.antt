use Rattle.std.proofs.Common.{◌<◌, length, take, arith, sym, subst}
use Rattle.std.proofs.lemmas.List.{take_all, get_or_default}
use Rattle.std.proofs.lemmas.List.Elements.{All-more, All-same}
use Rattle.xf_layout.specs.declared.form.Form.TheVariants.{Fixed}
use Rattle.xf_layout.specs.Places.{IsInRoom}
use Rattle.xf_layout.proofs.Notes.{rooms-more}
use Rattle.xf_layout.proofs.places.room.Goals as goal

pub forms-preserved : goal.forms-preserved
forms-preserved c =
    let xs = c.args.forms.now in
    let k = c.forms.form-index in
    let inside : k < length xs = omega arith in
    All-more (IsInRoom c.room-room.result) xs k (Fixed 0) inside
    (rooms-more c.forms.room c.room-room.result c.room-room.ensures.least (take k xs) c.forms.invariant)
    (subst (IsInRoom c.room-room.result) (get_or_default xs k _ (Fixed 0) inside) c.room-room.ensures.inside)

pub returns : goal.returns
returns c =
    All-same (IsInRoom c.forms.room) c.args.forms.now (take c.forms.form-index c.args.forms.now)
    (sym (take_all c.forms.form-index c.args.forms.now (omega arith))) c.forms.invariant
