-- one more field, and all of them
use Rattle.std.proofs.Common.{◌≤◌, length, subst, arith}
use Rattle.std.proofs.lemmas.List.{take_all}
use Rattle.cap_text.specs.Ending.{static_lines}
use Rattle.cap_text.specs.Room.{Writes}
use Rattle.vm_text.proofs.Told.{one_field, taken}
use Rattle.vm_text.proofs.writing.write_statics.Goals as goal

pub fields-preserved : goal.fields-preserved
fields-preserved g c =
    let xs = (g.L.Leaves.left c.args.world.now c.args.left.now).statics in
    let before = c.fields.invariant.few in
    let more = c.write_static.ensures.few in
    let below = c.fields-test.true in
    let all = c.static_count-n-end.ensures.all in
    let long = taken xs c.fields.n (omega (arith, below, all)) in
    record {
      writes =
          one_field c.args.room.now c.fields.room c.write_static.new.room xs c.fields.n c.static_value.result long c.static_value.ensures
          c.fields.invariant.writes c.write_static.ensures.writes;
      few = omega (arith, before, more);
    }

pub returns : goal.returns
returns g c =
    let xs = (g.L.Leaves.left c.args.world.now c.args.left.now).statics in
    let past = c.fields-test.false in
    let all = c.static_count-n-end.ensures.all in
    let whole : length xs ≤ c.fields.n = omega (arith, past, all) in
    subst (λ ys. Writes c.args.room.now c.fields.room (static_lines 0 ys)) (take_all c.fields.n xs whole) c.fields.invariant.writes
