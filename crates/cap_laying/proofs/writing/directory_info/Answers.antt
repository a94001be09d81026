use Rattle.std.proofs.Common.{◌≡◌, length, sym, ap, subst, ◌∙◌, arith, rules}
use Rattle.cap_bytes.specs.declared.view.View.{View}
use Rattle.cap_bytes.specs.Spelling.{Stands}
use Rattle.cap_frame.specs.Directory.{directory_items}
use Rattle.cap_frame.specs.DirectoryFormat.{directory_info}
use Rattle.cap_bytes.specs.Bytes.{AreBytes}
use Rattle.cap_laying.specs.DirectoryBytes.{directory_bytes}
use Rattle.cap_laying.specs.NewDirectory.{new_directory}
use Rattle.cap_laying.proofs.DirectoryLaws.{directories_stand}
use Rattle.cap_laying.proofs.ReadDirectory.{read_may_stand}
use Rattle.cap_laying.proofs.NewStands.{IsFit, customs_short, few_customs, new_long, new_may_stand, own_small}
use Rattle.cap_laying.proofs.writing.directory_info.Goals as goal

pub put_directory-requires-clause-counted : goal.put_directory-requires-clause-counted
put_directory-requires-clause-counted c =
    let d = directory_items c.args.directory.now in
    let are : AreBytes c.args.directory.now.info.bytes.now = subst (λ (v : View). AreBytes v.bytes.now) c.info.ensures c.are_bytes.ensures in
    let m = read_may_stand c.args.format c.args.directory.now.info.bytes.now d are c.requires in
    m.counted ∙ sym c.size_count.ensures

pub put_directory-requires-clause-few : goal.put_directory-requires-clause-few
put_directory-requires-clause-few c =
    let d = directory_items c.args.directory.now in
    first_of (search rules, omega arith)

pub put_directory-requires-clause-short : goal.put_directory-requires-clause-short
put_directory-requires-clause-short c =
    let d = directory_items c.args.directory.now in
    let are : AreBytes c.args.directory.now.info.bytes.now = subst (λ (v : View). AreBytes v.bytes.now) c.info.ensures c.are_bytes.ensures in
    let m = read_may_stand c.args.format c.args.directory.now.info.bytes.now d are c.requires in
    customs_short _ d.customs m.customs

pub put_directory-requires-clause-room : goal.put_directory-requires-clause-room
put_directory-requires-clause-room c =
    let d = directory_items c.args.directory.now in
    let are : AreBytes c.args.directory.now.info.bytes.now = subst (λ (v : View). AreBytes v.bytes.now) c.info.ensures c.are_bytes.ensures in
    let m = read_may_stand c.args.format c.args.directory.now.info.bytes.now d are c.requires in
    omega (arith, few_customs d.customs m.customs)

pub returns-clause-stands : goal.returns-clause-stands
returns-clause-stands c =
    let d = directory_items c.args.directory.now in
    let are : AreBytes c.args.directory.now.info.bytes.now = subst (λ (v : View). AreBytes v.bytes.now) c.info.ensures c.are_bytes.ensures in
    let m = read_may_stand c.args.format c.args.directory.now.info.bytes.now d are c.requires in
    let fit : IsFit c.args.new.index = search rules in
    let n = new_may_stand c.args.format c.args.new d m (search rules) (search rules) fit in
    let e : c.put_directory.new.out.items ≡ directory_bytes (new_directory c.args.new d) = search rules in
    subst (λ bytes. Stands (directory_info c.args.format) bytes (new_directory c.args.new d)) (sym e)
    (directories_stand c.args.format (new_directory c.args.new d) n)

pub returns-clause-size : goal.returns-clause-size
returns-clause-size c =
    let e : c.put_directory.new.out.items ≡ directory_bytes (new_directory c.args.new (directory_items c.args.directory.now)) = search rules in
    ap length e ∙ new_long c.args.new (directory_items c.args.directory.now)

pub returns-clause-short : goal.returns-clause-short
returns-clause-short c =
    let d = directory_items c.args.directory.now in
    let are : AreBytes c.args.directory.now.info.bytes.now = subst (λ (v : View). AreBytes v.bytes.now) c.info.ensures c.are_bytes.ensures in
    let m = read_may_stand c.args.format c.args.directory.now.info.bytes.now d are c.requires in
    let e : c.put_directory.new.out.items ≡ directory_bytes (new_directory c.args.new d) = search rules in
    omega (arith, ap length e, new_long c.args.new d, own_small c.args.format c.args.new d m)
