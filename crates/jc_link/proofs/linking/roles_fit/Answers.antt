use Rattle.std.proofs.Common.{◌≡◌, arith, rules}
use Rattle.first_fault.specs.Least.{least_of, refused}
use Rattle.jc_resolve.specs.Fault.{link_place}
use Rattle.jc_link.specs.Roles.{role_fault, thrown_roles}
use Rattle.jc_link.proofs.RoleLaws.{roles_told}
use Rattle.jc_link.proofs.linking.roles_fit.Goals as goal

pub returns-clause-tells : goal.returns-clause-tells
returns-clause-tells c =
    let is : c.refuse.result ≡ refused (least_of link_place (role_fault c.args.classes.now c.args.methods.now) thrown_roles) = first_of
    (search rules, grind arith) in
    roles_told c.args.classes.now c.args.methods.now c.refuse.result (c.concrete_decides.ensures c.args.classes.now c.args.methods.now) is
