use Rattle.std.proofs.Common.{◌≡◌, Some, None, position, slice_get, sym, ◌∙◌, ap}
use Rattle.xf_homes.specs.declared.home.Home.{Home}
use Rattle.xf_homes.specs.Walk.{same_home, register_from}
use Rattle.xf_homes.proofs.Keys.{register-at, register-none}
use Rattle.xf_homes.proofs.found.Homes.register.Goals as goal

pub returns-in-Some : goal.returns-in-Some
returns-in-Some c =
    let home : Home = record { slot = c.args.slot; ty = c.args.ty } in
    let at : Some c.in-Some.number ≡ position (λ k. same_home k home) c.self.inside.homes.keys = sym c.in-Some.is ∙ c.get_index_of.ensures.index in
    c.register_at.ensures
    ∙ ap (λ rs. slice_get rs c.in-Some.number) (c.as_slice.ensures.value ∙ c.self.invariant.begins)
    ∙ register-at c.self.inside.homes.keys home c.in-Some.number at
    ∙ ap (λ hs. register_from 0 hs home) c.self.view_is

pub returns-in-None : goal.returns-in-None
returns-in-None c =
    let home : Home = record { slot = c.args.slot; ty = c.args.ty } in
    let at : None ≡ position (λ k. same_home k home) c.self.inside.homes.keys = sym c.in-None.is ∙ c.get_index_of.ensures.index in
    register-none c.self.inside.homes.keys home at ∙ ap (λ hs. register_from 0 hs home) c.self.view_is
