use Rattle.std.proofs.Common.{◌≡◌}
use Rattle.command_api.specs.Law.{Change}
use denote.Param.Object.{read_made}
use Rattle.library_tests.specs.Fading.{fading}
use Rattle.library_tests.proofs.free.boxed_fading.Hides.{same-1-1}
use Rattle.library_tests.proofs.free.boxed_fading.Goals as goal

pub returns : goal.returns
returns g c d =
    let made = c.into_dyn_box.ensures.1 in
    let boxed = c.into_dyn_box.result in
    let same = same-1-1 g.dyn-1.0 g.dyn-1-has in
    let is : (g.dyn-1.0.entry boxed.vtable).1.change boxed.value ≡ fading c.in_ok-ok.field-0.value.turns_left =
    read_made g.dyn-1.0 _ _ same Change (λ j x. j.1.change x) boxed.vtable boxed.value c.in_ok-ok.field-0.value made in
    rw is (record { fits = tt })
