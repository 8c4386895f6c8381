use Rattle.std.proofs.Common.{◌≡◌, IsSome, Some, rules, refl}
use Rattle.map_model.specs.Objects.{object_at}
use Rattle.map_model.proofs.ObjectKeeps.{without_object_at-keeps}
use Rattle.command_api.proofs.Links.{link_made}
use Rattle.object_commands.proofs.remove.RemoveObject.new.Goals as goal

pub returns-in-Some-clause-command : goal.returns-in-Some-clause-command
returns-in-Some-clause-command c =
    let m = c.args.document.now.map in
    let found : object_at m c.in-Some.place ≡ Some c.in-Some.field-0-1.now = search rules in
    let there : IsSome (object_at m c.in-Some.place) = rw found refl in
    link_made refl (record { ready = there; before = search rules; after = without_object_at-keeps c.in-Some.place m there (search rules) }) (search rules)
