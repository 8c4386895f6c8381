use Rattle.std.proofs.Common.{◌≡◌, IsSome, Some, Ok, arith, refl, rules}
use Rattle.map_model.specs.Properties.{property_at}
use Rattle.map_model.specs.WellFormed.{IsWellFormed}
use Rattle.map_model.proofs.PropertyKeeps.{without_property_at-keeps}
use Rattle.edits.specs.PropertyEdits.{owner_or_fault}
use Rattle.command_api.proofs.Links.{link_made}
use Rattle.property_commands.proofs.Removed.{place-below, told-owner}
use Rattle.property_commands.proofs.remove.RemoveProperty.new.Goals as goal

pub returns-in-Some-clause-command : goal.returns-in-Some-clause-command
returns-in-Some-clause-command c =
    let m = c.args.document.now.map in
    let owner = c.in_ok-owner.owner in
    let at = c.in-Some.at in
    let there : IsSome (property_at m owner at) = search rules in
    let well : IsWellFormed m = search rules in
    link_made refl (record { ready = there; before = well; after = without_property_at-keeps owner at m there well }) (search rules)

-- the number of the property fits into 32 bits
pub overflow_cast-result : goal.overflow_cast-result
overflow_cast-result c =
    let m = c.args.document.now.map in
    let there : property_at m c.in_ok-owner.owner c.in-Some.at ≡ Some c.in-Some.field-0-1.now = search rules in
    let well : IsWellFormed m = search rules in
    omega (arith, place-below m c.in_ok-owner.owner c.in-Some.at c.in-Some.field-0-1.now there well)

pub returns-in-Some-clause-owner : goal.returns-in-Some-clause-owner
returns-in-Some-clause-owner c =
    let m = c.args.document.now.map in
    let found : owner_or_fault m c.args.owner ≡ Ok c.in_ok-owner.owner = search rules in
    rw c.object_of-object.ensures (told-owner m c.args.owner c.in_ok-owner.owner found)
