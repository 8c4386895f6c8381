use Rattle.std.proofs.Common.{rules, ◌≡◌, Some, IsSome, refl, ap, subst, Ok}
use Rattle.map_model.specs.Document.{DocumentParts}
use Rattle.map_model.specs.Layers.{layer_place}
use Rattle.map_model.specs.WellFormed.{IsWellFormed}
use Rattle.map_model.proofs.Keeps.{remove-keeps}
use Rattle.command_api.proofs.Links.{link_made}
use Rattle.map_model.proofs.Places.{layer_place-there}
use Rattle.layer_commands.proofs.SiblingSlots.{slot-item, slot-without}
use Rattle.layer_commands.proofs.remove.RemoveLayer.new.Goals as goal

pub returns-in-Some-clause-command : goal.returns-in-Some-clause-command
returns-in-Some-clause-command c =
    let d = c.args.document.now in
    let place = c.in-Some.place in
    let well : IsWellFormed d.map = search rules in
    let e : layer_place d.map c.args.layer ≡ Some place = search rules in
    let there = layer_place-there d.map c.args.layer place e well in
    link_made refl (record {
      ready = subst IsSome (slot-item place d) there;
      before = well;
      after = subst (λ (x : DocumentParts). IsWellFormed x.map) (slot-without place d) (remove-keeps d.map place there well);
    }) (rw e (ap Ok (slot-without place d)))
