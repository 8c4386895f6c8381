use Rattle.std.proofs.Common.{◌≡◌, rules, refl, sym, ap, ◌∙◌}
use Rattle.map_model.specs.declared.owner.MemberOwner.TheVariants as owners
use Rattle.undo_stack.specs.History.{current}
use Rattle.document_lines.proofs.planning.member_plans.on_members.Goals as goal

pub returns-in-SetMember-Object-default-default-default-clause-plans : goal.returns-in-SetMember-Object-default-default-default-clause-plans
returns-in-SetMember-Object-default-default-default-clause-plans g c =
    let line = c.in-SetMember-Object-default-default-default in
    let is = c.document.ensures ∙ ap current c.seek_object.ensures.same in
    let owner : line.owner ≡ owners.Object line.object = search rules in
    rw (line.is, owner, sym is) (c.plan_set.ensures, c.seek_object.ensures.same)

pub returns-in-PutMembers-Object-default-default-clause-plans : goal.returns-in-PutMembers-Object-default-default-clause-plans
returns-in-PutMembers-Object-default-default-clause-plans g c =
    let line = c.in-PutMembers-Object-default-default in
    let is = c.document-in-PutMembers-Object-default-default.ensures ∙ ap current c.seek_object-in-PutMembers-Object-default-default.ensures.same in
    let owner : line.owner ≡ owners.Object line.object = search rules in
    rw (line.is, owner, sym is) (c.plan_put.ensures, c.seek_object-in-PutMembers-Object-default-default.ensures.same)

pub returns-in-RemoveMember-Object-default-clause-plans : goal.returns-in-RemoveMember-Object-default-clause-plans
returns-in-RemoveMember-Object-default-clause-plans g c =
    let line = c.in-RemoveMember-Object-default in
    let is = c.document-in-RemoveMember-Object-default.ensures ∙ ap current c.seek_object-in-RemoveMember-Object-default.ensures.same in
    let owner : line.owner ≡ owners.Object line.object = search rules in
    rw (line.is, owner, sym is) (c.plan_remove.ensures, c.seek_object-in-RemoveMember-Object-default.ensures.same)

pub returns-in-SetMember-Layer-default-default-default-clause-plans : goal.returns-in-SetMember-Layer-default-default-default-clause-plans
returns-in-SetMember-Layer-default-default-default-clause-plans g c =
    let line = c.in-SetMember-Layer-default-default-default in
    let owner : line.owner ≡ owners.Layer line.layer = search rules in
    rw (line.is, owner, sym c.document-in-SetMember-Layer-default-default-default.ensures) (c.plan_set-in-SetMember-Layer-default-default-default.ensures, refl)

pub returns-in-PutMembers-Layer-default-default-clause-plans : goal.returns-in-PutMembers-Layer-default-default-clause-plans
returns-in-PutMembers-Layer-default-default-clause-plans g c =
    let line = c.in-PutMembers-Layer-default-default in
    let owner : line.owner ≡ owners.Layer line.layer = search rules in
    rw (line.is, owner, sym c.document-in-PutMembers-Layer-default-default.ensures) (c.plan_put-in-PutMembers-Layer-default-default.ensures, refl)

pub returns-in-RemoveMember-Layer-default-clause-plans : goal.returns-in-RemoveMember-Layer-default-clause-plans
returns-in-RemoveMember-Layer-default-clause-plans g c =
    let line = c.in-RemoveMember-Layer-default in
    let owner : line.owner ≡ owners.Layer line.layer = search rules in
    rw (line.is, owner, sym c.document-in-RemoveMember-Layer-default.ensures) (c.plan_remove-in-RemoveMember-Layer-default.ensures, refl)

pub returns-in-SetMember-Map-default-default-default-clause-plans : goal.returns-in-SetMember-Map-default-default-default-clause-plans
returns-in-SetMember-Map-default-default-default-clause-plans g c =
    let line = c.in-SetMember-Map-default-default-default in
    let owner : line.owner ≡ owners.Map = search rules in
    rw (line.is, owner, sym c.document-in-SetMember-Map-default-default-default.ensures) (c.plan_set-in-SetMember-Map-default-default-default.ensures, refl)

pub returns-in-PutMembers-Map-default-default-clause-plans : goal.returns-in-PutMembers-Map-default-default-clause-plans
returns-in-PutMembers-Map-default-default-clause-plans g c =
    let line = c.in-PutMembers-Map-default-default in
    let owner : line.owner ≡ owners.Map = search rules in
    rw (line.is, owner, sym c.document-in-PutMembers-Map-default-default.ensures) (c.plan_put-in-PutMembers-Map-default-default.ensures, refl)

pub returns-in-RemoveMember-Map-default-clause-plans : goal.returns-in-RemoveMember-Map-default-clause-plans
returns-in-RemoveMember-Map-default-clause-plans g c =
    let line = c.in-RemoveMember-Map-default in
    let owner : line.owner ≡ owners.Map = search rules in
    rw (line.is, owner, sym c.document-in-RemoveMember-Map-default.ensures) (c.plan_remove-in-RemoveMember-Map-default.ensures, refl)

pub returns-in-SetMember-Tileset-default-default-default-clause-plans : goal.returns-in-SetMember-Tileset-default-default-default-clause-plans
returns-in-SetMember-Tileset-default-default-default-clause-plans g c =
    let line = c.in-SetMember-Tileset-default-default-default in
    let owner : line.owner ≡ owners.Tileset line.first_id = search rules in
    rw (line.is, owner, sym c.document-in-SetMember-Tileset-default-default-default.ensures) (c.plan_set_tileset.ensures, refl)

pub returns-in-PutMembers-Tileset-default-default-clause-plans : goal.returns-in-PutMembers-Tileset-default-default-clause-plans
returns-in-PutMembers-Tileset-default-default-clause-plans g c =
    let line = c.in-PutMembers-Tileset-default-default in
    let owner : line.owner ≡ owners.Tileset line.first_id = search rules in
    rw (line.is, owner, sym c.document-in-PutMembers-Tileset-default-default.ensures) (c.plan_put-in-PutMembers-Tileset-default-default.ensures, refl)

pub returns-in-RemoveMember-Tileset-default-clause-plans : goal.returns-in-RemoveMember-Tileset-default-clause-plans
returns-in-RemoveMember-Tileset-default-clause-plans g c =
    let line = c.in-RemoveMember-Tileset-default in
    let owner : line.owner ≡ owners.Tileset line.first_id = search rules in
    rw (line.is, owner, sym c.document-in-RemoveMember-Tileset-default.ensures) (c.plan_remove-in-RemoveMember-Tileset-default.ensures, refl)
