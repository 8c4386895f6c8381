use Rattle.std.proofs.Common.{◌≡◌, Option, Some, None, IsSome, IsSomeAnd, length, ◌≤◌, sym, ◌∙◌}
use Rattle.map_model.specs.declared.parts.Property.{Property}
use Rattle.map_model.specs.Document.{with_map}
use Rattle.map_model.specs.Lens.{put}
use Rattle.map_model.specs.Properties.{properties_of, property_at, with_property_at, without_property_at}
use Rattle.map_model.specs.WellFormed.{IsWellFormed}
use Rattle.command_api.specs.Swap.{FitsBack}
use Rattle.property_commands.specs.PropertyChanges.{property_in}
use Rattle.property_commands.proofs.PropertyPuts.{property_in-get, replaced-there, replaced-room, replaced-is, replaced-well_formed}
use Rattle.property_commands.proofs.link.replace_property.Goals as goal

pub take_property-own-requires : goal.take_property-own-requires
take_property-own-requires c = by_link c.args.property c.requires
  where
    by_link : (o : Option Property) → IsSomeAnd o (λ p. FitsBack (property_in c.args.owner c.args.at) p c.args.document.now)
        → IsSome (property_at c.args.document.now.map c.args.owner c.args.at)
    by_link None h = absurd h
    by_link (Some p) h = replaced-there c.args.owner c.args.at p c.args.document.now h

pub insert_property-requires-clause-place : goal.insert_property-requires-clause-place
insert_property-requires-clause-place c = rw c.take_property-own.ensures.document (by_link c.args.property c.requires)
  where
    by_link : (o : Option Property) → IsSomeAnd o (λ p. FitsBack (property_in c.args.owner c.args.at) p c.args.document.now)
        → IsSomeAnd (properties_of (with_map (without_property_at c.args.owner c.args.at) c.args.document.now).map c.args.owner) (λ ps. c.args.at ≤ length ps)
    by_link None h = absurd h
    by_link (Some p) h = replaced-room c.args.owner c.args.at p c.args.document.now h

pub insert_property-requires-clause-well_formed : goal.insert_property-requires-clause-well_formed
insert_property-requires-clause-well_formed c = rw c.take_property-own.ensures.document (by_link c.args.property c.requires)
  where
    by_link : (o : Option Property) → IsSomeAnd o (λ p. FitsBack (property_in c.args.owner c.args.at) p c.args.document.now)
        → IsSomeAnd o (λ p. IsWellFormed (with_property_at c.args.owner c.args.at p (without_property_at c.args.owner c.args.at c.args.document.now.map)))
    by_link None h = absurd h
    by_link (Some p) h = replaced-well_formed c.args.owner c.args.at p c.args.document.now h

pub returns-clause-own : goal.returns-clause-own
returns-clause-own c = property_in-get c.args.owner c.args.at c.args.document.now ∙ sym c.take_property-own.ensures.property

pub returns-clause-document : goal.returns-clause-document
returns-clause-document c = by_link c.args.property c.requires (rw c.take_property-own.ensures.document at c.insert_property.ensures.document)
  where
    by_link : (o : Option Property) → IsSomeAnd o (λ p. FitsBack (property_in c.args.owner c.args.at) p c.args.document.now)
        → IsSomeAnd o (λ p. c.insert_property.new.self
        ≡ with_map (with_property_at c.args.owner c.args.at p) (with_map (without_property_at c.args.owner c.args.at) c.args.document.now))
        → IsSomeAnd o (λ p. c.insert_property.new.self ≡ put (property_in c.args.owner c.args.at) p c.args.document.now)
    by_link None h e = absurd h
    by_link (Some p) h e = e ∙ replaced-is c.args.owner c.args.at p c.args.document.now h
