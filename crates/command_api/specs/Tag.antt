-- What a command changes: the kind of the change, and the thing that it changes.
use Rattle.std.specs.Prelude.{ℕ, ℤ, pos, negsuc, List, Option, Some, None}
use Rattle.map_model.specs.declared.owner.MemberOwner.{MemberOwner}
use Rattle.map_model.specs.declared.owner.Owner.{Owner}
use Rattle.command_api.specs.declared.ids.TheConstants.{MEMBER_ID, MEMBERS_ID}

-- a layer or an object, by its id; the property with a name at an owner; or an owner's own member with a name, or its own members
pub data Subject : Type 0 where
  OfLayer : ℕ → Subject
  OfObject : ℕ → Subject
  OfName : Owner → List ℕ → Subject
  OfMember : MemberOwner → Option (List ℕ) → Subject

-- a kind of change, by its id, and its subject
pub record Tag : Type 0 where
  pub kind : ℕ
  pub subject : Subject

-- the id of the layer or object that a subject is, and 0 where it is neither
abbrev pub of_subject : Subject → ℕ
of_subject (OfLayer id) = id
of_subject (OfObject id) = id
of_subject (OfName owner name) = 0
of_subject (OfMember owner name) = 0

-- that of a tag's subject, and 0 where there is no tag
abbrev pub of_tag : Option Tag → ℕ
of_tag None = 0
of_tag (Some t) = of_subject t.subject

-- the id of a tag, and -1 where there is none
abbrev pub id_of : Option Tag → ℤ
id_of None = negsuc 0
id_of (Some t) = pos t.kind

-- the tag of a change of an owner's own member with a name, or of several at once
abbrev pub member_tag : MemberOwner → Option (List ℕ) → Tag
member_tag owner None = record { kind = MEMBERS_ID; subject = OfMember owner None }
member_tag owner (Some name) = record { kind = MEMBER_ID; subject = OfMember owner (Some name) }
