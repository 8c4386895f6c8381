-- What equal tags say of their subjects.
use Rattle.std.proofs.Common.{◌≡◌, ℕ, List, [], Option, Some, None, refl, ap, sym, ◌∙◌}
use Rattle.map_model.specs.declared.owner.MemberOwner.{MemberOwner}
use Rattle.map_model.specs.declared.owner.MemberOwner.TheVariants as member_owners
use Rattle.map_model.specs.declared.owner.Owner.{Owner}
use Rattle.map_model.specs.declared.owner.Owner.TheVariants as owners
use Rattle.command_api.specs.Tag.{Subject, OfLayer, OfObject, OfName, OfMember, Tag, member_tag, of_tag}

-- an owner, and a name at it
abbrev subject_name : Subject → Owner × List ℕ
subject_name (OfLayer id) = (owners.Map, [])
subject_name (OfObject id) = (owners.Map, [])
subject_name (OfName owner name) = (owner, name)
subject_name (OfMember owner name) = (owners.Map, [])

-- an owner of members, and a name at it, or none
abbrev subject_member : Subject → MemberOwner × Option (List ℕ)
subject_member (OfMember owner name) = (owner, name)
subject_member subject = (member_owners.Map, None)

abbrev tag_subject : Option Tag → Subject
tag_subject None = OfLayer 0
tag_subject (Some t) = t.subject

abbrev some_tag : ℕ → Subject → Option Tag
some_tag kind subject = Some (record { kind = kind; subject = subject })

pub OfObject-same : (kind own id : ℕ) → some_tag kind (OfObject own) ≡ some_tag kind (OfObject id) → own ≡ id
OfObject-same kind own id e = ap of_tag e

pub OfName-same : (kind : ℕ) (own owner : Owner) (name text : List ℕ) → some_tag kind (OfName own name) ≡ some_tag kind (OfName owner text)
    → (own ≡ owner) × (name ≡ text)
OfName-same kind own owner name text e =
    let same = ap (λ t. subject_name (tag_subject t)) e in
    (ap (λ (s : Owner × List ℕ). s.0) same, ap (λ (s : Owner × List ℕ). s.1) same)

tag_is_of : (owner : MemberOwner) (name : Option (List ℕ)) → subject_member (member_tag owner name).subject ≡ (owner, name)
tag_is_of owner None = refl
tag_is_of owner (Some name) = refl

pub member_tag-same : (own owner : MemberOwner) (name text : Option (List ℕ)) → Some (member_tag own name) ≡ Some (member_tag owner text)
    → (own ≡ owner) × (name ≡ text)
member_tag-same own owner name text e =
    let same = sym (tag_is_of own name) ∙ ap (λ t. subject_member (tag_subject t)) e ∙ tag_is_of owner text in
    (ap (λ (s : MemberOwner × Option (List ℕ)). s.0) same, ap (λ (s : MemberOwner × Option (List ℕ)). s.1) same)
