-- What an edit of own members shows, and that one takes a newer one in.
use Rattle.std.proofs.Common.{◌≡◌, ℕ, List, Bool, true, false, Option, Some, None, IsSome, refl, sym, ap, ◌∙◌, subst}
use Rattle.std.specs.Prelude.{◌↔◌, IsTrue}
use Rattle.serde_json.specs.Data.{Data}
use Rattle.map_model.specs.declared.owner.MemberOwner.TheVariants as owners
use Rattle.map_model.specs.Heads.{tileset_value}
use Rattle.map_model.proofs.ValueLaws.{tileset_value-laws}
use Rattle.map_model.specs.declared.owner.MemberOwner.{MemberOwner}
use Rattle.map_model.specs.Document.{DocumentParts}
use Rattle.map_model.specs.Lens.{put}
use Rattle.map_model.proofs.LensLaws.{some-eq}
use Rattle.command_api.specs.Exchange.{change_of}
use Rattle.command_api.specs.Law.{Change}
use Rattle.command_api.specs.Heads.{ShownHead, TilesetsValue, head_owner, head_undone}
use Rattle.command_api.specs.Offers.{AsksMerge, IsMerged, IsOfferOf, Member, Takes}
use Rattle.command_api.specs.Swap.{IsCovered, swap_held}
use Rattle.command_api.specs.Tag.{Tag, member_tag}
use Rattle.command_api.proofs.Offering.{follower-offered, nothing-offered}
use Rattle.command_api.proofs.Swaps.{held_merged, put-covered}
use Rattle.command_api.proofs.Tags.{member_tag-same}
use Rattle.member_commands.specs.declared.set_head.MemberEdit.{MemberEdit}
use Rattle.member_commands.specs.declared.set_head.MemberEdit.TheVariants.{Set, Put, Remove}
use Rattle.member_commands.specs.declared.set_head.SetHead.{SetHead}
use Rattle.member_commands.specs.declared.set_value.SetValue.{SetValue}
use Rattle.member_commands.specs.Changes.{edit_shown, member_names, set_head_change, set_head_shown, set_value_change, set_value_shown, value_shown}
use Rattle.member_commands.specs.Names.{set_member_names}
use Rattle.member_commands.specs.Heads.{HeadParts, AreHeadParts}
use Rattle.member_commands.proofs.Members.{member-WhenEqual}

-- ---- offers
module _ {H : Type 0} (p : HeadParts H) (laws : AreHeadParts p) (id : ℕ) (same made : Bool) where
  -- one that shows a name, or none, with the head that is held
  follower : (e : MemberEdit) (name : Option (List ℕ)) (h : H) → (member_names e (p.owner id) true).follows ≡ true
      → (member_names e (p.owner id) true).tag ≡ Some (member_tag (p.owner id) name)
      → IsOfferOf (change_of (swap_held (member_names e (p.owner id) true) (p.lens id) same made (Some h))) (Member name (p.shown id h))
  follower e name h follows tag =
      follower-offered _ (Member name (p.shown id h)) follows (ap (λ o. Some (member_tag o name)) (laws.owned id h) ∙ sym tag) (λ q. cc)
      (λ d f. (laws.fits id name h d f.1.fits, laws.undone id name h d))

  offered_by : (e : MemberEdit) (follows : Bool) (held : Option H) → IsSome held
      → IsOfferOf (change_of (swap_held (member_names e (p.owner id) follows) (p.lens id) same made held)) (edit_shown p e follows id held)
  offered_by e follows None some = absurd cc
  offered_by (Set name) false (Some h) some = nothing-offered _ refl
  offered_by (Set name) true (Some h) some = follower (Set name) (Some name) h refl refl
  offered_by Put false (Some h) some = nothing-offered _ refl
  offered_by Put true (Some h) some = follower Put None h refl refl
  offered_by Remove follows (Some h) some = nothing-offered _ refl

pub member-offered : {H : Type 0} (p : HeadParts H) → AreHeadParts p → (c : SetHead H) → IsSome c.head → IsOfferOf (set_head_change p c) (set_head_shown p c)
member-offered p laws c some = offered_by p laws c.id c.is_same c.is_made c.edit c.follows c.head some

-- ---- merges
tag-owner : (e : MemberEdit) (own owner : MemberOwner) (follows : Bool) (name : Option (List ℕ))
    → (member_names e own follows).tag ≡ Some (member_tag owner name) → own ≡ owner
tag-owner (Set n) own owner follows name e = (member_tag-same own owner (Some n) name e).0
tag-owner Put own owner follows name e = (member_tag-same own owner None name e).0
tag-owner Remove own owner follows name e = cc

module _ {H : Type 0} (p : HeadParts H) (laws : AreHeadParts p) (id : ℕ) (e : MemberEdit) (follows same told made : Bool) where
  -- the head from before both is held, and a test has told whether the owner has it
  pub merged_by : (held : Option H) (name : Option (List ℕ)) (s : ShownHead) (d : DocumentParts)
      → (member_names e (p.owner id) follows).tag ≡ Some (member_tag (head_owner s) name)
      → AsksMerge (change_of (swap_held (member_names e (p.owner id) follows) (p.lens id) same made held)) (Member name s) d → IsSome held
      → (told ≡ true → (p.lens id).get d ≡ held) → ((p.lens id).get d ≡ held → told ≡ true)
      → IsMerged (change_of (swap_held (member_names e (p.owner id) follows) (p.lens id) same made held))
      (change_of (swap_held (member_names e (p.owner id) follows) (p.lens id) told made held)) (Member name s) d
  merged_by None name s d tag asked some is leads = absurd cc
  merged_by (Some h) name s d tag asked some is leads =
      by_own (laws.covered id name s h d (sym (tag-owner e (p.owner id) (head_owner s) follows name tag)) asked.0) ((p.lens id).get d) refl
    where
      by_own : IsCovered (p.lens id) h (head_undone name s d) d → (o : Option H) → (p.lens id).get d ≡ o
          → IsMerged (change_of (swap_held (member_names e (p.owner id) follows) (p.lens id) same made (Some h)))
          (change_of (swap_held (member_names e (p.owner id) follows) (p.lens id) told made (Some h))) (Member name s) d
      by_own covered None q = let there = rw q at covered.there in cc
      by_own covered (Some own) q =
          held_merged made (laws.lawful id) (member-WhenEqual e (p.owner id) follows) own q (λ b. some-eq own h (sym q ∙ is b)) (λ g. leads (q ∙ ap Some g))
          covered asked.1

-- ---- a tileset's own member
module _ (name : List ℕ) (first_id : ℕ) (same made : Bool) where
  value-offered : (follows : Bool) (held : Option Data) → IsSome held
      → IsOfferOf (change_of (swap_held (set_member_names (owners.Tileset first_id) name follows) (tileset_value first_id name) same made held))
      (value_shown name follows first_id held)
  value-offered follows None some = absurd cc
  value-offered false (Some v) some = nothing-offered _ refl
  value-offered true (Some v) some =
      follower-offered _ (Member (Some name) (TilesetsValue first_id v)) refl refl (λ q. cc) (λ d f. (f.1.fits, refl))

pub set_value-offered : (c : SetValue) → IsSome c.value → IsOfferOf (set_value_change c) (set_value_shown c)
set_value-offered c some = value-offered c.name c.first_id c.is_same c.is_made c.follows c.value some

-- the value from before both is held, and a test has told whether the tileset's member has it
module _ (name : List ℕ) (first_id : ℕ) (follows same told made : Bool) (before : Data) (d : DocumentParts) where
  -- the older command, with a value that is held, and the one that it is made to
  abbrev older : Option Data → Change
  older held = change_of (swap_held (set_member_names (owners.Tileset first_id) name follows) (tileset_value first_id name) same made held)

  abbrev merged : Option Data → Change
  merged held = change_of (swap_held (set_member_names (owners.Tileset first_id) name follows) (tileset_value first_id name) told made held)

  merged_here : (held : Data) → AsksMerge (older (Some held)) (Member (Some name) (TilesetsValue first_id before)) d
      → (told ≡ true → (tileset_value first_id name).get d ≡ Some held) → ((tileset_value first_id name).get d ≡ Some held → told ≡ true)
      → IsMerged (older (Some held)) (merged (Some held)) (Member (Some name) (TilesetsValue first_id before)) d
  merged_here held asked is leads = by_own (put-covered (tileset_value-laws first_id name) asked.0) ((tileset_value first_id name).get d) refl
    where
      by_own : IsCovered (tileset_value first_id name) held (put (tileset_value first_id name) before d) d → (o : Option Data)
          → (tileset_value first_id name).get d ≡ o
          → IsMerged (older (Some held)) (merged (Some held)) (Member (Some name) (TilesetsValue first_id before)) d
      by_own covered None q = let there = rw q at covered.there in cc
      by_own covered (Some own) q =
          held_merged made (tileset_value-laws first_id name) refl own q (λ b. some-eq own held (sym q ∙ is b)) (λ g. leads (q ∙ ap Some g)) covered asked.1

  pub value-merged : (held : Option Data) (text : Option (List ℕ)) (own : ℕ)
      → (set_member_names (owners.Tileset first_id) name follows).tag ≡ Some (member_tag (owners.Tileset own) text)
      → AsksMerge (older held) (Member text (TilesetsValue own before)) d → IsSome held
      → (told ≡ true → (tileset_value first_id name).get d ≡ held) → ((tileset_value first_id name).get d ≡ held → told ≡ true)
      → IsMerged (older held) (merged held) (Member text (TilesetsValue own before)) d
  value-merged None text own tag asked some is leads = absurd cc
  value-merged (Some held) text own tag asked some is leads =
      let same_tag = member_tag-same (owners.Tileset first_id) (owners.Tileset own) (Some name) text tag in
      let same_id : first_id ≡ own = let owner = same_tag.0 in cc in
      subst (λ n. AsksMerge (older (Some held)) (Member text (TilesetsValue n before)) d
      → IsMerged (older (Some held)) (merged (Some held)) (Member text (TilesetsValue n before)) d) same_id
      (subst (λ t. AsksMerge (older (Some held)) (Member t (TilesetsValue first_id before)) d
      → IsMerged (older (Some held)) (merged (Some held)) (Member t (TilesetsValue first_id before)) d) same_tag.1
      (λ asks. merged_here held asks is leads)) asked

-- a tag that an offer of a member has is taken in
pub takes-tagged : (t : Option Tag) (b : Bool) (owner : MemberOwner) (name : Option (List ℕ)) (s : ShownHead) → owner ≡ head_owner s
    → (IsTrue b ↔ (t ≡ Some (member_tag owner name))) → IsTrue b ↔ Takes t (Member name s)
takes-tagged t b owner name s is told = (
  λ h. record { some = λ q. cc; same = sym (told.0 h ∙ ap (λ o. Some (member_tag o name)) is) },
  λ k. told.1 (sym k.same ∙ ap (λ o. Some (member_tag o name)) (sym is)),
)
