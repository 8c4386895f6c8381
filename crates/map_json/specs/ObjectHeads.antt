-- What the members of an object's head say, and what is written of it: all of an object but its id and its properties.
use Rattle.std.specs.Prelude.{IsUtf8, ℕ, [], ◌∷◌, Result, Ok, IfSome}
use Rattle.serde_json.specs.Data.{Members}
use Rattle.map_model.specs.declared.heads.ObjectHead.{ObjectHead}
use Rattle.map_model.specs.Format.{name_member, visible_member, x_member, y_member, width_member, height_member, gid_member, object_names}
use Rattle.map_model.specs.Keeping.{AreKept}
use Rattle.map_model.specs.Refusing.{◌>>=◌}
use Rattle.map_model.specs.WellFormed.{IsPlacing, IsTileValue}
use Rattle.refusals.specs.declared.map_refusal.MapRefusal.{MapRefusal}
use Rattle.json_members.specs.Members.{without_all}
use Rattle.map_values.specs.Scalars.{optional_member, own_some}
use Rattle.map_json.specs.Members.{Own, with_own}
use Rattle.map_json.specs.Reading.{placing_of}

-- the head that members say
unfoldable pub head_at : Members → Result ObjectHead MapRefusal
head_at ms = do
  placing ← placing_of ms
  name ← optional_member name_member ms
  visible ← optional_member visible_member ms
  gid ← optional_member gid_member ms
  Ok (record { placing = placing; name = name; visible = visible; gid = gid; kept = without_all object_names ms })

-- the members that are written of a head
abbrev pub head_own : ObjectHead → Own
head_own h =
    own_some x_member h.placing.x
    ∷ own_some y_member h.placing.y
    ∷ own_some width_member h.placing.width
    ∷ own_some height_member h.placing.height
    ∷ own_some name_member h.name
    ∷ own_some visible_member h.visible
    ∷ own_some gid_member h.gid
    ∷ []

abbrev pub head_members : ObjectHead → Members
head_members h = with_own (head_own h) h.kept

-- the head of an object at this tier
pub record IsObjectHead (tier : ℕ) (h : ObjectHead) : Type 0 where
  pub placing : IsPlacing h.placing
  pub name : IfSome h.name IsUtf8
  pub gid : IfSome h.gid IsTileValue
  pub kept : AreKept tier object_names h.kept
