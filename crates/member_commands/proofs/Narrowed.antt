-- A tileset's member that is set by its value alone.
use Rattle.std.proofs.Common.{◌≡◌, ℕ, List, Bool, Option, Some, None, IsSome, IfSome, Result, Ok, refl, sym, ap, ◌∙◌, subst}
use Rattle.serde_json.specs.Data.{Data}
use Rattle.serde_json.specs.Find.{get_member}
use Rattle.map_model.specs.declared.heads.TilesetHead.{TilesetHead}
use Rattle.map_model.specs.declared.owner.MemberOwner.TheVariants as owners
use Rattle.map_model.specs.declared.parts.Tileset.{Tileset}
use Rattle.map_model.specs.Document.{DocumentParts}
use Rattle.map_model.specs.Heads.{tileset_head, tileset_head_with_id, tileset_value, with_member}
use Rattle.map_model.specs.Lens.{put}
use Rattle.map_model.specs.Tilesets.{tileset_with}
use Rattle.map_model.specs.WellFormed.{IsWellFormed}
use Rattle.map_model.proofs.ValueLaws.{value-is_head}
use Rattle.refusals.specs.declared.more_fault.MoreFault.{MoreFault}
use Rattle.command_api.specs.Exchange.{change_of}
use Rattle.command_api.specs.Making.{Makes}
use Rattle.command_api.specs.Names.{Names, IsSettled}
use Rattle.command_api.specs.Swap.{swap_held}
use Rattle.member_commands.specs.Names.{set_member_names}

-- the tileset has the member
pub value-there : (first_id : ℕ) (name : List ℕ) (t : Tileset) (d : DocumentParts) → tileset_with d.map first_id ≡ Some t → IsSome (get_member name t.kept)
    → IsSome ((tileset_value first_id name).get d)
value-there first_id name t d there some = rw there some

-- the head is the tileset's own but for that value
pub apart-is_head : (first_id : ℕ) (name : List ℕ) (t : Tileset) (h : TilesetHead) (own : Data) (d : DocumentParts) (apart : Option Data)
    → tileset_with d.map first_id ≡ Some t → IfSome apart (λ v. get_member name h.kept ≡ Some v)
    → (IsSome apart → tileset_head t ≡ record h { kept = with_member name (λ x. own) h.kept })
    → IfSome apart (λ v. put (tileset_value first_id name) v d ≡ put (tileset_head_with_id first_id) h d)
apart-is_head first_id name t h own d None there has is = tt
apart-is_head first_id name t h own d (Some v) there has is = value-is_head first_id name t h own v d there has (is refl)

-- so what makes the change by the head makes it by the value, too
pub narrowed-makes : (first_id : ℕ) (name : List ℕ) (follows same made : Bool) (h : TilesetHead) (v : Data) (d : DocumentParts) (edit : Names)
    (after : Result DocumentParts MoreFault)
    → IsSome ((tileset_value first_id name).get d) → put (tileset_value first_id name) v d ≡ put (tileset_head_with_id first_id) h d
    → Makes edit d after (change_of (swap_held (set_member_names (owners.Tileset first_id) name follows) (tileset_head_with_id first_id) same made (Some h)))
    → Makes edit d after (change_of (swap_held (set_member_names (owners.Tileset first_id) name follows) (tileset_value first_id name) same made (Some v)))
narrowed-makes first_id name follows same made h v d edit after there is makes = record {
  fits = (
    makes.fits.0,
    record {
      fits = record {
        well_formed = makes.fits.1.fits.well_formed;
        there = there;
        back = subst (λ (e : DocumentParts). IsWellFormed e.map) (sym is) makes.fits.1.fits.back;
      };
      settled = subst (IsSettled (set_member_names (owners.Tileset first_id) name follows).vanishing same d) (sym is) makes.fits.1.settled;
    },
  );
  document = makes.document ∙ ap Ok (sym is);
  names = makes.names;
}

-- two facts of a value that was found
pub both_told : {V A : Type 0} (P : V → Type 0) (found : Option V) → (IsSome found → A) → IfSome found P → IfSome found (λ v. A × P v)
both_told P None there is = tt
both_told P (Some v) there is = (there refl, is)
