-- Lines are edits of the frame law.
use Rattle.std.proofs.Common.{◌≡◌, ℕ, List, [], ◌∷◌, Bool, true, false, cond, not, Some, None, option_map, option_and_then, Result, Ok, Err, refl, ap, ◌∙◌, subst}
use Rattle.map_model.specs.declared.owner.MemberOwner.TheVariants as owners
use Rattle.map_model.specs.declared.place.OwnerPlace.{OwnerPlace}
use Rattle.map_model.specs.Document.{DocumentParts}
use Rattle.map_json.specs.Given.{given_object_at, given_property_at, given_text_at}
use Rattle.map_json.specs.LayerHeads.{layer_head_at}
use Rattle.map_json.specs.MapHeads.{map_head_said}
use Rattle.map_json.specs.ObjectHeads.{head_at}
use Rattle.map_json.specs.TilesetHeads.{tileset_head_at}
use Rattle.map_model.proofs.LensLaws.{some-eq}
use Rattle.edits.specs.PropertyEdits.{after_remove_property, owner_or_fault}
use Rattle.member_commands.specs.Edits.{◌>>=◌, check, said}
use Rattle.member_commands.specs.Layers.{layer_heads}
use Rattle.member_commands.specs.Maps.{map_heads}
use Rattle.member_commands.specs.Objects.{object_heads}
use Rattle.member_commands.specs.Tilesets.{tileset_heads}
use Rattle.property_commands.specs.PutEdits.{after_put_property}
use Rattle.refusals.specs.declared.edit_fault.EditFault.{EditFault}
use Rattle.refusals.specs.declared.map_refusal.MapRefusal.{MapRefusal}
use Rattle.session.specs.declared.line.Line.TheVariants as lines
use Rattle.session.specs.declared.more_line.MoreLine.TheVariants as more
use Rattle.document_lines.specs.GivenEdits.{is_id_used, made}
use Rattle.edits.specs.ObjectEdits.{after_put_object, objects_or_fault}
use Rattle.map_model.specs.declared.parts.Object.{Object}
use Rattle.map_model.specs.Lookups.{layer_of}
use Rattle.map_json.specs.declared.given.GivenObject.{GivenObject}
use Rattle.map_json.specs.Moves.{moved_in}
use Rattle.fractions.specs.declared.lines.Fractions.{Fractions}
use Rattle.refusals.specs.declared.map_refusal.MapRefusal.TheVariants.{IdUsedTwice}
use Rattle.refusals.specs.declared.more_fault.MoreFault.TheVariants as faults
use Rattle.line_frames.proofs.MemberLines.{map-reads, put_line, remove_line, set_line}
use Rattle.line_frames.specs.Frames.{AllLead, Edit, MergeLaw, PutObject, PutProperty, RemoveProperty, after, done}
use Rattle.line_frames.specs.Lines.{AllSay, LineLaw, LineMergeLaw, More, MoreLineLaw, Saying, Usual, after_line, edit_in, object_said, put_object}

-- an edit that is the one that a line is
is-edit : (own edit : Edit) (d n : DocumentParts) → Some own ≡ Some edit → after own d ≡ Some n → after edit d ≡ Some n
is-edit own edit d n e done = subst (λ x. after x d ≡ Some n) (some-eq own edit e) done

pub line-law : LineLaw
line-law (lines.Stamp layer x y width values follows) edit d n e k = is-edit _ edit d n e k
line-law (lines.Erase layer x y width height follows) edit d n e k = is-edit _ edit d n e k
line-law (lines.SetProperty owner name value follows) edit d n e k = is-edit _ edit d n e k
line-law (lines.RemoveProperty owner name) edit d n e k = is-edit _ edit d n e k
line-law (lines.RemoveObject id) edit d n e k = is-edit _ edit d n e k
line-law line edit d n e k = cc

-- what a text says goes to an owner that is there
module _ (d n : DocumentParts) {A : Type 0} (place : Result OwnerPlace EditFault) (edit : A → Edit) (does : A → Result DocumentParts EditFault)
    (same : (x : A) → after (edit x) d ≡ done (does x)) where
  text-edit : (r : Result A MapRefusal) (own : Edit) → option_map edit (done r) ≡ Some own
      → done (made place >>= λ at. said r >>= λ x. made (does x)) ≡ Some n → after own d ≡ Some n
  text-edit r own e k = by_place place k
    where
      by_made : (x : A) (q : Result DocumentParts EditFault) → does x ≡ q → done (made q) ≡ Some n → done (does x) ≡ Some n
      by_made x (Ok m) f g = ap done f ∙ g
      by_made x (Err fault) f g = cc

      by_text : (q : Result A MapRefusal) → option_map edit (done q) ≡ Some own → done (said q >>= λ x. made (does x)) ≡ Some n → after own d ≡ Some n
      by_text (Ok x) f g = is-edit (edit x) own d n f (same x ∙ by_made x (does x) refl g)
      by_text (Err fault) f g = cc

      by_place : (q : Result OwnerPlace EditFault) → done (made q >>= λ at. said r >>= λ x. made (does x)) ≡ Some n → after own d ≡ Some n
      by_place (Ok at) g = by_text r e g
      by_place (Err fault) g = cc

-- an object that a text says
given-said : (f : Fractions) (d : DocumentParts) (json : List ℕ) → given_object_at f d.map json ≡ object_said f (moved_in f d.map) json
unfolding given_object_at object_said
given-said f d json = refl

object-edit : (d n : DocumentParts) (layer : ℕ) {A : Type 0} (place : Result A EditFault) (r : Result GivenObject MapRefusal) (edit : Edit)
    → option_and_then (put_object layer) (done r) ≡ Some edit
    → done (made place >>= λ at. said r >>= λ given. check (not (is_id_used d.map given)) (faults.Map IdUsedTwice) >>= λ _.
    made (after_put_object d layer given.has_id given.object)) ≡ Some n
    → after edit d ≡ Some n
object-edit d n layer (Ok at) (Ok given) edit e k = by_id given.has_id given.object (not (is_id_used d.map given)) e k
  where
    by_made : (r : Result DocumentParts EditFault) → done (made r) ≡ Some n → done r ≡ Some n
    by_made (Ok m) q = q
    by_made (Err fault) q = cc

    by_id : (has : Bool) (o : Object) (free : Bool) → cond has (Some (PutObject layer o)) None ≡ Some edit
        → done (check free (faults.Map IdUsedTwice) >>= λ _. made (after_put_object d layer has o)) ≡ Some n → after edit d ≡ Some n
    by_id true o true f q = is-edit (PutObject layer o) edit d n f (by_made (after_put_object d layer true o) q)
    by_id true o false f q = cc
    by_id false o free f q = cc
object-edit d n layer (Ok at) (Err fault) edit e k = cc
object-edit d n layer (Err fault) r edit e k = cc

pub more_line-law : MoreLineLaw
more_line-law f (more.SetMember owners.Map name json follows) edit d n e k =
    is-edit _ edit d n e (set_line map_heads map_head_said 0 d n (map-reads d.map) f name json k)
more_line-law f (more.PutMembers owners.Map json follows) edit d n e k =
    is-edit _ edit d n e (put_line map_heads map_head_said 0 d n (map-reads d.map) f json k)
more_line-law f (more.RemoveMember owners.Map name) edit d n e k =
    is-edit _ edit d n e (remove_line map_heads map_head_said 0 d n (map-reads d.map) f name k)
more_line-law f (more.SetMember (owners.Layer id) name json follows) edit d n e k =
    is-edit _ edit d n e (set_line layer_heads layer_head_at id d n (λ ms h r. r) f name json k)
more_line-law f (more.PutMembers (owners.Layer id) json follows) edit d n e k =
    is-edit _ edit d n e (put_line layer_heads layer_head_at id d n (λ ms h r. r) f json k)
more_line-law f (more.RemoveMember (owners.Layer id) name) edit d n e k =
    is-edit _ edit d n e (remove_line layer_heads layer_head_at id d n (λ ms h r. r) f name k)
more_line-law f (more.SetMember (owners.Object id) name json follows) edit d n e k =
    is-edit _ edit d n e (set_line object_heads head_at id d n (λ ms h r. r) f name json k)
more_line-law f (more.PutMembers (owners.Object id) json follows) edit d n e k =
    is-edit _ edit d n e (put_line object_heads head_at id d n (λ ms h r. r) f json k)
more_line-law f (more.RemoveMember (owners.Object id) name) edit d n e k =
    is-edit _ edit d n e (remove_line object_heads head_at id d n (λ ms h r. r) f name k)
more_line-law f (more.SetMember (owners.Tileset id) name json follows) edit d n e k =
    is-edit _ edit d n e (set_line tileset_heads tileset_head_at id d n (λ ms h r. r) f name json k)
more_line-law f (more.PutMembers (owners.Tileset id) json follows) edit d n e k =
    is-edit _ edit d n e (put_line tileset_heads tileset_head_at id d n (λ ms h r. r) f json k)
more_line-law f (more.RemoveMember (owners.Tileset id) name) edit d n e k =
    is-edit _ edit d n e (remove_line tileset_heads tileset_head_at id d n (λ ms h r. r) f name k)
more_line-law f (more.PutProperty owner json) edit d n e k =
    text-edit d n (owner_or_fault d.map owner) (PutProperty owner) (after_put_property d owner) (λ p. refl) (given_property_at f json) edit e k
more_line-law f (more.TakeProperty owner json) edit d n e k =
    text-edit d n (owner_or_fault d.map owner) (RemoveProperty owner) (after_remove_property d owner) (λ name. refl) (given_text_at f json) edit e k
more_line-law f (more.PutObject layer json) edit d n e k =
    object-edit d n layer (objects_or_fault (layer_of d.map layer)) (given_object_at f d.map json) edit
    (ap (λ r. option_and_then (put_object layer) (done r)) (given-said f d json) ∙ e) k
more_line-law f line edit d n e k = cc

-- ---- lines one after another
all-lead : (fractions : Fractions) (lines : List Saying) (edits : List Edit) (d n : DocumentParts) → AllSay fractions lines edits d n → AllLead edits d n
all-lead fractions [] [] d n e = e
all-lead fractions [] (edit ∷ edits) d n e = absurd e
all-lead fractions (line ∷ lines) [] d n e = absurd e
all-lead fractions (line ∷ lines) (edit ∷ edits) d n (mid, says, rest) =
    (mid, record { well_formed = says.well_formed; is = by_line line says.edit says.is; left = says.left }, all-lead fractions lines edits mid n rest)
  where
    by_line : (l : Saying) → edit_in fractions l d ≡ Some edit → after_line fractions l d ≡ Some mid → after edit d ≡ Some mid
    by_line (Usual l) own e = line-law l edit d mid own e
    by_line (More l) own e = more_line-law fractions l edit d mid own e

pub line_merge-law : MergeLaw → LineMergeLaw
line_merge-law law fractions lines edits base ours theirs merged a b =
    law edits base ours theirs merged (all-lead fractions lines edits base theirs a) (all-lead fractions lines edits ours merged b)
