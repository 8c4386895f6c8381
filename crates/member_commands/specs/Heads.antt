-- The heads of one kind of owner: which part of a document they are, and what their members say.
use Rattle.std.specs.Prelude.{◌≡◌, ◌≢◌, ℕ, List, Bool, true, Option, Some, Result, Ok}
use Rattle.serde_json.specs.Data.{Members}
use Rattle.map_model.specs.declared.owner.MemberOwner.{MemberOwner}
use Rattle.map_model.specs.Document.{DocumentParts}
use Rattle.map_model.specs.Lens.{Lens, IsLawfulLens, put}
use Rattle.map_model.specs.WellFormed.{IsWellFormed}
use Rattle.fractions.specs.declared.lines.Fractions.{Fractions}
use Rattle.fractions.specs.declared.lines.Moved.{Moved}
use Rattle.fractions.specs.declared.place.Place.{Place}
use Rattle.fractions.specs.Places.{is_inner}
use Rattle.fractions.specs.Lines.{members_said, put_words, remove_word}
use Rattle.map_json.specs.Words.{AreWords, all_named}
use Rattle.refusals.specs.declared.edit_fault.EditFault.{EditFault}
use Rattle.refusals.specs.declared.edit_fault.EditFault.TheVariants.{NoMemory}
use Rattle.refusals.specs.declared.map_refusal.MapRefusal.{MapRefusal}
use Rattle.command_api.specs.Heads.{ShownHead, FitsHead, head_owner, head_undone}
use Rattle.command_api.specs.Swap.{FitsBack, IsCovered}

-- the owner with an id, its head in a document, and that head as an offer shows it; why an edit is refused where no owner has the
-- id; where such an owner stands, and how much further it is saved; which members are own ones; the members of a head, and the head
-- that members say of an owner of a document
pub record HeadParts (H : Type 0) : Type 0 where
  pub owner : ℕ → MemberOwner
  pub lens : ℕ → Lens DocumentParts H
  pub shown : ℕ → H → ShownHead
  pub absence : EditFault
  pub place : Place
  pub moved : Fractions → DocumentParts → Moved
  pub is_own : List ℕ → Bool
  pub members : H → Members
  pub read : DocumentParts → Members → Result H MapRefusal

-- a head that was read from an owner's members, with own ones put in that a line can say, or without one of them, makes a well-formed
-- map of a well-formed one; what an offer shows of a head is the owner, and the head put back; and a head covers what any offer shows
-- of its owner
pub record AreHeadParts {H : Type 0} (p : HeadParts H) : Type 0 where
  pub absence : p.absence ≢ NoMemory
  pub inner : is_inner p.place ≡ true
  pub lawful : (id : ℕ) → IsLawfulLens (p.lens id)
  pub owned : (id : ℕ) (h : H) → head_owner (p.shown id h) ≡ p.owner id
  pub undone : (id : ℕ) (name : Option (List ℕ)) (h : H) (d : DocumentParts) → head_undone name (p.shown id h) d ≡ put (p.lens id) h d
  pub fits : (id : ℕ) (name : Option (List ℕ)) (h : H) (d : DocumentParts) → FitsBack (p.lens id) h d → FitsHead name (p.shown id h) d
  pub covered : (id : ℕ) (name : Option (List ℕ)) (s : ShownHead) (h : H) (d : DocumentParts) → head_owner s ≡ p.owner id → FitsHead name s d
      → IsCovered (p.lens id) h (head_undone name s d) d
  pub put_in : (id : ℕ) (fractions : Fractions) (moved : Moved) (words : Members) (own new : H) (d : DocumentParts) → IsWellFormed d.map
      → (p.lens id).get d ≡ Some own → AreWords (members_said fractions p.place moved words) → all_named p.is_own words ≡ true
      → p.read d (put_words fractions p.place moved words (p.members own)) ≡ Ok new → IsWellFormed (put (p.lens id) new d).map
  pub taken_out : (id : ℕ) (fractions : Fractions) (name : List ℕ) (own new : H) (d : DocumentParts) → IsWellFormed d.map → (p.lens id).get d ≡ Some own
      → p.read d (remove_word fractions p.place name (p.members own)) ≡ Ok new → IsWellFormed (put (p.lens id) new d).map
