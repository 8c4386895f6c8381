-- What edits of own members ask of the heads of owners, and what their names and their offers say.
use Rattle.std.proofs.Common.{◌≡◌, ◌≢◌, ℕ, List, Bool, true, false, not, Option, Some, None, Result, Ok, Err, IsSome, IsSomeAnd, true≢false, refl, sym, ap, ◌∙◌}
use Rattle.std.specs.Prelude.{◌↔◌, IsTrue, OnOk, is_err}
use Rattle.serde_json.specs.Data.{Members}
use Rattle.map_model.specs.declared.owner.MemberOwner.{MemberOwner}
use Rattle.map_model.specs.Document.{DocumentParts}
use Rattle.map_model.specs.Lens.{put}
use Rattle.map_model.specs.WellFormed.{IsWellFormed}
use Rattle.map_model.proofs.LensLaws.{some-eq}
use Rattle.fractions.specs.declared.lines.Fractions.{Fractions}
use Rattle.fractions.specs.declared.lines.Moved.{Moved}
use Rattle.fractions.specs.Lines.{members_said, put_words, remove_word}
use Rattle.map_json.specs.Words.{AreWords, all_named}
use Rattle.refusals.specs.declared.more_fault.MoreFault.{MoreFault}
use Rattle.refusals.specs.declared.more_fault.MoreFault.TheVariants as faults
use Rattle.refusals.specs.declared.edit_fault.EditFault.{EditFault}
use Rattle.refusals.specs.declared.edit_fault.EditFault.TheVariants as edit_faults
use Rattle.command_api.specs.Exchange.{IsExchanged, change_of}
use Rattle.command_api.specs.Making.{Makes}
use Rattle.command_api.specs.Names.{WhenEqual}
use Rattle.command_api.specs.Swap.{FitsBack, FitsHeld, swap_held}
use Rattle.command_api.proofs.Swaps.{held_made, held_swapped}
use Rattle.member_commands.specs.declared.set_head.MemberEdit.{MemberEdit}
use Rattle.member_commands.specs.declared.set_head.MemberEdit.TheVariants.{Set, Put, Remove}
use Rattle.member_commands.specs.Changes.{member_names}
use Rattle.member_commands.specs.Edits.{IsMoreRefusalOf, after_head}
use Rattle.member_commands.specs.Heads.{HeadParts, AreHeadParts}

pub member-WhenEqual : (e : MemberEdit) (owner : MemberOwner) (follows : Bool) → (member_names e owner follows).vanishing ≡ WhenEqual
member-WhenEqual (Set name) owner follows = refl
member-WhenEqual Put owner follows = refl
member-WhenEqual Remove owner follows = refl

-- ---- the head that an owner has
pub some_and : {X : Type 0} (o : Option X) (P : X → Type 0) → IsSomeAnd o P → (x : X) × (o ≡ Some x) × P x
some_and None P h = absurd h
some_and (Some x) P h = (x, refl, h)

some_is : {X : Type 0} (o : Option X) (x : X) → o ≡ Some x → IsSome o
some_is o x e = rw e refl

module _ {H : Type 0} (p : HeadParts H) (laws : AreHeadParts p) (id : ℕ) (f : Fractions) (d : DocumentParts) (well_formed : IsWellFormed d.map) where
  -- a head that was read with words put in fits, and so does one that was read without a member
  pub put_fits : (m : Moved) (words before : Members) → IsSomeAnd ((p.lens id).get d) (λ own. before ≡ p.members own) → AreWords (members_said f p.place m words)
      → all_named p.is_own words ≡ true → (h : H) → p.read d (put_words f p.place m words before) ≡ Ok h → FitsBack (p.lens id) h d
  put_fits m words before there are named h e =
      let own = some_and ((p.lens id).get d) (λ o. before ≡ p.members o) there in
      record {
        well_formed = well_formed;
        there = some_is ((p.lens id).get d) own.0 own.1;
        back = laws.put_in id f m words own.0 h d well_formed own.1 are named (ap (λ ms. p.read d (put_words f p.place m words ms)) (sym own.2) ∙ e);
      }

  pub drop_fits : (name : List ℕ) (before : Members) → IsSomeAnd ((p.lens id).get d) (λ own. before ≡ p.members own)
      → (h : H) → p.read d (remove_word f p.place name before) ≡ Ok h → FitsBack (p.lens id) h d
  drop_fits name before there h e =
      let own = some_and ((p.lens id).get d) (λ o. before ≡ p.members o) there in
      record {
        well_formed = well_formed;
        there = some_is ((p.lens id).get d) own.0 own.1;
        back = laws.taken_out id f name own.0 h d well_formed own.1 (ap (λ ms. p.read d (remove_word f p.place name ms)) (sym own.2) ∙ e);
      }

-- ---- refusals
-- there is no such owner
absent : {X : Type 0} (o : Option X) (b : Bool) → (IsTrue b → IsSome o) → (IsSome o → IsTrue b) → b ≡ false → o ≡ None
absent None b to from e = refl
absent (Some x) b to from e = absurd (true≢false (sym (from refl) ∙ e))

absence-refused : (early : MoreFault → Bool) (after : Result DocumentParts MoreFault) (fault : EditFault) → fault ≢ edit_faults.NoMemory
    → after ≡ Err (faults.Edit fault) → IsMoreRefusalOf early after (faults.Edit fault)
absence-refused early after edit_faults.NoMemory other is = absurd (other refl)
absence-refused early after fault other is = is

pub absent-refused : {H : Type 0} (p : HeadParts H) → AreHeadParts p → (d : DocumentParts) (id : ℕ) (b : Bool) → (IsTrue b ↔ IsSome ((p.lens id).get d)) → b ≡ false
    → (early : MoreFault → Bool) (after : Result DocumentParts MoreFault) → ((p.lens id).get d ≡ None → after ≡ Err (faults.Edit p.absence))
    → (fault : EditFault) → fault ≡ p.absence → IsMoreRefusalOf early after (faults.Edit fault)
absent-refused p laws d id b there gone early after leads fault is =
    rw is (absence-refused early after p.absence laws.absence (leads (absent ((p.lens id).get d) b there.0 there.1 gone)))

-- ---- calls that had memory
pub ok_then : {T E : Type 0} (r : Result T E) (P : Type 0) → OnOk r P → false ≡ is_err r → P
ok_then (Ok x) P h e = h
ok_then (Err x) P h e = absurd (true≢false (sym e))

-- ---- a head that a command holds
pub held_makes : {H : Type 0} (p : HeadParts H) → AreHeadParts p → (edit : MemberEdit) (id : ℕ) (follows same : Bool) (d : DocumentParts) (h : H)
    → FitsBack (p.lens id) h d → (same ≡ true → (p.lens id).get d ≡ Some h) → ((p.lens id).get d ≡ Some h → same ≡ true)
    → Makes (member_names edit (p.owner id) follows) d (after_head p d id h)
    (change_of (swap_held (member_names edit (p.owner id) follows) (p.lens id) same false (Some h)))
held_makes {H = H} p laws edit id follows same d h fits told found = by_own ((p.lens id).get d) refl fits.there
  where
    by_own : (o : Option H) → (p.lens id).get d ≡ o → IsSome o
        → Makes (member_names edit (p.owner id) follows) d (after_head p d id h)
        (change_of (swap_held (member_names edit (p.owner id) follows) (p.lens id) same false (Some h)))
    by_own None q there = absurd cc
    by_own (Some own) q there =
        held_made (laws.lawful id) (member-WhenEqual edit (p.owner id) follows) own q (λ b. some-eq own h (sym q ∙ told b)) (λ e. found (q ∙ ap Some e)) fits
        refl

-- one turn: what is held and the owner's head change places
pub held_turned : {H : Type 0} (p : HeadParts H) → AreHeadParts p → (edit : MemberEdit) (id : ℕ) (follows same made : Bool) (head : Option H) (held new : H)
    (d after : DocumentParts) → head ≡ Some held → FitsHeld (p.lens id) head d → (p.lens id).get d ≡ Some new → after ≡ put (p.lens id) held d
    → IsExchanged (swap_held (member_names edit (p.owner id) follows) (p.lens id) same made head)
    (swap_held (member_names edit (p.owner id) follows) (p.lens id) same (not made) (Some new)) d after
held_turned p laws edit id follows same made head held new d after has fits given is =
    rw has (held_swapped made (laws.lawful id) (rw has at fits) given is)
