-- The document after own members of an owner were set, or one was taken out, or why they were not.
use Rattle.std.specs.Prelude.{◌≡◌, ℕ, List, Bool, true, false, if◌then◌else◌, Result, Ok, Err, IfErr, is_some}
use Rattle.std.specs.Option.{ok_or}
use Rattle.serde_json.specs.Data.{Members, member, no_members}
use Rattle.serde_json.specs.Find.{get_member}
use Rattle.map_model.specs.Document.{DocumentParts}
use Rattle.map_model.specs.Lens.{put}
use Rattle.fractions.specs.declared.lines.Fractions.{Fractions}
use Rattle.fractions.specs.Places.{below}
use Rattle.fractions.specs.Lines.{put_words, remove_word}
use Rattle.map_json.specs.Words.{all_named, word_at, words_at}
use Rattle.map_values.specs.declared.fault.MapFault.{MapFault}
use Rattle.map_values.specs.declared.fault.MapFault.TheVariants as map_faults
use Rattle.refusals.specs.declared.edit_fault.EditFault.TheVariants as edit_faults
use Rattle.refusals.specs.declared.map_refusal.MapRefusal.{MapRefusal}
use Rattle.refusals.specs.declared.more_fault.MoreFault.{MoreFault}
use Rattle.refusals.specs.declared.more_fault.MoreFault.TheVariants as faults
use Rattle.member_commands.specs.Heads.{HeadParts}

infixl 10 ◌>>=◌
abbrev pub ◌>>=◌ : {A B : Type 0} → Result A MoreFault → (A → Result B MoreFault) → Result B MoreFault
(Ok x) >>= f = f x
(Err e) >>= f = Err e

abbrev pub check : Bool → MoreFault → Result (Unit {0}) MoreFault
check b fault = if b then Ok tt else Err fault

-- what a file says, or its fault
abbrev pub said : {A : Type 0} → Result A MapRefusal → Result A MoreFault
said (Ok x) = Ok x
said (Err fault) = Err (faults.Map fault)

-- why a text of a line says nothing
abbrev pub more_fault : MapFault → MoreFault
more_fault map_faults.Memory = faults.Edit edit_faults.NoMemory
more_fault (map_faults.Refused fault) = faults.Map fault

-- the head of the owner with the id
abbrev pub own_head : {H : Type 0} → HeadParts H → DocumentParts → ℕ → Result H MoreFault
own_head p d id = ok_or ((p.lens id).get d) (faults.Edit p.absence)

-- the document where the owner has a head
abbrev pub after_head : {H : Type 0} → HeadParts H → DocumentParts → ℕ → H → Result DocumentParts MoreFault
after_head p d id h = Ok (put (p.lens id) h d)

-- the document where the owner has the head that these members say
abbrev pub after_members : {H : Type 0} → HeadParts H → DocumentParts → ℕ → Members → Result DocumentParts MoreFault
after_members p d id ms = said (p.read d ms) >>= after_head p d id

-- one own member gets the value that a JSON text says
abbrev pub after_set_member : {H : Type 0} → HeadParts H → Fractions → DocumentParts → ℕ → List ℕ → List ℕ → Result DocumentParts MoreFault
after_set_member p fractions d id name json =
    own_head p d id >>= λ own.
    check (p.is_own name) faults.MemberOfOtherLines >>= λ _.
    said (word_at fractions (below p.place name) json) >>= λ value.
    after_members p d id (put_words fractions p.place (p.moved fractions d) (member name value no_members) (p.members own))

-- each own member that a JSON text names gets the value that it says, all at once
abbrev pub after_put_members : {H : Type 0} → HeadParts H → Fractions → DocumentParts → ℕ → List ℕ → Result DocumentParts MoreFault
after_put_members p fractions d id json =
    own_head p d id >>= λ own.
    said (words_at fractions p.place json) >>= λ words.
    check (all_named p.is_own words) faults.MemberOfOtherLines >>= λ _.
    after_members p d id (put_words fractions p.place (p.moved fractions d) words (p.members own))

-- an own member is taken out
abbrev pub after_remove_member : {H : Type 0} → HeadParts H → Fractions → DocumentParts → ℕ → List ℕ → Result DocumentParts MoreFault
after_remove_member p fractions d id name =
    own_head p d id >>= λ own.
    check (p.is_own name) faults.MemberOfOtherLines >>= λ _.
    check (is_some (get_member name (p.members own))) faults.NoSuchMember >>= λ _.
    after_members p d id (remove_word fractions p.place name (p.members own))

-- ---- refusals
-- a refusal that needs no memory, where an edit names no member
abbrev pub is_early : MoreFault → Bool
is_early (faults.Edit fault) = true
is_early fault = false

-- and where it names one
abbrev pub is_early_named : MoreFault → Bool
is_early_named (faults.Edit fault) = true
is_early_named faults.MemberOfOtherLines = true
is_early_named fault = false

-- a refusal is the edit's own, or out of memory, which comes in place of those alone that are not early
abbrev pub IsMoreRefusalOf : (MoreFault → Bool) → Result DocumentParts MoreFault → MoreFault → Type 0
IsMoreRefusalOf early after (faults.Edit edit_faults.NoMemory) = IfErr after (λ fault. early fault ≡ false)
IsMoreRefusalOf early after fault = after ≡ Err fault
