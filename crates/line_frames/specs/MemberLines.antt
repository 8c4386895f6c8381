-- What lines of own members make of the members that an owner has.
use Rattle.std.specs.Prelude.{ℕ, List, Option, is_some, Result}
use Rattle.serde_json.specs.Data.{Members, member, no_members}
use Rattle.serde_json.specs.Find.{get_member}
use Rattle.fractions.specs.declared.lines.Fractions.{Fractions}
use Rattle.fractions.specs.declared.lines.Moved.{Moved}
use Rattle.fractions.specs.Lines.{put_words, remove_word}
use Rattle.fractions.specs.Places.{below}
use Rattle.map_json.specs.Words.{all_named, word_at, words_at}
use Rattle.refusals.specs.declared.map_refusal.MapRefusal.{MapRefusal}
use Rattle.refusals.specs.declared.more_fault.MoreFault.TheVariants as faults
use Rattle.member_commands.specs.Edits.{◌>>=◌, check, said}
use Rattle.member_commands.specs.Heads.{HeadParts}
use Rattle.line_frames.specs.Frames.{done}

-- The members of a head, as they are read again: with a member that has the value of a JSON text, with each that a JSON text names, or
-- without one. An object that is moved is saved so much further.
module _ {H : Type 0} (p : HeadParts H) (read : Members → Result H MapRefusal) (fractions : Fractions) (moved : Moved) where
  abbrev pub set_change : List ℕ → List ℕ → H → Option H
  set_change name json own =
      done (check (p.is_own name) faults.MemberOfOtherLines >>= λ _.
      said (word_at fractions (below p.place name) json) >>= λ value.
      said (read (put_words fractions p.place moved (member name value no_members) (p.members own))))

  abbrev pub put_change : List ℕ → H → Option H
  put_change json own =
      done (said (words_at fractions p.place json) >>= λ words.
      check (all_named p.is_own words) faults.MemberOfOtherLines >>= λ _.
      said (read (put_words fractions p.place moved words (p.members own))))

  abbrev pub remove_change : List ℕ → H → Option H
  remove_change name own =
      done (check (p.is_own name) faults.MemberOfOtherLines >>= λ _.
      check (is_some (get_member name (p.members own))) faults.NoSuchMember >>= λ _.
      said (read (remove_word fractions p.place name (p.members own))))
