-- What a JSON text of a line says, or the fault of what it says.
use Rattle.std.specs.Prelude.{◌≡◌, ◌≤◌, ℕ, List, Bool, nat_le, not, true, false, ◌&&◌, ◌||◌, Result, Ok}
use Rattle.std.specs.Option.{ok_or}
use Rattle.serde_json.specs.Data.{Data, Members, no_members, member, depth, members_depth}
use Rattle.serde_json.specs.Find.{as_object}
use Rattle.serde_json.specs.Read.{read}
use Rattle.serde_json.specs.Written.{has_float, members_have_float}
use Rattle.fractions.specs.declared.lines.Fractions.{Fractions}
use Rattle.fractions.specs.declared.lines.Fractions.TheVariants.{Refused, SetAside}
use Rattle.fractions.specs.declared.lines.Moved.{Moved}
use Rattle.fractions.specs.declared.place.Place.{Place}
use Rattle.fractions.specs.Lines.{members_said, said}
use Rattle.map_model.specs.Readable.{IsReadable, AreReadableMembers}
use Rattle.map_model.specs.Refusing.{◌>>=◌, ◌>>◌, check}
use Rattle.refusals.specs.declared.map_refusal.MapRefusal.{MapRefusal}
use Rattle.refusals.specs.declared.map_refusal.MapRefusal.TheVariants.{NotJson, Fraction, MemberOfAnotherKind}
use Rattle.json_trees.specs.declared.names.TheConstants.{RESERVED_NAME}
use Rattle.json_trees.specs.Names.{has_name}
use Rattle.map_json.specs.declared.word.TheConstants.{MAX_WORD_DEPTH}

-- whether a line may say numbers that are not whole
abbrev pub are_set_aside : Fractions → Bool
are_set_aside Refused = false
are_set_aside SetAside = true

-- it has a tree, whose numbers are whole, unless fractions are set aside; as the map has it at a place, that nests no deeper than it
-- may; and none of its members has the reserved name
unfoldable pub word_at : Fractions → Place → List ℕ → Result Data MapRefusal
word_at fractions place text = do
  d ← ok_or (read text) NotJson
  check (are_set_aside fractions || not (has_float d)) Fraction
  check (nat_le (depth (said fractions place d)) MAX_WORD_DEPTH) NotJson
  check (not (has_name RESERVED_NAME.now d)) MemberOfAnotherKind
  Ok d

-- the members that it says
unfoldable pub words_at : Fractions → Place → List ℕ → Result Members MapRefusal
words_at fractions place text = do
  d ← word_at fractions place text
  ok_or (as_object d) MemberOfAnotherKind

-- and those, as the map has them
unfoldable pub members_at : Fractions → Place → Moved → List ℕ → Result Members MapRefusal
members_at fractions place moved text = do
  ms ← words_at fractions place text
  Ok (members_said fractions place moved ms)

-- a value that a line can say, as far as an owner asks
pub record IsWord (d : Data) : Type 0 where
  pub readable : IsReadable d
  pub whole : has_float d ≡ false
  pub shallow : depth d ≤ MAX_WORD_DEPTH

-- members whose values a line can say
pub record AreWords (ms : Members) : Type 0 where
  pub readable : AreReadableMembers ms
  pub whole : members_have_float ms ≡ false
  pub shallow : members_depth ms ≤ MAX_WORD_DEPTH

-- whether each member's name passes a test
abbrev pub all_named : (List ℕ → Bool) → Members → Bool
all_named is_own no_members = true
all_named is_own (member k d ms) = is_own k && all_named is_own ms
