-- What a command line says.
use Rattle.std.specs.Prelude.{◌≡◌, ℕ, Bool, List, Option, None, Some, codes, false, true, option_map, unwrap_or}
use Rattle.std.specs.Str.Parse.{digits_value, without_leading_plus}
use Rattle.clap.specs.Words.{App, IsParsedFrom, Rule, Text, first_of, first_value, found_of, matches_of, new_app, new_rule, one_of, with_rule}
use Rattle.clap.specs.Simple.{on_top}
use Rattle.clap.specs.declared.builder.action.ArgAction.TheVariants.{SetTrue}
use Rattle.clap.specs.declared.builder.command.Command.{Command}
use Rattle.clap.specs.declared.builder.value_parser.ValueParser.TheVariants as parser
use Rattle.clap.specs.declared.parser.matches.ArgMatches.{ArgMatches}
use Rattle.undo_stack.specs.declared.limits.TheConstants.{MAX_LIMIT}

-- `--folder DIR`, where DIR is not empty
abbrev pub folder_option : Rule
folder_option = record (new_rule (codes "folder")) {
  long = Some (codes "folder");
  parser = Some parser.NonEmptyString;
  value_names = 1;
}

-- `--limit N`, where N is a number from 0 to the most that a limit can be
abbrev pub limit_option : Rule
limit_option = record (new_rule (codes "limit")) {
  long = Some (codes "limit");
  parser = Some (parser.Unsigned 0 MAX_LIMIT);
  value_names = 1;
}

-- `--strict`
abbrev pub strict_option : Rule
strict_option = record (new_rule (codes "strict")) {
  long = Some (codes "strict");
  action = Some SetTrue;
}

-- `--all-maps`
abbrev pub all_maps_option : Rule
all_maps_option = record (new_rule (codes "all_maps")) {
  long = Some (codes "all-maps");
  action = Some SetTrue;
}

-- `--all-edits`
abbrev pub all_edits_option : Rule
all_edits_option = record (new_rule (codes "all_edits")) {
  long = Some (codes "all-edits");
  action = Some SetTrue;
}

-- the command: those options, and those for help and for the version
abbrev pub command : App
command =
    with_rule (with_rule (with_rule (with_rule (with_rule (on_top (λ shape. record shape { has_version = true }) (new_app (codes "tile_editor")))
    folder_option) limit_option) strict_option) all_maps_option) all_edits_option

-- the folder that the words name, and `.` where they name none; the first word is the program's name
abbrev pub folder_of : List Text → Text
folder_of words = unwrap_or (first_of (codes "folder") (matches_of command words)) (codes ".")

-- the number that a text writes in digits, perhaps behind a plus; 0 where there is no text
abbrev pub value_or_zero : Option Text → ℕ
value_or_zero text = unwrap_or (option_map (λ t. digits_value 10 (without_leading_plus t)) text) 0

-- the limit that the words name, and 0 where they name none
abbrev pub limit_of : List Text → ℕ
limit_of words = value_or_zero (first_of (codes "limit") (matches_of command words))

-- what the words say of `--strict`: `true` where they have it, and else `false` or nothing
abbrev pub strict_text : List Text → Option Text
strict_text words = one_of (codes "strict") (matches_of command words)

-- what the words say of `--all-maps`, in the same way
abbrev pub all_maps_text : List Text → Option Text
all_maps_text words = one_of (codes "all_maps") (matches_of command words)

-- what the words say of `--all-edits`, in the same way
abbrev pub all_edits_text : List Text → Option Text
all_edits_text words = one_of (codes "all_edits") (matches_of command words)

-- an option is given where its text is `true`
abbrev pub IsFlag : Option Text → Bool → Type 0
IsFlag None given = given ≡ false
IsFlag (Some text) given = (text ≡ codes "true" → given ≡ true) × (text ≡ codes "false" → given ≡ false)

-- ---- within the reading of a command line
-- each value that a parse by the command gives to that option is such a text
abbrev pub GivesOnly : Command → Text → (Text → Type 0) → Type 0
GivesOnly command id P = (m : ArgMatches) (t : Text) → IsParsedFrom command m → first_value (found_of m) id ≡ Some t → P t
