-- A name that a line can spell is a text.
use Rattle.std.proofs.Common.{◌≡◌, ℕ, true, List}
use Rattle.std.specs.Str.{IsUtf8}
use Rattle.session.specs.Words.{is_name}
use Rattle.session.specs.declared.limits.TheConstants.{MAX_FILE_NAME}
use Rattle.session.proofs.ReadFields.{is_name_from}
use Rattle.session.proofs.SpacedWords.{clean, plain_name}

pub name_is_text : (name : List ℕ) → is_name MAX_FILE_NAME name ≡ true → IsUtf8 name
name_is_text name h = (clean name (plain_name MAX_FILE_NAME name (is_name_from MAX_FILE_NAME name h))).utf8
