-- Which lines are refused at one of their words.
use Rattle.std.specs.Prelude.{Bool, true, false, ◌&&◌, Result, Ok, Err}
use Rattle.refusals.specs.declared.line_fault.LineFault.{LineFault}
use Rattle.refusals.specs.declared.line_fault.LineFault.TheVariants.{BadWord, NotUtf8, TooLong, UnknownCommand}
use Rattle.session.specs.declared.line.Line.{Line}
use Rattle.session.specs.declared.more_line.MoreLine.{MoreLine}

-- a fault is at one of the words of a line, and not of the line as a whole
abbrev pub is_of_word : LineFault → Bool
is_of_word TooLong = false
is_of_word NotUtf8 = false
is_of_word UnknownCommand = true
is_of_word BadWord = true

-- what is read of a line is a fault at one of its words
abbrev pub is_at_word : Result Line LineFault → Bool
is_at_word (Ok line) = false
is_at_word (Err fault) = is_of_word fault

-- what is read as a line for all edits is a fault at one of its words
abbrev pub is_at_more_word : Result MoreLine LineFault → Bool
is_at_more_word (Ok line) = false
is_at_more_word (Err fault) = is_of_word fault

-- what is read of a line is a fault at one of its words, and so is what is read of it as a line for all edits
abbrev pub is_at_word_of_any : Result Line LineFault → Result MoreLine LineFault → Bool
is_at_word_of_any read more = is_at_word read && is_at_more_word more
