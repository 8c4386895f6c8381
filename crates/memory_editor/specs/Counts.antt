-- The counts of many lines in one call.
use Rattle.std.specs.Prelude.{ℕ, ◌+◌, Bool, true, false, Option, None, Some}
use Rattle.memory_editor.specs.declared.lines_done.LinesDone.{LinesDone}

-- no line was done
abbrev pub no_lines_done : LinesDone
no_lines_done = record { lines = 0; bytes = 0; replies = 0; is_refused = false; has_room = true }

-- one line more, of so many bytes; its reply put so many into the buffer, or had no room
abbrev pub with_line : ℕ → Bool → Option ℕ → LinesDone → LinesDone
with_line bytes refused (Some size) done =
    record { lines = done.lines + 1; bytes = done.bytes + bytes; replies = done.replies + size; is_refused = refused; has_room = true }
with_line bytes refused None done =
    record { lines = done.lines + 1; bytes = done.bytes + bytes; replies = done.replies; is_refused = refused; has_room = false }
