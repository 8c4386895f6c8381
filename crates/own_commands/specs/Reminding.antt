-- What a reminder is.
use Rattle.std.specs.Prelude.{codes, nat_eq, string_bytes}
use Rattle.command_api.specs.Law.{Change}
use Rattle.command_api.specs.Names.{Free, untagged}
use Rattle.own_commands.specs.declared.reminder.Reminder.{Reminder}

-- a free command that leaves each document as it is, and is obsolete once no turn is left
abbrev pub reminder_change : Reminder → Change
reminder_change r = record {
  names = untagged (string_bytes r.text) (codes "reminder") Free;
  obsolete = nat_eq r.turns_left 0;
  redone = λ d. d;
  undone = λ d. d;
  fits_redo = λ d. Unit {0};
  fits_undo = λ d. Unit {0};
}
