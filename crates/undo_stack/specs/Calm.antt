-- Entries without a command that is obsolete. What stands in an ended macro is not looked at.
use Rattle.std.specs.Prelude.{◌≡◌, List, Bool, true, false, ◌&&◌}
use Rattle.std.specs.List.{All}
use Rattle.map_model.specs.Document.{DocumentParts}
use Rattle.command_api.specs.Law.{Change}
use Rattle.command_api.specs.Names.{is_free}
use Rattle.undo_stack.specs.Entries.{entry_change}
use Rattle.undo_stack.specs.declared.entry.Entry.{Entry}

-- the change is that of a free command, and no turn of it changes anything
pub record IsGone (c : Change) : Type 0 where
  pub free : is_free c.names.vanishing ≡ true
  pub redone : (d : DocumentParts) → c.fits_redo d → c.redone d ≡ d
  pub undone : (d : DocumentParts) → c.fits_undo d → c.undone d ≡ d

-- whether the change is that of a free command that reports itself obsolete
abbrev pub is_gone : Change → Bool
is_gone c = is_free c.names.vanishing && c.obsolete

-- the change is not obsolete
abbrev pub IsLive : Change → Type 0
IsLive c = c.obsolete ≡ false

-- none of these entries is a command that is obsolete
abbrev pub AreLive : {C : Type 0} → (C → Change) → List (Entry C) → Type 0
AreLive {C} f es = All (λ (e : Entry C). IsLive (entry_change f e)) es

-- none of these entries is a free command
abbrev pub NoneFree : {C : Type 0} → (C → Change) → List (Entry C) → Type 0
NoneFree {C} f es = All (λ (e : Entry C). is_free (entry_change f e).names.vanishing ≡ false) es
