-- An editor whose open documents have changed, and one whose active stack was lent and left as s.
use Rattle.std.proofs.Common.{◌≡◌, ◌≤◌, length, Some, arith, refl, subst, sym}
use Rattle.command_api.specs.Law.{Change}
use Rattle.undo_stack.specs.History.{History}
use Rattle.undo_stack.specs.Stacks.{history, Holds}
use Rattle.undo_stack.specs.Turning.{IsSteady}
use Rattle.undo_stack.specs.declared.stack.Stack.{Stack}
use Rattle.undo_stack.proofs.Views.{length-own}
use Rattle.undo_group.specs.Groups.{GroupParts}
use Rattle.undo_group.specs.Groups as groups
use Rattle.undo_group.specs.Lending.{IsLeft}
use Rattle.undo_group.specs.Stacks.{group_of, stack_at}
use Rattle.document_lines.specs.Machine.{active_of, with_active}
use Rattle.editor.specs.declared.editor.Editor.{Editor}
use Rattle.editor.specs.Editors.{AreSteady, IsHeld, IsSound, machine_of, stacks_in}
use Rattle.editor.specs.Turns.{PutsActive}
use Rattle.editor.proofs.Histories.{active-has, with_active-have}

module _ {C : Type 0} (f : C → Change) where
  -- the editor stands for this group
  pub group-IsSound : (editor : Editor C) (group : GroupParts) → IsHeld f editor → group_of f editor.group ≡ group → AreSteady group.documents
      → IsSound f editor
  group-IsSound editor group held is steady = record { held = held; steady = subst (λ (g : GroupParts). AreSteady g.documents) (sym is) steady }

  -- the position of a stack is among its steps
  pub position-within : (s : Stack C) → Holds f s → (history f s).position ≤ length (history f s).steps
  position-within s sound = omega (arith, sound.own.sound.turnable.within, length-own f s)

  -- the active document is steady
  pub active-IsSteady : (editor : Editor C) (h : History) → IsSound f editor → Some h ≡ active_of (machine_of f editor) → IsSteady h
  active-IsSteady editor h sound at = active-has IsSteady h (group_of f editor.group) sound.steady (sym at)

module _ {C : Type 0} (f : C → Change) (old new : Editor C) (s : Stack C) (same : new.limit ≡ old.limit) (left : IsLeft f old.group s new.group) where
  pub left-IsHeld : IsHeld f old → IsHeld f new
  left-IsHeld held = record { limit = rw same held.limit; group = left.sound }

  pub left-IsSound : IsSteady (history f s) → IsSound f old → IsSound f new
  left-IsSound steady sound =
      group-IsSound f new (groups.with_active (history f s) (group_of f old.group)) (left-IsHeld sound.held) left.group
      (with_active-have IsSteady (history f s) (group_of f old.group) steady sound.steady)

  pub left-machine : machine_of f new ≡ with_active (history f s) (machine_of f old)
  left-machine = rw (same, left.group) refl

-- the active stack s was lent, and left as t
pub put_active : {C : Type 0} (f : C → Change) (old new : Editor C) (s t : Stack C) → new.limit ≡ old.limit → IsLeft f old.group t new.group
    → Holds f s → Some (history f s) ≡ active_of (machine_of f old) → Some s ≡ stack_at (machine_of f old).group.active (stacks_in old) → Holds f t
    → PutsActive f old new s t
put_active f old new s t same left before active was after = record {
  before = before;
  active = sym active;
  was = sym was;
  after = after;
  left = left-machine f old new t same left;
  is = left.stacks;
}
