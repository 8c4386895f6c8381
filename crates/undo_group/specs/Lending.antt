-- What a group ends as, once the stack that it lent is given back.
use Rattle.std.specs.Prelude.{◌≡◌, Option}
use Rattle.std.specs.Borrow.{LendsSo, MutBor, Fml}
use denote.RattleType.{RattleType}
use Rattle.command_api.specs.Law.{Change}
use Rattle.undo_stack.specs.Stacks.{history, Holds}
use Rattle.undo_stack.specs.declared.stack.Stack.{Stack}
use Rattle.undo_stack.specs.contracts.stack.Stack.{the_row as stack_row}
use Rattle.undo_group.specs.Groups.{with_active}
use Rattle.undo_group.specs.Stacks.{group_of, stacks_of, AreHeld, IsReplacedAt}
use Rattle.undo_group.specs.declared.group.Group.{Group}
use Rattle.undo_group.specs.contracts.group.Group.{the_row}

-- the group g ends as n, where its active stack is left as s
pub record IsLeft {C : Type 0} (f : C → Change) (g : Group C) (s : Stack C) (n : Group C) : Type 0 where
  pub sound : AreHeld f n
  pub group : group_of f n ≡ with_active (history f s) (group_of f g)
  pub stacks : IsReplacedAt (group_of f g).active (stacks_of g) s (stacks_of n)

-- the group ends with the active stack as it is left behind r, where that holds; at `None` it stays as it is
abbrev pub LendsActive : (R : RattleType) → (R.Denot → Change) → MutBor (Group R.Denot) → Option (MutBor (Stack R.Denot)) → Fml
LendsActive R f g r = LendsSo (the_row R) (stack_row R) g r (λ n s. Holds f s → IsLeft f g.now s n) (λ n. n ≡ g.now)
