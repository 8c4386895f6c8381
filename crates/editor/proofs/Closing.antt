-- A document that is closed: it is clean, or it is not there.
use Rattle.std.proofs.Common.{◌≡◌, ℕ, List, true, Option, Some, None, subst}
use Rattle.undo_stack.specs.History.{History, is_clean}
use Rattle.undo_group.specs.Groups.{removed}
use Rattle.session.specs.declared.reply.Reply.{Reply}
use Rattle.document_lines.specs.Acts.{Closes, GoesOn, IfNamed}
use Rattle.document_lines.specs.Machine.{Machine}

module _ (name : List ℕ) (named : Option History) (old new : Machine) (reply : Option Reply) where
  abbrev pub Goes : Option History → Type 0
  Goes k = IfNamed (λ h. GoesOn (removed name)) k old reply new

  goes_by : (k : Option History) → named ≡ k → Goes named → Goes k
  goes_by k is goes = subst Goes is goes

  pub clean-Closes : (h : History) → named ≡ Some h → true ≡ is_clean h → Goes named
      → IfNamed (Closes name) named old reply new
  clean-Closes h is clean goes = rw (is, ← clean) (goes_by (Some h) is goes)

  pub absent-Closes : named ≡ None → Goes named → IfNamed (Closes name) named old reply new
  absent-Closes is goes = rw is (goes_by None is goes)
