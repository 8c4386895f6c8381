-- Commands that do the same.
use Rattle.std.proofs.Common.{◌≡◌, ap}
use Rattle.command_api.specs.Law.{Change, IsSame}

-- equal commands do the same
pub same-IsSame : (v w : Change) → w ≡ v → IsSame v w
same-IsSame v w e = record {
  names = ap (λ (c : Change). c.names) e;
  obsolete = ap (λ (c : Change). c.obsolete) e;
  redone = λ d. ap (λ (c : Change). c.redone d) e;
  undone = λ d. ap (λ (c : Change). c.undone d) e;
  fits_redo = λ d. rw e ((λ p. p), (λ p. p));
  fits_undo = λ d. rw e ((λ p. p), (λ p. p));
}
