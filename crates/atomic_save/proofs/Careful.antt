-- A save is careful of what another run has locked.
use Rattle.std.proofs.Common.{◌≡◌, ℕ, Bool, true, false, List, ◌∷◌, inl, refl, sym, subst, arith}
use Rattle.atomic_save.specs.Crash.{Call, claimed, made, access_set, wrote, synced, renamed, folder_synced}
use Rattle.atomic_save.specs.Saving.{IsMade, Only}
use Rattle.atomic_save.specs.TwoRuns.{AreCareful, IsPut, IsRenamed, StaysCareful}
use Rattle.atomic_save.proofs.Filled.{sure}

-- one part of a save after another
pub careful_both : (IsBeside : List ℕ → Type 0) (path : List ℕ) (old middle new : List Call) → StaysCareful IsBeside path old middle
    → StaysCareful IsBeside path middle new → StaysCareful IsBeside path old new
careful_both IsBeside path old middle new first second = λ is_new beside apart careful. second is_new beside apart (first is_new beside apart careful)

-- more paths may be beside the path
pub careful_weaken : (IsBeside IsMore : List ℕ → Type 0) (path : List ℕ) (old new : List Call) → ((at : List ℕ) → IsBeside at → IsMore at)
    → StaysCareful IsBeside path old new → StaysCareful IsMore path old new
careful_weaken IsBeside IsMore path old new more stays = λ is_new beside apart careful. stays is_new (λ at is. beside at (more at is)) apart careful

-- the new file is claimed, filled and renamed
filled_careful_at : (beside path bytes : List ℕ) (ok : Bool) (earlier : List Call) → let old : List Call = made beside true ∷ earlier in
    StaysCareful (Only beside) path old (renamed beside path ok ∷ synced true ∷ wrote bytes true ∷ access_set true ∷ claimed beside true ∷ old)
filled_careful_at beside path bytes ok earlier = λ is_new new apart careful.
    ((apart, refl, refl, (bytes, sure beside bytes true true earlier, (1, omega arith, refl))), ((λ is. refl), (refl, (refl, (new beside refl, careful)))))

pub filled_careful : (beside path bytes : List ℕ) (ok : Bool) (old : List Call) → IsMade beside old
    → StaysCareful (Only beside) path old (renamed beside path ok ∷ synced true ∷ wrote bytes true ∷ access_set true ∷ claimed beside true ∷ old)
filled_careful beside path bytes ok old is = subst (λ (l : List Call). StaysCareful (Only beside) path l
    (renamed beside path ok ∷ synced true ∷ wrote bytes true ∷ access_set true ∷ claimed beside true ∷ l)) (sym is.1)
    (filled_careful_at beside path bytes ok is.0)

pub made_careful : (beside path : List ℕ) (ok : Bool) (old new : List Call) → new ≡ made beside ok ∷ old → StaysCareful (Only beside) path old new
made_careful beside path ok old new e = λ is_new beside_new apart careful.
    subst (AreCareful is_new) (sym e) (beside_new beside refl, careful)

-- once it is renamed, the bytes are put
filled_put_at : (beside path bytes : List ℕ) (earlier : List Call) → let old : List Call = made beside true ∷ earlier in
    IsRenamed path bytes (renamed beside path true ∷ synced true ∷ wrote bytes true ∷ access_set true ∷ claimed beside true ∷ old)
filled_put_at beside path bytes earlier = (
  beside,
  synced true ∷ wrote bytes true ∷ access_set true ∷ claimed beside true ∷ made beside true ∷ earlier,
  refl,
  sure beside bytes true true earlier,
)

pub filled_put : (beside path bytes : List ℕ) (ok : Bool) → ok ≡ true → (old new : List Call)
    → new ≡ renamed beside path ok ∷ synced true ∷ wrote bytes true ∷ access_set true ∷ claimed beside true ∷ old → IsMade beside old
    → IsRenamed path bytes new
filled_put beside path bytes false is_done old new e is = absurd (cc)
filled_put beside path bytes true is_done old new e is = subst (IsRenamed path bytes) (sym e) (subst (λ (l : List Call). IsRenamed path bytes
    (renamed beside path true ∷ synced true ∷ wrote bytes true ∷ access_set true ∷ claimed beside true ∷ l)) (sym is.1) (filled_put_at beside path bytes is.0))

-- the folder is synced behind it
pub put_new : (path bytes : List ℕ) (ok : Bool) → ok ≡ true → (before new : List Call) → new ≡ folder_synced ok ∷ before → IsRenamed path bytes before
    → IsPut path bytes new
put_new path bytes false is_done before new e is = absurd (cc)
put_new path bytes true is_done before new e is = inl (before, e, is)
