-- The calls of a save: the new file is filled, put in place, and kept there.
use Rattle.std.proofs.Common.{◌≡◌, ◌≢◌, inl, inr, ℕ, Bool, true, false, not, List, ◌∷◌, ◌++◌, length, Option, Some, None, option_map, refl, sym, ap, subst, ◌∙◌}
use Rattle.std.proofs.Common.{arith}
use Rattle.std.proofs.lemmas.Bool.{cond-true}
use Rattle.atomic_save.specs.Crash.{Call, name_locked, looked, folder_opened, listed, seized, claimed, compared, removed, made, access_set, wrote, synced}
use Rattle.atomic_save.specs.Crash.{renamed, folder_synced, none_refused, Standing, file, nothing, Names, with_name, after_call, Found, Disk, held, Stand}
use Rattle.atomic_save.specs.Crash.{MayStand, newest, kept, is_newest_made, spoils}
use Rattle.atomic_save.specs.Saving.{LosesNothing, IsKept, IsInPlace, IsMade, IsBeside, Only, NoPath}
use Rattle.atomic_save.proofs.Sure.{StaysSure, itself, kept_none, wrote_stays, synced_stays}
use Rattle.atomic_save.proofs.Calls.{with_same, with_other, one_call, harmless, both, none}

-- ---- where the new file stands
abbrev StandsAt : List ℕ → Standing → List Call → Type 0
StandsAt path standing calls = (start : Found) (disk : Disk) (names : Names) → Stand start disk calls names → names path ≡ standing

made_stands : (path : List ℕ) (calls : List Call) → StandsAt path (file (length calls)) (made path true ∷ calls)
made_stands path calls start disk names (before, s, shows, inl e) = ap (λ (f : Names). f path) e ∙ with_same path (file (length calls)) before
made_stands path calls start disk names (before, s, shows, inr (inl (failed, e))) = absurd (cc)
made_stands path calls start disk names (before, s, shows, inr (inr spoiled)) = absurd (cc)

-- a call that changes no name
call_stands : (path : List ℕ) (standing : Standing) (call : Call) (calls : List Call) → spoils call calls ≡ false
    → ((names : Names) → after_call call (length calls) names ≡ names) → StandsAt path standing calls → StandsAt path standing (call ∷ calls)
call_stands path standing call calls spares leaves at start disk names (before, s, shows, inl e) =
    ap (λ (f : Names). f path) (e ∙ leaves before) ∙ at start disk before s
call_stands path standing call calls spares leaves at start disk names (before, s, shows, inr (inl (failed, e))) =
    ap (λ (f : Names). f path) e ∙ at start disk before s
call_stands path standing call calls spares leaves at start disk names (before, s, shows, inr (inr spoiled)) = absurd (cc)

-- ---- harmless calls
module _ (IsBeside : List ℕ → Type 0) (path bytes : List ℕ) (apart : IsBeside path → ⊥) where
  abbrev Loses : List Call → List Call → Type 0
  Loses old new = LosesNothing IsBeside path bytes old new

  -- a call that changes no name, and leaves what is sure of each file
  pub and_asked : (call : Call) (old calls : List Call) → spoils call calls ≡ false → ((names : Names) → after_call call (length calls) names ≡ names)
      → StaysSure calls (call ∷ calls) → Loses old calls → Loses old (call ∷ calls)
  and_asked call old calls spares leaves stays so_far = both IsBeside path bytes old calls (call ∷ calls) so_far
      (harmless IsBeside path bytes call calls spares apart (λ names other b. ap (λ (f : Names). f other) (leaves names)) stays)

  pub and_removed : (at : List ℕ) (ok : Bool) (old calls : List Call) → IsBeside at → Loses old calls → Loses old (removed at ok ∷ calls)
  and_removed at ok old calls beside so_far = both IsBeside path bytes old calls (removed at ok ∷ calls) so_far
      (harmless IsBeside path bytes (removed at ok) calls refl apart
      (λ names other b. with_other at nothing names other (λ q. b (subst IsBeside (sym q) beside))) (λ number sure e. e))

  pub and_made : (at : List ℕ) (ok : Bool) (old calls : List Call) → IsBeside at → Loses old calls → Loses old (made at ok ∷ calls)
  and_made at ok old calls beside so_far = both IsBeside path bytes old calls (made at ok ∷ calls) so_far
      (harmless IsBeside path bytes (made at ok) calls refl apart
      (λ names other b. with_other at (file (length calls)) names other (λ q. b (subst IsBeside (sym q) beside))) (λ number sure e. e))

  -- a write to, or a sync of, a file of which nothing is sure
  pub and_wrote : (more : List ℕ) (ok : Bool) (old calls : List Call) → is_newest_made calls ≡ true → kept (newest calls) calls ≡ None → Loses old calls
      → Loses old (wrote more ok ∷ calls)
  and_wrote more ok old calls of_made unsure = and_asked (wrote more ok) old calls (ap not of_made) (λ names. refl) (wrote_stays more ok calls unsure)

  pub and_synced : (ok : Bool) (old calls : List Call) → kept (newest calls) calls ≡ None → Loses old calls → Loses old (synced ok ∷ calls)
  and_synced ok old calls unsure = and_asked (synced ok) old calls refl (λ names. refl) (synced_stays ok calls unsure)

  -- the new file takes the old one's place
  pub and_renamed : (beside : List ℕ) (ok : Bool) (old calls : List Call) → IsBeside beside → IsInPlace beside bytes calls → Loses old calls
      → Loses old (renamed beside path ok ∷ calls)
  and_renamed beside ok old calls is_beside in_place so_far = both IsBeside path bytes old calls (renamed beside path ok ∷ calls) so_far
      (one_call IsBeside path bytes (renamed beside path ok) calls refl
      (λ names other a b. with_other beside nothing (with_name path (names beside) names) other (λ q. b (subst IsBeside (sym q) is_beside))
      ∙ with_other path (names beside) names other a)
      (λ start disk names is s. inr (ap (held start disk) (moved beside names is_beside) ∙ in_place start disk names is s))
      (λ number sure e. e))
    where
      moved : (beside : List ℕ) (names : Names) → IsBeside beside → with_name beside nothing (with_name path (names beside) names) path ≡ names beside
      moved beside names is_beside = with_other beside nothing (with_name path (names beside) names) path (λ q. apart (subst IsBeside (sym q) is_beside))
          ∙ with_same path (names beside) names

-- ---- the new bytes in place
module _ (beside path bytes : List ℕ) (apart : beside ≢ path) where
  pub renamed_in_place : (calls : List Call) → IsInPlace beside bytes calls → IsInPlace path bytes (renamed beside path true ∷ calls)
  renamed_in_place calls in_place start disk names is (before, s, shows, inl e) =
      ap (λ (f : Names). held start disk (f path)) e
      ∙ ap (held start disk) (with_other beside nothing (with_name path (before beside) before) path (λ q. apart (sym q)) ∙ with_same path (before beside)
      before)
      ∙ in_place start disk before is s
  renamed_in_place calls in_place start disk names is (before, s, shows, inr (inl (failed, e))) = absurd (cc)
  renamed_in_place calls in_place start disk names is (before, s, shows, inr (inr spoiled)) = absurd (cc)

pub folder_synced_kept : (path bytes : List ℕ) (calls : List Call) → IsInPlace path bytes calls → IsKept path bytes (folder_synced true ∷ calls)
folder_synced_kept path bytes calls in_place start found m = m.each path ∙ at m.names m.stand
  where
    at : (names : Names) → MayStand start m.disk (folder_synced true ∷ calls) names → held start m.disk (names path) ≡ Some bytes
    at names (inl (before, s, shows, inl e)) = ap (λ (f : Names). held start m.disk (f path)) e ∙ in_place start m.disk before m.sure s
    at names (inl (before, s, shows, inr (inl (failed, e)))) = absurd (cc)
    at names (inl (before, s, shows, inr (inr spoiled))) = absurd (cc)
    at names (inr (unsynced, may)) = absurd (cc)

pub folder_kept : (path bytes : List ℕ) (ok : Bool) (calls : List Call) → ok ≡ true → IsInPlace path bytes calls → IsKept path bytes (folder_synced ok ∷ calls)
folder_kept path bytes false calls e in_place = absurd (cc)
folder_kept path bytes true calls e in_place = folder_synced_kept path bytes calls in_place

-- what was read as these bytes, and synced
pub compared_in_place : (path bytes : List ℕ) (calls : List Call) → none_refused calls ≡ true
    → IsInPlace path bytes (synced true ∷ compared path bytes true ∷ calls)
compared_in_place path bytes calls none start disk names is (before, s, shows, inl e) = ap (λ (f : Names). held start disk (f path)) e ∙ shows none
compared_in_place path bytes calls none start disk names is (before, s, shows, inr (inl (failed, e))) = absurd (cc)
compared_in_place path bytes calls none start disk names is (before, s, shows, inr (inr spoiled)) = absurd (cc)

-- ---- the new file, filled
module _ (beside bytes : List ℕ) (claimed_ok access_ok : Bool) (old : List Call) where
  abbrev pub made_calls : List Call
  made_calls = claimed beside claimed_ok ∷ made beside true ∷ old

  abbrev pub set_calls : List Call
  set_calls = access_set access_ok ∷ made_calls

  abbrev pub wrote_calls : Bool → List Call
  wrote_calls ok = wrote bytes ok ∷ set_calls

  pub unsure_made : kept (newest set_calls) set_calls ≡ None
  unsure_made = kept_none (length old) old (omega arith)

  pub unsure_wrote : (ok : Bool) → kept (newest (wrote_calls ok)) (wrote_calls ok) ≡ None
  unsure_wrote ok = cond-true _ _ _ (itself (length old))

  pub sure : kept (length old) (synced true ∷ wrote_calls true) ≡ Some bytes
  sure =
      cond-true _ _ _ (itself (length old)) ∙ cond-true _ _ _ (itself (length old))
      ∙ ap (λ (w : Option (List ℕ)). option_map (λ before. before ++ bytes) w) (cond-true _ _ _ (itself (length old)))

  stands : StandsAt beside (file (length old)) (synced true ∷ wrote_calls true)
  stands =
      let it = file (length old) in
      call_stands beside it (synced true) (wrote_calls true) refl (λ names. refl) (call_stands beside it (wrote bytes true) set_calls refl (λ names. refl)
      (call_stands beside it (access_set access_ok) made_calls refl (λ names. refl)
      (call_stands beside it (claimed beside claimed_ok) (made beside true ∷ old) refl (λ names. refl) (made_stands beside old))))

  pub filled_in_place : IsInPlace beside bytes (synced true ∷ wrote_calls true)
  filled_in_place start disk names is s = ap (held start disk) (stands start disk names s) ∙ ap (λ (b : List ℕ). Some b) (is (length old) bytes sure)

-- ---- where `fill` may end, by the calls that were made up to there
module _ (beside path bytes : List ℕ) (apart : beside ≢ path) where
  abbrev Leaves : List Call → List Call → Type 0
  Leaves old new = LosesNothing (Only beside) path bytes old new

  off : Only beside path → ⊥
  off q = apart (sym q)

  start : (calls : List Call) → Leaves calls calls
  start calls = none (Only beside) path bytes calls

  pub claimed_exit : (ok : Bool) (old : List Call) → Leaves old (claimed beside ok ∷ old)
  claimed_exit ok old = and_asked (Only beside) path bytes off (claimed beside ok) old old refl (λ names. refl) (λ number sure e. e) (start old)

  pub removed_exit : (claim ok : Bool) (old : List Call) → Leaves old (removed beside ok ∷ claimed beside claim ∷ old)
  removed_exit claim ok old = and_removed (Only beside) path bytes off beside ok old (claimed beside claim ∷ old) refl (claimed_exit claim old)

  pub made_exit : (ok : Bool) (old : List Call) → Leaves old (made beside ok ∷ old)
  made_exit ok old = and_made (Only beside) path bytes off beside ok old old refl (start old)

  pub folder_exit : (ok : Bool) (old calls : List Call) → Leaves old calls → Leaves old (folder_synced ok ∷ calls)
  folder_exit ok old calls = and_asked (Only beside) path bytes off (folder_synced ok) old calls refl (λ names. refl) (λ number sure e. e)

  access_exit : (ok : Bool) (earlier : List Call) → let old : List Call = made beside true ∷ earlier in
      Leaves old (access_set ok ∷ claimed beside true ∷ old)
  access_exit ok earlier = and_asked (Only beside) path bytes off (access_set ok) (made beside true ∷ earlier)
      (claimed beside true ∷ made beside true ∷ earlier) refl (λ names. refl) (λ number sure e. e) (claimed_exit true (made beside true ∷ earlier))

  wrote_exit : (ok : Bool) (earlier : List Call) → let old : List Call = made beside true ∷ earlier in
      Leaves old (wrote bytes ok ∷ access_set true ∷ claimed beside true ∷ old)
  wrote_exit ok earlier = and_wrote (Only beside) path bytes off bytes ok (made beside true ∷ earlier) (set_calls beside bytes true true earlier) refl
      (unsure_made beside bytes true true earlier) (access_exit true earlier)

  synced_exit : (ok : Bool) (earlier : List Call) → let old : List Call = made beside true ∷ earlier in
      Leaves old (synced ok ∷ wrote bytes true ∷ access_set true ∷ claimed beside true ∷ old)
  synced_exit ok earlier = and_synced (Only beside) path bytes off ok (made beside true ∷ earlier) (wrote_calls beside bytes true true earlier true)
      (unsure_wrote beside bytes true true earlier true) (wrote_exit true earlier)

  renamed_exit : (ok : Bool) (earlier : List Call) → let old : List Call = made beside true ∷ earlier in
      Leaves old (renamed beside path ok ∷ synced true ∷ wrote bytes true ∷ access_set true ∷ claimed beside true ∷ old)
  renamed_exit ok earlier = and_renamed (Only beside) path bytes off beside ok (made beside true ∷ earlier)
      (synced true ∷ wrote_calls beside bytes true true earlier true) refl (filled_in_place beside bytes true true earlier) (synced_exit true earlier)

  -- a claim that was made of the list with the file that was made is one of the list at the start
  at_old : (old : List Call) → IsMade beside old → (P : List Call → Type 0) → ((earlier : List Call) → P (made beside true ∷ earlier)) → P old
  at_old old is P each = subst P (sym is.1) (each is.0)

  pub not_claimed : (old : List Call) → Leaves old (claimed beside false ∷ old)
  not_claimed = claimed_exit false

  pub not_given : (old : List Call) → IsMade beside old → Leaves old (access_set false ∷ claimed beside true ∷ old)
  not_given old is = at_old old is (λ (l : List Call). Leaves l (access_set false ∷ claimed beside true ∷ l)) (access_exit false)

  pub not_written : (old : List Call) → IsMade beside old → Leaves old (wrote bytes false ∷ access_set true ∷ claimed beside true ∷ old)
  not_written old is = at_old old is (λ (l : List Call). Leaves l (wrote bytes false ∷ access_set true ∷ claimed beside true ∷ l)) (wrote_exit false)

  pub not_synced : (old : List Call) → IsMade beside old → Leaves old (synced false ∷ wrote bytes true ∷ access_set true ∷ claimed beside true ∷ old)
  not_synced old is = at_old old is (λ (l : List Call). Leaves l (synced false ∷ wrote bytes true ∷ access_set true ∷ claimed beside true ∷ l))
      (synced_exit false)

  pub renamed_or_not : (ok : Bool) (old : List Call) → IsMade beside old
      → Leaves old (renamed beside path ok ∷ synced true ∷ wrote bytes true ∷ access_set true ∷ claimed beside true ∷ old)
  renamed_or_not ok old is = at_old old is (λ (l : List Call). Leaves l
      (renamed beside path ok ∷ synced true ∷ wrote bytes true ∷ access_set true ∷ claimed beside true ∷ l)) (renamed_exit ok)

  pub placed : (ok : Bool) → ok ≡ true → (old : List Call) → IsMade beside old
      → IsInPlace path bytes (renamed beside path ok ∷ synced true ∷ wrote bytes true ∷ access_set true ∷ claimed beside true ∷ old)
  placed false e old is = absurd (cc)
  placed true e old is = at_old old is (λ (l : List Call). IsInPlace path bytes
      (renamed beside path true ∷ synced true ∷ wrote bytes true ∷ access_set true ∷ claimed beside true ∷ l))
      (λ earlier. renamed_in_place beside path bytes apart (synced true ∷ wrote_calls beside bytes true true earlier true)
      (filled_in_place beside bytes true true earlier))

-- ---- where a comparison may end
module _ (path bytes : List ℕ) where
  pub compared_exit : (same : Bool) (old : List Call) → LosesNothing NoPath path bytes old (compared path bytes same ∷ old)
  compared_exit same old = and_asked NoPath path bytes (λ q. q) (compared path bytes same) old old refl (λ names. refl) (λ number sure e. e)
      (none NoPath path bytes old)

  pub compared_synced_exit : (same ok : Bool) (old : List Call) → LosesNothing NoPath path bytes old (synced ok ∷ compared path bytes same ∷ old)
  compared_synced_exit same ok old = and_synced NoPath path bytes (λ q. q) ok old (compared path bytes same ∷ old) (kept_none (length old) old (omega arith))
      (compared_exit same old)

  pub compared_kept_exit : (same ok kept_now : Bool) (old : List Call)
      → LosesNothing NoPath path bytes old (folder_synced kept_now ∷ synced ok ∷ compared path bytes same ∷ old)
  compared_kept_exit same ok kept_now old = and_asked NoPath path bytes (λ q. q) (folder_synced kept_now) old (synced ok ∷ compared path bytes same ∷ old) refl
      (λ names. refl) (λ number sure e. e) (compared_synced_exit same ok old)

-- ---- what else a save asks
module _ (front path bytes : List ℕ) (apart : IsBeside front path → ⊥) where
  abbrev Saves : List Call → List Call → Type 0
  Saves old new = LosesNothing (IsBeside front) path bytes old new

  begun : (calls : List Call) → Saves calls calls
  begun calls = none (IsBeside front) path bytes calls

  pub listed_exit : (ok : Bool) (old : List Call) → Saves old (listed ok ∷ old)
  listed_exit ok old = and_asked (IsBeside front) path bytes apart (listed ok) old old refl (λ names. refl) (λ number sure e. e) (begun old)

  pub seized_exit : (at : List ℕ) (ok : Bool) (old : List Call) → Saves old (seized at ok ∷ old)
  seized_exit at ok old = and_asked (IsBeside front) path bytes apart (seized at ok) old old refl (λ names. refl) (λ number sure e. e) (begun old)

  pub cleared_exit : (at : List ℕ) (seize ok : Bool) (old : List Call) → IsBeside front at → Saves old (removed at ok ∷ seized at seize ∷ old)
  cleared_exit at seize ok old beside = and_removed (IsBeside front) path bytes apart at ok old (seized at seize ∷ old) beside (seized_exit at seize old)

  pub locked_exit : (at : List ℕ) (ok : Bool) (old : List Call) → Saves old (name_locked at ok ∷ old)
  locked_exit at ok old = and_asked (IsBeside front) path bytes apart (name_locked at ok) old old refl (λ names. refl) (λ number sure e. e) (begun old)

  pub looked_exit : (at : List ℕ) (ok : Bool) (old : List Call) → Saves old (looked at ok ∷ old)
  looked_exit at ok old = and_asked (IsBeside front) path bytes apart (looked at ok) old old refl (λ names. refl) (λ number sure e. e) (begun old)

  pub opened_exit : (at : List ℕ) (look ok : Bool) (old : List Call) → Saves old (folder_opened ok ∷ looked at look ∷ old)
  opened_exit at look ok old = and_asked (IsBeside front) path bytes apart (folder_opened ok) old (looked at look ∷ old) refl
      (λ names. refl) (λ number sure e. e) (looked_exit at look old)
