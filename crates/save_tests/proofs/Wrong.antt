-- Runs of calls that lose a map: the model tells them from a save.
use Rattle.std.proofs.Common.{◌≡◌, ◌≢◌, inl, inr, ⊎_elim, ℕ, Bool, true, false, cond, ◌==◌, List, [], ◌∷◌, ◌++◌, length, Option, Some, None, option_map, refl}
use Rattle.std.proofs.Common.{sym, ap, ◌∙◌, arith}
use Rattle.std.proofs.lemmas.Bool.{cond-true}
use Rattle.atomic_save.specs.Crash.{Call, compared, removed, made, wrote, synced, renamed, folder_synced, Standing, first, file, nothing, Names, with_name}
use Rattle.atomic_save.specs.Crash.{Found, Disk, held, Stand, MayStand, kept, IsDisk, MayBeFound}
use Rattle.atomic_save.specs.Saving.{LosesNothing, IsKept, Only}
use Rattle.atomic_save.proofs.Calls.{with_same, with_other}

-- no file was there at first
abbrev Empty : Found
Empty = λ path. None

-- a disk on which nothing is sure of a file
abbrev torn : List ℕ → Disk
torn bytes = λ number. 0 ∷ bytes

-- before the first call of all, what is found is what was there
at_first : (start before : Found) → MayBeFound start [] before → (path : List ℕ) → before path ≡ start path
at_first start before m path = m.each path ∙ ap (λ (f : Names). held start m.disk (f path)) m.stand

-- what may be found where these names stand, and nothing is sure of any file
torn_found : (start : Found) (bytes : List ℕ) (calls : List Call) (names : Names) → ((number : ℕ) → kept number calls ≡ None)
    → MayStand start (torn bytes) calls names
    → MayBeFound start calls (λ path. held start (torn bytes) (names path))
torn_found start bytes calls names unsure may = record {
  disk = torn bytes;
  names = names;
  sure = λ number sure e. let both : None ≡ Some sure = sym (unsure number) ∙ e in absurd (cc);
  stand = may;
  each = λ path. refl;
}

-- under the path stands neither what stood there nor the new bytes
loses_it : (beside path bytes : List ℕ) (calls : List Call) (start found : Found) → MayBeFound start calls found → (found path ≡ start path → ⊥)
    → (found path ≡ Some bytes → ⊥) → LosesNothing (Only beside) path bytes [] calls → ⊥
loses_it beside path bytes calls start found m not_old not_new loses =
    let r = loses.each [] calls refl (omega arith) start found m in
    ⊎_elim (λ (e : found path ≡ r.0 path). not_old (e ∙ at_first start r.0 r.1 path)) not_new r.2.whole

longer : (bytes : List ℕ) → Some (0 ∷ bytes) ≡ Some bytes → ⊥
longer bytes e = let same : 0 ∷ bytes ≡ bytes = cc in omega (arith, ap length same)

-- a torn file under the path, where there was none
torn_there : (beside path bytes : List ℕ) (calls : List Call) (names : Names) → ((number : ℕ) → kept number calls ≡ None)
    → MayStand Empty (torn bytes) calls names → names path ≡ file 0 → LosesNothing (Only beside) path bytes [] calls → ⊥
torn_there beside path bytes calls names unsure may at =
    let found : Found = λ other. held Empty (torn bytes) (names other) in
    let is : found path ≡ Some (0 ∷ bytes) = ap (λ (s : Standing). held Empty (torn bytes) s) at in
    loses_it beside path bytes calls Empty found (torn_found Empty bytes calls names unsure may)
    (λ e. let no : Some (0 ∷ bytes) ≡ None = sym is ∙ e in absurd (cc))
    (λ e. longer bytes (sym is ∙ e))

-- nothing is sure
abbrev unsure : Option (List ℕ)
unsure = None

either_none : (b : Bool) → cond b unsure unsure ≡ unsure
either_none true = refl
either_none false = refl

-- each is what is sure of a file after the calls below, by whether the first call made it
again_none : (bytes : List ℕ) (b : Bool) → cond b (cond b None
    (cond b (option_map (λ before. before ++ bytes) (cond b (Some []) None)) (cond b (Some []) None))) (cond b None (cond b None None)) ≡ None
again_none bytes true = refl
again_none bytes false = refl

refused_none : (b c : Bool) → cond b (cond c unsure unsure) (cond c unsure unsure) ≡ unsure
refused_none true true = refl
refused_none true false = refl
refused_none false true = refl
refused_none false false = refl

sure_is : (bytes : List ℕ) (b : Bool) (sure : List ℕ)
    → cond b (cond b (option_map (λ before. before ++ bytes) (cond b (Some []) None)) (cond b (Some []) None)) (cond b None None) ≡ Some sure → bytes ≡ sure
sure_is bytes true sure e = cc
sure_is bytes false sure e = absurd (cc)

module _ (beside path bytes : List ℕ) (apart : beside ≢ path) where
  abbrev made_names : Names
  made_names = with_name beside (file 0) first

  abbrev moved_names : Names
  moved_names = with_name beside nothing (with_name path (made_names beside) made_names)

  moved_at : moved_names path ≡ file 0
  moved_at = with_other beside nothing (with_name path (made_names beside) made_names) path (λ q. apart (sym q)) ∙ with_same path (made_names beside) made_names
      ∙ with_same beside (file 0) first

  pub renamed_too_soon : LosesNothing (Only beside) path bytes [] (renamed beside path true ∷ wrote bytes true ∷ made beside true ∷ []) → ⊥
  renamed_too_soon = torn_there beside path bytes (renamed beside path true ∷ wrote bytes true ∷ made beside true ∷ []) moved_names
      (λ number. either_none (0 == number))
      (inl (made_names, (made_names, (first, refl, tt, inl refl), tt, inl refl), tt, inl refl)) moved_at

  pub synced_again : LosesNothing (Only beside) path bytes [] (renamed beside path true ∷ synced true ∷ synced false ∷ wrote bytes true ∷ made beside true ∷ [])
      → ⊥
  synced_again = torn_there beside path bytes (renamed beside path true ∷ synced true ∷ synced false ∷ wrote bytes true ∷ made beside true ∷ []) moved_names
      (λ number. again_none bytes (0 == number))
      (inl (made_names, (made_names, (made_names, (made_names, (first, refl, tt, inl refl), tt, inl refl), tt, inl refl), tt, inl refl), tt, inl refl)) moved_at

  pub written_in_place : LosesNothing (Only beside) path bytes [] (made path true ∷ []) → ⊥
  written_in_place = torn_there beside path bytes (made path true ∷ []) (with_name path (file 0) first) (λ number. refl) (inl (first, refl, tt, inl refl))
      (with_same path (file 0) first)

  pub removed_first : LosesNothing (Only beside) path bytes [] (removed path true ∷ []) → ⊥
  removed_first =
      let start : Found = λ other. Some [] in
      let names : Names = with_name path nothing first in
      let found : Found = λ other. held start (torn bytes) (names other) in
      let is : found path ≡ None = ap (λ (s : Standing). held start (torn bytes) s) (with_same path nothing first) in
      loses_it beside path bytes (removed path true ∷ []) start found
      (torn_found start bytes (removed path true ∷ []) names (λ number. refl) (inl (first, refl, tt, inl refl)))
      (λ e. let no : None ≡ Some [] = sym is ∙ e in absurd (cc))
      (λ e. let no : None ≡ Some bytes = sym is ∙ e in absurd (cc))

  pub appended : (old : List ℕ) → LosesNothing (Only beside) path bytes [] (wrote bytes true ∷ compared path old true ∷ []) → ⊥
  appended old =
      let start : Found = λ other. Some [] in
      let names : Names = with_name path nothing first in
      let calls = wrote bytes true ∷ compared path old true ∷ [] in
      let found : Found = λ other. held start (torn bytes) (names other) in
      let is : found path ≡ None = ap (λ (s : Standing). held start (torn bytes) s) (with_same path nothing first) in
      loses_it beside path bytes calls start found
      (torn_found start bytes calls names (λ number. either_none (0 == number)) (inl (first, (first, refl, tt, inl refl), tt, inr (inr refl))))
      (λ e. let no : None ≡ Some [] = sym is ∙ e in absurd (cc))
      (λ e. let no : None ≡ Some bytes = sym is ∙ e in absurd (cc))

-- where the path had nothing at first, and what was done since is not found
gone : (path bytes : List ℕ) (calls : List Call) (disk : Disk) → IsDisk disk calls → MayStand Empty disk calls first → IsKept path bytes calls → ⊥
gone path bytes calls disk is may keeps =
    let m : MayBeFound Empty calls Empty = record { disk = disk; names = first; sure = is; stand = may; each = λ other. refl } in
    let no : None ≡ Some bytes = keeps Empty Empty m in absurd (cc)

pub not_kept_by_a_rename : (beside path bytes : List ℕ) → IsKept path bytes (renamed beside path true ∷ synced true ∷ wrote bytes true ∷ made beside true ∷ [])
    → ⊥
not_kept_by_a_rename beside path bytes = gone path bytes (renamed beside path true ∷ synced true ∷ wrote bytes true ∷ made beside true ∷ []) (λ number. bytes)
    (λ number sure e. sure_is bytes (0 == number) sure e)
    (inr (refl, inr (refl, inr (refl, inr (refl, refl)))))

pub not_synced : (path bytes : List ℕ) → IsKept path bytes (folder_synced true ∷ compared path bytes true ∷ []) → ⊥
not_synced path bytes = gone path bytes (folder_synced true ∷ compared path bytes true ∷ []) (torn bytes) (λ number sure e. absurd (cc))
    (inl (first, (first, refl, tt, inl refl), tt, inl refl))

pub failed_before : (path bytes : List ℕ) → IsKept path bytes (folder_synced true ∷ synced true ∷ compared path bytes true ∷ synced false ∷ []) → ⊥
failed_before path bytes = gone path bytes (folder_synced true ∷ synced true ∷ compared path bytes true ∷ synced false ∷ []) (torn bytes)
    (λ number sure e. let both : None ≡ Some sure = sym (refused_none (1 == number) (0 == number)) ∙ e in absurd (cc))
    (inl (first, (first, (first, (first, refl, tt, inr (inl (refl, refl))), tt, inl refl), (λ no. absurd (cc)), inl refl), tt, inl refl))
