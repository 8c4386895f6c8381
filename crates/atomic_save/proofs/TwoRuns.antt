-- Two careful runs lose nothing.
use Rattle.std.proofs.Common.{◌≡◌, ◌≢◌, ◌⊎◌, inl, inr, ⊎_elim, ℕ, ◌<◌, ◌==◌, Bool, true, false, not, List, [], ◌∷◌, ◌++◌, length}
use Rattle.std.proofs.Common.{Some, bytes_eq, refl, sym, ap, subst, ◌∙◌, arith}
use Rattle.std.specs.Prelude.{Contains, is_some}
use Rattle.std.proofs.lemmas.Bool.{cond-true, cond-false, false_from_ne_true}
use Rattle.std.proofs.lemmas.Bool.Decides.{Decides-eqb}
use Rattle.std.proofs.lemmas.List.Elements.{Contains-append_right}
use Rattle.std.proofs.lemmas.Slice.Eq.{bytes_eq-Decides}
use Rattle.atomic_save.specs.Crash.{Disk}
use Rattle.std.proofs.Common.{None, Option, cond}
use Rattle.atomic_save.specs.Crash.{Call, name_locked, looked, folder_opened, listed, seized, claimed, compared, removed, made, access_set, wrote, synced}
use Rattle.atomic_save.specs.Crash.{renamed, folder_synced, Found, is_newest_made, newest, kept}
use Rattle.atomic_save.specs.TwoRuns.{Turn, own, Place, at_first, first, made_by, nothing, Scene, with_name, with_lock, names_after, lock_after, ShowsLock}
use Rattle.atomic_save.specs.TwoRuns.{MayBeDone, Leaves, Stands, MayStandThen, held_there, MayBeFoundThen}
use Rattle.atomic_save.specs.TwoRuns.{locked_path, is_filling, IsCareful, AreCareful, IsWhole, PutNone}
use Rattle.atomic_save.specs.TwoRuns.{HasPutLast, first_save}

-- ---- the calls of each run
own_same : (run : Bool) (call : Call) (turns : List Turn) → own run ((run, call) ∷ turns) ≡ call ∷ own run turns
own_same true call turns = refl
own_same false call turns = refl

own_other : (run : Bool) (call : Call) (turns : List Turn) → own (not run) ((run, call) ∷ turns) ≡ own (not run) turns
own_other true call turns = refl
own_other false call turns = refl

same_or_other : (run who : Bool) → (run ≡ who) ⊎ (run ≡ not who)
same_or_other true true = inl refl
same_or_other true false = inr refl
same_or_other false true = inr refl
same_or_other false false = inl refl

not_not : (run : Bool) → not (not run) ≡ run
not_not true = refl
not_not false = refl

locked_same : (run : Bool) (place : Place) (lock : Bool → Place) → with_lock run place lock run ≡ place
locked_same true place lock = refl
locked_same false place lock = refl

locked_other : (run : Bool) (place : Place) (lock : Bool → Place) → with_lock run place lock (not run) ≡ lock (not run)
locked_other true place lock = refl
locked_other false place lock = refl

-- ---- names
same_path : (path : List ℕ) → bytes_eq path path ≡ true
same_path path = (bytes_eq-Decides path path).1 refl

with_same : (path : List ℕ) (place : Place) (names : List ℕ → Place) → with_name path place names path ≡ place
with_same path place names = cond-true _ _ _ (same_path path)

with_other : (path : List ℕ) (place : Place) (names : List ℕ → Place) (other : List ℕ) → other ≢ path → with_name path place names other ≡ names other
with_other path place names other apart = cond-false _ _ _ (false_from_ne_true (bytes_eq other path) (λ e. apart ((bytes_eq-Decides other path).0 e)))

-- a call leaves what stands under a path
abbrev Spares : Call → Scene → List ℕ → Type 0
Spares (removed at ok) s path = path ≢ at
Spares (made at ok) s path = (s.names path ≢ nothing) ⊎ (path ≢ at)
Spares (renamed from to ok) s path = (path ≢ from) × (path ≢ to)
Spares call s path = Unit {0}

name_stays : (run : Bool) (call : Call) (number : ℕ) (before after : Scene) (path : List ℕ) → Leaves run call number before after → Spares call before path
    → after.names path ≡ before.names path
name_stays run call number before after path (inr (failed, e)) spares = ap (λ (f : List ℕ → Place). f path) e
name_stays run (removed at ok) number before after path (inl (may, e)) spares =
    ap (λ (f : List ℕ → Place). f path) e ∙ with_other at nothing before.names path spares
name_stays run (made at ok) number before after path (inl (may, e)) (inl some) =
    ap (λ (f : List ℕ → Place). f path) e ∙ with_other at (made_by run number) before.names path (λ is. some (ap before.names is ∙ may))
name_stays run (made at ok) number before after path (inl (may, e)) (inr apart) =
    ap (λ (f : List ℕ → Place). f path) e ∙ with_other at (made_by run number) before.names path apart
name_stays run (renamed from to ok) number before after path (inl (may, e)) spares =
    ap (λ (f : List ℕ → Place). f path) e ∙ with_other from nothing (with_name to (before.names from) before.names) path spares.0
    ∙ with_other to (before.names from) before.names path spares.1
name_stays run (name_locked at ok) number before after path (inl (may, e)) spares = ap (λ (f : List ℕ → Place). f path) e
name_stays run (looked at ok) number before after path (inl (may, e)) spares = ap (λ (f : List ℕ → Place). f path) e
name_stays run (folder_opened ok) number before after path (inl (may, e)) spares = ap (λ (f : List ℕ → Place). f path) e
name_stays run (listed ok) number before after path (inl (may, e)) spares = ap (λ (f : List ℕ → Place). f path) e
name_stays run (seized at ok) number before after path (inl (may, e)) spares = ap (λ (f : List ℕ → Place). f path) e
name_stays run (claimed at ok) number before after path (inl (may, e)) spares = ap (λ (f : List ℕ → Place). f path) e
name_stays run (compared at bytes ok) number before after path (inl (may, e)) spares = ap (λ (f : List ℕ → Place). f path) e
name_stays run (access_set ok) number before after path (inl (may, e)) spares = ap (λ (f : List ℕ → Place). f path) e
name_stays run (wrote bytes ok) number before after path (inl (may, e)) spares = ap (λ (f : List ℕ → Place). f path) e
name_stays run (synced ok) number before after path (inl (may, e)) spares = ap (λ (f : List ℕ → Place). f path) e
name_stays run (folder_synced ok) number before after path (inl (may, e)) spares = ap (λ (f : List ℕ → Place). f path) e

-- ---- files that were put in place
-- nothing more is written to the file
pub record IsRetired (number : ℕ) (calls : List Call) : Type 0 where
  pub older : number < length calls
  pub done : newest calls ≡ number → (is_newest_made calls ≡ true) × (is_filling calls ≡ false)

later_newest : (number : ℕ) (call : Call) (calls : List Call) → IsRetired number calls → length calls ≡ number → ⊥
later_newest number call calls retired e = omega (arith, retired.older, e)

longer : (number : ℕ) (call : Call) (calls : List Call) → IsRetired number calls → number < length (call ∷ calls)
longer number call calls retired = omega (arith, retired.older)

-- the file that a run writes to was made by a call before
filling_made : (calls : List Call) → is_filling calls ≡ true → is_newest_made calls ≡ true
filling_made [] e = e
filling_made (made at ok ∷ calls) e = refl
filling_made (name_locked at ok ∷ calls) e = filling_made calls e
filling_made (looked at ok ∷ calls) e = filling_made calls e
filling_made (folder_opened ok ∷ calls) e = filling_made calls e
filling_made (listed ok ∷ calls) e = filling_made calls e
filling_made (seized at ok ∷ calls) e = e
filling_made (claimed at ok ∷ calls) e = filling_made calls e
filling_made (compared at bytes ok ∷ calls) e = e
filling_made (removed at ok ∷ calls) e = filling_made calls e
filling_made (access_set ok ∷ calls) e = filling_made calls e
filling_made (wrote bytes ok ∷ calls) e = filling_made calls e
filling_made (synced ok ∷ calls) e = filling_made calls e
filling_made (renamed from to ok ∷ calls) e = absurd (cc)
filling_made (folder_synced ok ∷ calls) e = filling_made calls e

made_before : (calls : List Call) → is_newest_made calls ≡ true → newest calls < length calls
made_before [] e = absurd (cc)
made_before (made at ok ∷ calls) e = omega arith
made_before (name_locked at ok ∷ calls) e = omega (arith, made_before calls e)
made_before (looked at ok ∷ calls) e = omega (arith, made_before calls e)
made_before (folder_opened ok ∷ calls) e = omega (arith, made_before calls e)
made_before (listed ok ∷ calls) e = omega (arith, made_before calls e)
made_before (seized at ok ∷ calls) e = absurd (cc)
made_before (claimed at ok ∷ calls) e = omega (arith, made_before calls e)
made_before (compared at bytes ok ∷ calls) e = absurd (cc)
made_before (removed at ok ∷ calls) e = omega (arith, made_before calls e)
made_before (access_set ok ∷ calls) e = omega (arith, made_before calls e)
made_before (wrote bytes ok ∷ calls) e = omega (arith, made_before calls e)
made_before (synced ok ∷ calls) e = omega (arith, made_before calls e)
made_before (renamed from to ok ∷ calls) e = omega (arith, made_before calls e)
made_before (folder_synced ok ∷ calls) e = omega (arith, made_before calls e)

-- what is found where nothing was done
held_by : (start : Found) (disk : Bool → Disk) (path : List ℕ) (o : Option (List ℕ)) → start path ≡ o
    → held_there start disk (cond (is_some o) (first path) nothing) ≡ o
held_by start disk path (Some bytes) e = e
held_by start disk path None e = refl

held_first : (start : Found) (disk : Bool → Disk) (path : List ℕ) → held_there start disk (at_first start path) ≡ start path
held_first start disk path = held_by start disk path (start path) refl

module _ (start : Found) (is_new : List ℕ → Bool) where
  stays_retired : (number : ℕ) (call : Call) (calls : List Call) → IsCareful is_new call calls → IsRetired number calls → IsRetired number (call ∷ calls)
  stays_retired number (made at ok) calls careful r = record {
    older = longer number (made at ok) calls r;
    done = λ e. absurd (later_newest number (made at ok) calls r e);
  }
  stays_retired number (seized at ok) calls careful r = record {
    older = longer number (seized at ok) calls r;
    done = λ e. absurd (later_newest number (seized at ok) calls r e);
  }
  stays_retired number (compared at bytes ok) calls careful r = record {
    older = longer number (compared at bytes ok) calls r;
    done = λ e. absurd (later_newest number (compared at bytes ok) calls r e);
  }
  stays_retired number (renamed from to ok) calls careful r = record {
    older = longer number (renamed from to ok) calls r;
    done = λ e. ((r.done e).0, refl);
  }
  stays_retired number (claimed at ok) calls careful r = record { older = longer number (claimed at ok) calls r; done = r.done }
  stays_retired number (removed at ok) calls careful r = record { older = longer number (removed at ok) calls r; done = r.done }
  stays_retired number (name_locked at ok) calls careful r = record { older = longer number (name_locked at ok) calls r; done = r.done }
  stays_retired number (looked at ok) calls careful r = record { older = longer number (looked at ok) calls r; done = r.done }
  stays_retired number (folder_opened ok) calls careful r = record { older = longer number (folder_opened ok) calls r; done = r.done }
  stays_retired number (listed ok) calls careful r = record { older = longer number (listed ok) calls r; done = r.done }
  stays_retired number (access_set ok) calls careful r = record { older = longer number (access_set ok) calls r; done = r.done }
  stays_retired number (wrote bytes ok) calls careful r = record { older = longer number (wrote bytes ok) calls r; done = r.done }
  stays_retired number (synced ok) calls careful r = record { older = longer number (synced ok) calls r; done = r.done }
  stays_retired number (folder_synced ok) calls careful r = record { older = longer number (folder_synced ok) calls r; done = r.done }

  -- it is not the file that is written to or synced
  not_filling : (number : ℕ) (calls : List Call) → IsRetired number calls → is_filling calls ≡ true → (newest calls == number) ≡ false
  not_filling number calls r filling = false_from_ne_true (newest calls == number) (λ e.
      let is : newest calls ≡ number = (Decides-eqb (newest calls) number).0 e in
      let no : is_filling calls ≡ false = (r.done is).1 in absurd (cc))

  not_synced : (number : ℕ) (calls : List Call) → IsRetired number calls → (is_newest_made calls ≡ true → is_filling calls ≡ true)
      → (newest calls == number) ≡ false
  not_synced number calls r careful = false_from_ne_true (newest calls == number) (λ e.
      let is : newest calls ≡ number = (Decides-eqb (newest calls) number).0 e in
      let done = r.done is in let yes = careful done.0 in let no = done.1 in absurd (cc))

  pub stays_kept : (number : ℕ) (call : Call) (calls : List Call) → IsCareful is_new call calls → IsRetired number calls
      → kept number (call ∷ calls) ≡ kept number calls
  stays_kept number (wrote bytes ok) calls careful r = cond-false _ _ _ (not_filling number calls r careful)
  stays_kept number (synced ok) calls careful r = cond-false _ _ _ (not_synced number calls r careful)
  stays_kept number (made at ok) calls careful r = refl
  stays_kept number (seized at ok) calls careful r = refl
  stays_kept number (compared at bytes ok) calls careful r = refl
  stays_kept number (renamed from to ok) calls careful r = refl
  stays_kept number (claimed at ok) calls careful r = refl
  stays_kept number (removed at ok) calls careful r = refl
  stays_kept number (name_locked at ok) calls careful r = refl
  stays_kept number (looked at ok) calls careful r = refl
  stays_kept number (folder_opened ok) calls careful r = refl
  stays_kept number (listed ok) calls careful r = refl
  stays_kept number (access_set ok) calls careful r = refl
  stays_kept number (folder_synced ok) calls careful r = refl

  -- both runs are careful
  abbrev BothCareful : List Turn → Type 0
  BothCareful turns = (run : Bool) → AreCareful is_new (own run turns)

  careful_turn : (run : Bool) (call : Call) (turns : List Turn) → BothCareful ((run, call) ∷ turns) → IsCareful is_new call (own run turns)
  careful_turn run call turns both = (subst (AreCareful is_new) (own_same run call turns) (both run)).0

  careful_before : (run : Bool) (call : Call) (turns : List Turn) → BothCareful ((run, call) ∷ turns) → BothCareful turns
  careful_before run call turns both who = ⊎_elim
      (λ (e : who ≡ run). subst (λ (w : Bool). AreCareful is_new (own w turns)) (sym e) (subst (AreCareful is_new) (own_same run call turns) (both run)).1)
      (λ (e : who ≡ not run). subst (λ (w : Bool). AreCareful is_new (own w turns)) (sym e)
      (subst (AreCareful is_new) (own_other run call turns) (both (not run))))
      (same_or_other who run)

  -- what a run has put in place holds the same still
  record IsKeptBy (run : Bool) (number : ℕ) (bytes : List ℕ) (turns : List Turn) : Type 0 where
    is : kept number (own run turns) ≡ Some bytes
    retired : IsRetired number (own run turns)

  stays_kept_by : (run : Bool) (call : Call) (turns : List Turn) (who : Bool) (number : ℕ) (bytes : List ℕ) → IsCareful is_new call (own run turns)
      → IsKeptBy who number bytes turns → IsKeptBy who number bytes ((run, call) ∷ turns)
  stays_kept_by run call turns who number bytes careful k = ⊎_elim
      (λ (e : who ≡ run).
      let mine : own who ((run, call) ∷ turns) ≡ call ∷ own who turns = subst (λ (w : Bool). own w ((run, call) ∷ turns) ≡ call ∷ own w turns) (sym e)
      (own_same run call turns) in
      let cares : IsCareful is_new call (own who turns) = subst (λ (w : Bool). IsCareful is_new call (own w turns)) (sym e) careful in
      record {
        is = subst (λ (l : List Call). kept number l ≡ Some bytes) (sym mine) (stays_kept number call (own who turns) cares k.retired ∙ k.is);
        retired = subst (IsRetired number) (sym mine) (stays_retired number call (own who turns) cares k.retired);
      })
      (λ (e : who ≡ not run).
      let theirs : own who ((run, call) ∷ turns) ≡ own who turns = subst (λ (w : Bool). own w ((run, call) ∷ turns) ≡ own w turns) (sym e)
      (own_other run call turns) in
      record {
        is = subst (λ (l : List Call). kept number l ≡ Some bytes) (sym theirs) k.is;
        retired = subst (IsRetired number) (sym theirs) k.retired;
      })
      (same_or_other who run)

  stays_written : (run : Bool) (call : Call) (turns : List Turn) (who : Bool) (written_call : Call) → Contains (own who turns) written_call
      → Contains (own who ((run, call) ∷ turns)) written_call
  stays_written run call turns who written_call has = ⊎_elim
      (λ (e : who ≡ run). subst (λ (l : List Call). Contains l written_call) (sym
      (subst (λ (w : Bool). own w ((run, call) ∷ turns) ≡ call ∷ own w turns) (sym e)
      (own_same run call turns))) (Contains-append_right (call ∷ []) (own who turns) written_call has))
      (λ (e : who ≡ not run). subst (λ (l : List Call). Contains l written_call) (sym (subst (λ (w : Bool). own w ((run, call) ∷ turns) ≡ own w turns) (sym e)
      (own_other run call turns))) has)
      (same_or_other who run)

  -- ---- what stands under a path that is of no new file
  -- the file that stood there at first, or one that a run has filled and put there
  abbrev PlaceIsWhole : List Turn → List ℕ → Place → Type 0
  PlaceIsWhole turns path place = (place ≡ at_first start path) ⊎ ((run : Bool) × (number : ℕ) × (bytes : List ℕ) × (place ≡ made_by run number)
      × Contains (own run turns) (wrote bytes true) × IsKeptBy run number bytes turns)

  -- a turn more leaves what is whole
  stays_whole : (run : Bool) (call : Call) (turns : List Turn) (path : List ℕ) (place : Place) → IsCareful is_new call (own run turns)
      → PlaceIsWhole turns path place → PlaceIsWhole ((run, call) ∷ turns) path place
  stays_whole run call turns path place careful (inl e) = inl e
  stays_whole run call turns path place careful (inr (who, number, bytes, stands, has, is)) = inr (
    who,
    number,
    bytes,
    stands,
    stays_written run call turns who (wrote bytes true) has,
    stays_kept_by run call turns who number bytes careful is,
  )

  -- ---- locks
  -- a run has a file locked, which stands under its path still
  record IsLocked (run : Bool) (path : List ℕ) (calls : List Call) (s : Scene) : Type 0 where
    there : s.names path ≡ s.lock run
    some : s.lock run ≢ nothing
    new : is_new path ≡ true
    mine : is_newest_made calls ≡ true → s.lock run ≡ made_by run (newest calls)

  record IsSound (turns : List Turn) (s : Scene) : Type 0 where
    locked : (run : Bool) (path : List ℕ) → locked_path (own run turns) ≡ Some path → IsLocked run path (own run turns) s
    apart : (run : Bool) → s.lock run ≢ nothing → s.lock run ≢ s.lock (not run)
    whole : (path : List ℕ) → is_new path ≡ false → PlaceIsWhole turns path (s.names path)

  new_or_not : (path other : List ℕ) → is_new path ≡ true → is_new other ≡ false → path ≢ other
  new_or_not path other new old e = let both : is_new other ≡ true = subst (λ (p : List ℕ). is_new p ≡ true) e new in absurd (cc)

  -- the other's lock stays
  lock_theirs : (run : Bool) (call : Call) (s : Scene) → lock_after run call s (not run) ≡ s.lock (not run)
  lock_theirs run (claimed at true) s = locked_other run (s.names at) s.lock
  lock_theirs run (claimed at false) s = locked_other run nothing s.lock
  lock_theirs run (seized at true) s = locked_other run (s.names at) s.lock
  lock_theirs run (seized at false) s = locked_other run nothing s.lock
  lock_theirs run (compared at bytes ok) s = locked_other run nothing s.lock
  lock_theirs run (made at ok) s = locked_other run nothing s.lock
  lock_theirs run (removed at ok) s = locked_other run nothing s.lock
  lock_theirs run (renamed from to ok) s = locked_other run nothing s.lock
  lock_theirs run (name_locked at ok) s = refl
  lock_theirs run (looked at ok) s = refl
  lock_theirs run (folder_opened ok) s = refl
  lock_theirs run (listed ok) s = refl
  lock_theirs run (access_set ok) s = refl
  lock_theirs run (wrote bytes ok) s = refl
  lock_theirs run (synced ok) s = refl
  lock_theirs run (folder_synced ok) s = refl

  -- a run's own lock: it stays, is given up, or is on a file that the other has not locked
  data LockGoes (run : Bool) (before : Scene) (place : Place) : Type 0 where
    stays : place ≡ before.lock run → LockGoes run before place
    ends : place ≡ nothing → LockGoes run before place
    begins : place ≢ before.lock (not run) → LockGoes run before place

  lock_mine : (run : Bool) (call : Call) (calls : List Call) (s : Scene) → ShowsLock run call calls s → LockGoes run s (lock_after run call s run)
  lock_mine run (claimed at true) calls s shows = begins (λ e. shows.2 (sym (locked_same run (s.names at) s.lock) ∙ e))
  lock_mine run (claimed at false) calls s shows = ends (locked_same run nothing s.lock)
  lock_mine run (seized at true) calls s shows = begins (λ e. shows.1 (sym (locked_same run (s.names at) s.lock) ∙ e))
  lock_mine run (seized at false) calls s shows = ends (locked_same run nothing s.lock)
  lock_mine run (compared at bytes ok) calls s shows = ends (locked_same run nothing s.lock)
  lock_mine run (made at ok) calls s shows = ends (locked_same run nothing s.lock)
  lock_mine run (removed at ok) calls s shows = ends (locked_same run nothing s.lock)
  lock_mine run (renamed from to ok) calls s shows = ends (locked_same run nothing s.lock)
  lock_mine run (name_locked at ok) calls s shows = stays refl
  lock_mine run (looked at ok) calls s shows = stays refl
  lock_mine run (folder_opened ok) calls s shows = stays refl
  lock_mine run (listed ok) calls s shows = stays refl
  lock_mine run (access_set ok) calls s shows = stays refl
  lock_mine run (wrote bytes ok) calls s shows = stays refl
  lock_mine run (synced ok) calls s shows = stays refl
  lock_mine run (folder_synced ok) calls s shows = stays refl

  -- a file that was locked before is locked still, where the call leaves its name and the run's lock
  still_locked : (run : Bool) (path : List ℕ) (calls more : List Call) (before after : Scene) → after.names path ≡ before.names path
      → after.lock run ≡ before.lock run → is_newest_made more ≡ is_newest_made calls → newest more ≡ newest calls
      → IsLocked run path calls before → IsLocked run path more after
  still_locked run path calls more before after name lock made_same newest_same m = record {
    there = name ∙ m.there ∙ sym lock;
    some = λ e. m.some (sym lock ∙ e);
    new = m.new;
    mine = λ made_newest. lock ∙ m.mine (sym made_same ∙ made_newest) ∙ ap (made_by run) (sym newest_same);
  }

  -- a file is locked
  now_locked : (run : Bool) (at path : List ℕ) (calls more : List Call) (before after : Scene) → Some at ≡ Some path → after.names at ≡ before.names at
      → after.lock run ≡ before.names at → before.names at ≢ nothing → is_new at ≡ true
      → (is_newest_made more ≡ true → before.names at ≡ made_by run (newest more)) → IsLocked run path more after
  now_locked run at path calls more before after same name lock some new mine =
      let is : at ≡ path = cc in
      subst (λ (p : List ℕ). IsLocked run p more after) is (record {
        there = name ∙ sym lock;
        some = λ e. some (sym lock ∙ e);
        new = new;
        mine = λ made_newest. lock ∙ mine made_newest;
      })

  locked_mine : (run : Bool) (call : Call) (calls : List Call) (number : ℕ) (before after : Scene) (path : List ℕ) → IsCareful is_new call calls
      → ShowsLock run call calls before → after.lock ≡ lock_after run call before → Leaves run call number before after
      → ((p : List ℕ) → locked_path calls ≡ Some p → IsLocked run p calls before) → locked_path (call ∷ calls) ≡ Some path
      → IsLocked run path (call ∷ calls) after
  locked_mine run (claimed at true) calls number before after path careful shows lock leaves was is =
      now_locked run at path calls (claimed at true ∷ calls) before after is (name_stays run (claimed at true) number before after at leaves tt)
      (ap (λ (f : Bool → Place). f run) lock ∙ locked_same run (before.names at) before.lock) shows.1 careful shows.0
  locked_mine run (seized at true) calls number before after path careful shows lock leaves was is =
      now_locked run at path calls (seized at true ∷ calls) before after is (name_stays run (seized at true) number before after at leaves tt)
      (ap (λ (f : Bool → Place). f run) lock ∙ locked_same run (before.names at) before.lock) shows.0 careful (λ e. absurd (cc))
  locked_mine run (claimed at false) calls number before after path careful shows lock leaves was is = absurd (cc)
  locked_mine run (seized at false) calls number before after path careful shows lock leaves was is = absurd (cc)
  locked_mine run (compared at bytes ok) calls number before after path careful shows lock leaves was is = absurd (cc)
  locked_mine run (made at ok) calls number before after path careful shows lock leaves was is = absurd (cc)
  locked_mine run (removed at ok) calls number before after path careful shows lock leaves was is = absurd (cc)
  locked_mine run (renamed from to ok) calls number before after path careful shows lock leaves was is = absurd (cc)
  locked_mine run (name_locked at ok) calls number before after path careful shows lock leaves was is =
      still_locked run path calls (name_locked at ok ∷ calls) before after (name_stays run (name_locked at ok) number before after path leaves tt)
      (ap (λ (f : Bool → Place). f run) lock) refl refl (was path is)
  locked_mine run (looked at ok) calls number before after path careful shows lock leaves was is =
      still_locked run path calls (looked at ok ∷ calls) before after (name_stays run (looked at ok) number before after path leaves tt)
      (ap (λ (f : Bool → Place). f run) lock) refl refl (was path is)
  locked_mine run (folder_opened ok) calls number before after path careful shows lock leaves was is =
      still_locked run path calls (folder_opened ok ∷ calls) before after (name_stays run (folder_opened ok) number before after path leaves tt)
      (ap (λ (f : Bool → Place). f run) lock) refl refl (was path is)
  locked_mine run (listed ok) calls number before after path careful shows lock leaves was is =
      still_locked run path calls (listed ok ∷ calls) before after (name_stays run (listed ok) number before after path leaves tt)
      (ap (λ (f : Bool → Place). f run) lock) refl refl (was path is)
  locked_mine run (access_set ok) calls number before after path careful shows lock leaves was is =
      still_locked run path calls (access_set ok ∷ calls) before after (name_stays run (access_set ok) number before after path leaves tt)
      (ap (λ (f : Bool → Place). f run) lock) refl refl (was path is)
  locked_mine run (wrote bytes ok) calls number before after path careful shows lock leaves was is =
      still_locked run path calls (wrote bytes ok ∷ calls) before after (name_stays run (wrote bytes ok) number before after path leaves tt)
      (ap (λ (f : Bool → Place). f run) lock) refl refl (was path is)
  locked_mine run (synced ok) calls number before after path careful shows lock leaves was is =
      still_locked run path calls (synced ok ∷ calls) before after (name_stays run (synced ok) number before after path leaves tt)
      (ap (λ (f : Bool → Place). f run) lock) refl refl (was path is)
  locked_mine run (folder_synced ok) calls number before after path careful shows lock leaves was is =
      still_locked run path calls (folder_synced ok ∷ calls) before after (name_stays run (folder_synced ok) number before after path leaves tt)
      (ap (λ (f : Bool → Place). f run) lock) refl refl (was path is)

  -- what a run has filled and renamed
  renamed_kept : (run : Bool) (turns : List Turn) (from to : List ℕ) (ok : Bool) (bytes : List ℕ) → IsCareful is_new (renamed from to ok) (own run turns)
      → kept (newest (own run turns)) (own run turns) ≡ Some bytes → IsKeptBy run (newest (own run turns)) bytes ((run, renamed from to ok) ∷ turns)
  renamed_kept run turns from to ok bytes careful is =
      let calls = own run turns in
      let mine = own_same run (renamed from to ok) turns in
      let made_newest = filling_made calls careful.1 in
      record {
        is = subst (λ (l : List Call). kept (newest calls) l ≡ Some bytes) (sym mine) is;
        retired = subst (IsRetired (newest calls)) (sym mine)
            (record { older = omega (arith, made_before calls made_newest); done = λ q. (made_newest, refl) });
      }

  -- ---- what a careful call spares
  module _ (run : Bool) (turns : List Turn) (before : Scene) (sound : IsSound turns before) where
    -- the other's file is not the one that this run has locked
    theirs_apart : (at path : List ℕ) → locked_path (own run turns) ≡ Some at → locked_path (own (not run) turns) ≡ Some path → path ≢ at
    theirs_apart at path mine theirs e =
        let m = sound.locked run at mine in let t = sound.locked (not run) path theirs in
        sound.apart run m.some (sym m.there ∙ ap before.names (sym e) ∙ t.there)

    spares_theirs : (call : Call) (path : List ℕ) → IsCareful is_new call (own run turns) → locked_path (own (not run) turns) ≡ Some path
        → Spares call before path
    spares_theirs (removed at ok) path careful theirs = theirs_apart at path careful theirs
    spares_theirs (made at ok) path careful theirs =
        let t = sound.locked (not run) path theirs in inl (λ e. t.some (sym t.there ∙ e))
    spares_theirs (renamed from to ok) path careful theirs =
        (theirs_apart from path careful.2 theirs, new_or_not path to (sound.locked (not run) path theirs).new careful.0)
    spares_theirs (name_locked at ok) path careful theirs = tt
    spares_theirs (looked at ok) path careful theirs = tt
    spares_theirs (folder_opened ok) path careful theirs = tt
    spares_theirs (listed ok) path careful theirs = tt
    spares_theirs (seized at ok) path careful theirs = tt
    spares_theirs (claimed at ok) path careful theirs = tt
    spares_theirs (compared at bytes ok) path careful theirs = tt
    spares_theirs (access_set ok) path careful theirs = tt
    spares_theirs (wrote bytes ok) path careful theirs = tt
    spares_theirs (synced ok) path careful theirs = tt
    spares_theirs (folder_synced ok) path careful theirs = tt

    -- a path that is of no new file
    old_apart : (at path : List ℕ) → is_new at ≡ true → is_new path ≡ false → path ≢ at
    old_apart at path new old e = new_or_not at path new old (sym e)

    whole_after : (call : Call) (after : Scene) (path : List ℕ) → IsCareful is_new call (own run turns) → Leaves run call (length (own run turns)) before after
        → is_new path ≡ false → Spares call before path → PlaceIsWhole ((run, call) ∷ turns) path (after.names path)
    whole_after call after path careful leaves old spares =
        subst (PlaceIsWhole ((run, call) ∷ turns) path) (sym (name_stays run call (length (own run turns)) before after path leaves spares))
        (stays_whole run call turns path (before.names path) careful (sound.whole path old))

    -- the file that a run has filled takes the place of another
    renamed_stands : (from to : List ℕ) (ok : Bool) (after : Scene) → IsCareful is_new (renamed from to ok) (own run turns)
        → (MayBeDone (renamed from to ok) before × (after.names ≡ names_after run (length (own run turns)) (renamed from to ok) before.names))
        → after.names to ≡ made_by run (newest (own run turns))
    renamed_stands from to ok after careful (may, e) =
        let m = sound.locked run from careful.2 in
        ap (λ (f : List ℕ → Place). f to) e
        ∙ with_other from nothing (with_name to (before.names from) before.names) to (old_apart from to m.new careful.0)
        ∙ with_same to (before.names from) before.names ∙ m.there ∙ m.mine (filling_made (own run turns) careful.1)

    put_in_place : (from to : List ℕ) (ok : Bool) (after : Scene) → IsCareful is_new (renamed from to ok) (own run turns)
        → Leaves run (renamed from to ok) (length (own run turns)) before after → PlaceIsWhole ((run, renamed from to ok) ∷ turns) to (after.names to)
    put_in_place from to ok after careful (inr (failed, e)) =
        subst (PlaceIsWhole ((run, renamed from to ok) ∷ turns) to) (sym (ap (λ (f : List ℕ → Place). f to) e))
        (stays_whole run (renamed from to ok) turns to (before.names to) careful (sound.whole to careful.0))
    put_in_place from to ok after careful (inl (may, e)) =
        let calls = own run turns in
        let mine = own_same run (renamed from to ok) turns in
        inr (
          run,
          newest calls,
          careful.3.0,
          renamed_stands from to ok after careful (may, e),
          subst (λ (l : List Call). Contains l (wrote careful.3.0 true)) (sym mine)
              (Contains-append_right (renamed from to ok ∷ []) calls (wrote careful.3.0 true) careful.3.2),
          renamed_kept run turns from to ok careful.3.0 careful careful.3.1,
        )

    whole_step : (call : Call) (after : Scene) (path : List ℕ) → IsCareful is_new call (own run turns) → Leaves run call (length (own run turns)) before after
        → is_new path ≡ false → PlaceIsWhole ((run, call) ∷ turns) path (after.names path)
    whole_step (renamed from to ok) after path careful leaves old = elim_same (bytes_eq path to) refl
      where
        elim_same : (b : Bool) → bytes_eq path to ≡ b → PlaceIsWhole ((run, renamed from to ok) ∷ turns) path (after.names path)
        elim_same true e =
            let is : to ≡ path = sym ((bytes_eq-Decides path to).0 e) in
            subst (λ (p : List ℕ). PlaceIsWhole ((run, renamed from to ok) ∷ turns) p (after.names p)) is (put_in_place from to ok after careful leaves)
        elim_same false e = whole_after (renamed from to ok) after path careful leaves old
            (old_apart from path (sound.locked run from careful.2).new old, λ is. let yes = (bytes_eq-Decides path to).1 is in absurd (cc))
    whole_step (removed at ok) after path careful leaves old = whole_after (removed at ok) after path careful leaves old
        (old_apart at path (sound.locked run at careful).new old)
    whole_step (made at ok) after path careful leaves old = whole_after (made at ok) after path careful leaves old (inr (old_apart at path careful old))
    whole_step (name_locked at ok) after path careful leaves old = whole_after (name_locked at ok) after path careful leaves old tt
    whole_step (looked at ok) after path careful leaves old = whole_after (looked at ok) after path careful leaves old tt
    whole_step (folder_opened ok) after path careful leaves old = whole_after (folder_opened ok) after path careful leaves old tt
    whole_step (listed ok) after path careful leaves old = whole_after (listed ok) after path careful leaves old tt
    whole_step (seized at ok) after path careful leaves old = whole_after (seized at ok) after path careful leaves old tt
    whole_step (claimed at ok) after path careful leaves old = whole_after (claimed at ok) after path careful leaves old tt
    whole_step (compared at bytes ok) after path careful leaves old = whole_after (compared at bytes ok) after path careful leaves old tt
    whole_step (access_set ok) after path careful leaves old = whole_after (access_set ok) after path careful leaves old tt
    whole_step (wrote bytes ok) after path careful leaves old = whole_after (wrote bytes ok) after path careful leaves old tt
    whole_step (synced ok) after path careful leaves old = whole_after (synced ok) after path careful leaves old tt
    whole_step (folder_synced ok) after path careful leaves old = whole_after (folder_synced ok) after path careful leaves old tt

    -- a call that puts no file under the path leaves what stands there
    spares_old : (call : Call) (path : List ℕ) → IsCareful is_new call (own run turns) → is_new path ≡ false → PutNone path ((run, call) ∷ [])
        → Spares call before path
    spares_old (renamed from to ok) path careful old none =
        (old_apart from path (sound.locked run from careful.2).new old, λ is. none.0 (sym is))
    spares_old (removed at ok) path careful old none = old_apart at path (sound.locked run at careful).new old
    spares_old (made at ok) path careful old none = inr (old_apart at path careful old)
    spares_old (name_locked at ok) path careful old none = tt
    spares_old (looked at ok) path careful old none = tt
    spares_old (folder_opened ok) path careful old none = tt
    spares_old (listed ok) path careful old none = tt
    spares_old (seized at ok) path careful old none = tt
    spares_old (claimed at ok) path careful old none = tt
    spares_old (compared at bytes ok) path careful old none = tt
    spares_old (access_set ok) path careful old none = tt
    spares_old (wrote bytes ok) path careful old none = tt
    spares_old (synced ok) path careful old none = tt
    spares_old (folder_synced ok) path careful old none = tt

    locked_step : (call : Call) (after : Scene) → IsCareful is_new call (own run turns) → ShowsLock run call (own run turns) before
        → after.lock ≡ lock_after run call before → Leaves run call (length (own run turns)) before after → (who : Bool) (path : List ℕ)
        → locked_path (own who ((run, call) ∷ turns)) ≡ Some path → IsLocked who path (own who ((run, call) ∷ turns)) after
    locked_step call after careful shows lock leaves who path is = ⊎_elim
        (λ (e : who ≡ run).
        let P : Bool → List Call → Type 0 = λ w l. locked_path l ≡ Some path → IsLocked w path l after in
        let mine : P run (call ∷ own run turns) = locked_mine run call (own run turns) (length (own run turns)) before after path careful shows lock leaves
        (sound.locked run) in
        let at_own : P run (own run ((run, call) ∷ turns)) = subst (P run) (sym (own_same run call turns)) mine in
        subst (λ (w : Bool). P w (own w ((run, call) ∷ turns))) (sym e) at_own is)
        (λ (e : who ≡ not run).
        let P : Bool → List Call → Type 0 = λ w l. locked_path l ≡ Some path → IsLocked w path l after in
        let theirs : P (not run) (own (not run) turns) = (λ there.
        still_locked (not run) path (own (not run) turns) (own (not run) turns) before after
        (name_stays run call (length (own run turns)) before after path leaves (spares_theirs call path careful there))
        (ap (λ (f : Bool → Place). f (not run)) lock ∙ lock_theirs run call before) refl refl (sound.locked (not run) path there)) in
        let at_own : P (not run) (own (not run) ((run, call) ∷ turns)) = subst (P (not run)) (sym (own_other run call turns)) theirs in
        subst (λ (w : Bool). P w (own w ((run, call) ∷ turns))) (sym e) at_own is)
        (same_or_other who run)

    apart_mine : (after : Scene) → LockGoes run before (after.lock run) → after.lock (not run) ≡ before.lock (not run) → after.lock run ≢ nothing
        → after.lock run ≢ after.lock (not run)
    apart_mine after (stays e) theirs some same = sound.apart run (λ none. some (e ∙ none)) (sym e ∙ same ∙ theirs)
    apart_mine after (ends e) theirs some same = some e
    apart_mine after (begins apart) theirs some same = apart (same ∙ theirs)

    apart_theirs : (after : Scene) → LockGoes run before (after.lock run) → after.lock (not run) ≡ before.lock (not run) → after.lock (not run) ≢ nothing
        → after.lock (not run) ≢ after.lock run
    apart_theirs after (stays e) theirs some same = sound.apart (not run) (λ none. some (theirs ∙ none))
        (sym theirs ∙ same ∙ e ∙ ap before.lock (sym (not_not run)))
    apart_theirs after (ends e) theirs some same = some (same ∙ e)
    apart_theirs after (begins apart) theirs some same = apart (sym same ∙ theirs)

    apart_step : (call : Call) (after : Scene) → ShowsLock run call (own run turns) before → after.lock ≡ lock_after run call before → (who : Bool)
        → after.lock who ≢ nothing → after.lock who ≢ after.lock (not who)
    apart_step call after shows lock who =
        let goes : LockGoes run before (after.lock run) = subst (λ (f : Bool → Place). LockGoes run before (f run)) (sym lock)
        (lock_mine run call (own run turns) before shows) in
        let theirs : after.lock (not run) ≡ before.lock (not run) = ap (λ (f : Bool → Place). f (not run)) lock ∙ lock_theirs run call before in
        let P : Bool → Type 0 = λ w. after.lock w ≢ nothing → after.lock w ≢ after.lock (not w) in
        ⊎_elim (λ (e : who ≡ run). subst P (sym e) (apart_mine after goes theirs))
        (λ (e : who ≡ not run). subst P (sym e) (λ some same. apart_theirs after goes theirs some (same ∙ ap after.lock (not_not run))))
        (same_or_other who run)

  -- ---- all turns
  both_sound : (turns : List Turn) (s : Scene) → BothCareful turns → Stands start turns s → IsSound turns s
  both_sound [] s careful stands = record {
    locked = λ run path e. absurd (cc);
    apart = λ run some. absurd (some (stands.1 run));
    whole = λ path old. inl (ap (λ (f : List ℕ → Place). f path) stands.0);
  }
  both_sound ((run, call) ∷ turns) s careful (before, earlier, shows, lock, leaves) =
      let was = both_sound turns before (careful_before run call turns careful) earlier in
      let cares = careful_turn run call turns careful in
      record {
        locked = locked_step run turns before was call s cares shows lock leaves;
        apart = apart_step run turns before was call s shows lock;
        whole = λ path old. whole_step run turns before was call s path cares leaves old;
      }

  may_whole : (turns : List Turn) (s : Scene) → BothCareful turns → MayStandThen start turns s → (path : List ℕ) → is_new path ≡ false
      → PlaceIsWhole turns path (s.names path)
  may_whole [] s careful may path old = (both_sound [] s careful may).whole path old
  may_whole ((run, call) ∷ turns) s careful (inl stands) path old = (both_sound ((run, call) ∷ turns) s careful stands).whole path old
  may_whole ((run, call) ∷ turns) s careful (inr (unsynced, may)) path old = stays_whole run call turns path (s.names path)
      (careful_turn run call turns careful) (may_whole turns s (careful_before run call turns careful) may path old)

  pub lose_nothing : (turns : List Turn) → BothCareful turns → (found : Found) → MayBeFoundThen start turns found → (path : List ℕ)
      → is_new path ≡ false → IsWhole start turns path found
  lose_nothing turns careful found m path old = at (may_whole turns m.scene careful m.stand path old)
    where
      at : PlaceIsWhole turns path (m.scene.names path) → IsWhole start turns path found
      at (inl e) = inl (m.each path ∙ ap (held_there start m.disk) e ∙ held_first start m.disk path)
      at (inr (run, number, bytes, stands, has, is)) = inr (
        run,
        bytes,
        has,
        m.each path ∙ ap (held_there start m.disk) stands ∙ ap (λ (b : List ℕ). Some b) (m.sure run number bytes is.is),
      )

  -- ---- the file that was put in place last
  none_of : (run : Bool) (call : Call) (later : List Turn) (path : List ℕ) → PutNone path ((run, call) ∷ later)
      → PutNone path ((run, call) ∷ []) × PutNone path later
  none_of run (renamed from to ok) later path none = ((none.0, tt), none.1)
  none_of run (name_locked at ok) later path none = (tt, none)
  none_of run (looked at ok) later path none = (tt, none)
  none_of run (folder_opened ok) later path none = (tt, none)
  none_of run (listed ok) later path none = (tt, none)
  none_of run (seized at ok) later path none = (tt, none)
  none_of run (claimed at ok) later path none = (tt, none)
  none_of run (compared at bytes ok) later path none = (tt, none)
  none_of run (removed at ok) later path none = (tt, none)
  none_of run (made at ok) later path none = (tt, none)
  none_of run (access_set ok) later path none = (tt, none)
  none_of run (wrote bytes ok) later path none = (tt, none)
  none_of run (synced ok) later path none = (tt, none)
  none_of run (folder_synced ok) later path none = (tt, none)

  careful_end : (later turns : List Turn) → BothCareful (later ++ turns) → BothCareful turns
  careful_end [] turns careful = careful
  careful_end ((run, call) ∷ later) turns careful = careful_end later turns (careful_before run call (later ++ turns) careful)

  stays_put : (later turns : List Turn) (path : List ℕ) (place : Place) → is_new path ≡ false → ((s : Scene) → Stands start turns s → s.names path ≡ place)
      → BothCareful (later ++ turns) → PutNone path later → (s : Scene) → Stands start (later ++ turns) s → s.names path ≡ place
  stays_put [] turns path place old at careful none s stands = at s stands
  stays_put ((run, call) ∷ later) turns path place old at careful none s (before, earlier, shows, lock, leaves) =
      let rest = later ++ turns in
      let cares = careful_before run call rest careful in
      let each = none_of run call later path none in
      name_stays run call (length (own run rest)) before s path leaves
      (spares_old run rest before (both_sound rest before cares earlier) call path (careful_turn run call rest careful) old each.0)
      ∙ stays_put later turns path place old at cares each.1 before earlier

  put_there : (run : Bool) (from path : List ℕ) (turns : List Turn) → BothCareful ((run, renamed from path true) ∷ turns) → (s : Scene)
      → Stands start ((run, renamed from path true) ∷ turns) s → s.names path ≡ made_by run (newest (own run turns))
  put_there run from path turns careful s (before, earlier, shows, lock, inl done) =
      renamed_stands run turns before (both_sound turns before (careful_before run (renamed from path true) turns careful) earlier) from path true s
      (careful_turn run (renamed from path true) turns careful) done
  put_there run from path turns careful s (before, earlier, shows, lock, inr (failed, e)) = absurd (cc)

  may_stay_put : (later turns : List Turn) (run : Bool) (path : List ℕ) (place : Place) → is_new path ≡ false
      → ((s : Scene) → Stands start ((run, folder_synced true) ∷ turns) s → s.names path ≡ place) → BothCareful (later ++ ((run, folder_synced true) ∷ turns))
      → PutNone path later → (s : Scene) → MayStandThen start (later ++ ((run, folder_synced true) ∷ turns)) s → s.names path ≡ place
  may_stay_put [] turns run path place old at careful none s (inl stands) = at s stands
  may_stay_put [] turns run path place old at careful none s (inr (unsynced, may)) = absurd (cc)
  may_stay_put ((who, call) ∷ later) turns run path place old at careful none s (inl stands) =
      stays_put ((who, call) ∷ later) ((run, folder_synced true) ∷ turns) path place old at careful none s stands
  may_stay_put ((who, call) ∷ later) turns run path place old at careful none s (inr (unsynced, may)) =
      may_stay_put later turns run path place old at (careful_before who call (later ++ ((run, folder_synced true) ∷ turns)) careful)
      (none_of who call later path none).1 s may

  put_kept : (run : Bool) (from path bytes : List ℕ) (turns : List Turn) → BothCareful ((run, renamed from path true) ∷ turns)
      → kept (newest (own run turns)) (own run turns) ≡ Some bytes → IsKeptBy run (newest (own run turns)) bytes ((run, renamed from path true) ∷ turns)
  put_kept run from path bytes turns careful is = renamed_kept run turns from path true bytes (careful_turn run (renamed from path true) turns careful) is

  kept_through : (later turns : List Turn) (who : Bool) (number : ℕ) (bytes : List ℕ) → BothCareful (later ++ turns) → IsKeptBy who number bytes turns
      → IsKeptBy who number bytes (later ++ turns)
  kept_through [] turns who number bytes careful k = k
  kept_through ((run, call) ∷ later) turns who number bytes careful k =
      let cares = careful_before run call (later ++ turns) careful in
      stays_kept_by run call (later ++ turns) who number bytes (careful_turn run call (later ++ turns) careful)
      (kept_through later turns who number bytes cares k)

  pub last_stays : (turns : List Turn) → BothCareful turns → (found : Found) → MayBeFoundThen start turns found → (path : List ℕ)
      → is_new path ≡ false → (run : Bool) (bytes : List ℕ) → HasPutLast run path bytes turns → found path ≡ Some bytes
  last_stays turns careful found m path old run bytes h =
      let renamed_turns = (run, renamed h.from path true) ∷ h.earlier in
      let synced_turns = (run, folder_synced true) ∷ (h.middle ++ renamed_turns) in
      let all_careful : BothCareful (h.later ++ synced_turns) = subst BothCareful h.all careful in
      let synced_careful = careful_end h.later synced_turns all_careful in
      let middle_careful = careful_before run (folder_synced true) (h.middle ++ renamed_turns) synced_careful in
      let renamed_careful = careful_end h.middle renamed_turns middle_careful in
      let place = made_by run (newest (own run h.earlier)) in
      let at_renamed = put_there run h.from path h.earlier renamed_careful in
      let at_synced = stays_put ((run, folder_synced true) ∷ h.middle) renamed_turns path place old at_renamed synced_careful h.none_between in
      let stands : m.scene.names path ≡ place = may_stay_put h.later (h.middle ++ renamed_turns) run path place old at_synced all_careful h.none_later m.scene
      (subst (λ (t : List Turn). MayStandThen start t m.scene) h.all m.stand) in
      let was : IsKeptBy run (newest (own run h.earlier)) bytes renamed_turns = put_kept run h.from path bytes h.earlier renamed_careful h.filled in
      let now : IsKeptBy run (newest (own run h.earlier)) bytes (h.later ++ synced_turns) = kept_through h.later synced_turns run
      (newest (own run h.earlier)) bytes all_careful (kept_through ((run, folder_synced true) ∷ h.middle) renamed_turns run (newest (own run h.earlier)) bytes
      synced_careful was) in
      let sure : kept (newest (own run h.earlier)) (own run turns) ≡ Some bytes =
      subst (λ (t : List Turn). kept (newest (own run h.earlier)) (own run t) ≡ Some bytes) (sym h.all) now.is in
      m.each path ∙ ap (held_there start m.disk) stands ∙ ap (λ (b : List ℕ). Some b) (m.sure run (newest (own run h.earlier)) bytes sure)

-- ---- a first save stands in the model
module _ (start : Found) (beside path bytes : List ℕ) (apart : beside ≢ path) (free : start beside ≡ None) where
  abbrev scene_first : Scene
  scene_first = record { names = at_first start; lock = λ run. nothing }

  abbrev scene_made : Scene
  scene_made = record { names = with_name beside (made_by true 3) (at_first start); lock = with_lock true nothing (λ run. nothing) }

  abbrev scene_claimed : Scene
  scene_claimed = record { names = scene_made.names; lock = with_lock true (scene_made.names beside) scene_made.lock }

  abbrev scene_put : Scene
  scene_put = record {
    names = with_name beside nothing (with_name path (scene_claimed.names beside) scene_claimed.names);
    lock = with_lock true nothing scene_claimed.lock;
  }

  made_stands : scene_made.names beside ≡ made_by true 3
  made_stands = with_same beside (made_by true 3) (at_first start)

  step : (call : Call) (earlier : List Turn) (before after : Scene) → Stands start earlier before → ShowsLock true call (own true earlier) before
      → after.lock ≡ lock_after true call before → Leaves true call (length (own true earlier)) before after → Stands start ((true, call) ∷ earlier) after
  step call earlier before after stands shows lock leaves = (before, stands, shows, lock, leaves)

  abbrev opened_turns : List Turn
  opened_turns = (true, folder_opened true) ∷ (true, looked path true) ∷ (true, name_locked path false) ∷ []

  opened_stands : Stands start opened_turns scene_first
  opened_stands = step (folder_opened true) ((true, looked path true) ∷ (true, name_locked path false) ∷ []) scene_first scene_first
      (step (looked path true) ((true, name_locked path false) ∷ []) scene_first scene_first
      (step (name_locked path false) [] scene_first scene_first (refl, λ run. refl) tt refl (inl (tt, refl))) tt refl (inl (tt, refl))) tt refl (inl (tt, refl))

  abbrev claimed_turns : List Turn
  claimed_turns = (true, claimed beside true) ∷ (true, made beside true) ∷ opened_turns

  claimed_stands : Stands start claimed_turns scene_claimed
  claimed_stands = step (claimed beside true) ((true, made beside true) ∷ opened_turns) scene_made scene_claimed
      (step (made beside true) opened_turns scene_first scene_made opened_stands tt refl
      (inl (ap (λ (o : Option (List ℕ)). cond (is_some o) (first beside) nothing) free, refl))) (
        (λ is. made_stands),
        (λ e. let no : made_by true 3 ≡ nothing = sym made_stands ∙ e in absurd (cc)),
        (λ e. let no : made_by true 3 ≡ nothing = sym made_stands ∙ e in absurd (cc)),
      )
      refl (inl (tt, refl))

  abbrev synced_turns : List Turn
  synced_turns = (true, synced true) ∷ (true, wrote bytes true) ∷ (true, access_set true) ∷ claimed_turns

  synced_stands : Stands start synced_turns scene_claimed
  synced_stands = step (synced true) ((true, wrote bytes true) ∷ (true, access_set true) ∷ claimed_turns) scene_claimed scene_claimed
      (step (wrote bytes true) ((true, access_set true) ∷ claimed_turns) scene_claimed scene_claimed
      (step (access_set true) claimed_turns scene_claimed scene_claimed claimed_stands tt refl (inl (tt, refl))) tt refl (inl (tt, refl))) tt refl
      (inl (tt, refl))

  pub first_save_stands : Stands start (first_save beside path bytes) scene_put
  first_save_stands = step (folder_synced true) ((true, renamed beside path true) ∷ synced_turns) scene_put scene_put
      (step (renamed beside path true) synced_turns scene_claimed scene_put synced_stands tt refl (inl (tt, refl))) tt refl (inl (tt, refl))
