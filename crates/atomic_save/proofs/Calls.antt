-- What may be found after one call more, and after more of them.
use Rattle.std.proofs.Common.{◌≡◌, ◌≢◌, ◌⊎◌, inl, inr, ⊎_elim, ℕ, ◌≤◌, ◌<◌, true, false, List, [], ◌∷◌, ◌++◌, length, Some, bytes_eq, refl}
use Rattle.std.proofs.Common.{sym, ap, subst, ◌∙◌, arith, append_assoc, length-append}
use Rattle.std.proofs.lemmas.Bool.{cond-true, cond-false, cases_lt, false_from_ne_true}
use Rattle.std.proofs.lemmas.Slice.Eq.{bytes_eq-Decides}
use Rattle.atomic_save.specs.Crash.{Call, Standing, Names, with_name}
use Rattle.atomic_save.specs.Crash.{after_call, Found, Disk, held, Stand, MayStand, IsDisk, MayBeFound, spoils}
use Rattle.atomic_save.specs.Saving.{IsOldOrNew, LosesNothing}
use Rattle.atomic_save.proofs.Sure.{StaysSure}

-- ---- names
same_path : (path : List ℕ) → bytes_eq path path ≡ true
same_path path = (bytes_eq-Decides path path).1 refl

other_path : (other path : List ℕ) → other ≢ path → bytes_eq other path ≡ false
other_path other path apart = false_from_ne_true (bytes_eq other path) (λ e. apart ((bytes_eq-Decides other path).0 e))

pub with_same : (path : List ℕ) (standing : Standing) (names : Names) → with_name path standing names path ≡ standing
with_same path standing names = cond-true _ _ _ (same_path path)

pub with_other : (path : List ℕ) (standing : Standing) (names : Names) (other : List ℕ) → other ≢ path → with_name path standing names other ≡ names other
with_other path standing names other apart = cond-false _ _ _ (other_path other path apart)

stand_may : (start : Found) (disk : Disk) (calls : List Call) (names : Names) → Stand start disk calls names → MayStand start disk calls names
stand_may start disk [] names s = s
stand_may start disk (call ∷ earlier) names s = inl s

-- the shorter of two ends of a list is an end of the longer
suffix : (xs ys zs bs : List Call) → xs ++ ys ≡ zs ++ bs → length bs ≤ length ys → (more : List Call) × (ys ≡ more ++ bs)
suffix [] ys zs bs e short = (zs, e)
suffix (x ∷ xs) ys [] bs e short = absurd (omega (arith, ap length e, length-append (x ∷ xs) ys, short))
suffix (x ∷ xs) ys (z ∷ zs) bs e short = let rest : xs ++ ys ≡ zs ++ bs = cc in suffix xs ys zs bs rest short

-- ---- one call more
module _ (IsBeside : List ℕ → Type 0) (path bytes : List ℕ) where
  -- a call leaves each name that is not beside the path; under the path it leaves the name, or puts the new bytes there
  abbrev pub LeavesOthers : Call → List Call → Type 0
  LeavesOthers call calls = (names : Names) (other : List ℕ) → other ≢ path → (IsBeside other → ⊥) → after_call call (length calls) names other ≡ names other

  abbrev pub LeavesPath : Call → List Call → Type 0
  LeavesPath call calls = (start : Found) (disk : Disk) (names : Names) → IsDisk disk (call ∷ calls) → Stand start disk calls names
      → (after_call call (length calls) names path ≡ names path) ⊎ (held start disk (after_call call (length calls) names path) ≡ Some bytes)

  abbrev Result : List Call → Found → Found → Type 0
  Result calls start found = (before : Found) × MayBeFound start calls before × IsOldOrNew IsBeside path bytes before found

  as_it_was : (calls : List Call) (start found : Found) → MayBeFound start calls found → Result calls start found
  as_it_was calls start found m = (found, m, record { whole = inl refl; others = λ other a b. refl })

  module _ (call : Call) (calls : List Call) (spares : spoils call calls ≡ false)
      (others : LeavesOthers call calls) (at_path : LeavesPath call calls) (stays : StaysSure calls (call ∷ calls))
      (start found : Found) (m : MayBeFound start (call ∷ calls) found) where
    -- what is found is what could have been found where these names stood
    from : (before : Names) → MayStand start m.disk calls before → ((other : List ℕ) → other ≢ path → (IsBeside other → ⊥) → m.names other ≡ before other)
        → ((m.names path ≡ before path) ⊎ (held start m.disk (m.names path) ≡ Some bytes)) → Result calls start found
    from before may same at = (
      λ other. held start m.disk (before other),
      record { disk = m.disk; names = before; sure = λ number sure e. m.sure number sure (stays number sure e); stand = may; each = λ other. refl },
      record {
        whole = ⊎_elim (λ e. inl (m.each path ∙ ap (held start m.disk) e)) (λ e. inr (m.each path ∙ e)) at;
        others = λ other off_path off_beside. m.each other ∙ ap (held start m.disk) (same other off_path off_beside);
      },
    )

    found_after : MayStand start m.disk (call ∷ calls) m.names → Result calls start found
    found_after (inl (before, s, shows, inl e)) = from before (stand_may start m.disk calls before s)
        (λ other a b. ap (λ (f : Names). f other) e ∙ others before other a b)
        (⊎_elim (λ q. inl (ap (λ (f : Names). f path) e ∙ q)) (λ q. inr (ap (λ (f : Names). held start m.disk (f path)) e ∙ q))
        (at_path start m.disk before m.sure s))
    found_after (inl (before, s, shows, inr (inr spoiled))) = absurd (cc)
    found_after (inl (before, s, shows, inr (inl (failed, e)))) = from before (stand_may start m.disk calls before s)
        (λ other a b. ap (λ (f : Names). f other) e)
        (inl (ap (λ (f : Names). f path) e))
    found_after (inr (unsynced, may)) = from m.names may (λ other a b. refl) (inl refl)

    pub after_it : Result calls start found
    after_it = found_after m.stand

  pub one_call : (call : Call) (calls : List Call) → spoils call calls ≡ false → LeavesOthers call calls → LeavesPath call calls
      → StaysSure calls (call ∷ calls) → LosesNothing IsBeside path bytes calls (call ∷ calls)
  one_call call calls spares others at_path stays = record { calls = (call ∷ [], refl); each = each }
    where
      each : (later sofar : List Call) → call ∷ calls ≡ later ++ sofar → length calls ≤ length sofar → (start found : Found) → MayBeFound start sofar found
          → Result calls start found
      each [] sofar e long start found m = subst (λ (l : List Call). MayBeFound start l found → Result calls start found) e
          (λ n. after_it call calls spares others at_path stays start found n) m
      each (c ∷ []) sofar e long start found m = let rest : calls ≡ sofar = cc in
          subst (λ (l : List Call). MayBeFound start l found → Result calls start found) rest (λ n. as_it_was calls start found n) m
      each (c ∷ d ∷ later) sofar e long start found m = absurd (omega (arith, ap length e, length-append (c ∷ d ∷ later) sofar, long))

  -- a call that changes no name but those beside the path
  pub harmless : (call : Call) (calls : List Call) → spoils call calls ≡ false → (IsBeside path → ⊥)
      → ((names : Names) (other : List ℕ) → (IsBeside other → ⊥) → after_call call (length calls) names other ≡ names other)
      → StaysSure calls (call ∷ calls) → LosesNothing IsBeside path bytes calls (call ∷ calls)
  harmless call calls spares apart leaves stays = one_call call calls spares (λ names other a b. leaves names other b)
      (λ start disk names is s. inl (leaves names path apart)) stays

  -- ---- more calls
  pub none : (calls : List Call) → LosesNothing IsBeside path bytes calls calls
  none calls = record { calls = ([], refl); each = each }
    where
      each : (later sofar : List Call) → calls ≡ later ++ sofar → length calls ≤ length sofar → (start found : Found) → MayBeFound start sofar found
          → Result calls start found
      each [] sofar e long start found m = subst (λ (l : List Call). MayBeFound start l found → Result calls start found) e
          (λ n. as_it_was calls start found n) m
      each (c ∷ later) sofar e long start found m = absurd (omega (arith, ap length e, length-append (c ∷ later) sofar, long))

  one_after_another : (before middle found : Found) → IsOldOrNew IsBeside path bytes before middle → IsOldOrNew IsBeside path bytes middle found
      → IsOldOrNew IsBeside path bytes before found
  one_after_another before middle found r q = record {
    whole = ⊎_elim (λ (e : found path ≡ middle path). ⊎_elim (λ d. inl (e ∙ d)) (λ d. inr (e ∙ d)) r.whole) (λ n. inr n) q.whole;
    others = λ other a b. q.others other a b ∙ r.others other a b;
  }

  pub both : (old middle new : List Call) → LosesNothing IsBeside path bytes old middle → LosesNothing IsBeside path bytes middle new
      → LosesNothing IsBeside path bytes old new
  both old middle new first second = record {
    calls = (
      second.calls.0 ++ first.calls.0,
      second.calls.1 ∙ ap (λ (l : List Call). second.calls.0 ++ l) first.calls.1
          ∙ sym (append_assoc second.calls.0 first.calls.0 old),
    );
    each = each;
  }
    where
      longer : length old ≤ length middle
      longer = omega (arith, ap length first.calls.1, length-append first.calls.0 old)

      at_middle : (start found : Found) → MayBeFound start middle found → Result old start found
      at_middle start found m = first.each [] middle refl longer start found m

      late : (later sofar : List Call) → new ≡ later ++ sofar → length middle ≤ length sofar → (start found : Found) → MayBeFound start sofar found
          → Result old start found
      late later sofar e long start found m =
          let q = second.each later sofar e long start found m in
          let r = at_middle start q.0 q.1 in
          (r.0, r.1, one_after_another r.0 q.0 found r.2 q.2)

      each : (later sofar : List Call) → new ≡ later ++ sofar → length old ≤ length sofar → (start found : Found) → MayBeFound start sofar found
          → Result old start found
      each later sofar e long start found m = ⊎_elim
          (λ (h : length sofar < length middle). let tail = suffix second.calls.0 middle later sofar (sym second.calls.1 ∙ e) (omega (arith, h)) in
          first.each tail.0 sofar tail.1 long start found m)
          (λ (h : length middle ≤ length sofar). late later sofar e h start found m)
          (cases_lt (length sofar) (length middle))

-- more paths may be beside the path
pub weaken : (IsBeside IsMore : List ℕ → Type 0) (path bytes : List ℕ) (old new : List Call) → ((other : List ℕ) → IsBeside other → IsMore other)
    → LosesNothing IsBeside path bytes old new → LosesNothing IsMore path bytes old new
weaken IsBeside IsMore path bytes old new more loses = record { calls = loses.calls; each = each }
  where
    each : (later sofar : List Call) → new ≡ later ++ sofar → length old ≤ length sofar → (start found : Found) → MayBeFound start sofar found
        → Result IsMore path bytes old start found
    each later sofar e long start found m =
        let r = loses.each later sofar e long start found m in
        (r.0, r.1, record { whole = r.2.whole; others = λ other a b. r.2.others other a (λ is. b (more other is)) })
