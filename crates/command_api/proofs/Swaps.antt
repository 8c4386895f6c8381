-- What a swap keeps, from the laws of its part.
use Rattle.std.proofs.Common.{◌≡◌, Bool, true, false, not, IsSome, Some, Result, Ok, refl, sym, ap, ◌∙◌}
use Rattle.map_model.proofs.LensLaws.{some-eq}
use Rattle.map_model.specs.Document.{DocumentParts}
use Rattle.map_model.specs.Lens.{Lens, IsLawfulLens, put}
use Rattle.map_model.specs.WellFormed.{IsWellFormed}
use Rattle.command_api.specs.Names.{Names, Vanishing, WhenEqual, IsSettled}
use Rattle.command_api.specs.Making.{Makes}
use Rattle.command_api.specs.Exchange.{FitsTurn, IsExchanged, change_of}
use Rattle.command_api.specs.Offers.{FitsPut, IsMerged, Shown, offer_undone}
use Rattle.command_api.specs.Swap.{swap, swap_where, swap_shown, swap_held, FitsBack, FitsShown, IsCovered, IsGiven}

-- ---- one turn: the part has the value new, and the held one is put in
module _ {V : Type 0} {p : Lens DocumentParts V} {held new : V} {d e : DocumentParts} (laws : IsLawfulLens p) (given : p.get d ≡ Some new)
    (is : e ≡ put p held d) where
  get-put : IsSome (p.get e)
  get-put = rw (is, laws.get-update (λ own. held) new d given) refl

  put-put : put p new e ≡ d
  put-put = rw is (laws.update-update (λ own. new) (λ own. held) d ∙ laws.update-same (λ own. new) new d given refl)

pub swapped : {V : Type 0} {names : Names} {p : Lens DocumentParts V} {same : Bool} {held new : V} {d e : DocumentParts} → IsLawfulLens p → p.get d ≡ Some new
    → e ≡ put p held d
    → IsExchanged (swap names p same held) (swap names p same new) d e
swapped laws given is = record { document = is; fits = get-put laws given is; back = put-put laws given is; names = refl; obsolete = refl; made = refl }

-- the document with the held value allows the part's own
pub swapped_where : {V : Type 0} {names : Names} {p : Lens DocumentParts V} {same : Bool} {held new : V} {d e : DocumentParts}
    (Allows : DocumentParts → V → Type 0) → IsLawfulLens p
    → p.get d ≡ Some new → e ≡ put p held d → Allows e new → IsExchanged (swap_where names p Allows same held) (swap_where names p Allows same new) d e
swapped_where Allows laws given is allowed = record {
  document = is;
  fits = (get-put laws given is, allowed);
  back = put-put laws given is;
  names = refl;
  obsolete = refl;
  made = refl;
}

-- ---- an edit puts the held value in, and a test has told whether it is the part's own
module _ {V : Type 0} {p : Lens DocumentParts V} {vanishing : Vanishing} {same : Bool} {held : V} {d : DocumentParts} (laws : IsLawfulLens p)
    (vanishes : vanishing ≡ WhenEqual)
    (own : V) (given : p.get d ≡ Some own) (told : same ≡ true → own ≡ held) (found : own ≡ held → same ≡ true) where
  put-IsSettled : IsSettled vanishing same d (put p held d)
  put-IsSettled =
      rw vanishes (
        λ b. ap (λ v. put p v d) (sym (told b)) ∙ laws.update-same (λ w. own) own d given refl,
        λ q. found (some-eq own held (sym given ∙ ap p.get (sym q) ∙ laws.get-update (λ w. held) own d given)),
      )

pub swap_made : {V E : Type 0} {names : Names} {p : Lens DocumentParts V} {same : Bool} {held : V} {d : DocumentParts} {after : Result DocumentParts E}
    → IsLawfulLens p → names.vanishing ≡ WhenEqual
    → (own : V) → p.get d ≡ Some own → (same ≡ true → own ≡ held) → (own ≡ held → same ≡ true) → after ≡ Ok (put p held d)
    → Makes names d after (change_of (swap names p same held))
swap_made laws vanishes own given told found is = record {
  fits = (λ e. cc, record { fits = rw given refl; settled = put-IsSettled laws vanishes own given told found });
  document = is;
  names = refl;
}

pub swap_where_made : {V E : Type 0} {names : Names} {p : Lens DocumentParts V} {same : Bool} {held : V} {d : DocumentParts} {after : Result DocumentParts E}
    (Allows : DocumentParts → V → Type 0) → IsLawfulLens p
    → names.vanishing ≡ WhenEqual → (own : V) → p.get d ≡ Some own → (same ≡ true → own ≡ held) → (own ≡ held → same ≡ true) → Allows d held
    → after ≡ Ok (put p held d)
    → Makes names d after (change_of (swap_where names p Allows same held))
swap_where_made Allows laws vanishes own given told found allowed is = record {
  fits = (λ e. cc, record { fits = (rw given refl, allowed); settled = put-IsSettled laws vanishes own given told found });
  document = is;
  names = refl;
}

-- ---- swaps that show the value that they give
IsGiven-turned : {V : Type 0} (p : Lens DocumentParts V) → IsLawfulLens p → (made : Bool) (after held new : V) (d e : DocumentParts)
    → IsGiven p made after held d → p.get d ≡ Some new → e ≡ put p held d
    → IsGiven p (not made) after new e
IsGiven-turned p laws false after held new d e h given is = ap p.get is ∙ laws.get-update (λ own. held) new d given ∙ ap Some h.1
IsGiven-turned p laws true after held new d e h given is = (get-put laws given is, some-eq new after (sym given ∙ h))

-- one turn, where the document with the held value allows the part's own
pub shown_swapped : {V : Type 0} {names : Names} {p : Lens DocumentParts V} {same : Bool} (made : Bool) {after held new : V} {d e : DocumentParts}
    (Allows : DocumentParts → V → Type 0) → IsLawfulLens p
    → FitsShown p Allows made after held d → p.get d ≡ Some new → e ≡ put p held d → Allows e new
    → IsExchanged (swap_shown names p Allows same made after held) (swap_shown names p Allows same (not made) after new) d e
shown_swapped {p = p} made {after = after} {held = held} {new = new} {d = d} {e = e} Allows laws fits given is allowed =
    let back = put-put laws given is in
    record {
      document = is;
      fits = record {
        given = IsGiven-turned p laws made after held new d e fits.given given is;
        allowed = allowed;
        here = rw is fits.there;
        there = rw back fits.here;
      };
      back = back;
      names = refl;
      obsolete = refl;
      made = refl;
    }

-- an edit puts the value in, and a test has told whether it is the part's own
pub shown_made : {V E : Type 0} {names : Names} {p : Lens DocumentParts V} {same : Bool} {held : V} {d : DocumentParts} {after : Result DocumentParts E}
    (Allows : DocumentParts → V → Type 0) → IsLawfulLens p
    → names.vanishing ≡ WhenEqual → (own : V) → p.get d ≡ Some own → (same ≡ true → own ≡ held) → (own ≡ held → same ≡ true) → Allows d held
    → IsWellFormed d.map → IsWellFormed (put p held d).map
    → after ≡ Ok (put p held d) → Makes names d after (change_of (swap_shown names p Allows same false held held))
shown_made Allows laws vanishes own given told found allowed here there is = record {
  fits = (
    λ e. cc,
    record {
      fits = record { given = (rw given refl, refl); allowed = allowed; here = here; there = there };
      settled = put-IsSettled laws vanishes own given told found;
    },
  );
  document = is;
  names = refl;
}

-- one that is made shows its part's value, and the one that it held before
pub shown_offered : {V : Type 0} {names : Names} {p : Lens DocumentParts V} {same : Bool} (made : Bool) {after held : V} {d : DocumentParts}
    (Allows : DocumentParts → V → Type 0)
    → FitsTurn false (swap_shown names p Allows same made after held) d → FitsPut p held after d
shown_offered false Allows fits = absurd (fits.0 refl)
shown_offered true Allows fits = record { well_formed = fits.1.fits.here; holds = fits.1.fits.given; back = fits.1.fits.there }

-- one that is made takes a newer value of its part in, and a test has told whether that is the value from before both
pub shown_merged : {V : Type 0} {names : Names} {p : Lens DocumentParts V} {same told : Bool} (made : Bool) {after held before newer : V} {d : DocumentParts}
    {o : Shown} (Allows : DocumentParts → V → Type 0)
    → IsLawfulLens p → names.vanishing ≡ WhenEqual → (told ≡ true → held ≡ newer) → (held ≡ newer → told ≡ true) → FitsPut p before newer d
    → offer_undone o d ≡ put p before d
    → FitsTurn false (swap_shown names p Allows same made after held) (offer_undone o d) → (Allows (put p before d) held → Allows d held)
    → IsMerged (change_of (swap_shown names p Allows same made after held)) (change_of (swap_shown names p Allows told made newer held)) o d
shown_merged false Allows laws vanishes equal same fits is older stays = absurd (older.0 refl)
shown_merged {p = p} true {held = held} {before = before} {newer = newer} {d = d} Allows laws vanishes equal same fits is older stays =
    let there = (rw is at older).1.fits in
    let back : put p held d ≡ put p held (put p before d) = sym (laws.update-update (λ own. held) (λ own. before) d) in
    record {
      fits = (
        λ e. cc,
        record {
          fits = record { given = fits.holds; allowed = stays there.allowed; here = fits.well_formed; there = rw back there.there };
          settled = put-IsSettled laws vanishes newer fits.holds (λ b. sym (equal b)) (λ q. same (sym q));
        },
      );
      undone = back ∙ ap (put p held) (sym is);
      names = refl;
    }

-- ---- swaps that show the value from before alone
-- one turn
pub held_swapped : {V : Type 0} {names : Names} {p : Lens DocumentParts V} {same : Bool} (made : Bool) {held new : V} {d e : DocumentParts}
    → IsLawfulLens p → FitsBack p held d → p.get d ≡ Some new → e ≡ put p held d
    → IsExchanged (swap_held names p same made (Some held)) (swap_held names p same (not made) (Some new)) d e
held_swapped {p = p} made {held = held} {new = new} {d = d} {e = e} laws fits given is =
    let back = put-put laws given is in
    record {
      document = is;
      fits = record { well_formed = rw is fits.back; there = get-put laws given is; back = rw back fits.well_formed };
      back = back;
      names = refl;
      obsolete = refl;
      made = refl;
    }

-- an edit puts the value in, and a test has told whether it is the part's own
pub held_made : {V E : Type 0} {names : Names} {p : Lens DocumentParts V} {same : Bool} {held : V} {d : DocumentParts} {after : Result DocumentParts E}
    → IsLawfulLens p
    → names.vanishing ≡ WhenEqual → (own : V) → p.get d ≡ Some own → (same ≡ true → own ≡ held) → (own ≡ held → same ≡ true)
    → FitsBack p held d
    → after ≡ Ok (put p held d) → Makes names d after (change_of (swap_held names p same false (Some held)))
held_made laws vanishes own given told found fits is = record {
  fits = (λ e. cc, record { fits = fits; settled = put-IsSettled laws vanishes own given told found });
  document = is;
  names = refl;
}

-- what puts a value of the part back is covered by each value of it
pub put-covered : {V : Type 0} {p : Lens DocumentParts V} {value before : V} {d : DocumentParts} → IsLawfulLens p → FitsBack p before d
    → IsCovered p value (put p before d) d
put-covered {value = value} {before = before} {d = d} laws fits = record {
  well_formed = fits.well_formed;
  there = fits.there;
  same = laws.update-update (λ own. value) (λ own. before) d;
}

-- one that is made takes in a newer change that its value covers, and a test has told whether the part has the value from before both
pub held_merged : {V : Type 0} {names : Names} {p : Lens DocumentParts V} {same told : Bool} (made : Bool) {held : V} {d : DocumentParts} {o : Shown}
    → IsLawfulLens p → names.vanishing ≡ WhenEqual → (own : V) → p.get d ≡ Some own → (told ≡ true → own ≡ held) → (own ≡ held → told ≡ true)
    → IsCovered p held (offer_undone o d) d → FitsTurn false (swap_held names p same made (Some held)) (offer_undone o d)
    → IsMerged (change_of (swap_held names p same made (Some held))) (change_of (swap_held names p told made (Some held))) o d
held_merged made laws vanishes own given equal same covered older = record {
  fits = (
    older.0,
    record {
      fits = record { well_formed = covered.well_formed; there = covered.there; back = rw (← covered.same) older.1.fits.back };
      settled = put-IsSettled laws vanishes own given equal same;
    },
  );
  undone = sym covered.same;
  names = refl;
}
