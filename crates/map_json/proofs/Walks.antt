-- Loops over layers, objects and members that leave one answer.
use Rattle.std.proofs.Common.{◌≡◌, ℕ, List, ◌∷◌, ◌++◌, Bool, true, false, ◌||◌, Ordering, Less, Equal, Greater, nat_cmp, is_eq, bytes_eq, refl, sym, ◌∙◌}
use Rattle.std.proofs.Common.{append_assoc}
use Rattle.std.specs.List.{list_all, flat_map}
use Rattle.std.specs.Cmp.Lexicographic.{slice_cmp}
use Rattle.std.proofs.lemmas.Bool.{false≢true}
use Rattle.std.proofs.lemmas.List.Folds.{list_all-append}
use Rattle.std.proofs.lemmas.Map.Text.{is_eq-slice_cmp}
use Rattle.std.proofs.lemmas.Slice.Eq.{bytes_eq-Decides}
use Rattle.serde_json.specs.Data.{Data, Members, member, object}
use Rattle.serde_json.specs.Find.{get_member}
use Rattle.map_model.specs.declared.names.TheConstants.{VERSION}
use Rattle.map_json.specs.Maps.{has_fraction, version_has_fraction}
use Rattle.serde_json.specs.Written.{has_float, members_have_float}
use Rattle.json_members.specs.Members.{without}

module _ {A B : Type 0} (f : A → List B) where
  -- one more element is behind what was gathered
  pub gathered_more : (prefix : List B) (x : A) (xs : List A) → (prefix ++ f x) ++ flat_map f xs ≡ prefix ++ flat_map f (x ∷ xs)
  gathered_more prefix x xs = append_assoc prefix (f x) (flat_map f xs)

module _ {B : Type 0} (p : B → Bool) where
  pub all_pass : (xs ys : List B) → list_all p xs ≡ true → list_all p (xs ++ ys) ≡ list_all p ys
  all_pass xs ys h = rw (list_all-append p xs ys, h) refl

  pub one_fails : (xs ys : List B) → list_all p xs ≡ false → list_all p (xs ++ ys) ≡ false
  one_fails xs ys h = rw (list_all-append p xs ys, h) refl

-- ---- fractions beside the version
at_version : (o : Ordering) (l : List ℕ) (d : Data) (ms : Members) → slice_cmp nat_cmp VERSION.now l ≡ o → is_eq o ≡ true
    → members_have_float (without VERSION.now (member l d ms)) ≡ members_have_float (without VERSION.now ms)
at_version Less l d ms is e = absurd (false≢true e)
at_version Equal l d ms is e = rw is refl
at_version Greater l d ms is e = absurd (false≢true e)

pub version_skipped : (l : List ℕ) (d : Data) (ms : Members) → bytes_eq l VERSION.now ≡ true
    → members_have_float (without VERSION.now (member l d ms)) ≡ members_have_float (without VERSION.now ms)
version_skipped l d ms e =
    let same = (bytes_eq-Decides l VERSION.now).0 e in
    at_version (slice_cmp nat_cmp VERSION.now l) l d ms refl (is_eq-slice_cmp VERSION.now l ∙ (bytes_eq-Decides VERSION.now l).1 (sym same))

at_other : (o : Ordering) (l : List ℕ) (d : Data) (ms : Members) → slice_cmp nat_cmp VERSION.now l ≡ o → is_eq o ≡ false
    → members_have_float (without VERSION.now (member l d ms)) ≡ has_float d || members_have_float (without VERSION.now ms)
at_other Less l d ms is e = rw is refl
at_other Equal l d ms is e = absurd (false≢true (sym e))
at_other Greater l d ms is e = rw is refl

differ : (b : Bool) (k l : List ℕ) → bytes_eq k l ≡ b → bytes_eq l k ≡ false → b ≡ false
differ true k l e f = absurd (false≢true (sym f ∙ (bytes_eq-Decides l k).1 (sym ((bytes_eq-Decides k l).0 e))))
differ false k l e f = refl

pub other_member : (l : List ℕ) (d : Data) (ms : Members) → bytes_eq l VERSION.now ≡ false
    → members_have_float (without VERSION.now (member l d ms)) ≡ has_float d || members_have_float (without VERSION.now ms)
other_member l d ms e =
    at_other (slice_cmp nat_cmp VERSION.now l) l d ms refl (is_eq-slice_cmp VERSION.now l ∙ differ (bytes_eq VERSION.now l) VERSION.now l refl e)

pub has_fraction-object : (ms : Members) (b : Bool) → members_have_float (without VERSION.now ms) ≡ false → b ≡ version_has_fraction (get_member VERSION.now ms)
    → b ≡ has_fraction (object ms)
has_fraction-object ms b whole is = rw whole is
