-- The walks over lists of values, beside the trees that they stand for.
use Rattle.std.proofs.Math.Seq.{take-nil}
use Rattle.std.proofs.Common.{◌≡◌, ℕ, zero, suc, ◌≤◌, take, max, List, [], ◌∷◌, map, length, Bool, true, false, true≢false, refl, sym, ap, ◌∙◌, arith, le-leb}
use Rattle.std.proofs.lemmas.Bool.{leb-true}
use Rattle.std.specs.Prelude.{nat_le, IsTrue}
use Rattle.serde_json.specs.Data.{Data, object, item, Members, put}
use Rattle.serde_json.specs.View.{view, items_of, members_view}
use Rattle.serde_json.specs.declared.value.Value.{Value}
use Rattle.serde_json.proofs.Views.{Entry}
use Rattle.fractions.specs.Aside.{reserved_name, with_notes}
use Rattle.fractions.specs.Back.{back, items_back}

too_deep : (t : Bool) (a b n : ℕ) → nat_le (max a b) n ≡ t → nat_le a n ≡ false → t ≡ false
too_deep true a b n e h =
    let both : max a b ≤ n = leb-true (max a b) n e in
    let first : a ≤ n = omega arith in
    absurd (true≢false (sym (le-leb a n first) ∙ h))
too_deep false a b n e h = refl

pub first_too_deep : (a b n : ℕ) → nat_le a n ≡ false → nat_le (max a b) n ≡ false
first_too_deep a b n h = too_deep (nat_le (max a b) n) a b n refl h

the_rest : (t u : Bool) (a b n : ℕ) → nat_le (max a b) n ≡ t → nat_le b n ≡ u → nat_le a n ≡ true → t ≡ u
the_rest true true a b n e f h = refl
the_rest false false a b n e f h = refl
the_rest true false a b n e f h =
    let both : max a b ≤ n = leb-true (max a b) n e in
    let second : b ≤ n = omega arith in
    absurd (true≢false (sym (le-leb b n second) ∙ f))
the_rest false true a b n e f h =
    let first : a ≤ n = leb-true a n h in
    let second : b ≤ n = leb-true b n f in
    let both : max a b ≤ n = omega arith in
    absurd (true≢false (sym (le-leb (max a b) n both) ∙ e))

pub rest_as_deep : (a b n : ℕ) → nat_le a n ≡ true → nat_le (max a b) n ≡ nat_le b n
rest_as_deep a b n h = the_rest (nat_le (max a b) n) (nat_le b n) a b n refl refl h

pub items_back-items_of : (ds : List Data) → items_of (map back ds) ≡ items_back (items_of ds)
items_back-items_of [] = refl
items_back-items_of (d ∷ ds) = ap (item (back d)) (items_back-items_of ds)

pub notes_put : (es : List Entry) (ms : Members) → (length es ≡ 0 → IsTrue false)
    → put reserved_name (object (members_view es)) ms ≡ with_notes (members_view es) ms
notes_put [] ms h = absurd (true≢false (sym (h refl)))
notes_put (x ∷ es) ms h = refl

pub map_whole : {A : Type 0} (f : Data → A) (vs : List Value) (n : ℕ) → length vs ≤ n → map (λ v. f (view v)) (take n vs) ≡ map f (map view vs)
map_whole f [] n h = ap (map (λ v. f (view v))) (take-nil n)
map_whole f (v ∷ vs) zero h = absurd (omega arith)
map_whole f (v ∷ vs) (suc n) h = ap (λ xs. f (view v) ∷ xs) (map_whole f vs n (omega arith))
