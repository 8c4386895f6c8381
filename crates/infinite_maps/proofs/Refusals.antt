-- Which lists of chunks are refused.
use Rattle.std.proofs.Common.{◌≡◌, ℕ, zero, suc, ◌<◌, List, [], ◌∷◌, ◌++◌, Bool, true, false, true≢false, length, get_or, take, drop, refl, sym, ap, ◌∙◌, arith}
use Rattle.std.specs.Prelude.{◌&&◌, ◌||◌, not, codes, Some, Result, Ok, Err, IfErr}
use Rattle.std.proofs.lemmas.List.{append-nil}
use Rattle.std.proofs.Math.Seq.{take-length}
use Rattle.std.proofs.Math.ListN.{drop_of_length-le}
use Rattle.serde_json.specs.Data.{Data, Items, no_items, item, Members}
use Rattle.serde_json.specs.Find.{get_member, as_array}
use Rattle.serde_json.specs.View.{view, items_view}
use Rattle.serde_json.specs.declared.value.Value.{Value}
use Rattle.infinite_maps.specs.Sound.{is_placed, are_placed, are_sound, are_chunks, has_sound_chunks, is_compressed, is_base64, is_bad}
use Rattle.infinite_maps.specs.Overlaps.{do_overlap, overlaps_one, have_overlap}

unplaced_step : (a x b s : Bool) → (a && b) ≡ false → (b ≡ false → s ≡ false) → ((a && x) && s) ≡ false
unplaced_step false x b s e later = refl
unplaced_step true false b s e later = refl
unplaced_step true true b s e later = later e

pub unplaced : (packed text : Bool) (cs : Items) → are_placed cs ≡ false → are_sound packed text cs ≡ false
unplaced packed text no_items e = absurd (true≢false e)
unplaced packed text (item c cs) e = unplaced_step (is_placed c) _ (are_placed cs) (are_sound packed text cs) e (unplaced packed text cs)

-- a layer whose chunks cannot be placed is bad
pub bad_by_place : (ms : Members) (d : Data) (cs : Items) → Some d ≡ get_member (codes "chunks") ms → Some cs ≡ as_array d → are_placed cs ≡ false
    → is_bad ms ≡ true
bad_by_place ms d cs has list e =
    ap (λ o. not (has_sound_chunks (is_compressed ms) (is_base64 ms) o)) (sym has)
    ∙ (ap (λ o. not (are_chunks (is_compressed ms) (is_base64 ms) o)) (sym list) ∙ ap not (unplaced (is_compressed ms) (is_base64 ms) cs e))

right : (a b : Bool) → b ≡ true → (a || b) ≡ true
right true b e = refl
right false b e = e

left : (a b : Bool) → a ≡ true → (a || b) ≡ true
left true b e = refl
left false b e = absurd (true≢false (sym e))

-- the first chunk shares a cell with one behind it
overlaps_later : (c : Data) (vs : List Value) (j : ℕ) (b : Value) → j < length vs → b ≡ get_or vs j b → do_overlap c (view b) ≡ true
    → overlaps_one c (items_view vs) ≡ true
overlaps_later c [] j b lt is e = absurd (omega arith)
overlaps_later c (v ∷ vs) zero b lt is e = left (do_overlap c (view v)) _ (ap (λ (w : Value). do_overlap c (view w)) (sym is) ∙ e)
overlaps_later c (v ∷ vs) (suc j) b lt is e = right (do_overlap c (view v)) _ (overlaps_later c vs j b (omega arith) is e)

pub overlap_at : (vs : List Value) (i j : ℕ) (a b : Value) → i < j → j < length vs → a ≡ get_or vs i a → b ≡ get_or vs j b
    → do_overlap (view a) (view b) ≡ true → have_overlap (items_view vs) ≡ true
overlap_at [] i j a b before lt is_a is_b e = absurd (omega arith)
overlap_at (v ∷ vs) i zero a b before lt is_a is_b e = absurd (omega arith)
overlap_at (v ∷ vs) zero (suc j) a b before lt is_a is_b e =
    let same = ap (λ (w : Value). do_overlap (view w) (view b)) (sym is_a) ∙ e in
    left (overlaps_one (view v) (items_view vs)) _ (overlaps_later (view v) vs j b (omega arith) is_b same)
overlap_at (v ∷ vs) (suc i) (suc j) a b before lt is_a is_b e =
    right (overlaps_one (view v) (items_view vs)) _ (overlap_at vs i j a b (omega arith) (omega arith) is_a is_b e)

-- a slice of all items, written back
pub written_back : {A : Type 0} (n : ℕ) (xs ws : List A) → length ws ≡ length xs → n ≡ length xs → take n (ws ++ drop (length ws) xs) ≡ ws
written_back n xs ws same long =
    let none : drop (length ws) xs ≡ [] = drop_of_length-le xs (omega arith) in
    let all : n ≡ length ws = omega arith in
    ap (λ ys. take n (ws ++ ys)) none ∙ (ap (take n) (append-nil ws) ∙ (ap (λ m. take m ws) all ∙ take-length ws))

pub on_err : {A E P : Type 0} (r : Result A E) → P → IfErr r (λ _. P)
on_err (Ok x) h = tt
on_err (Err e) h = h
