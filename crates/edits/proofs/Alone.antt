-- A fill whose start has no free neighbour.
use Rattle.std.proofs.Common.{◌≡◌, ◌≢◌, ◌↔◌, ℕ, suc, ◌+◌, ◌-◌, ◌*◌, ◌/◌, ◌%◌, ◌<◌, List, [], ◌∷◌, ◌++◌, length, Bool, true, false, cond, ◌&&◌, nat_eq, nat_lt}
use Rattle.std.proofs.Common.{get_or, Some, None, refl, subst, sym, ap, ◌∙◌, arith}
use Rattle.std.specs.List.{slice_get}
use Rattle.std.proofs.lemmas.Bool.{and_from, and_parts, eq-eqb, eqb-true, false_from_ne_true}
use Rattle.std.proofs.lemmas.Nat.{div-add-mod', div-mul-add, mod-mul-add}
use Rattle.std.proofs.lemmas.Option.{slice_get-get_or}
use Rattle.map_model.specs.Difference.{change_at, difference}
use Rattle.edits.specs.declared.ground.Ground.{Ground}
use Rattle.edits.specs.Covering.{covered, covered_value, lets_change}
use Rattle.edits.specs.Flooding.{IsGround, free_in, start_of}
use Rattle.edits.specs.Joining.{AreJoined, any_neighbour, is_value}
use Rattle.edits.proofs.Differences.{change_at-same, difference-skip, get_or-each_at}
use Rattle.edits.proofs.Fills.{change_at-cell, covered_value-cond}
use Rattle.edits.proofs.Flooded.{cell_within}
use Rattle.edits.proofs.Joined.{AreJoined-self, alone-joined, start_free}

module _ (g : Ground) where
  -- whether a cell is the start, and free
  abbrev pub is_start : ℕ × ℕ → Bool
  is_start q = free_in g q && (nat_eq g.start.0 q.0 && nat_eq g.start.1 q.1)

  start-parts : (q : ℕ × ℕ) → is_start q ≡ true → (free_in g q ≡ true) × (start_of g ≡ q)
  start-parts q h =
      let p = and_parts (free_in g q) (nat_eq g.start.0 q.0 && nat_eq g.start.1 q.1) h in
      let r = and_parts (nat_eq g.start.0 q.0) (nat_eq g.start.1 q.1) p.1 in
      let column = eqb-true g.start.0 q.0 r.0 in
      let row = eqb-true g.start.1 q.1 r.1 in
      (p.0, λ i. (column i, row i))

  -- the start alone is joined to it, where it is free
  pub start-joined : any_neighbour (free_in g) (start_of g) ≡ false → (q : ℕ × ℕ) → (is_start q ≡ true) ↔ AreJoined (free_in g) (start_of g) q
  start-joined alone q = (there, back)
    where
      there : is_start q ≡ true → AreJoined (free_in g) (start_of g) q
      there h =
          let p = start-parts q h in
          let P : ℕ × ℕ → Type 0 = AreJoined (free_in g) (start_of g) in
          subst P p.1 (AreJoined-self (free_in g) (start_of g) (ap (free_in g) p.1 ∙ p.0))

      back : AreJoined (free_in g) (start_of g) q → is_start q ≡ true
      back j =
          let same = alone-joined (free_in g) (start_of g) q alone j in
          let free = start_free (free_in g) (start_of g) q j in
          ap is_start (sym same) ∙ and_from (free_in g (start_of g)) _ free (and_from _ _ (eq-eqb g.start.0 g.start.0 refl) (eq-eqb g.start.1 g.start.1 refl))

  module _ (ground : IsGround g) (value : ℕ) where
    abbrev x : ℕ
    x = g.start.0

    abbrev y : ℕ
    y = g.start.1

    abbrev w : ℕ
    w = g.width

    abbrev at : ℕ
    at = y * w + x

    abbrev ys : List ℕ
    ys = covered w (λ cx cy. cond (is_start (cx, cy)) (Some value) None) g.tiles.now

    within : at < length g.tiles.now
    within = cell_within g ground x y ground.column ground.row

    after : (k : ℕ) → k < length g.tiles.now → get_or ys k 0 ≡ cond (is_start (k % w, k / w)) value (get_or g.tiles.now k 0)
    after k l =
        get_or-each_at (λ number old. covered_value (cond (is_start (number % w, number / w)) (Some value) None) old) g.tiles.now k l
        ∙ covered_value-cond (is_start (k % w, k / w)) value (get_or g.tiles.now k 0)

    elsewhere : (k : ℕ) → k < length g.tiles.now → k ≢ at → get_or ys k 0 ≡ get_or g.tiles.now k 0
    elsewhere k l other =
        let not_start = false_from_ne_true (is_start (k % w, k / w)) (λ h.
        let same = (start-parts (k % w, k / w) h).1 in
        let column : x ≡ k % w = ap (λ (q : ℕ × ℕ). q.0) same in
        let row : y ≡ k / w = ap (λ (q : ℕ × ℕ). q.1) same in
        other (sym (ap (λ n. n * w + x) row ∙ ap (λ n. k / w * w + n) column ∙ div-add-mod' k w))) in
        after k l ∙ ap (λ b. cond b value (get_or g.tiles.now k 0)) not_start

    here : get_or ys at 0 ≡ cond (free_in g (x, y)) value (get_or g.tiles.now at 0)
    here =
        let cell : (at % w, at / w) ≡ (x, y) = λ i. (mod-mul-add y w x ground.column i, div-mul-add y w x ground.column i) in
        let is = ap is_start cell ∙ by_free (free_in g (x, y)) in
        after at within ∙ ap (λ b. cond b value (get_or g.tiles.now at 0)) is
      where
        by_free : (b : Bool) → (b && (nat_eq x x && nat_eq y y)) ≡ b
        by_free false = refl
        by_free true = and_from _ _ (eq-eqb x x refl) (eq-eqb y y refl)

    before-start : difference w g.tiles.now ys at ≡ []
    before-start =
        let all : 0 + at ≡ at = omega arith in
        ap (difference w g.tiles.now ys) (sym all)
        ∙ difference-skip w g.tiles.now ys 0 at (λ i l. elsewhere (0 + i) (omega (arith, within)) (λ e. omega (arith, e, l)))

    -- the difference is that of the start, where it is free
    pub difference-start : g.value ≢ value → difference w g.tiles.now ys (length g.tiles.now)
        ≡ cond (free_in g (x, y)) (record { x = x; y = y; before = g.value; after = value } ∷ []) []
    difference-start other =
        let rest = length g.tiles.now - suc at in
        let all : suc at + rest ≡ length g.tiles.now = omega (arith, within) in
        ap (difference w g.tiles.now ys) (sym all)
        ∙ difference-skip w g.tiles.now ys (suc at) rest (λ i l. elsewhere (suc at + i) (omega (arith, all)) (λ e. omega (arith, e)))
        ∙ ap (λ es. es ++ change_at w at (get_or g.tiles.now at 0) (get_or ys at 0)) before-start
        ∙ ap (change_at w at (get_or g.tiles.now at 0)) here
        ∙ by_free (free_in g (x, y)) refl
      where
        by_free : (b : Bool) → free_in g (x, y) ≡ b → change_at w at (get_or g.tiles.now at 0) (cond b value (get_or g.tiles.now at 0))
            ≡ cond b (record { x = x; y = y; before = g.value; after = value } ∷ []) []
        by_free false e = change_at-same w at (get_or g.tiles.now at 0) (get_or g.tiles.now at 0) refl
        by_free true e =
            let both = and_parts (nat_lt x w) (is_value (slice_get g.tiles.now at) g.value && lets_change g.selection.now (x, y)) e in
            let own = (and_parts (is_value (slice_get g.tiles.now at) g.value) (lets_change g.selection.now (x, y)) both.1).0 in
            let read = eqb-true (get_or g.tiles.now at 0) g.value (sym (ap (λ o. is_value o g.value) (slice_get-get_or g.tiles.now at 0 within)) ∙ own) in
            ap (λ v. change_at w at v value) read ∙ change_at-cell w x y g.value value ground.column other
