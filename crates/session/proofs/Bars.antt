-- A text is cut at its first bars, and at no others.
use Rattle.std.proofs.Common.{◌≡◌, ℕ, ◌≤◌, List, [], ◌∷◌, ◌++◌, length, take, drop, Option, None, Some, Bor, refl, sym, ap, ◌∙◌, subst, append_assoc}
use Rattle.std.proofs.Common.{length-append, slice_index, inl, inr, arith}
use Rattle.std.specs.Prelude.{codes}
use Rattle.std.specs.Str.{bytes_eq}
use Rattle.std.specs.Str.Pattern.{FindsText, SplitsAroundMatch}
use Rattle.std.proofs.lemmas.Bool.{cond_both, cases_order}
use Rattle.std.proofs.lemmas.List.{take-append-drop, drop_at}
use Rattle.std.proofs.lemmas.Slice.Eq.{bytes_eq-Decides}
use Rattle.session.specs.Words.{bars, cut_at_bars}
use Rattle.session.specs.Spelling.{joined_by_bars, IsNotIn, IsNotEndOf, HasNoBars}

-- one byte more in front
joined_cons : (b : ℕ) (text : List ℕ) (action : Option (List ℕ)) → joined_by_bars (b ∷ text) action ≡ b ∷ joined_by_bars text action
joined_cons b text None = refl
joined_cons b text (Some action) = refl

-- what a text is cut into makes the text
pub joined-cut_at_bars : (bytes : List ℕ) → joined_by_bars (cut_at_bars bytes).0 (cut_at_bars bytes).1 ≡ bytes
joined-cut_at_bars [] = refl
joined-cut_at_bars (b ∷ bytes) =
    cond_both (bytes_eq (take (length bars) (b ∷ bytes)) bars) ([], Some (drop (length bars) (b ∷ bytes))) (b ∷ (cut_at_bars bytes).0, (cut_at_bars bytes).1)
    (λ (x : List ℕ × Option (List ℕ)). joined_by_bars x.0 x.1 ≡ b ∷ bytes)
    (λ is.
    let here : take (length bars) (b ∷ bytes) ≡ bars = (bytes_eq-Decides (take (length bars) (b ∷ bytes)) bars).0 is in
    ap (λ prefix. prefix ++ drop (length bars) (b ∷ bytes)) (sym here) ∙ take-append-drop (length bars) (b ∷ bytes))
    (λ _. joined_cons b (cut_at_bars bytes).0 (cut_at_bars bytes).1 ∙ ap (λ bs. b ∷ bs) (joined-cut_at_bars bytes))

-- a text is cut no later than at bars that it holds
cut_at_bars_within : (prefix back : List ℕ) → length (cut_at_bars (prefix ++ (bars ++ back))).0 ≤ length prefix
cut_at_bars_within [] back = omega arith
cut_at_bars_within (b ∷ prefix) back =
    let bytes = prefix ++ (bars ++ back) in
    cond_both (bytes_eq (take (length bars) (b ∷ bytes)) bars) ([], Some (drop (length bars) (b ∷ bytes))) (b ∷ (cut_at_bars bytes).0, (cut_at_bars bytes).1)
    (λ (x : List ℕ × Option (List ℕ)). length x.0 ≤ length (b ∷ prefix))
    (λ _. omega arith)
    (λ _. omega (arith, cut_at_bars_within prefix back))

-- the text has no bars, where it ends no later than at bars of the whole
no_bars : (bytes text : List ℕ) (action : Option (List ℕ)) → joined_by_bars text action ≡ bytes
    → ((prefix back : List ℕ) → bytes ≡ prefix ++ (bars ++ back) → length text ≤ length prefix) → HasNoBars text action
no_bars bytes text None e within = λ prefix back is.
    let late = within prefix back (sym e ∙ is) in
    absurd (omega (arith, late, ap length is, length-append prefix (bars ++ back), length-append bars back))
no_bars bytes text (Some action) e within = (
  λ prefix back is.
      let late = within prefix (back ++ (bars ++ action)) (sym e ∙ ap (λ t. t ++ (bars ++ action)) is ∙ append_assoc prefix (bars ++ back) (bars ++ action)) in
      absurd (omega (arith, late, ap length is, length-append prefix (bars ++ back), length-append bars back)),
  λ prefix is.
      let late = within prefix (codes "|| " ++ action) (sym e ∙ ap (λ t. t ++ (bars ++ action)) is ∙ append_assoc prefix (codes " ||") (bars ++ action)) in
      absurd (omega (arith, late, ap length is, length-append prefix (codes " ||"))),
)

pub no_bars_cut : (bytes : List ℕ) → HasNoBars (cut_at_bars bytes).0 (cut_at_bars bytes).1
no_bars_cut bytes = no_bars bytes (cut_at_bars bytes).0 (cut_at_bars bytes).1 (joined-cut_at_bars bytes)
    (λ prefix back e. subst (λ bs. length (cut_at_bars bs).0 ≤ length prefix) (sym e) (cut_at_bars_within prefix back))

-- without its first byte a text has no bars either
no_bars_tail : (b : ℕ) (text : List ℕ) (action : Option (List ℕ)) → HasNoBars (b ∷ text) action → HasNoBars text action
no_bars_tail b text None h = λ prefix back e. h (b ∷ prefix) back (ap (λ bs. b ∷ bs) e)
no_bars_tail b text (Some action) h = (λ prefix back e. h.0 (b ∷ prefix) back (ap (λ bs. b ∷ bs) e), λ prefix e. h.1 (b ∷ prefix) (ap (λ bs. b ∷ bs) e))

-- the first byte of a text without bars does not begin bars
not_in_text : (b : ℕ) (text : List ℕ) → IsNotIn bars (b ∷ text) → take (length bars) (b ∷ text) ≡ bars → ⊥
not_in_text b text h e = h [] (drop (length bars) (b ∷ text))
    (sym (take-append-drop (length bars) (b ∷ text)) ∙ ap (λ prefix. prefix ++ drop (length bars) (b ∷ text)) e)

no_space_is_bar : ◌≡◌ {A = ℕ} 32 124 → ⊥
no_space_is_bar h = absurd (omega (arith, h))

not_before_action : (b : ℕ) (text action : List ℕ) → IsNotIn bars (b ∷ text) → IsNotEndOf (codes " ||") (b ∷ text)
    → take (length bars) (b ∷ (text ++ (bars ++ action))) ≡ bars → ⊥
not_before_action b [] action h end e = no_space_is_bar (ap (λ (bs : List ℕ). slice_index bs 1) e)
not_before_action b (c ∷ []) action h end e = no_space_is_bar (ap (λ (bs : List ℕ). slice_index bs 2) e)
not_before_action b (c ∷ d ∷ []) action h end e = end [] (ap (take 3) e)
not_before_action b (c ∷ d ∷ f ∷ text) action h end e = h [] text (ap (λ prefix. prefix ++ text) e)

not_here : (b : ℕ) (text : List ℕ) (action : Option (List ℕ)) → HasNoBars (b ∷ text) action → take (length bars) (b ∷ joined_by_bars text action) ≡ bars → ⊥
not_here b text None h e = not_in_text b text h e
not_here b text (Some action) h e = not_before_action b text action h.0 h.1 e

-- texts that are joined by bars are cut there, where the first has none
pub cut_at_bars-joined : (text : List ℕ) (action : Option (List ℕ)) → HasNoBars text action → cut_at_bars (joined_by_bars text action) ≡ (text, action)
cut_at_bars-joined [] None h = refl
cut_at_bars-joined [] (Some action) h = refl
cut_at_bars-joined (b ∷ text) action h =
    ap cut_at_bars (joined_cons b text action)
    ∙ cond_both (bytes_eq (take (length bars) (b ∷ joined_by_bars text action)) bars) ([], Some (drop (length bars) (b ∷ joined_by_bars text action)))
    (b ∷ (cut_at_bars (joined_by_bars text action)).0, (cut_at_bars (joined_by_bars text action)).1)
    (λ (x : List ℕ × Option (List ℕ)). x ≡ (b ∷ text, action))
    (λ is. absurd (not_here b text action h ((bytes_eq-Decides (take (length bars) (b ∷ joined_by_bars text action)) bars).0 is)))
    (λ _. ap (λ (x : List ℕ × Option (List ℕ)). (b ∷ x.0, x.1)) (cut_at_bars-joined text action (no_bars_tail b text action h)))

-- where std finds the first bars
pub cut_at_bars_found : (bytes : List ℕ) (prefix behind : Bor (List ℕ)) → SplitsAroundMatch (FindsText bars) bytes prefix.now behind.now
    → cut_at_bars bytes ≡ (prefix.now, Some behind.now)
cut_at_bars_found bytes prefix behind h =
    let whole : joined_by_bars prefix.now (Some behind.now) ≡ bytes =
    (λ i. h.3 i ++ (bars ++ h.4 i)) ∙ ap (λ rest. take h.0 bytes ++ rest) (sym h.2.1.split) ∙ take-append-drop h.0 bytes in
    let lacks : (early back : List ℕ) → bytes ≡ early ++ (bars ++ back) → length prefix.now ≤ length early =
    λ early back e. omega (arith, h.6, not_before early back e) in
    ap cut_at_bars (sym whole) ∙ cut_at_bars-joined prefix.now (Some behind.now) (no_bars bytes prefix.now (Some behind.now) whole lacks)
  where
    not_before : (early back : List ℕ) → bytes ≡ early ++ (bars ++ back) → h.0 ≤ length early
    not_before early back e = elim (cases_order h.0 (length early)) [
      | inl same ↦ omega (arith, same)
      | inr other ↦ elim other [
        | inl below ↦ omega (arith, below)
        | inr above ↦ absurd (h.2.0 (length early) above back (ap (drop (length early)) e ∙ drop_at early (bars ++ back) (length early) refl))
      ]
    ]

pub cut_at_bars_none : (bytes : List ℕ) → FindsText bars bytes None → cut_at_bars bytes ≡ (bytes, None)
cut_at_bars_none bytes h = cut_at_bars-joined bytes None (λ prefix back e. h (length prefix) (omega (arith, ap length e, length-append prefix (bars ++ back)))
    back (ap (drop (length prefix)) e ∙ drop_at prefix (bars ++ back) (length prefix) refl))
