-- What edits that are done to two documents, one after another, have in common.
use Rattle.std.proofs.Common.{◌≡◌, List, [], ◌∷◌, Bool, true, false, ◌||◌, refl, sym, ap, ◌∙◌}
use Rattle.map_model.specs.Document.{DocumentParts}
use Rattle.line_frames.specs.Frames.{AllLead, Edit, HoldsBoth, InsideLaw, IsFreeOf, Leads, MergeLaw, OrderLaw, OutsideLaw}
use Rattle.line_frames.specs.Frames.{any_looks_at, any_touches, looks_at, sees, touches}
use Rattle.line_frames.specs.Places.{AgreeAt, Place, content}

-- ---- tests
split_true : (a b : Bool) → (a || b) ≡ true → a ≡ false → b ≡ true
split_true true b e f = cc
split_true false b e f = e

first_false : (a b : Bool) → (a || b) ≡ false → a ≡ false
first_false true b e = e
first_false false b e = refl

second_false : (a b : Bool) → (a || b) ≡ false → b ≡ false
second_false true b e = cc
second_false false b e = e

pub first_true : (a b : Bool) → a ≡ true → (a || b) ≡ true
first_true true b e = refl
first_true false b e = cc

second_true : (a b : Bool) → b ≡ true → (a || b) ≡ true
second_true true b e = refl
second_true false b e = e

clash : {X : Type 0} (b : Bool) → b ≡ true → b ≡ false → X
clash true e f = cc
clash false e f = cc

module _ (outside : OutsideLaw) (inside : InsideLaw) where
  -- edits change nothing outside what they touch
  all_outside : (edits : List Edit) (d n : DocumentParts) → AllLead edits d n
      → (place : Place) → any_touches edits place ≡ false → AgreeAt place n d
  all_outside [] d n e place none = ap (content place) e
  all_outside (edit ∷ edits) d n (mid, step, rest) place none =
      all_outside edits mid n rest place (second_false (touches edit place) (any_touches edits place) none)
      ∙ outside edit d mid step place (first_false (touches edit place) (any_touches edits place) none)

  -- two documents that have the same at a place, and what an edit looks at, have the same there behind that edit
  one_agrees : (edit : Edit) (d n e k : DocumentParts) → Leads edit d n → Leads edit e k
      → ((place : Place) → looks_at edit place ≡ true → AgreeAt place d e) → (place : Place) → AgreeAt place d e → AgreeAt place n k
  one_agrees edit d n e k a b agree place same = by_test (touches edit place) refl
    where
      by_test : (t : Bool) → touches edit place ≡ t → AgreeAt place n k
      by_test true q = inside edit d n e k a b agree place q
      by_test false q = outside edit d n a place q ∙ same ∙ sym (outside edit e k b place q)

  -- and so behind some edits
  all_agree : (edits : List Edit) (d n e k : DocumentParts) → AllLead edits d n → AllLead edits e k
      → ((place : Place) → any_looks_at edits place ≡ true → AgreeAt place d e) → (place : Place) → AgreeAt place d e → AgreeAt place n k
  all_agree [] d n e k a b agree place same = ap (content place) a ∙ same ∙ sym (ap (content place) b)
  all_agree (edit ∷ edits) d n e k (mid, a, a_rest) (other, b, b_rest) agree place same =
      let one : (p : Place) → AgreeAt p d e → AgreeAt p mid other =
      one_agrees edit d mid e other a b (λ p q. agree p (first_true (looks_at edit p) (any_looks_at edits p) q)) in
      all_agree edits mid n other k a_rest b_rest (λ p q. one p (agree p (second_true (looks_at edit p) (any_looks_at edits p) q))) place (one place same)

  -- what some edits touch they look at
  touched-seen : (edits : List Edit) (place : Place) → any_touches edits place ≡ true → any_looks_at edits place ≡ true
  touched-seen [] place e = e
  touched-seen (edit ∷ edits) place e = by_test (touches edit place) refl (touched-seen edits place)
    where
      by_test : (t : Bool) → touches edit place ≡ t → (any_touches edits place ≡ true → any_looks_at edits place ≡ true)
          → any_looks_at (edit ∷ edits) place ≡ true
      by_test true q later = first_true (looks_at edit place) (any_looks_at edits place) (first_true (touches edit place) (sees edit place) q)
      by_test false q later = second_true (looks_at edit place) (any_looks_at edits place)
          (later (split_true (touches edit place) (any_touches edits place) e q))

  merged : (edits : List Edit) (base ours theirs both : DocumentParts) → AllLead edits base theirs
      → AllLead edits ours both → ((place : Place) → any_looks_at edits place ≡ true → AgreeAt place ours base)
      → (place : Place) → HoldsBoth edits base ours theirs both place
  merged edits base ours theirs both a b agree place = record {
    inside = within;
    outside = around;
    their_change = λ differs. by_test (any_touches edits place) refl within
        (λ q. absurd (differs (all_outside edits base theirs a place q)));
    our_change = λ differs. by_test (any_touches edits place) refl (λ q. absurd (differs (agree place (touched-seen edits place q)))) around;
  }
    where
      within : any_touches edits place ≡ true → AgreeAt place both theirs
      within q = all_agree edits ours both base theirs b a agree place (agree place (touched-seen edits place q))

      around : any_touches edits place ≡ false → AgreeAt place both ours
      around q = all_outside edits ours both b place q

      by_test : {X : Type 0} (t : Bool) → any_touches edits place ≡ t → (any_touches edits place ≡ true → X) → (any_touches edits place ≡ false → X) → X
      by_test true q has hasnt = has q
      by_test false q has hasnt = hasnt q

  -- ---- two edits in either order
  -- what one edit looks at, another one that touches none of it leaves as it is
  unseen : (a b : Edit) (d mid : DocumentParts) → IsFreeOf a b → Leads a d mid → (place : Place) → looks_at b place ≡ true
      → AgreeAt place mid d
  unseen a b d mid apart is place seen = by_test (touches a place) refl
    where
      by_test : (t : Bool) → touches a place ≡ t → AgreeAt place mid d
      by_test true q = clash (looks_at b place) seen (apart place q)
      by_test false q = outside a d mid is place q

  -- at a place that the first of two edits touches, what it puts there is left
  first_left : (a b : Edit) (d mid n other k : DocumentParts) → IsFreeOf a b → IsFreeOf b a → Leads a d mid
      → Leads b mid n → Leads b d other → Leads a other k → (place : Place) → touches a place ≡ true → AgreeAt place n k
  first_left a b d mid n other k ab ba e1 e2 f1 f2 place p =
      outside b mid n e2 place (first_false (touches b place) (sees b place) (ab place p))
      ∙ inside a d mid other k e1 f2 (λ q seen. sym (unseen b a d other ba f1 q seen)) place p

  swapped : (a b : Edit) (d n k : DocumentParts) → IsFreeOf a b → IsFreeOf b a → AllLead (a ∷ b ∷ []) d n
      → AllLead (b ∷ a ∷ []) d k → (place : Place) → AgreeAt place n k
  swapped a b d n k ab ba (mid, a1, (last, b2, e)) (other, b1, (end, a2, f)) place =
      ap (content place) e ∙ by_tests (touches a place) (touches b place) refl refl ∙ sym (ap (content place) f)
    where
      by_tests : (u v : Bool) → touches a place ≡ u → touches b place ≡ v → AgreeAt place last end
      by_tests true v p q = first_left a b d mid last other end ab ba a1 b2 b1 a2 place p
      by_tests false true p q = sym (first_left b a d other end mid last ba ab b1 a2 a1 b2 place q)
      by_tests false false p q =
          outside b mid last b2 place q ∙ outside a d mid a1 place p
          ∙ sym (outside b d other b1 place q) ∙ sym (outside a other end a2 place p)

pub merge-law : OutsideLaw → InsideLaw → MergeLaw
merge-law outside inside = merged outside inside

pub order-law : OutsideLaw → InsideLaw → OrderLaw
order-law outside inside = swapped outside inside
