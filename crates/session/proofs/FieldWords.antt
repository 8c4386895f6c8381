-- A field is read of its own words alone, and one that is refused is refused at one of them.
use Rattle.std.proofs.Common.{◌≡◌, ℕ, suc, ◌<◌, true, cond, List, [], ◌∷◌, ◌++◌, length, take, Ok, Err, Result, Option}
use Rattle.std.proofs.Common.{Some, None, refl, sym, ap}
use Rattle.std.proofs.Common.{◌∙◌, subst, arith}
use Rattle.std.proofs.lemmas.Bool.{and_parts, cond_both}
use Rattle.refusals.specs.declared.line_fault.LineFault.{LineFault}
use Rattle.refusals.specs.declared.line_fault.LineFault.TheVariants.{BadWord}
use Rattle.session.specs.declared.limits.TheConstants.{MAX_DOCUMENT_NAME, MAX_FILE_NAME}
use Rattle.session.specs.Words.{number_of, coordinate_of, numbers_of, is_name, are_rows, layer_kind_of, yes_no_of, truth_of}
use Rattle.session.specs.Words.{is_key, is_color, owner_of, member_owner_of}
use Rattle.session.specs.Words.{choice_of}
use Rattle.session.specs.Grammar.{FieldKind, Number, Coordinate, Block, Name, File, Choice, LayerSort, YesNo, Truth, Key, Color, OwnerName, OwnerOfMembers}
use Rattle.session.specs.Grammar.{field_at, word_at, passing, rows_at, block_at, ◌>>=◌, word_is}
use Rattle.session.specs.Left.{either, is_side}
use Rattle.session.specs.Faults.{field_size}

-- how many words of a field that is refused are what they are to be
abbrev pub side_passed : List (List ℕ) → ℕ
side_passed ws = either (λ (width : ℕ × List (List ℕ)). cond (is_side width.0) 1 0) 0 (word_at number_of ws)

-- what is read of some words, at most so many of which are what they are to be where it is refused
pub record IsReader {A : Type 0} (at : List (List ℕ) → Result (A × List (List ℕ)) LineFault) (size : ℕ) (passed : List (List ℕ) → ℕ) : Type 0 where
  pub splits : (ws : List (List ℕ)) (x : A × List (List ℕ)) → at ws ≡ Ok x → (take size ws ++ x.1 ≡ ws) × (length (take size ws) ≡ size)
  pub again : (ws us : List (List ℕ)) (x : A × List (List ℕ)) → at ws ≡ Ok x → at (take size ws ++ us) ≡ Ok (x.0, us)
  pub refuses : (ws others : List (List ℕ)) (e : LineFault) (x : A × List (List ℕ)) → at ws ≡ Err e → at others ≡ Ok x
      → take (suc (passed ws)) others ≡ take (suc (passed ws)) ws → ⊥
  pub few : (ws : List (List ℕ)) → passed ws < size

-- a word that was read
pub word_from : {A : Type 0} (o : Option A) (ws : List (List ℕ)) (x : A × List (List ℕ)) → (word_is o >>= λ value. Ok (value, ws)) ≡ Ok x
    → (o ≡ Some x.0) × (ws ≡ x.1)
word_from None ws x e = absurd cc
word_from {A} (Some value) ws x e =
    let same : ◌≡◌ {A = A × List (List ℕ)} (value, ws) x = cc in
    (ap (λ (y : A × List (List ℕ)). Some y.0) same, ap (λ (y : A × List (List ℕ)). y.1) same)

pub reads_word : {A : Type 0} (value_of : List ℕ → Option A) → IsReader (word_at value_of) 1 (λ _. 0)
unfolding word_at
reads_word {A} value_of = record { splits = splits; again = again; refuses = refuses; few = λ _. omega arith }
  where
    splits : (ws : List (List ℕ)) (x : A × List (List ℕ)) → word_at value_of ws ≡ Ok x → (take 1 ws ++ x.1 ≡ ws) × (length (take 1 ws) ≡ 1)
    splits [] x e = absurd cc
    splits (w ∷ ws) x e = (ap (λ vs. w ∷ vs) (sym (word_from (value_of w) ws x e).1), refl)

    again : (ws us : List (List ℕ)) (x : A × List (List ℕ)) → word_at value_of ws ≡ Ok x → word_at value_of (take 1 ws ++ us) ≡ Ok (x.0, us)
    again [] us x e = absurd cc
    again (w ∷ ws) us x e = rw (word_from (value_of w) ws x e).0 refl

    refuses : (ws others : List (List ℕ)) (e : LineFault) (x : A × List (List ℕ)) → word_at value_of ws ≡ Err e → word_at value_of others ≡ Ok x
        → take 1 others ≡ take 1 ws → ⊥
    refuses ws [] e x r o same = absurd cc
    refuses [] (v ∷ vs) e x r o same = absurd cc
    refuses (w ∷ ws) (v ∷ vs) e x r o same =
        let first : v ≡ w = cc in
        let value : value_of w ≡ Some x.0 = ap value_of (sym first) ∙ (word_from (value_of v) vs x o).0 in
        let read : word_at value_of (w ∷ ws) ≡ Ok (x.0, ws) = rw value refl in
        absurd cc

-- a block that was read
record IsBlock (w v : List ℕ) (ws : List (List ℕ)) (x : (ℕ × List ℕ) × List (List ℕ)) : Type 0 where
  width : number_of w ≡ Some x.0.0
  values : numbers_of v ≡ Some x.0.1
  rows : are_rows x.0.0 (length x.0.1) ≡ true
  rest : ws ≡ x.1

rows_from : (w v : List ℕ) (ws : List (List ℕ)) (x : (ℕ × List ℕ) × List (List ℕ)) (width : ℕ) (o : Option (List ℕ)) → number_of w ≡ Some width
    → numbers_of v ≡ o
    → (word_is o >>= λ values. cond (are_rows width (length values)) (Ok ((width, values), ws)) (Err BadWord)) ≡ Ok x → IsBlock w v ws x
rows_from w v ws x width None is are = λ e. absurd cc
rows_from w v ws x width (Some values) is are =
    cond_both (are_rows width (length values)) (Ok ((width, values), ws)) (Err BadWord) (λ r. r ≡ Ok x → IsBlock w v ws x)
    (λ rows e.
    let same : ◌≡◌ {A = (ℕ × List ℕ) × List (List ℕ)} ((width, values), ws) x = cc in
    subst (IsBlock w v ws) same (record { width = is; values = are; rows = rows; rest = refl }))
    (λ _ e. absurd cc)

side_by : (width : ℕ) (ws : List (List ℕ)) (x : (ℕ × List ℕ) × List (List ℕ)) (o : Option (List ℕ))
    → (word_is o >>= λ values. cond (are_rows width (length values)) (Ok ((width, values), ws)) (Err BadWord)) ≡ Ok x → is_side width ≡ true
side_by width ws x None = λ e. absurd cc
side_by width ws x (Some values) =
    cond_both (are_rows width (length values)) (Ok ((width, values), ws)) (Err BadWord) (λ r. r ≡ Ok x → is_side width ≡ true)
    (λ rows e. (and_parts _ _ rows).0) (λ _ e. absurd cc)

-- values are read only of a width within its limits
pub rows_side : (width : ℕ) (ws : List (List ℕ)) (x : (ℕ × List ℕ) × List (List ℕ)) → rows_at width ws ≡ Ok x → is_side width ≡ true
unfolding rows_at
rows_side width [] x e = absurd cc
rows_side width (w ∷ ws) x e = side_by width ws x (numbers_of w) e

block_by : (w v : List ℕ) (ws : List (List ℕ)) (x : (ℕ × List ℕ) × List (List ℕ)) (o : Option ℕ) → number_of w ≡ o
    → (word_is o >>= λ value. Ok (value, v ∷ ws)) >>= (λ (width : ℕ × List (List ℕ)). rows_at width.0 width.1) ≡ Ok x → IsBlock w v ws x
unfolding rows_at
block_by w v ws x None is e = absurd cc
block_by w v ws x (Some width) is e = rows_from w v ws x width (numbers_of v) is refl e

block_from : (w v : List ℕ) (ws : List (List ℕ)) (x : (ℕ × List ℕ) × List (List ℕ)) → block_at (w ∷ v ∷ ws) ≡ Ok x → IsBlock w v ws x
unfolding block_at word_at
block_from w v ws x e = block_by w v ws x (number_of w) refl e

block_of : (w v : List ℕ) (ws us : List (List ℕ)) (x : (ℕ × List ℕ) × List (List ℕ)) → IsBlock w v ws x → block_at (w ∷ v ∷ us) ≡ Ok (x.0, us)
unfolding block_at word_at rows_at
block_of w v ws us x h = rw (h.width, h.values, h.rows) refl

no_values : (w : List ℕ) (o : Option ℕ) (x : (ℕ × List ℕ) × List (List ℕ))
    → (word_is o >>= λ value. Ok (value, [])) >>= (λ (width : ℕ × List (List ℕ)). rows_at width.0 width.1) ≡ Ok x → ⊥
unfolding rows_at
no_values w None x e = absurd cc
no_values w (Some width) x e = absurd cc

one_word : (w : List ℕ) (x : (ℕ × List ℕ) × List (List ℕ)) → block_at (w ∷ []) ≡ Ok x → ⊥
unfolding block_at word_at
one_word w x e = no_values w (number_of w) x e

-- where the width is a number within its limits, it is not the word at fault
side : (w : List ℕ) (ws : List (List ℕ)) (n : ℕ) → number_of w ≡ Some n → is_side n ≡ true → side_passed (w ∷ ws) ≡ 1
unfolding word_at
side w ws n e is = rw (e, is) refl

refuses_block : (ws others : List (List ℕ)) (e : LineFault) (x : (ℕ × List ℕ) × List (List ℕ)) → block_at ws ≡ Err e → block_at others ≡ Ok x
    → take (suc (side_passed ws)) others ≡ take (suc (side_passed ws)) ws → ⊥
unfolding block_at word_at
refuses_block ws [] e x r o same = absurd cc
refuses_block ws (p ∷ []) e x r o same = one_word p x o
refuses_block [] (p ∷ q ∷ ps) e x r o same = absurd cc
refuses_block (w ∷ []) (p ∷ q ∷ ps) e x r o same =
    let block = block_from p q ps x o in
    let first : p ≡ w = cc in
    let passed = side w [] x.0.0 (ap number_of (sym first) ∙ block.width) (and_parts _ _ block.rows).0 in
    let both : take 2 (p ∷ q ∷ ps) ≡ take 2 (w ∷ []) = subst (λ n. take (suc n) (p ∷ q ∷ ps) ≡ take (suc n) (w ∷ [])) passed same in
    absurd cc
refuses_block (w ∷ v ∷ ws) (p ∷ q ∷ ps) e x r o same =
    let block = block_from p q ps x o in
    let first : p ≡ w = cc in
    let passed = side w (v ∷ ws) x.0.0 (ap number_of (sym first) ∙ block.width) (and_parts _ _ block.rows).0 in
    let both : take 2 (p ∷ q ∷ ps) ≡ take 2 (w ∷ v ∷ ws) = subst (λ n. take (suc n) (p ∷ q ∷ ps) ≡ take (suc n) (w ∷ v ∷ ws)) passed same in
    let second : q ≡ v = cc in
    let read : block_at (w ∷ v ∷ ws) ≡ Ok (x.0, ws) = subst (λ u. block_at (u ∷ v ∷ ws) ≡ Ok (x.0, ws)) first
    (subst (λ u. block_at (p ∷ u ∷ ws) ≡ Ok (x.0, ws)) second (block_of p q ps ws x block)) in
    absurd cc

splits_block : (ws : List (List ℕ)) (x : (ℕ × List ℕ) × List (List ℕ)) → block_at ws ≡ Ok x → (take 2 ws ++ x.1 ≡ ws) × (length (take 2 ws) ≡ 2)
unfolding block_at word_at
splits_block [] x e = absurd cc
splits_block (w ∷ []) x e = absurd (one_word w x e)
splits_block (w ∷ v ∷ ws) x e = (ap (λ vs. w ∷ v ∷ vs) (sym (block_from w v ws x e).rest), refl)

again_block : (ws us : List (List ℕ)) (x : (ℕ × List ℕ) × List (List ℕ)) → block_at ws ≡ Ok x → block_at (take 2 ws ++ us) ≡ Ok (x.0, us)
unfolding block_at word_at
again_block [] us x e = absurd cc
again_block (w ∷ []) us x e = absurd (one_word w x e)
again_block (w ∷ v ∷ ws) us x e = block_of w v ws us x (block_from w v ws x e)

few_of_block : (r : Result (ℕ × List (List ℕ)) LineFault) → either (λ (width : ℕ × List (List ℕ)). cond (is_side width.0) 1 0) 0 r < 2
few_of_block (Ok width) = cond_both (is_side width.0) 1 0 (λ n. n < 2) (λ _. omega arith) (λ _. omega arith)
few_of_block (Err e) = omega arith

reads_block : IsReader block_at 2 side_passed
reads_block = record { splits = splits_block; again = again_block; refuses = refuses_block; few = λ ws. few_of_block (word_at number_of ws) }

-- how many words of a field that is refused are what they are to be
abbrev pub field_passed : FieldKind → List (List ℕ) → ℕ
field_passed Block ws = side_passed ws
field_passed kind ws = 0

pub reads_field : (kind : FieldKind) → IsReader (field_at kind) (field_size kind) (field_passed kind)
reads_field Number = reads_word number_of
reads_field Coordinate = reads_word coordinate_of
reads_field Block = reads_block
reads_field Name = reads_word (passing (is_name MAX_DOCUMENT_NAME))
reads_field File = reads_word (passing (is_name MAX_FILE_NAME))
reads_field Choice = reads_word choice_of
reads_field LayerSort = reads_word layer_kind_of
reads_field YesNo = reads_word yes_no_of
reads_field Truth = reads_word truth_of
reads_field Key = reads_word (passing is_key)
reads_field Color = reads_word (passing is_color)
reads_field OwnerName = reads_word owner_of
reads_field OwnerOfMembers = reads_word member_owner_of
