-- Where words leave a form, none that are read are the same up to that place.
use Rattle.std.proofs.Common.{◌≡◌, ℕ, zero, suc, ◌+◌, ◌<◌, ◌≤◌, true, false, cond, List, [], ◌∷◌, ◌++◌, length, take, Ok, Err, Result, Option, Some}
use Rattle.std.proofs.Common.{None, refl, eqb}
use Rattle.std.proofs.Common.{sym, ap, ◌∙◌, subst, subst₂, arith, IsOk, IsErr}
use Rattle.std.specs.List.{join_with_byte, AllByRecursion}
use Rattle.std.specs.Str.{bytes_eq}
use Rattle.std.proofs.lemmas.Bool.{cond_both, lt-ltb, and_parts, and_from}
use Rattle.std.proofs.lemmas.List.{length-append, take-append-le}
use Rattle.std.proofs.Math.Seq.{take-append-add}
use Rattle.refusals.specs.declared.line_fault.LineFault.{LineFault}
use Rattle.refusals.specs.declared.line_fault.LineFault.TheVariants.{BadWord}
use Rattle.session.specs.Words.{number_of, is_text, are_texts, cut_at_bars}
use Rattle.session.specs.Grammar.{FieldKind, Block, FieldValue}
use Rattle.session.specs.Grammar.{LineForm, Ends, Text, Texts, Json, Field, Word, Fails, choose, word_at, field_at, read}
use Rattle.session.specs.Grammar.{ends_at, last_json_at, last_text_at, last_texts_at, ◌>>=◌}
use Rattle.session.specs.Left.{next, either, is_side, field_fault, behind_field, fault_at}
use Rattle.session.specs.Faults.{text_words, cut_by, field_size}
use Rattle.session.proofs.FieldWords.{field_passed, reads_field}

-- how many words of a form stand in front of the one at fault
abbrev pub passed : {A : Type 0} → LineForm A → List (List ℕ) → ℕ
passed (Texts line) ws = cond (is_text (cut_at_bars (join_with_byte 32 ws)).0) 2 0
passed (Field kind form) ws = either (λ value. field_size kind + passed (form value.0) value.1) (field_passed kind ws) (field_at kind ws)
passed (Word word form other) (w ∷ ws) = cond (bytes_eq w word) (suc (passed form ws)) (passed other (w ∷ ws))
passed form ws = 0

-- so many places behind one
abbrev pub nexts : ℕ → ℕ → ℕ
nexts zero place = place
nexts (suc n) place = nexts n (next place)

pub nexts_small : (n place : ℕ) → n + place < 4294967295 → nexts n place ≡ n + place
unfolding next
nexts_small zero place h = omega arith
nexts_small (suc n) place h =
    let small : place < 4294967295 = omega (arith, h) in
    let one : next place ≡ place + 1 = rw (lt-ltb place 4294967295 small) refl in
    let more : nexts n (place + 1) ≡ n + (place + 1) = nexts_small n (place + 1) (omega (arith, h)) in
    let moved : n + (place + 1) ≡ suc n + place = omega arith in
    ap (nexts n) one ∙ more ∙ moved

pub behind : (kind : FieldKind) (n place : ℕ) → nexts n (behind_field kind place) ≡ nexts (field_size kind + n) place
behind Block n place = let same : suc (suc n) ≡ 2 + n = omega arith in ap (λ m. nexts m place) same
behind kind n place = let same : suc n ≡ 1 + n = omega arith in ap (λ m. nexts m place) same

pub refused : (kind : FieldKind) (place : ℕ) (ws : List (List ℕ)) → field_fault kind place ws ≡ nexts (field_passed kind ws) place
refused Block place ws =
    elim (word_at number_of ws) as (λ r. either (λ (width : ℕ × List (List ℕ)). cond (is_side width.0) (next place) place) place r
    ≡ nexts (either (λ (width : ℕ × List (List ℕ)). cond (is_side width.0) 1 0) 0 r) place) [
      | Ok width ↦ elim (is_side width.0) as (λ b. cond b (next place) place ≡ nexts (cond b 1 0) place) [ true ↦ refl | false ↦ refl ]
      | Err e ↦ refl
    ]
refused kind place ws = refl

-- the place of a fault is that of the first word, and one more for each word in front of it
pub fault_passed : {A : Type 0} (form : LineForm A) (place : ℕ) (ws : List (List ℕ)) → fault_at form place ws ≡ nexts (passed form ws) place
fault_passed (Ends line) place ws = refl
fault_passed (Text line) place ws = refl
fault_passed (Json line) place ws = refl
fault_passed (Texts line) place ws =
    elim (is_text (cut_at_bars (join_with_byte 32 ws)).0) as (λ b. cond b (next (next place)) place ≡ nexts (cond b 2 0) place) [ true ↦ refl | false ↦ refl ]
fault_passed (Field kind form) place ws =
    elim (field_at kind ws) as (λ r. either (λ value. fault_at (form value.0) (behind_field kind place) value.1) (field_fault kind place ws) r
    ≡ nexts (either (λ value. field_size kind + passed (form value.0) value.1) (field_passed kind ws) r) place) [
      | Ok value ↦ fault_passed (form value.0) (behind_field kind place) value.1 ∙ behind kind (passed (form value.0) value.1) place
      | Err e ↦ refused kind place ws
    ]
fault_passed (Word word form other) place [] = refl
fault_passed (Word word form other) place (w ∷ ws) =
    elim (bytes_eq w word) as (λ b. cond b (fault_at form (next place) ws) (fault_at other place (w ∷ ws))
    ≡ nexts (cond b (suc (passed form ws)) (passed other (w ∷ ws))) place)
    [ true ↦ fault_passed form (next place) ws | false ↦ fault_passed other place (w ∷ ws) ]
fault_passed (Fails fault) place ws = refl

pub size_within : (kind : FieldKind) → field_size kind ≤ 2
size_within Block = omega arith
size_within kind = omega arith

field_within : {A : Type 0} (kind : FieldKind) (form : FieldValue kind → LineForm A) (ws : List (List ℕ))
    → ((value : FieldValue kind) (us : List (List ℕ)) → passed (form value) us ≤ length us + 2)
    → (r : Result (FieldValue kind × List (List ℕ)) LineFault) → field_at kind ws ≡ r
    → either (λ value. field_size kind + passed (form value.0) value.1) (field_passed kind ws) r ≤ length ws + 2
field_within kind form ws more (Ok x) e =
    let split = (reads_field kind).splits ws x e in
    omega (arith, more x.0 x.1, split.1, ap length split.0, length-append (take (field_size kind) ws) x.1)
field_within kind form ws more (Err f) e = omega (arith, (reads_field kind).few ws, size_within kind)

-- no more words stand in front of a fault than the line has, but for the two that a macro's texts and bars may make of one
pub passed_within : {A : Type 0} (form : LineForm A) (ws : List (List ℕ)) → passed form ws ≤ length ws + 2
passed_within (Ends line) ws = omega arith
passed_within (Text line) ws = omega arith
passed_within (Json line) ws = omega arith
passed_within (Texts line) ws = cond_both (is_text (cut_at_bars (join_with_byte 32 ws)).0) 2 0 (λ n. n ≤ length ws + 2) (λ _. omega arith) (λ _. omega arith)
passed_within (Field kind form) ws = field_within kind form ws (λ value us. passed_within (form value) us) (field_at kind ws) refl
passed_within (Word word form other) [] = omega arith
passed_within (Word word form other) (w ∷ ws) = cond_both (bytes_eq w word) (suc (passed form ws)) (passed other (w ∷ ws)) (λ n. n ≤ length (w ∷ ws) + 2)
    (λ _. omega (arith, passed_within form ws)) (λ _. passed_within other (w ∷ ws))
passed_within (Fails fault) ws = omega arith

-- a form that looks at its first word alone, and at no other but behind that one
abbrev pub IsBranch : {A : Type 0} → LineForm A → Type 0
IsBranch (Word word form other) = Unit {0}
IsBranch (Fails fault) = Unit {0}
IsBranch form = ⊥

-- where a form looks at a word, its other form looks at the same one
abbrev pub HasBranches : {A : Type 0} → LineForm A → Type 0
HasBranches (Field kind form) = (value : FieldValue kind) → HasBranches (form value)
HasBranches (Word word form other) = HasBranches form × IsBranch other × HasBranches other
HasBranches form = Unit {0}

-- words that begin with that one
pub record Begins (w : List ℕ) (ws : List (List ℕ)) : Type 0 where
  pub rest : List (List ℕ)
  pub is : ws ≡ w ∷ rest

pub begins : {A : Type 0} (form : LineForm A) → IsBranch form → HasBranches form → (w : List ℕ) (ws : List (List ℕ)) → Begins w (cut_by form (w ∷ ws))
begins (Ends line) b g w ws = absurd b
begins (Text line) b g w ws = absurd b
begins (Texts line) b g w ws = absurd b
begins (Json line) b g w ws = absurd b
begins (Field kind form) b g w ws = absurd b
begins (Word word form other) b g w ws = cond_both (bytes_eq w word) (w ∷ cut_by form ws) (cut_by other (w ∷ ws)) (Begins w)
    (λ _. record { rest = cut_by form ws; is = refl }) (λ _. begins other g.1 g.2 w ws)
begins (Fails fault) b g w ws = record { rest = ws; is = refl }

pub not_both : {A : Type 0} (r : Result A LineFault) → IsErr r → IsOk r → ⊥
not_both (Ok x) e o = absurd cc
not_both (Err f) e o = absurd cc

parts : (xs us ys vs : List (List ℕ)) → length xs ≡ length us → xs ++ ys ≡ us ++ vs → (xs ≡ us) × (ys ≡ vs)
parts [] [] ys vs l e = (refl, e)
parts [] (u ∷ us) ys vs l e = absurd (omega (arith, l))
parts (x ∷ xs) [] ys vs l e = absurd (omega (arith, l))
parts (x ∷ xs) (u ∷ us) ys vs l e =
    let more : xs ++ ys ≡ us ++ vs = cc in
    let first : x ≡ u = cc in
    let at = parts xs us ys vs (omega (arith, l)) more in
    let rest : xs ≡ us = at.0 in
    (cc, at.1)

-- what is behind the first so many
pub behind_front : (k n : ℕ) (xs ys : List (List ℕ)) → length xs ≡ k → take (k + n) (xs ++ ys) ≡ xs ++ take n ys
behind_front k n xs ys l = ap (λ m. take (m + n) (xs ++ ys)) (sym l) ∙ take-append-add xs ys n

pub fronts : (k n : ℕ) (xs us ys vs : List (List ℕ)) → length xs ≡ k → length us ≡ k → take (suc (k + n)) (xs ++ ys) ≡ take (suc (k + n)) (us ++ vs)
    → (xs ≡ us) × (take (suc n) ys ≡ take (suc n) vs)
fronts k n xs us ys vs l m e =
    let moved : suc (k + n) ≡ k + suc n = omega arith in
    let whole : take (k + suc n) (xs ++ ys) ≡ take (k + suc n) (us ++ vs) = subst (λ i. take i (xs ++ ys) ≡ take i (us ++ vs)) moved e in
    parts xs us (take (suc n) ys) (take (suc n) vs) (l ∙ sym m) (sym (behind_front k (suc n) xs ys l) ∙ whole ∙ behind_front k (suc n) us vs m)

abbrev NoneFurther : {A : Type 0} → LineForm A → Type 0
NoneFurther form = (ws others : List (List ℕ)) → IsErr (read form ws) → IsOk (read form others)
    → take (suc (passed form ws)) (cut_by form others) ≡ take (suc (passed form ws)) (cut_by form ws) → ⊥

-- the same first words of a field are the same field
pub same_field : (kind : FieldKind) (ws others : List (List ℕ)) (x y : FieldValue kind × List (List ℕ)) → field_at kind ws ≡ Ok x → field_at kind others ≡ Ok y
    → take (field_size kind) others ≡ take (field_size kind) ws → x.0 ≡ y.0
same_field kind ws others x y e f same =
    let reader = reads_field kind in
    let whole : take (field_size kind) ws ++ y.1 ≡ others = ap (λ vs. vs ++ y.1) (sym same) ∙ (reader.splits others y f).0 in
    let read : Ok (x.0, y.1) ≡ Ok y = sym (reader.again ws y.1 x e) ∙ ap (field_at kind) whole ∙ f in
    let pair : ◌≡◌ {A = FieldValue kind × List (List ℕ)} (x.0, y.1) y = cc in
    ap (λ (z : FieldValue kind × List (List ℕ)). z.0) pair

field_further : {A : Type 0} (kind : FieldKind) (form : FieldValue kind → LineForm A) → ((value : FieldValue kind) → NoneFurther (form value))
    → (ws others : List (List ℕ))
    → (a : Result (FieldValue kind × List (List ℕ)) LineFault) → field_at kind ws ≡ a
    → (b : Result (FieldValue kind × List (List ℕ)) LineFault) → field_at kind others ≡ b
    → IsErr (a >>= λ value. read (form value.0) value.1) → IsOk (b >>= λ value. read (form value.0) value.1)
    → take (suc (either (λ value. field_size kind + passed (form value.0) value.1) (field_passed kind ws) a))
    (either (λ value. take (field_size kind) others ++ cut_by (form value.0) value.1) others b)
    ≡ take (suc (either (λ value. field_size kind + passed (form value.0) value.1) (field_passed kind ws) a))
    (either (λ value. take (field_size kind) ws ++ cut_by (form value.0) value.1) ws a) → ⊥
field_further kind form none ws others a e (Err g) f r o same = absurd cc
field_further kind form none ws others (Ok x) e (Ok y) f r o same =
    let reader = reads_field kind in
    let n = passed (form x.0) x.1 in
    let at = fronts (field_size kind) n (take (field_size kind) others) (take (field_size kind) ws) (cut_by (form y.0) y.1) (cut_by (form x.0) x.1)
    (reader.splits others y f).1 (reader.splits ws x e).1 same in
    let value : y.0 ≡ x.0 = sym (same_field kind ws others x y e f at.0) in
    none x.0 x.1 y.1 r (subst (λ v. IsOk (read (form v) y.1)) value o)
    (subst (λ v. take (suc n) (cut_by (form v) y.1) ≡ take (suc n) (cut_by (form x.0) x.1)) value at.1)
field_further kind form none ws others (Err g) e (Ok y) f r o same =
    let reader = reads_field kind in
    let p = suc (field_passed kind ws) in
    let k = take (field_size kind) others in
    let split = reader.splits others y f in
    let within : p ≤ length k = omega (arith, reader.few ws, split.1) in
    let first : take p others ≡ take p (k ++ cut_by (form y.0) y.1) =
    ap (take p) (sym split.0) ∙ take-append-le p k y.1 within ∙ sym (take-append-le p k (cut_by (form y.0) y.1) within) in
    reader.refuses ws others g y e f (first ∙ same)

-- the texts of a macro, where they are ones
abbrev texts_or_not : List ℕ × Option (List ℕ) → Result (List ℕ × Option (List ℕ)) LineFault
texts_or_not c = cond (are_texts c.0 c.1) (Ok c) (Err BadWord)

are_ok : {A : Type 0} (c : List ℕ × Option (List ℕ)) (line : List ℕ → Option (List ℕ) → A) → IsOk (texts_or_not c >>= λ texts. Ok (line texts.0 texts.1))
    → are_texts c.0 c.1 ≡ true
are_ok c line = elim (are_texts c.0 c.1) as (λ b. IsOk (cond b (Ok c) (Err BadWord) >>= λ texts. Ok (line texts.0 texts.1)) → b ≡ true)
    [ true ↦ λ _. refl | false ↦ λ o. absurd cc ]

not_texts : {A : Type 0} (c : List ℕ × Option (List ℕ)) (line : List ℕ → Option (List ℕ) → A) → IsErr (texts_or_not c >>= λ texts. Ok (line texts.0 texts.1))
    → are_texts c.0 c.1 ≡ false
not_texts c line = elim (are_texts c.0 c.1) as (λ b. IsErr (cond b (Ok c) (Err BadWord) >>= λ texts. Ok (line texts.0 texts.1)) → b ≡ false)
    [ true ↦ λ o. absurd cc | false ↦ λ _. refl ]

first_is : (text : List ℕ) (action : Option (List ℕ)) → are_texts text action ≡ true → is_text text ≡ true
first_is text None h = h
first_is text (Some action) h = (and_parts _ _ h).0

-- texts that are read are the same as others up to the word at fault only where those are read too
texts_by : (text : List ℕ) (action : Option (List ℕ)) (t : List ℕ) (a : Option (List ℕ)) (n : ℕ) → are_texts text action ≡ false → are_texts t a ≡ true
    → cond (is_text text) 2 0 ≡ n → take (suc n) (text_words (t, a)) ≡ take (suc n) (text_words (text, action)) → ⊥
texts_by text None t None n r o is same =
    let first : t ≡ text = cc in
    let yes : is_text text ≡ true = ap is_text (sym first) ∙ o in absurd cc
texts_by text None t (Some a) n r o is same =
    let first : t ≡ text = cc in
    let yes : is_text text ≡ true = ap is_text (sym first) ∙ first_is t (Some a) o in absurd cc
texts_by text (Some action) t None n r o is same =
    let first : t ≡ text = cc in
    let yes : is_text text ≡ true = ap is_text (sym first) ∙ o in
    let two : 2 ≡ n = ap (λ b. cond b 2 0) (sym yes) ∙ is in
    let three : take 3 (t ∷ []) ≡ take 3 (text_words (text, Some action)) =
    subst (λ m. take (suc m) (t ∷ []) ≡ take (suc m) (text_words (text, Some action))) (sym two) same in
    absurd cc
texts_by text (Some action) t (Some a) n r o is same =
    let first : t ≡ text = cc in
    let yes : is_text text ≡ true = ap is_text (sym first) ∙ first_is t (Some a) o in
    let two : 2 ≡ n = ap (λ b. cond b 2 0) (sym yes) ∙ is in
    let three : take 3 (text_words (t, Some a)) ≡ take 3 (text_words (text, Some action)) =
    subst (λ m. take (suc m) (text_words (t, Some a)) ≡ take (suc m) (text_words (text, Some action))) (sym two) same in
    let second : a ≡ action = cc in
    let later : is_text action ≡ true = ap is_text (sym second) ∙ (and_parts (is_text t) (is_text a) o).1 in
    let both : are_texts text (Some action) ≡ true = and_from (is_text text) (is_text action) yes later in
    absurd cc

some_text : (c : List ℕ × Option (List ℕ)) → take 1 (text_words c) ≡ [] → ⊥
some_text (text, None) e = absurd cc
some_text (text, Some action) e = absurd cc

texts_further : {A : Type 0} (line : List ℕ → Option (List ℕ) → A) → NoneFurther (Texts line)
unfolding last_texts_at
texts_further line ws [] r o same = absurd cc
texts_further line [] (v ∷ vs) r o same = some_text (cut_at_bars (join_with_byte 32 (v ∷ vs))) same
texts_further line (w ∷ ws) (v ∷ vs) r o same =
    let c = cut_at_bars (join_with_byte 32 (w ∷ ws)) in
    let d = cut_at_bars (join_with_byte 32 (v ∷ vs)) in
    texts_by c.0 c.1 d.0 d.1 _ (not_texts c line r) (are_ok d line o) refl same

text_further : {A : Type 0} (line : List ℕ → A) → NoneFurther (Text line)
unfolding last_text_at
text_further line [] [] r o same = absurd cc
text_further line [] (v ∷ vs) r o same = absurd cc
text_further line (w ∷ ws) [] r o same = absurd cc
text_further line (w ∷ ws) (v ∷ vs) r o same =
    let text : join_with_byte 32 (v ∷ vs) ≡ join_with_byte 32 (w ∷ ws) = cc in
    not_both _ r (subst (λ t. IsOk (cond (is_text t) (Ok t) (Err BadWord) >>= λ x. Ok (line x))) text o)

json_further : {A : Type 0} (line : List ℕ → A) → NoneFurther (Json line)
unfolding last_json_at
json_further line [] [] r o same = absurd cc
json_further line [] (v ∷ vs) r o same = absurd cc
json_further line (w ∷ ws) [] r o same = absurd cc
json_further line (w ∷ ws) (v ∷ vs) r o same =
    let text : join_with_byte 32 (v ∷ vs) ≡ join_with_byte 32 (w ∷ ws) = cc in
    not_both _ r (subst (λ t. IsOk (cond (eqb (length t) 0) (Err BadWord) (Ok t) >>= λ x. Ok (line x))) text o)

ends_further : {A : Type 0} (line : A) → NoneFurther (Ends line)
unfolding ends_at
ends_further line [] others r o same = absurd cc
ends_further line (w ∷ ws) [] r o same = absurd cc
ends_further line (w ∷ ws) (v ∷ vs) r o same = absurd cc

-- with the same first word
word_further : {A : Type 0} (word : List ℕ) (form other : LineForm A) → NoneFurther form → NoneFurther other → (w : List ℕ) (ws vs : List (List ℕ))
    → IsErr (read (Word word form other) (w ∷ ws)) → IsOk (read (Word word form other) (w ∷ vs))
    → take (suc (passed (Word word form other) (w ∷ ws))) (cut_by (Word word form other) (w ∷ vs))
    ≡ take (suc (passed (Word word form other) (w ∷ ws))) (cut_by (Word word form other) (w ∷ ws)) → ⊥
word_further word form other none none_other w ws vs =
    elim (bytes_eq w word) as (λ b. IsErr (cond b (read form ws) (read other (w ∷ ws))) → IsOk (cond b (read form vs) (read other (w ∷ vs)))
    → take (suc (cond b (suc (passed form ws)) (passed other (w ∷ ws)))) (cond b (w ∷ cut_by form vs) (cut_by other (w ∷ vs)))
    ≡ take (suc (cond b (suc (passed form ws)) (passed other (w ∷ ws)))) (cond b (w ∷ cut_by form ws) (cut_by other (w ∷ ws))) → ⊥) [
      | true ↦ λ r o same. none ws vs r o cc
      | false ↦ λ r o same. none_other (w ∷ ws) (w ∷ vs) r o same
    ]

-- words that are read are not the same up to the word at fault
pub none_further : {A : Type 0} (form : LineForm A) → HasBranches form → NoneFurther form
none_further (Ends line) g ws others r o same = ends_further line ws others r o same
none_further (Text line) g ws others r o same = text_further line ws others r o same
none_further (Texts line) g ws others r o same = texts_further line ws others r o same
none_further (Json line) g ws others r o same = json_further line ws others r o same
none_further (Field kind form) g ws others r o same = field_further kind form (λ value. none_further (form value) (g value)) ws others
    (field_at kind ws) refl (field_at kind others) refl r o same
none_further (Word word form other) g [] [] r o same = absurd cc
none_further (Word word form other) g [] (v ∷ vs) r o same =
    let at = begins (Word word form other) tt g v vs in
    let one : take 1 (v ∷ at.rest) ≡ [] = subst (λ us. take 1 us ≡ []) at.is same in absurd cc
none_further (Word word form other) g (w ∷ ws) [] r o same = absurd cc
none_further (Word word form other) g (w ∷ ws) (v ∷ vs) r o same =
    let n = passed (Word word form other) (w ∷ ws) in
    let at = begins (Word word form other) tt g w ws in
    let here = begins (Word word form other) tt g v vs in
    let both : take (suc n) (v ∷ here.rest) ≡ take (suc n) (w ∷ at.rest) = subst₂ (λ us ts. take (suc n) us ≡ take (suc n) ts) here.is at.is same in
    let first : v ≡ w = cc in
    word_further word form other (none_further form g.0) (none_further other g.2) w ws vs r
    (subst (λ u. IsOk (read (Word word form other) (u ∷ vs))) first o)
    (subst (λ u. take (suc n) (cut_by (Word word form other) (u ∷ vs)) ≡ take (suc n) (cut_by (Word word form other) (w ∷ ws))) first same)
none_further (Fails fault) g ws others r o same = absurd cc

-- a word that is none of the pairs' is itself at fault
pub fault_none : {A : Type 0} (pairs : List (List ℕ × LineForm A)) (fault : LineFault) (place : ℕ) (w : List ℕ) (ws : List (List ℕ))
    → AllByRecursion (λ pair. bytes_eq w pair.0 ≡ false) pairs → fault_at (choose pairs fault) place (w ∷ ws) ≡ place
fault_none [] fault place w ws h = refl
fault_none (pair ∷ pairs) fault place w ws h = rw h.0 (fault_none pairs fault place w ws h.1)

-- one that is none of the first pairs' is at fault where it is so by the others
pub fault_append : {A : Type 0} (first later : List (List ℕ × LineForm A)) (fault : LineFault) (place : ℕ) (w : List ℕ) (ws : List (List ℕ))
    → AllByRecursion (λ pair. bytes_eq w pair.0 ≡ false) first
    → fault_at (choose (first ++ later) fault) place (w ∷ ws) ≡ fault_at (choose later fault) place (w ∷ ws)
fault_append [] later fault place w ws h = refl
fault_append (pair ∷ pairs) later fault place w ws h = rw h.0 (fault_append pairs later fault place w ws h.1)
