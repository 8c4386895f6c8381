-- The names of documents, one behind another.
use Rattle.std.proofs.Common.{◌≡◌, ℕ, Bool, true, false, cond, List, [], ◌∷◌, ◌++◌, map, Option, refl, ap, sym, ◌∙◌, append_assoc}
use Rattle.std.specs.List.{join_with_byte}
use Rattle.std.proofs.lemmas.List.{append-nil, map-append}
use Rattle.undo_group.specs.Groups.{GroupParts, OpenDocument}
use Rattle.document_lines.specs.Answers.{documents_text, is_active, listed, starred}

-- whether there is nothing in it
abbrev pub is_nothing : {A : Type 0} → List A → Bool
is_nothing [] = true
is_nothing (x ∷ xs) = false

-- one more word behind words
join_with_byte-snoc : (b : ℕ) (ws : List (List ℕ)) (w : List ℕ) → join_with_byte b (ws ++ w ∷ []) ≡ join_with_byte b ws ++ cond (is_nothing ws) [] (b ∷ []) ++ w
join_with_byte-snoc b [] w = refl
join_with_byte-snoc b (v ∷ []) w = sym (append_assoc v (b ∷ []) w)
join_with_byte-snoc b (v ∷ u ∷ ws) w =
    let rest = join_with_byte b (u ∷ ws) in
    ap (λ x. v ++ b ∷ x) (join_with_byte-snoc b (u ∷ ws) w)
    ∙ sym (ap (λ x. x ++ w) (append_assoc v (b ∷ rest) (b ∷ [])) ∙ append_assoc v ((b ∷ rest) ++ b ∷ []) w)

is_nothing-map : {A B : Type 0} (f : A → B) (xs : List A) → is_nothing (map f xs) ≡ is_nothing xs
is_nothing-map f [] = refl
is_nothing-map f (x ∷ xs) = refl

-- the text has the names but those that are left, and whether it has none yet
pub record IsListed (active : Option (List ℕ)) (names : List (List ℕ)) (text : List ℕ) (first : Bool) (left : List (List ℕ)) : Type 0 where
  pub done : List (List ℕ)
  pub split : names ≡ done ++ left
  pub text_is : text ≡ join_with_byte 32 (map (listed active) done)
  pub first_is : first ≡ is_nothing done

pub none-IsListed : (active : Option (List ℕ)) (names left : List (List ℕ)) (text : List ℕ) (first : Bool) → text ≡ [] → first ≡ true → names ≡ left
    → IsListed active names text first left
none-IsListed active names left text first e f g = record { done = []; split = g; text_is = e; first_is = f }

some : (done : List (List ℕ)) (name : List ℕ) → false ≡ is_nothing (done ++ name ∷ [])
some [] name = refl
some (d ∷ done) name = refl

pub more-IsListed : (active : Option (List ℕ)) (names : List (List ℕ)) (text text' : List ℕ) (first : Bool) (left left' : List (List ℕ)) (name : List ℕ)
    → IsListed active names text first left
    → left ≡ name ∷ left' → text' ≡ text ++ cond first [] (32 ∷ []) ++ starred (is_active active name) name → IsListed active names text' false left'
more-IsListed active names text text' first left left' name l e t =
    let words = map (listed active) l.done in
    let is_first : first ≡ is_nothing words = l.first_is ∙ sym (is_nothing-map (listed active) l.done) in
    let several : map (listed active) (l.done ++ name ∷ []) ≡ words ++ listed active name ∷ [] = map-append (listed active) l.done (name ∷ []) in
    record {
      done = l.done ++ name ∷ [];
      split = l.split ∙ ap (λ rest. l.done ++ rest) e ∙ sym (append_assoc l.done (name ∷ []) left');
      text_is = t ∙ ap (λ x. x ++ cond first [] (32 ∷ []) ++ listed active name) l.text_is
          ∙ ap (λ b. join_with_byte 32 words ++ cond b [] (32 ∷ []) ++ listed active name) is_first
          ∙ sym (ap (join_with_byte 32) several ∙ join_with_byte-snoc 32 words (listed active name));
      first_is = some l.done name;
    }

map-names : (active : Option (List ℕ)) (ds : List OpenDocument)
    → map (listed active) (map (λ (d : OpenDocument). d.name) ds) ≡ map (λ (d : OpenDocument). listed active d.name) ds
map-names active [] = refl
map-names active (d ∷ ds) = ap (λ rest. listed active d.name ∷ rest) (map-names active ds)

-- all names
pub all-IsListed : (g : GroupParts) (active : Option (List ℕ)) (names : List (List ℕ)) (text : List ℕ) (first : Bool) (left : List (List ℕ))
    → IsListed active names text first left → left ≡ []
    → active ≡ g.active → names ≡ map (λ (d : OpenDocument). d.name) g.documents → text ≡ documents_text g
all-IsListed g active names text first left l e a n =
    let whole : l.done ≡ names = sym (append-nil l.done) ∙ ap (λ rest. l.done ++ rest) (sym e) ∙ sym l.split in
    l.text_is ∙ ap (λ xs. join_with_byte 32 (map (listed active) xs)) (whole ∙ n)
    ∙ ap (λ o. join_with_byte 32 (map (listed o) (map (λ (d : OpenDocument). d.name) g.documents))) a
    ∙ ap (join_with_byte 32) (map-names g.active g.documents)
