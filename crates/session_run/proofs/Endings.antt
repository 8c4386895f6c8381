-- Documents that are not clean at the end of a run.
use Rattle.std.proofs.Common.{◌≡◌, ◌∙◌, ◌<◌, ℕ, suc, zero, Bool, true, false, IsTrue, List, [], ◌∷◌, ◌++◌, map, length, slice_index_or, Some, None, refl, sym}
use Rattle.std.proofs.Common.{ap, subst, append_assoc, arith}
use Rattle.std.specs.Prelude.{All, IfSome, MatchBool, Option, option_to_list, slice_get}
use Rattle.std.specs.List.{flat_map}
use Rattle.std.specs.Option.{option_map}
use Rattle.std.proofs.lemmas.Grind.{flat_map-append}
use Rattle.std.proofs.lemmas.List.{append-nil}
use Rattle.std.proofs.lemmas.List.Elements.{All-append, All-cons, All-head, All-nil, All-tail}
use Rattle.std.specs.Str.{bytes_eq}
use Rattle.undo_stack.specs.History.{History, is_clean}
use Rattle.undo_group.specs.Groups.{AreDistinct, OpenDocument, history_named}
use Rattle.undo_group.proofs.Documents.{history_named-at}
use Rattle.session_run.specs.StrictRuns.{AreClean, Tells, Told, UnsavedDocument, unsaved_of, unsaved_told}
use Rattle.session_run.specs.declared.strict.Unsaved.{Unsaved}

-- the document of this name, if there is one, is clean
abbrev pub IsCleanNamed : List OpenDocument → List ℕ → Type 0
IsCleanNamed ds name = (h : History) → history_named name ds ≡ Some h → IsTrue (is_clean h)

slice_get_at : {X : Type 0} (xs : List X) (k : ℕ) (d : X) → k < length xs → slice_get xs k ≡ Some (slice_index_or xs k d)
slice_get_at [] k d lt = absurd (omega (arith, lt))
slice_get_at (x ∷ xs) zero d lt = refl
slice_get_at (x ∷ xs) (suc k) d lt = slice_get_at xs k d (omega (arith, lt))

-- each document is found by its name
named_each : (ds : List OpenDocument) → AreDistinct ds → All (λ d. history_named d.name ds ≡ Some d.history) ds
named_each ds distinct k d lt = history_named-at ds k (slice_index_or ds k d) distinct (slice_get_at ds k d lt)

clean_each : (ds es : List OpenDocument) → All (IsCleanNamed ds) (map (λ (d : OpenDocument). d.name) es)
    → All (λ d. history_named d.name ds ≡ Some d.history) es → AreClean es
clean_each ds [] clean named = All-nil (λ d. IsTrue (is_clean d.history))
clean_each ds (e ∷ es) clean named =
    let P : OpenDocument → Type 0 = λ d. history_named d.name ds ≡ Some d.history in
    let names = map (λ (d : OpenDocument). d.name) es in
    All-cons (λ d. IsTrue (is_clean d.history)) e es (All-head (IsCleanNamed ds) e.name names clean e.history (All-head P e es named))
    (clean_each ds es (All-tail (IsCleanNamed ds) e.name names clean) (All-tail P e es named))

-- of clean documents each is clean by its name
clean_named : (ds : List OpenDocument) (name : List ℕ) → AreClean ds → IsCleanNamed ds name
clean_named [] name clean h at = absurd cc
clean_named (d ∷ ds) name clean h at =
    go (clean_named ds name (All-tail (λ d. IsTrue (is_clean d.history)) d ds clean) h) (bytes_eq name d.name) refl
  where
    go : (history_named name ds ≡ Some h → IsTrue (is_clean h)) → (b : Bool) → bytes_eq name d.name ≡ b → IsTrue (is_clean h)
    go behind true same =
        let is : Some d.history ≡ Some h = rw same at at in
        let e : d.history ≡ h = cc in
        subst (λ (x : History). IsTrue (is_clean x)) e (All-head (λ d. IsTrue (is_clean d.history)) d ds clean)
    go behind false other = behind (rw other at at)

-- what is told of the document of a name
abbrev pub told_history : List ℕ → Option History → List Told
told_history name None = []
told_history name (Some h) = option_to_list (option_map (UnsavedDocument name) (unsaved_of h))

abbrev pub told_named : List OpenDocument → List ℕ → List Told
told_named ds name = told_history name (history_named name ds)

-- what is told of the documents by their names is what is told of them
told_each : (ds es : List OpenDocument) → All (λ d. history_named d.name ds ≡ Some d.history) es
    → flat_map (told_named ds) (map (λ (d : OpenDocument). d.name) es) ≡ unsaved_told es
told_each ds [] named = refl
told_each ds (e ∷ es) named =
    let P : OpenDocument → Type 0 = λ d. history_named d.name ds ≡ Some d.history in
    let first : told_named ds e.name ≡ told_history e.name (Some e.history) = ap (told_history e.name) (All-head P e es named) in
    ap (λ xs. xs ++ flat_map (told_named ds) (map (λ (d : OpenDocument). d.name) es)) first
    ∙ ap (λ ys. told_history e.name (Some e.history) ++ ys) (told_each ds es (All-tail P e es named))

pub clean_unsaved : (h : History) → None ≡ unsaved_of h → is_clean h ≡ true
clean_unsaved h e = go (is_clean h) refl
  where
    go : (b : Bool) → is_clean h ≡ b → is_clean h ≡ true
    go true at = at
    go false at = let bad = rw at at e in absurd cc

pub dirty_unsaved : (h : History) (why : Unsaved) → Some why ≡ unsaved_of h → is_clean h ≡ false
dirty_unsaved h why e = go (is_clean h) refl
  where
    go : (b : Bool) → is_clean h ≡ b → is_clean h ≡ false
    go true at = let bad = rw at at e in absurd cc
    go false at = at

pub tells_nothing : (told : Option (List Told)) → Tells told told []
tells_nothing None = tt
tells_nothing (Some told) = sym (append-nil told)

pub tells_more : (a b c : Option (List Told)) (xs ys : List Told) → Tells a b xs → Tells b c ys → Tells a c (xs ++ ys)
tells_more None b c xs ys h k = tt
tells_more (Some old) None c xs ys h k = absurd h
tells_more (Some old) (Some bs) None xs ys h k = k
tells_more (Some old) (Some bs) (Some cs) xs ys h k = k ∙ ap (λ zs. zs ++ ys) h ∙ append_assoc old xs ys

-- All names but those that are left were looked at: whether one of their documents is not clean, and what was told of them.
pub record IsReported (ds : List OpenDocument) (unsaved : Bool) (left : List (List ℕ)) (old new : Option (List Told)) : Type 0 where
  pub done : List (List ℕ)
  pub split : map (λ (d : OpenDocument). d.name) ds ≡ done ++ left
  pub clean : unsaved ≡ false → All (IsCleanNamed ds) done
  pub found : unsaved ≡ true → AreClean ds → ⊥
  pub told : Tells old new (flat_map (told_named ds) done)

pub none-IsReported : (ds : List OpenDocument) (left : List (List ℕ)) (told : Option (List Told)) → left ≡ map (λ (d : OpenDocument). d.name) ds
    → IsReported ds false left told told
none-IsReported ds left told e =
    record { done = []; split = sym e; clean = λ _. All-nil (IsCleanNamed ds); found = λ bad. absurd cc; told = tells_nothing told }

one_more : (ds : List OpenDocument) (done left left' : List (List ℕ)) (name : List ℕ) → map (λ (d : OpenDocument). d.name) ds ≡ done ++ left
    → left ≡ name ∷ left'
    → map (λ (d : OpenDocument). d.name) ds ≡ (done ++ name ∷ []) ++ left'
one_more ds done left left' name split e = split ∙ ap (λ rest. done ++ rest) e ∙ sym (append_assoc done (name ∷ []) left')

-- what is told of one name more
tells_one : (ds : List OpenDocument) (done : List (List ℕ)) (name : List ℕ) (more : List Told) (old mid new : Option (List Told))
    → Tells old mid (flat_map (told_named ds) done)
    → Tells mid new more → told_named ds name ≡ more → Tells old new (flat_map (told_named ds) (done ++ name ∷ []))
tells_one ds done name more old mid new h k e =
    let P : List Told → Type 0 = λ xs. Tells old new xs in
    let last : more ≡ flat_map (told_named ds) (name ∷ []) = sym e ∙ sym (append-nil (told_named ds name)) in
    subst P (ap (λ xs. flat_map (told_named ds) done ++ xs) last ∙ sym (flat_map-append (told_named ds) done (name ∷ [])))
    (tells_more old mid new (flat_map (told_named ds) done) more h k)

-- nothing is told of a name whose document is clean, or of a name of none
untold : (ds : List OpenDocument) (name : List ℕ) (h : Option History) → h ≡ history_named name ds → IfSome h (λ own. None ≡ unsaved_of own)
    → told_named ds name ≡ []
untold ds name None e c = ap (told_history name) (sym e)
untold ds name (Some h) e c = ap (told_history name) (sym e) ∙ ap (λ why. option_to_list (option_map (UnsavedDocument name) why)) (sym c)

-- the document of the next name is clean, or there is none
pub clean-IsReported : (ds : List OpenDocument) (unsaved : Bool) (left left' : List (List ℕ)) (name : List ℕ) (h : Option History)
    (old new : Option (List Told)) → IsReported ds unsaved left old new
    → left ≡ name ∷ left' → h ≡ history_named name ds → IfSome h (λ own. None ≡ unsaved_of own) → IsReported ds unsaved left' old new
clean-IsReported ds unsaved left left' name h old new r e at c = record {
  done = r.done ++ name ∷ [];
  split = one_more ds r.done left left' name r.split e;
  clean = λ b. All-append (IsCleanNamed ds) r.done (name ∷ []) (r.clean b) (All-cons (IsCleanNamed ds) name [] (named h at c) (All-nil (IsCleanNamed ds)));
  found = r.found;
  told = tells_one ds r.done name [] old new new r.told (tells_nothing new) (untold ds name h at c);
}
  where
    named : (h : Option History) → h ≡ history_named name ds → IfSome h (λ own. None ≡ unsaved_of own) → IsCleanNamed ds name
    named None at c other is = absurd cc
    named (Some own) at c other is =
        let same : own ≡ other = cc in
        subst (λ (x : History). IsTrue (is_clean x)) same (clean_unsaved own c)

-- the document of the next name is not clean, and that was told
pub unsaved-IsReported : (ds : List OpenDocument) (unsaved : Bool) (left left' : List (List ℕ)) (name : List ℕ) (h : History) (why : Unsaved)
    (old mid new : Option (List Told))
    → IsReported ds unsaved left old mid → left ≡ name ∷ left' → Some h ≡ history_named name ds → Some why ≡ unsaved_of h
    → Tells mid new (UnsavedDocument name why ∷ []) → IsReported ds true left' old new
unsaved-IsReported ds unsaved left left' name h why old mid new r e at c t = record {
  done = r.done ++ name ∷ [];
  split = one_more ds r.done left left' name r.split e;
  clean = λ bad. absurd cc;
  found = λ _ all. let bad : true ≡ false = sym (clean_named ds name all h (sym at)) ∙ dirty_unsaved h why c in absurd cc;
  told = tells_one ds r.done name (UnsavedDocument name why ∷ []) old mid new r.told t
      (ap (told_history name) (sym at) ∙ ap (λ (own : Option Unsaved). option_to_list (option_map (UnsavedDocument name) own)) (sym c));
}

all_done : (ds : List OpenDocument) (left done : List (List ℕ)) → map (λ (d : OpenDocument). d.name) ds ≡ done ++ left → left ≡ []
    → done ≡ map (λ (d : OpenDocument). d.name) ds
all_done ds left done split e = sym (append-nil done) ∙ ap (λ rest. done ++ rest) (sym e) ∙ sym split

-- all names were looked at
pub all-IsReported : (ds : List OpenDocument) (unsaved : Bool) (left : List (List ℕ)) (old new : Option (List Told)) → AreDistinct ds
    → IsReported ds unsaved left old new → left ≡ []
    → MatchBool unsaved (AreClean ds → ⊥) (AreClean ds)
all-IsReported ds true left old new distinct r e = r.found refl
all-IsReported ds false left old new distinct r e = clean_each ds ds (subst (All (IsCleanNamed ds)) (all_done ds left r.done r.split e) (r.clean refl))
    (named_each ds distinct)

pub all-told : (ds : List OpenDocument) (unsaved : Bool) (left : List (List ℕ)) (old new : Option (List Told)) → AreDistinct ds
    → IsReported ds unsaved left old new → left ≡ [] → Tells old new (unsaved_told ds)
all-told ds unsaved left old new distinct r e =
    let P : List Told → Type 0 = λ xs. Tells old new xs in
    subst P (ap (flat_map (told_named ds)) (all_done ds left r.done r.split e) ∙ told_each ds ds (named_each ds distinct)) r.told

-- of clean documents nothing is told
clean_untold : (ds : List OpenDocument) → AreClean ds → unsaved_told ds ≡ []
clean_untold [] clean = refl
clean_untold (d ∷ ds) clean =
    let first : is_clean d.history ≡ true = All-head (λ d. IsTrue (is_clean d.history)) d ds clean in
    rw first (clean_untold ds (All-tail (λ d. IsTrue (is_clean d.history)) d ds clean))

pub clean-Tells : (ds : List OpenDocument) (old new : Option (List Told)) → AreClean ds → Tells old new (unsaved_told ds) → Tells old new []
clean-Tells ds old new clean t =
    let P : List Told → Type 0 = λ xs. Tells old new xs in
    subst P (clean_untold ds clean) t
