-- What holds of the history of each open document.
use Rattle.std.proofs.Common.{◌≡◌, List, [], ◌∷◌, ◌++◌, ℕ, Bool, true, false, cond, not, Option, Some, None, All, subst}
use Rattle.std.specs.Str.{bytes_eq}
use Rattle.std.proofs.lemmas.List.Elements.{All-filter, All-head, All-map, All-nil, All-push, All-tail, All-weaker}
use Rattle.undo_stack.specs.History.{History}
use Rattle.undo_group.specs.Groups.{GroupParts, OpenDocument, active_history, history_named, with_active, with_history, with_history_of, without}

module _ (P : History → Type 0) where
  abbrev Has : OpenDocument → Type 0
  Has d = P d.history

  abbrev pub AllHave : List OpenDocument → Type 0
  AllHave documents = All (λ d. P d.history) documents

  pub none-have : AllHave []
  none-have = All-nil Has

  -- ---- a document of a name
  first-has : (b : Bool) (h k : History) (rest : Option History) → P k → (rest ≡ Some h → P h) → cond b (Some k) rest ≡ Some h → P h
  first-has true h k rest first others at = let same : k ≡ h = cc in subst (λ (x : History). P x) same first
  first-has false h k rest first others at = others at

  pub named-has : (name : List ℕ) (h : History) (ds : List OpenDocument) → AllHave ds → history_named name ds ≡ Some h → P h
  named-has name h [] all at = absurd cc
  named-has name h (d ∷ ds) all at =
      first-has (bytes_eq name d.name) h d.history (history_named name ds) (All-head Has d ds all) (named-has name h ds (All-tail Has d ds all)) at

  active_among-has : (active : Option (List ℕ)) (h : History) (ds : List OpenDocument) → AllHave ds
      → active_history (record { documents = ds; active = active }) ≡ Some h → P h
  active_among-has None h ds all at = absurd cc
  active_among-has (Some name) h ds all at = named-has name h ds all at

  pub active-has : (h : History) (g : GroupParts) → AllHave g.documents → active_history g ≡ Some h → P h
  active-has h g all at = active_among-has g.active h g.documents all at

  -- ---- what becomes of the documents
  chosen-has : (b : Bool) (h : History) (d : OpenDocument) → P h → P d.history → P (cond b (record { name = d.name; history = h }) d).history
  chosen-has true h d new old = new
  chosen-has false h d new old = old

  with_history-have : (name : List ℕ) (h : History) (ds : List OpenDocument) → P h → AllHave ds → AllHave (with_history name h ds)
  with_history-have name h ds new all =
      let put : OpenDocument → OpenDocument = λ d. cond (bytes_eq name d.name) (record { name = d.name; history = h }) d in
      All-map Has put ds (All-weaker Has (λ d. Has (put d)) (λ d old. chosen-has (bytes_eq name d.name) h d new old) ds all)

  with_history_of-have : (active : Option (List ℕ)) (h : History) (ds : List OpenDocument) → P h → AllHave ds → AllHave (with_history_of active h ds)
  with_history_of-have None h ds new all = all
  with_history_of-have (Some name) h ds new all = with_history-have name h ds new all

  pub with_active-have : (h : History) (g : GroupParts) → P h → AllHave g.documents → AllHave (with_active h g).documents
  with_active-have h g new all = with_history_of-have g.active h g.documents new all

  pub added-have : (name : List ℕ) (h : History) (ds : List OpenDocument) → P h → AllHave ds → AllHave (ds ++ record { name = name; history = h } ∷ [])
  added-have name h ds new all = All-push Has ds (record { name = name; history = h }) all new

  pub without-have : (name : List ℕ) (ds : List OpenDocument) → AllHave ds → AllHave (without name ds)
  without-have name ds all = All-filter (λ d. not (bytes_eq name d.name)) Has ds all
