-- A loop that pushes what a function makes of each of a list.
use Rattle.std.proofs.Common.{◌≡◌, ℕ, ◌+◌, ◌<◌, List, [], ◌∷◌, ◌++◌, length, map, take, get_or, sym, ap, ◌∙◌}
use Rattle.std.proofs.lemmas.List.{map-append, map_more}

pub pushed : {A B D : Type 0} (view : A → D) (f : B → D) (done : List A) (new : A) (all : List B) (i : ℕ) (other : B) → map view done ≡ map f (take i all)
    → i < length all → view new ≡ f (get_or all i other) → map view (done ++ new ∷ []) ≡ map f (take (i + 1) all)
pushed view f done new all i other so_far lt is =
    map-append view done (new ∷ []) ∙ (ap (λ ds. ds ++ view new ∷ []) so_far ∙ (ap (λ d. map f (take i all) ++ d ∷ []) is ∙ sym (map_more f all i other lt)))
