-- The text of an array that is put together reads as what was put together.
use Rattle.std.proofs.Common.{◌≡◌, IsUtf8, ℕ, List, [], ◌∷◌, ◌++◌, Some, option_map, option_and_then, Bool, true, false, refl, ap, ◌∙◌}
use Rattle.std.proofs.lemmas.Str.{IsUtf8-append}
use Rattle.json.specs.Tree.{ItemsHaveNumbers}
use Rattle.json.proofs.Printed.Utf8.{IsUtf8-are_ascii}
use Rattle.serde_json.specs.Data.{Data, array, Items, no_items, item}
use Rattle.serde_json.specs.Read.{of_items}
use Rattle.serde_json.specs.Written.{items_outline, comma_if, compact_text, items_text}
use Rattle.map_values.specs.Texts.{Returns}

-- ---- text in front of text
pub ascii_then : (b : ℕ) (rest : List ℕ) → IsUtf8 (b ∷ []) → IsUtf8 rest → IsUtf8 (b ∷ rest)
ascii_then b rest one more = IsUtf8-append (b ∷ []) rest one more

pub comma_then : (later : Bool) (rest : List ℕ) → IsUtf8 rest → IsUtf8 (comma_if later ++ rest)
comma_then true rest utf8 = ascii_then 44 rest (IsUtf8-are_ascii (44 ∷ []) refl) utf8
comma_then false rest utf8 = utf8

-- ---- items
pub record ItemsReturn (ds : Items) : Type 0 where
  pub utf8 : (later : Bool) → IsUtf8 (items_text later ds)
  pub numbers : ItemsHaveNumbers (items_outline ds)
  pub reads : of_items (items_outline ds) ≡ Some ds

pub ItemsReturn-none : ItemsReturn no_items
ItemsReturn-none = record { utf8 = λ later. IsUtf8-are_ascii (93 ∷ []) refl; numbers = tt; reads = refl }

pub ItemsReturn-item : (d : Data) (ds : Items) → Returns d → ItemsReturn ds → ItemsReturn (item d ds)
ItemsReturn-item d ds one more =
    record {
      utf8 = λ later. comma_then later (compact_text d ++ items_text true ds) (IsUtf8-append (compact_text d) (items_text true ds) one.utf8 (more.utf8 true));
      numbers = (one.numbers, more.numbers);
      reads = ap (option_and_then (λ e. option_map (item e) (of_items (items_outline ds)))) one.reads ∙ ap (option_map (item d)) more.reads;
    }

pub Returns-array : (ds : Items) → ItemsReturn ds → Returns (array ds)
Returns-array ds h =
    record {
      utf8 = ascii_then 91 (items_text false ds) (IsUtf8-are_ascii (91 ∷ []) refl) (h.utf8 false);
      numbers = h.numbers;
      reads = ap (option_map array) h.reads;
    }
