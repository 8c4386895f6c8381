-- A map that is written, and read again.
use Rattle.std.proofs.Common.{◌≡◌, ℕ, List, Some, Ok, Err, inl, inr, refl, sym, ap, ◌∙◌}
use Rattle.serde_json.specs.Data.{Data}
use Rattle.map_model.specs.declared.parts.MapParts.{MapParts}
use Rattle.refusals.specs.declared.map_refusal.MapRefusal.{MapRefusal}
use Rattle.map_values.specs.declared.fault.MapFault.TheVariants.{Memory, Refused}
use Rattle.map_json.specs.Maps.{IsTreeOf, IsRefusedAs, map_of}
use Rattle.map_json.specs.RoundTrip.{SavedIsOpened, WrittenIsRead}
use Rattle.map_json.specs.Trees.{text_of, tree_of}

-- bytes have one tree
one_tree : (bytes : List ℕ) (d e : Data) → IsTreeOf bytes d → IsTreeOf bytes e → d ≡ e
one_tree bytes d e one other =
    let same : Some d ≡ Some e = sym one.1 ∙ other.1 in cc

not_refused : (m : MapParts) (bytes : List ℕ) (f : MapRefusal) → map_of (tree_of m) ≡ Ok m → IsTreeOf bytes (tree_of m) → IsRefusedAs bytes f → ⊥
not_refused m bytes f again is (inl none) = let absent = none.1 is.0 in let there = is.1 in cc
not_refused m bytes f again is (inr (d, found, refused)) =
    let other : map_of (tree_of m) ≡ Err f = ap map_of (one_tree bytes (tree_of m) d is found) ∙ refused in cc

pub read_from : (m : MapParts) → map_of (tree_of m) ≡ Ok m → WrittenIsRead m
read_from m again bytes (Ok n) is (d, found, read_as) =
    let other : map_of (tree_of m) ≡ Ok n = ap map_of (one_tree bytes (tree_of m) d is found) ∙ read_as in
    inl cc
read_from m again bytes (Err Memory) is said = inr refl
read_from m again bytes (Err (Refused f)) is said = absurd (not_refused m bytes f again is said)

pub opened_from : (m : MapParts) → map_of (tree_of m) ≡ Ok m → IsTreeOf (text_of m) (tree_of m) → SavedIsOpened m
opened_from m again is answer said = read_from m again (text_of m) answer is said
