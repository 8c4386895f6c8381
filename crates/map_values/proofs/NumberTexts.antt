-- Arrays of numbers: their text, which is put together a few at a time, and that it is read as they are.
use Rattle.std.proofs.Common.{◌≡◌, ℕ, zero, suc, ◌+◌, ◌^◌, ◌<◌, List, [], ◌∷◌, ◌++◌, length, drop, get_or, set, option_map, Bool, true, false, cond, decimal}
use Rattle.std.proofs.Common.{refl, sym, ap, ◌∙◌, arith, append_assoc}
use Rattle.std.proofs.lemmas.Fmt.{IsAscii-decimal}
use Rattle.std.proofs.lemmas.List.{drop_more, drop-drop, drop-set}
use Rattle.std.proofs.lemmas.Str.{IsUtf8-from_ascii}
use Rattle.json.proofs.Printed.Decimals.{IsNumber-decimal}
use Rattle.serde_json.proofs.Numbers.{number_of-decimal}
use Rattle.serde_json.specs.Data.{number}
use Rattle.serde_json.specs.Written.{items_text}
use Rattle.map_model.specs.Lists.{Each}
use Rattle.map_model.specs.WellFormed.{IsTileValue}
use Rattle.map_values.specs.Texts.{Returns, numbers_text}
use Rattle.map_values.specs.Arrays.{array_by, items_by, whole_tree}
use Rattle.map_values.proofs.Returning.{ItemsReturn, ItemsReturn-item, ItemsReturn-none, Returns-array}

-- ---- they are read
pub whole_returns : (n : ℕ) → n < 2 ^ 64 → Returns (whole_tree n)
whole_returns n small = record {
  utf8 = IsUtf8-from_ascii (decimal n) (IsAscii-decimal n small);
  numbers = IsNumber-decimal n small;
  reads = ap (λ o. option_map number o) (number_of-decimal n small);
}

numbers_return : (ns : List ℕ) → Each IsTileValue ns → ItemsReturn (items_by whole_tree ns)
numbers_return [] h = ItemsReturn-none
numbers_return (n ∷ ns) h = let small = h.0 in ItemsReturn-item (whole_tree n) (items_by whole_tree ns) (whole_returns n (omega arith)) (numbers_return ns h.1)

pub array_returns : (ns : List ℕ) → Each IsTileValue ns → Returns (array_by whole_tree ns)
array_returns ns h = Returns-array (items_by whole_tree ns) (numbers_return ns h)

-- ---- their range
pub below_limit : (ns : List ℕ) (i d : ℕ) → i < length ns → Each IsTileValue ns → get_or ns i d < 2 ^ 32
below_limit [] i d few h = absurd (omega (arith, few))
below_limit (n ∷ ns) zero d few h = h.0
below_limit (n ∷ ns) (suc i) d few h = below_limit ns i d (omega (arith, few)) h.1

-- ---- their text
-- behind others, some of them and the rest
items_text-some : (some behind : List ℕ) → items_text true (items_by whole_tree (some ++ behind)) ≡ numbers_text some
    ++ items_text true (items_by whole_tree behind)
items_text-some [] behind = refl
items_text-some (n ∷ ns) behind =
    ap (λ t. 44 ∷ (decimal n ++ t)) (items_text-some ns behind)
    ∙ sym (append_assoc (44 ∷ decimal n) (numbers_text ns) (items_text true (items_by whole_tree behind)))

-- and in front
pub items_text-round : (later : Bool) (some behind : List ℕ) → 0 < length some
    → items_text later (items_by whole_tree (some ++ behind)) ≡ drop (cond later 0 1) (numbers_text some) ++ items_text true (items_by whole_tree behind)
items_text-round true some behind h = items_text-some some behind
items_text-round false [] behind h = absurd (omega (arith, h))
items_text-round false (n ∷ ns) behind h =
    ap (λ t. decimal n ++ t) (items_text-some ns behind) ∙ sym (append_assoc (decimal n) (numbers_text ns) (items_text true (items_by whole_tree behind)))

-- some more of them are put: those that a buffer ends with
pub one_more_round : (text all : List ℕ) (later : Bool) (rest some behind buffer : List ℕ) (start from : ℕ) → rest ≡ some ++ behind → 0 < length some
    → drop start buffer ≡ numbers_text some
    → from ≡ start + cond later 0 1 → text ++ items_text later (items_by whole_tree rest) ≡ all
    → (text ++ drop from buffer) ++ items_text true (items_by whole_tree behind) ≡ all
one_more_round text all later rest some behind buffer start from split several written is so_far =
    let shown : drop (cond later 0 1) (numbers_text some) ≡ drop from buffer =
    ap (drop (cond later 0 1)) (sym written) ∙ (drop-drop (cond later 0 1) start buffer ∙ ap (λ n. drop n buffer) (sym is)) in
    let round = ap (λ ns. items_text later (items_by whole_tree ns)) split
    ∙ (items_text-round later some behind several ∙ ap (λ t. t ++ items_text true (items_by whole_tree behind)) shown) in
    append_assoc text (drop from buffer) (items_text true (items_by whole_tree behind)) ∙ (ap (λ t. text ++ t) (sym round) ∙ so_far)

-- one more is written, in front of those that a buffer ends with
pub one_before : (numbers old new : List ℕ) (left more start at n d : ℕ) → more ≡ left + 1 → left < length numbers → n ≡ get_or numbers left d
    → drop start old ≡ numbers_text (drop more numbers)
    → at < length new → drop (at + 1) new ≡ decimal n ++ drop start old → drop at (set new at 44) ≡ numbers_text (drop left numbers)
one_before numbers old new left more start at n d next few is so_far room written =
    let first : drop left numbers ≡ n ∷ drop more numbers = drop_more numbers left d few
    ∙ (ap (λ k. k ∷ drop (left + 1) numbers) (sym is) ∙ ap (λ k. n ∷ drop k numbers) (sym next)) in
    drop-set new at 44 room ∙ (ap (λ t. 44 ∷ t) (written ∙ ap (λ t. decimal n ++ t) so_far) ∙ sym (ap numbers_text first))
