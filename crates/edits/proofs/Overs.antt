-- What lies over cells outside the extent of an edit.
use Rattle.std.proofs.Common.{◌≡◌, ℕ, ◌+◌, ◌*◌, ◌<◌, ◌≤◌, ◌&&◌, length, List, Bool, true, false, cond, nat_lt, get_or, Bor, is_some, Option, Some, None, IfSome}
use Rattle.std.proofs.Common.{option_and_then, refl, sym, ap, ◌∙◌, arith}
use Rattle.std.specs.List.{slice_get}
use Rattle.std.specs.Option.{option_copied}
use Rattle.std.proofs.lemmas.Bool.Decides.{nat_tests}
use Rattle.std.proofs.lemmas.Option.{slice_get_past, slice_get-get_or}
use Rattle.edits.specs.declared.area.Area.{Area}
use Rattle.edits.specs.Blocks.{ValueBlock, offset, value_in, value_over, unless_empty, stamp_over, is_below, erase_over}

-- ---- blocks
past_test : (a b : ℕ) → b ≤ a → nat_lt a b ≡ false
past_test a b l = grind (arith, nat_tests)

value_in-right : (b : ValueBlock) (right down : ℕ) → b.width ≤ right → value_in b right down ≡ None
value_in-right b right down l = rw (past_test right b.width l) refl

rows-past : (w far h right n : ℕ) → h ≤ far → n ≡ h * w → n ≤ far * w + right
rows-past w far h right n l e = grind arith

value_in-down : (b : ValueBlock) (right down h : ℕ) → length b.values ≡ h * b.width → h ≤ down → value_in b right down ≡ None
value_in-down b right down h e l =
    elim (nat_lt right b.width) as (λ t. cond t (slice_get b.values (down * b.width + right)) None ≡ None)
    [ true ↦ slice_get_past b.values (down * b.width + right) (rows-past b.width down h right (length b.values) l e) | false ↦ refl ]

-- a distance that is there and not below a size
past : (o : Option ℕ) (size : ℕ) → is_below o size ≡ false → IfSome o (λ far. size ≤ far)
past None size p = tt
past (Some far) size p = grind (arith, nat_tests)

-- no value lies over a cell in a column that the block does not have
past_column : (b : ValueBlock) (x y : ℕ) → is_below (offset b.x x) b.width ≡ false → value_over b x y ≡ None
past_column b x y p = by_column (offset b.x x) (past (offset b.x x) b.width p)
  where
    by_row : (far : ℕ) → b.width ≤ far → (o : Option ℕ) → option_and_then (λ down. value_in b far down) o ≡ None
    by_row far l None = refl
    by_row far l (Some down) = value_in-right b far down l

    by_column : (o : Option ℕ) → IfSome o (λ far. b.width ≤ far)
        → option_and_then (λ right. option_and_then (λ down. value_in b right down) (offset b.y y)) o ≡ None
    by_column None q = refl
    by_column (Some far) q = by_row far q (offset b.y y)

-- nor over one in such a row
past_row : (b : ValueBlock) (x y h : ℕ) → length b.values ≡ h * b.width → is_below (offset b.y y) h ≡ false → value_over b x y ≡ None
past_row b x y h e p = by_column (offset b.x x)
  where
    by_row : (right : ℕ) (o : Option ℕ) → IfSome o (λ far. h ≤ far) → option_and_then (λ down. value_in b right down) o ≡ None
    by_row right None q = refl
    by_row right (Some down) q = value_in-down b right down h e q

    by_column : (o : Option ℕ) → option_and_then (λ right. option_and_then (λ down. value_in b right down) (offset b.y y)) o ≡ None
    by_column None = refl
    by_column (Some right) = by_row right (offset b.y y) (past (offset b.y y) h p)

pub stamp_over-column : (b : ValueBlock) (x y : ℕ) → is_below (offset b.x x) b.width ≡ false → stamp_over b x y ≡ None
stamp_over-column b x y p = ap (option_and_then unless_empty) (past_column b x y p)

pub stamp_over-row : (b : ValueBlock) (x y h : ℕ) → length b.values ≡ h * b.width → is_below (offset b.y y) h ≡ false → stamp_over b x y ≡ None
stamp_over-row b x y h e p = ap (option_and_then unless_empty) (past_row b x y h e p)

-- ---- areas
and_false : (a : Bool) → (a && false) ≡ false
and_false true = refl
and_false false = refl

pub erase_over-column : (a : Area) (x y : ℕ) → is_below (offset a.x x) a.width ≡ false → erase_over a x y ≡ None
erase_over-column a x y p = ap (λ b. cond (b && is_below (offset a.y y) a.height) (Some 0) None) p

pub erase_over-row : (a : Area) (x y : ℕ) → is_below (offset a.y y) a.height ≡ false → erase_over a x y ≡ None
erase_over-row a x y p =
    ap (λ b. cond (is_below (offset a.x x) a.width && b) (Some 0) None) p
    ∙ ap (λ b. cond b (Some 0) None) (and_false (is_below (offset a.x x) a.width))

-- ---- the value over a cell
within_test : (a b : ℕ) → a < b → nat_lt a b ≡ true
within_test a b l = grind (arith, nat_tests)

pub value_over-at : (b : ValueBlock) (x y right down : ℕ) (o : Option ℕ) → Some right ≡ offset b.x x → Some down ≡ offset b.y y → right < b.width
    → o ≡ slice_get b.values (down * b.width + right)
    → o ≡ value_over b x y
value_over-at b x y right down o e f l is = rw (← e, ← f, within_test right b.width l) is

-- what a look-up lends is the element there
pub option_copied-found : (o : Option (Bor ℕ)) (xs : List ℕ) (k : ℕ) → is_some o ≡ nat_lt k (length xs)
    → IfSome o (λ x. (x.now ≡ get_or xs k x.now) × (k < length xs)) → option_copied o ≡ slice_get xs k
option_copied-found None xs k e h = sym (slice_get_past xs k (grind (arith, nat_tests)))
option_copied-found (Some x) xs k e h = ap Some h.0 ∙ sym (slice_get-get_or xs k x.now h.1)
