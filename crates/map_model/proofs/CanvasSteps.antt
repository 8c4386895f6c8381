-- Layers and objects that are put on a canvas one after another.
use Rattle.std.proofs.Common.{append-nil, append_assoc, ◌-◌, ◌≡◌, ℕ, zero, suc, ◌+◌, ◌≤◌, ℤ, List, [], ◌∷◌, ◌++◌, length, map, take, drop, get_or, Some, refl}
use Rattle.std.proofs.Common.{sym, ap, ◌∙◌, subst, arith, add-one, length-append, length-drop}
use Rattle.std.specs.List.{AllByRecursion, AllZip, flat_map, slice_get, slice_set}
use Rattle.std.proofs.Math.Seq.{drop-append-add, drop-append_seam, take-append_seam, take-length, drop-length, set-append_seam}
use Rattle.std.proofs.lemmas.List.{get_or-append_right, length-take-le, take-append-drop}
use Rattle.map_model.specs.declared.canvas.Canvas.{Canvas}
use Rattle.map_model.specs.declared.parts.Body.{Body}
use Rattle.map_model.specs.declared.parts.Body.TheVariants.{Tiles}
use Rattle.map_model.specs.declared.parts.Layer.{Layer}
use Rattle.map_model.specs.Canvas.{BodyMayBeMoved, MayBeDrawn, body_on, each_on, layers_on, lists_after, lists_in, lists_left, lists_of, lists_under, one_on}
use Rattle.map_model.specs.Canvas.{cells_on, objects_on, with_lists}
use Rattle.map_model.specs.Groups.{body_with_layers, drawn, group_in, inside, layer_with_layers, tree}
use Rattle.map_model.specs.Keeping.{inner_tier, layer_tier}
use Rattle.map_model.specs.Lists.{Each, or_empty}
use Rattle.map_model.proofs.BodyLaws.{group_in-contents}
use Rattle.map_model.proofs.CanvasTrees.{cells_below, counted, lists_under-is, lists_under-list, one_on-is}
use Rattle.map_model.proofs.GroupBodies.{objects_in-with}
use Rattle.map_model.proofs.Listings.{Each-append, Each-prefix, Each-rest}
use Rattle.map_model.proofs.Trees.{tree-is}

-- ---- objects that are changed one by one
module _ {X : Type 0} where
  pub by_each : (P Q : X → Type 0) (xs : List X) → ((x : X) → P x → Q x) → Each P xs → AllByRecursion Q xs
  by_each P Q [] more each = tt
  by_each P Q (x ∷ xs) more each = (more x each.0, by_each P Q xs more each.1)

  pub mapped-by : (R : X → X → Type 0) (f : X → X) (xs ys : List X) → ((x y : X) → R x y → y ≡ f x) → AllZip R xs ys → ys ≡ map f xs
  mapped-by R f [] [] is zip = refl
  mapped-by R f [] (y ∷ ys) is zip = absurd zip
  mapped-by R f (x ∷ xs) [] is zip = absurd zip
  mapped-by R f (x ∷ xs) (y ∷ ys) is zip = rw (is x y zip.0, mapped-by R f xs ys is zip.1) refl

-- ---- layers of which the first are on a canvas
module _ (g : ℕ → Layer → Layer) (n : Layer → ℕ) where
  laid-at : (number : ℕ) (ls : List Layer) (k : ℕ) → slice_get (each_on g n number (take k ls) ++ drop k ls) k ≡ slice_get ls k
  laid-at number [] zero = refl
  laid-at number [] (suc k) = refl
  laid-at number (l ∷ ls) zero = refl
  laid-at number (l ∷ ls) (suc k) = laid-at (number + n l) ls k

  abbrev total : List Layer → ℕ
  total [] = 0
  total (l ∷ ls) = n l + total ls

  laid-more : (number at : ℕ) (ls : List Layer) (k : ℕ) (l : Layer) → at ≡ number + total (take k ls) → slice_get ls k ≡ Some l
      → slice_set (each_on g n number (take k ls) ++ drop k ls) k (g at l) ≡ each_on g n number (take (suc k) ls) ++ drop (suc k) ls
  laid-more number at [] zero l is e = cc
  laid-more number at [] (suc k) l is e = cc
  laid-more number at (m ∷ ls) zero l is e =
      let same : l ≡ m = cc in
      let here : at ≡ number = omega (arith, is) in
      rw (same, here) refl
  laid-more number at (m ∷ ls) (suc k) l is e =
      let rest : at ≡ number + n m + total (take k ls) = omega (arith, is) in
      ap (λ ms. g number m ∷ ms) (laid-more (number + n m) at ls k l rest e)

  length-each_on : (number : ℕ) (ls : List Layer) → length (each_on g n number ls) ≡ length ls
  length-each_on number [] = refl
  length-each_on number (l ∷ ls) = ap suc (length-each_on (number + n l) ls)

-- the cells of layers, and of those that stand in them
abbrev pub cells : ℕ → List Layer → List (List ℕ)
cells groups ls = flat_map lists_of (drawn groups layer_tier ls)

total-cells : (groups : ℕ) (g : ℕ → Layer → Layer) (ls : List Layer) → total g (counted groups) ls ≡ length (cells groups ls)
total-cells groups g [] = refl
total-cells groups g (l ∷ ls) =
    let later = total-cells groups g ls in
    let own = ap length (lists_under-list groups l ls) in
    omega (arith, later, own, length-append (lists_under groups l) (cells groups ls))

cells-more : (groups : ℕ) (ls : List Layer) (k : ℕ) (l : Layer) → slice_get ls k ≡ Some l
    → cells groups (take (suc k) ls) ≡ cells groups (take k ls) ++ lists_under groups l
cells-more groups [] zero l e = cc
cells-more groups [] (suc k) l e = cc
cells-more groups (m ∷ ls) zero l e = let same : m ≡ l = cc in lists_under-list groups m [] ∙ append-nil (lists_under groups m) ∙ ap (lists_under groups) same
cells-more groups (m ∷ ls) (suc k) l e =
    lists_under-list groups m (take (suc k) ls) ∙ ap (λ xs. lists_under groups m ++ xs) (cells-more groups ls k l e)
    ∙ sym (append_assoc (lists_under groups m) (cells groups (take k ls)) (lists_under groups l))
    ∙ ap (λ xs. xs ++ lists_under groups l) (sym (lists_under-list groups m (take k ls)))

cells-groups : (groups : ℕ) (ls : List Layer) (k : ℕ) (l : Layer) → slice_get ls k ≡ Some l
    → length (cells groups (take k ls)) + length (lists_under groups l) ≤ length (cells groups ls)
cells-groups groups [] zero l e = cc
cells-groups groups [] (suc k) l e = cc
cells-groups groups (m ∷ ls) zero l e =
    let same : length (lists_under groups l) ≡ length (lists_under groups m) = let is : l ≡ m = cc in ap (λ j. length (lists_under groups j)) is in
    let own = ap length (lists_under-list groups m ls) in
    omega (arith, same, own, length-append (lists_under groups m) (cells groups ls))
cells-groups groups (m ∷ ls) (suc k) l e =
    let later = cells-groups groups ls k l e in
    let own = ap length (lists_under-list groups m ls) in
    let prefix = ap length (lists_under-list groups m (take k ls)) in
    omega (arith, later, own, prefix, length-append (lists_under groups m) (cells groups ls), length-append (lists_under groups m) (cells groups (take k ls)))

-- ---- lists of cells of which some were exchanged
-- a list is what stands before a number, so many elements from there on, and the rest
split : {X : Type 0} (xs : List X) (number n : ℕ) → xs ≡ take number xs ++ (take n (drop number xs) ++ drop n (drop number xs))
split xs number n = sym (take-append-drop number xs) ∙ ap (λ ys. take number xs ++ ys) (sym (take-append-drop n (drop number xs)))

left-split : (prefix piece own rest : List (List ℕ)) (number : ℕ) → number ≡ length prefix → length own ≡ length piece
    → lists_left number own (prefix ++ (piece ++ rest)) ≡ prefix ++ (own ++ rest)
left-split prefix piece own rest number is long =
    ap (λ k. lists_left k own (prefix ++ (piece ++ rest))) is
    ∙ (λ i. take-append_seam prefix (piece ++ rest) i ++ (own ++
    (drop-append-add prefix (piece ++ rest) (length own) ∙ ap (λ k. drop k (piece ++ rest)) long ∙ drop-append_seam piece rest) i))

module _ (number : ℕ) (own more lists : List (List ℕ)) (fits : number + length own + length more ≤ length lists) where
  abbrev prefix : List (List ℕ)
  prefix = take number lists

  abbrev piece : List (List ℕ)
  piece = take (length own) (drop number lists)

  abbrev next : List (List ℕ)
  next = take (length more) (drop (length own) (drop number lists))

  abbrev rest : List (List ℕ)
  rest = drop (length more) (drop (length own) (drop number lists))

  are : lists ≡ prefix ++ (piece ++ (next ++ rest))
  are = split lists number (length own) ∙ ap (λ xs. prefix ++ (piece ++ xs)) (sym (take-append-drop (length more) (drop (length own) (drop number lists))))

  prefix-long : number ≡ length prefix
  prefix-long = sym (length-take-le number lists (omega (arith, fits)))

  piece-long : length own ≡ length piece
  piece-long = sym (length-take-le (length own) (drop number lists) (omega (arith, fits, length-drop number lists)))

  next-long : length more ≡ length next
  next-long = sym (length-take-le (length more) (drop (length own) (drop number lists))
      (omega (arith, fits, length-drop (length own) (drop number lists), length-drop number lists)))

  left-is : lists_left number own lists ≡ prefix ++ (own ++ (next ++ rest))
  left-is = ap (lists_left number own) are ∙ left-split prefix piece own (next ++ rest) number prefix-long piece-long

  -- one piece exchanged behind another
  pub left-left : lists_left (number + length own) more (lists_left number own lists) ≡ lists_left number (own ++ more) lists
  left-left =
      let seam : prefix ++ (own ++ (next ++ rest)) ≡ (prefix ++ own) ++ (next ++ rest) = sym (append_assoc prefix own (next ++ rest)) in
      let there : number + length own ≡ length (prefix ++ own) = omega (arith, prefix-long, length-append prefix own) in
      let both : length (own ++ more) ≡ length (piece ++ next) = omega (arith, piece-long, next-long, length-append own more, length-append piece next) in
      ap (lists_left (number + length own) more) (left-is ∙ seam) ∙ left-split (prefix ++ own) next more rest (number + length own) there next-long
      ∙ append_assoc prefix own (more ++ rest) ∙ ap (λ xs. prefix ++ xs) (sym (append_assoc own more rest))
      ∙ sym (ap (lists_left number (own ++ more)) (are ∙ ap (λ xs. prefix ++ xs) (sym (append_assoc piece next rest)))
      ∙ left-split prefix (piece ++ next) (own ++ more) rest number prefix-long both)

  pub length-left : length (lists_left number own lists) ≡ length lists
  length-left =
      ap length left-is ∙ (let a = length-append prefix (own ++ (next ++ rest)) in let b = length-append own (next ++ rest) in
      let c = length-append prefix (piece ++ (next ++ rest)) in let d = length-append piece (next ++ rest) in
      let same : length (prefix ++ (own ++ (next ++ rest))) ≡ length (prefix ++ (piece ++ (next ++ rest))) = omega (arith, a, b, c, d, piece-long) in same)
      ∙ sym (ap length are)

-- the cells behind the piece are as they were
left-agree : (number : ℕ) (own lists : List (List ℕ)) → number + length own ≤ length lists → (j : ℕ) (d : List ℕ) → number + length own ≤ j
    → get_or (lists_left number own lists) j d ≡ get_or lists j d
left-agree number own lists fits j d behind =
    let f = take number lists in
    let p = take (length own) (drop number lists) in
    let r = drop (length own) (drop number lists) in
    let is = split lists number (length own) in
    let f-long : number ≡ length f = sym (length-take-le number lists (omega (arith, fits))) in
    let p-long : length own ≡ length p = sym (length-take-le (length own) (drop number lists) (omega (arith, fits, length-drop number lists))) in
    let left : lists_left number own lists ≡ (f ++ own) ++ r = ap (lists_left number own) is ∙ left-split f p own r number f-long p-long
    ∙ sym (append_assoc f own r) in
    let was : lists ≡ (f ++ p) ++ r = is ∙ sym (append_assoc f p r) in
    let a = length-append f own in
    let b = length-append f p in
    ap (λ xs. get_or xs j d) left ∙ get_or-append_right (f ++ own) r (number + length own) j d (omega (arith, a, f-long)) behind
    ∙ sym (ap (λ xs. get_or xs j d) was ∙ get_or-append_right (f ++ p) r (number + length own) j d (omega (arith, b, f-long, p-long)) behind)

-- ---- a canvas whose cells from a number on are those of another
-- the cells of two canvases from a number on are the same
abbrev pub Agree : ℕ → List (List ℕ) → List (List ℕ) → Type 0
Agree number xs ys = (j : ℕ) (d : List ℕ) → number ≤ j → get_or xs j d ≡ get_or ys j d

module _ (c : Canvas) (lists : List (List ℕ)) (from : ℕ) (agree : Agree from lists c.layers) where
  body-same : (number : ℕ) (b : Body) → from ≤ number → body_on (with_lists lists c) number b ≡ body_on c number b
  body-same number (Tiles e own) low = ap (Tiles e) (agree number own low)
  body-same number b low = refl

  list-same : (groups : ℕ) → ((number : ℕ) (l : Layer) → from ≤ number → one_on groups (with_lists lists c) number l ≡ one_on groups c number l)
      → (number : ℕ) (ls : List Layer) → from ≤ number → layers_on groups (with_lists lists c) number ls ≡ layers_on groups c number ls
  list-same groups each number [] low = refl
  list-same groups each number (l ∷ ls) low = λ i. each number l low i ∷ list-same groups each (number + counted groups l) ls (omega (arith, low)) i

  pub one-same : (groups number : ℕ) (l : Layer) → from ≤ number → one_on groups (with_lists lists c) number l ≡ one_on groups c number l
  one-same zero number l low = one_on-is zero (with_lists lists c) number l ∙ (λ i. record l { body = body-same number l.body low i })
      ∙ sym (one_on-is zero c number l)
  one-same (suc groups) number l low =
      let behind = number + length (lists_in l.body) in
      let far : from ≤ behind = omega (arith, low) in
      one_on-is (suc groups) (with_lists lists c) number l
      ∙ (λ i. layer_with_layers (λ ls. list-same groups (one-same groups) behind ls far i) (record l { body = body-same number l.body low i }))
      ∙ sym (one_on-is (suc groups) c number l)

  pub layers-same : (groups number : ℕ) (ls : List Layer) → from ≤ number → layers_on groups (with_lists lists c) number ls ≡ layers_on groups c number ls
  layers-same groups number ls low = list-same groups (one-same groups) number ls low

-- ---- the layers one after another
-- the first k of the layers are on the canvas, behind which so many tile layers stand
pub record AreLaid (groups : ℕ) (c : Canvas) (start : ℕ) (ls now : List Layer) (back : Canvas) (k number : ℕ) : Type 0 where
  pub layers : now ≡ layers_on groups c start (take k ls) ++ drop k ls
  pub canvas : back ≡ with_lists (lists_left start (cells groups (take k ls)) c.layers) c
  pub placed : number ≡ start + length (cells groups (take k ls))

lists_left-none : (start : ℕ) (lists : List (List ℕ)) → lists_left start [] lists ≡ lists
lists_left-none start lists = let here : start + 0 ≡ start = omega arith in ap (λ k. take start lists ++ drop k lists) here ∙ take-append-drop start lists

pub none-AreLaid : (groups : ℕ) (c : Canvas) (start : ℕ) (ls : List Layer) → AreLaid groups c start ls ls c 0 start
none-AreLaid groups c start ls = record { layers = refl; canvas = ap (λ xs. with_lists xs c) (sym (lists_left-none start c.layers)); placed = omega arith }

pub length-laid : (groups : ℕ) (c : Canvas) (start : ℕ) (ls now : List Layer) (back : Canvas) (k number : ℕ) → AreLaid groups c start ls now back k number
    → length now ≡ length ls
length-laid groups c start ls now back k number laid =
    ap length laid.layers ∙ length-append (layers_on groups c start (take k ls)) (drop k ls)
    ∙ ap (λ n. n + length (drop k ls)) (length-each_on (one_on groups c) (counted groups) start (take k ls)) ∙ sym (length-append (take k ls) (drop k ls))
    ∙ ap length (take-append-drop k ls)

module _ (groups : ℕ) (c : Canvas) (start : ℕ) (ls now : List Layer) (back : Canvas) (k number : ℕ) (l : Layer)
    (laid : AreLaid groups c start ls now back k number)
    (e : slice_get now k ≡ Some l)
    (count : start + length (cells groups ls) ≤ length c.layers) where
  pub laid-layer : slice_get ls k ≡ Some l
  laid-layer = sym (laid-at (one_on groups c) (counted groups) start ls k) ∙ (rw (← laid.layers) e)

  laid-fits : start + length (cells groups (take k ls)) + length (lists_under groups l) ≤ length c.layers
  laid-fits = omega (arith, cells-groups groups ls k l laid-layer, count)

  pub laid-groups : number + length (lists_under groups l) ≤ length back.layers
  laid-groups =
      let long = length-left start (cells groups (take k ls)) [] c.layers (omega (arith, laid-fits)) in
      rw (laid.canvas, long) (omega (arith, laid-fits, laid.placed))

  pub laid-next : (new : Layer) (after : Canvas) (next : ℕ) → new ≡ one_on groups back number l
      → after ≡ with_lists (lists_left number (lists_under groups l) back.layers) back
      → next ≡ number + length (lists_under groups l) → AreLaid groups c start ls (slice_set now k new) after (k + 1) next
  laid-next new after next is left placed =
      let own = cells groups (take k ls) in
      let more = cells-more groups ls k l laid-layer in
      let agree = left-agree start own c.layers (omega (arith, laid-fits)) in
      let on : new ≡ one_on groups c number l =
      is ∙ ap (λ b. one_on groups b number l) laid.canvas
      ∙ one-same c (lists_left start own c.layers) number (λ j d low. agree j d (omega (arith, low, laid.placed))) groups number l (omega arith) in
      let sum = total-cells groups (one_on groups c) (take k ls) in
      record {
        layers = rw (on, laid.layers, add-one) (laid-more (one_on groups c) (counted groups) start number ls k l (omega (arith, laid.placed, sum)) laid-layer);
        canvas = left ∙ ap (λ b. with_lists (lists_left number (lists_under groups l) b.layers) b) laid.canvas
            ∙ ap (λ n. with_lists (lists_left n (lists_under groups l) (lists_left start own c.layers)) c) laid.placed
            ∙ ap (λ xs. with_lists xs c) (left-left start own (lists_under groups l) c.layers laid-fits)
            ∙ ap (λ xs. with_lists (lists_left start xs c.layers) c) (rw add-one (sym more));
        placed = rw (add-one, more) (omega (arith, length-append own (lists_under groups l), laid.placed, placed));
      }

drop-all : {X : Type 0} (xs : List X) (k : ℕ) → k ≡ length xs → drop k xs ≡ []
drop-all xs k e = ap (λ n. drop n xs) e ∙ drop-length xs

pub all-AreLaid : (groups : ℕ) (c : Canvas) (start : ℕ) (ls now : List Layer) (back : Canvas) (k number : ℕ) → AreLaid groups c start ls now back k number
    → k ≡ length ls
    → (now ≡ layers_on groups c start ls) × ((back ≡ with_lists (lists_left start (cells groups ls) c.layers) c) × (number ≡ start + length (cells groups ls)))
all-AreLaid groups c start ls now back k number laid end =
    let taken : take k ls ≡ ls = ap (λ n. take n ls) end ∙ take-length ls in
    let gone : drop k ls ≡ [] = drop-all ls k end in (
      laid.layers ∙ ap (λ ms. layers_on groups c start ms ++ drop k ls) taken ∙ ap (λ ms. layers_on groups c start ls ++ ms) gone
          ∙ append-nil (layers_on groups c start ls),
      (
        laid.canvas ∙ ap (λ ms. with_lists (lists_left start (cells groups ms) c.layers) c) taken,
        laid.placed ∙ ap (λ ms. start + length (cells groups ms)) taken,
      ),
    )

-- ---- one layer, and those that stand in it
after-left : (number : ℕ) (b : Body) (lists : List (List ℕ)) → number + length (lists_in b) ≤ length lists
    → lists_after number b lists ≡ lists_left number (lists_in b) lists
after-left number (Tiles e own) lists fits =
    let is = split lists number 1 in
    let f-long : number ≡ length (take number lists) = sym (length-take-le number lists (omega (arith, fits))) in
    let p-long : length (take 1 (drop number lists)) ≡ 1 = length-take-le 1 (drop number lists) (omega (arith, fits, length-drop number lists)) in
    by_piece (take 1 (drop number lists)) p-long is f-long
  where
    by_piece : (piece : List (List ℕ)) → length piece ≡ 1 → lists ≡ take number lists ++ (piece ++ drop 1 (drop number lists))
        → number ≡ length (take number lists) → slice_set lists number own ≡ lists_left number (own ∷ []) lists
    by_piece [] long is prefix = absurd (omega (arith, long))
    by_piece (x ∷ y ∷ zs) long is prefix = absurd (omega (arith, long))
    by_piece (x ∷ []) long is prefix =
        (λ i. slice_set (is i) (prefix i) own) ∙ set-append_seam (take number lists) x (drop 1 (drop number lists)) own
        ∙ sym (ap (lists_left number (own ∷ [])) is ∙ left-split (take number lists) (x ∷ []) (own ∷ []) (drop 1 (drop number lists)) number prefix refl)
after-left number b lists fits = sym (lists_left-none number lists)

may-list : (right down : ℤ) (groups : ℕ) → ((a b : ℕ) (l : Layer) → Each (MayBeDrawn right down) (tree groups a l)
    → Each (MayBeDrawn right down) (tree groups b l))
    → (a b : ℕ) (ls : List Layer) → Each (MayBeDrawn right down) (drawn groups a ls) → Each (MayBeDrawn right down) (drawn groups b ls)
may-list right down groups each a b [] h = tt
may-list right down groups each a b (l ∷ ls) h =
    let P : ℕ × Layer → Type 0 = MayBeDrawn right down in
    Each-append P (tree groups b l) (drawn groups b ls) (each a b l (Each-prefix P (tree groups a l) (drawn groups a ls) h))
    (may-list right down groups each a b ls (Each-rest P (tree groups a l) (drawn groups a ls) h))

may-tree : (right down : ℤ) (groups a b : ℕ) (l : Layer) → Each (MayBeDrawn right down) (tree groups a l) → Each (MayBeDrawn right down) (tree groups b l)
may-tree right down zero a b l h = rw (tree-is zero b l) (let own = rw (tree-is zero a l) at h in (own.0, tt))
may-tree right down (suc groups) a b l h =
    rw (tree-is (suc groups) b l) (let own = rw (tree-is (suc groups) a l) at h in
    (own.0, may-list right down groups (may-tree right down groups) (inner_tier a) (inner_tier b) (inside l) own.1))

module _ (groups : ℕ) (c : Canvas) (number : ℕ) (l : Layer) (count : number + length (lists_under groups l) ≤ length c.layers) where
  own-fits : number + length (lists_in l.body) ≤ length c.layers
  own-fits = let all = ap length (lists_under-is groups l) in omega (arith, count, all, length-append (lists_in l.body) (cells_below groups l))

  pub own-groups : number + length (lists_in l.body) ≤ length c.layers
  own-groups = own-fits

  pub own-may : Each (MayBeDrawn c.right c.down) (tree groups layer_tier l) → BodyMayBeMoved c.right c.down l.body
  own-may h = rw (← objects_in-with (λ ls. []) l.body) (rw (tree-is groups layer_tier l) at h).0

  -- a layer with no room in it
  module _ (none : groups ≡ 0) where
    alone : lists_under groups l ≡ lists_in l.body
    alone = lists_under-is groups l ∙ ap (λ n. lists_in l.body ++ cells_below n l) none ∙ append-nil (lists_in l.body)

    pub alone-layer : (body : Body) → body ≡ body_on c number l.body → record l { body = body } ≡ one_on groups c number l
    alone-layer body is = (λ i. record l { body = is i }) ∙ sym (ap (λ n. one_on n c number l) none ∙ one_on-is zero c number l)

    pub alone-canvas : (after : Canvas) → after ≡ with_lists (lists_after number l.body c.layers) c
        → after ≡ with_lists (lists_left number (lists_under groups l) c.layers) c
    alone-canvas after is = is ∙ ap (λ xs. with_lists xs c) (after-left number l.body c.layers own-fits ∙ ap (λ xs. lists_left number xs c.layers) (sym alone))

    pub alone-next : (end : ℕ) → end ≡ number + length (lists_in l.body) → end ≡ number + length (lists_under groups l)
    alone-next end is = is ∙ ap (λ xs. number + length xs) (sym alone)

  -- a layer with room in it, whose body is on the canvas
  module _ (some : 1 ≤ groups) (body : Body) (after : Canvas) (behind : ℕ) (laid : body ≡ body_on c number l.body)
      (left : after ≡ with_lists (lists_after number l.body c.layers) c)
      (next : behind ≡ number + length (lists_in l.body)) where
    within : List (List ℕ)
    within = cells (groups - 1) (or_empty (group_in body))

    inner : or_empty (group_in body) ≡ inside l
    inner = ap (λ b. or_empty (group_in b)) laid ∙ ap or_empty (group_in-contents (cells_on c number) (objects_on c) l.body)

    all : lists_under groups l ≡ lists_in l.body ++ cells (groups - 1) (inside l)
    all = by_groups groups some
      where
        by_groups : (n : ℕ) → 1 ≤ n → lists_under n l ≡ lists_in l.body ++ cells (n - 1) (inside l)
        by_groups zero low = absurd (omega (arith, low))
        by_groups (suc n) low = let same : n ≡ suc n - 1 = omega arith in lists_under-is (suc n) l ∙ ap (λ k. lists_in l.body ++ cells k (inside l)) same

    after-is : after ≡ with_lists (lists_left number (lists_in l.body) c.layers) c
    after-is = left ∙ ap (λ xs. with_lists xs c) (after-left number l.body c.layers own-fits)

    fits : number + length (lists_in l.body) + length (cells (groups - 1) (inside l)) ≤ length c.layers
    fits = let sum = ap length all in omega (arith, count, sum, length-append (lists_in l.body) (cells (groups - 1) (inside l)))

    pub inside-groups : behind + length (cells (groups - 1) (or_empty (group_in body))) ≤ length after.layers
    inside-groups =
        let long = length-left number (lists_in l.body) [] c.layers (omega (arith, fits)) in
        rw (after-is, long, inner) (omega (arith, fits, next))

    pub inside-may : Each (MayBeDrawn c.right c.down) (tree groups layer_tier l)
        → Each (MayBeDrawn after.right after.down) (drawn (groups - 1) layer_tier (or_empty (group_in body)))
    inside-may h = rw (after-is, inner) (by_groups groups some h)
      where
        by_groups : (n : ℕ) → 1 ≤ n → Each (MayBeDrawn c.right c.down) (tree n layer_tier l)
            → Each (MayBeDrawn c.right c.down) (drawn (n - 1) layer_tier (inside l))
        by_groups zero low k = absurd (omega (arith, low))
        by_groups (suc n) low k =
            let same : n ≡ suc n - 1 = omega arith in
            let own = rw (tree-is (suc n) layer_tier l) at k in
            subst (λ j. Each (MayBeDrawn c.right c.down) (drawn j layer_tier (inside l))) same
            (may-list c.right c.down n (may-tree c.right c.down n) (inner_tier layer_tier) layer_tier (inside l) own.1)

    pub inside-layer : (new : Body) → new ≡ body_with_layers (layers_on (groups - 1) after behind) body → record l { body = new } ≡ one_on groups c number l
    inside-layer new is =
        let agree = left-agree number (lists_in l.body) c.layers own-fits in
        let same : (ls : List Layer) → layers_on (groups - 1) after behind ls ≡ layers_on (groups - 1) c behind ls = λ ls.
        ap (λ b. layers_on (groups - 1) b behind ls) after-is
        ∙ layers-same c (lists_left number (lists_in l.body) c.layers) behind (λ j d low. agree j d (omega (arith, low, next))) (groups - 1) behind ls
        (omega arith) in
        (λ i. record l { body = (is ∙ (λ j. body_with_layers (λ ls. same ls j) (laid j))) i }) ∙ by_groups groups some
      where
        by_groups : (n : ℕ) → 1 ≤ n → record l { body = body_with_layers (layers_on (n - 1) c behind) (body_on c number l.body) } ≡ one_on n c number l
        by_groups zero low = absurd (omega (arith, low))
        by_groups (suc n) low =
            let n-is : suc n - 1 ≡ n = omega arith in
            (λ i. record l { body = body_with_layers (layers_on (n-is i) c (next i)) (body_on c number l.body) }) ∙ sym (one_on-is (suc n) c number l)

    pub inside-canvas : (end : Canvas) → end ≡ with_lists (lists_left behind (cells (groups - 1) (or_empty (group_in body))) after.layers) after
        → end ≡ with_lists (lists_left number (lists_under groups l) c.layers) c
    inside-canvas end is =
        is ∙ ap (λ b. with_lists (lists_left behind (cells (groups - 1) (or_empty (group_in body))) b.layers) b) after-is
        ∙ (λ i. with_lists (lists_left (next i) (cells (groups - 1) (inner i)) (lists_left number (lists_in l.body) c.layers)) c)
        ∙ ap (λ xs. with_lists xs c) (left-left number (lists_in l.body) (cells (groups - 1) (inside l)) c.layers fits)
        ∙ ap (λ xs. with_lists (lists_left number xs c.layers) c) (sym all)

    pub inside-next : (end : ℕ) → end ≡ behind + length (cells (groups - 1) (or_empty (group_in body))) → end ≡ number + length (lists_under groups l)
    inside-next end is =
        let sum = ap length all in
        let same = ap (λ ls. length (cells (groups - 1) ls)) inner in
        omega (arith, is, next, sum, same, length-append (lists_in l.body) (cells (groups - 1) (inside l)))

-- what each layer has, each of the tree of one of them has
pub Each-tree_at : (P : ℕ × Layer → Type 0) (groups : ℕ) (ls : List Layer) (k : ℕ) (l : Layer) → slice_get ls k ≡ Some l → Each P (drawn groups layer_tier ls)
    → Each P (tree groups layer_tier l)
Each-tree_at P groups [] zero l e h = cc
Each-tree_at P groups [] (suc k) l e h = cc
Each-tree_at P groups (x ∷ xs) zero l e h = let same : x ≡ l = cc in
    subst (λ y. Each P (tree groups layer_tier y)) same (Each-prefix P (tree groups layer_tier x) (drawn groups layer_tier xs) h)
Each-tree_at P groups (x ∷ xs) (suc k) l e h = Each-tree_at P groups xs k l e (Each-rest P (tree groups layer_tier x) (drawn groups layer_tier xs) h)

-- all lists exchanged
pub left-all : (own lists : List (List ℕ)) → length lists ≡ length own → lists_left 0 own lists ≡ own
left-all own lists long = ap (λ xs. own ++ xs) (drop-all lists (0 + length own) (omega (arith, long))) ∙ append-nil own
