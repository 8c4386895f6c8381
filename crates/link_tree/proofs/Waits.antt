-- Links that wait in a visit: one more; and one fewer of the items that are too deep.
use Rattle.std.proofs.Common.{◌≡◌, ℕ, zero, suc, ◌+◌, ◌-◌, ◌<◌, ◌≤◌, List, [], ◌∷◌, ◌++◌, length, drop, Some, refl, sym, ap, subst, ◌∙◌, add-one, append_assoc}
use Rattle.std.proofs.Common.{append-nil, arith}
use Rattle.std.proofs.lemmas.Grind.{common_steps}
use Rattle.std.specs.List.{slice_get, slice_set}
use Rattle.std.specs.Borrow.{Bor}
use Rattle.link_tree.specs.declared.tree.Link.{Link}
use Rattle.link_tree.specs.declared.tree.Tree.{Tree}
use Rattle.link_tree.specs.declared.tree.Tree.TheVariants.{Empty, Filled'}
use Rattle.link_tree.proofs.Edits.{drop-one_more}
use Rattle.link_tree.specs.Trees.{items, IsSized}
use Rattle.link_tree.specs.Waiting.{from_link, waiting, HasLink, IsLink, IsLinkAt, AreLinks}

module _ {X : Type 0} where
  get-set : (xs : List X) (k : ℕ) (x : X) → k < length xs → slice_get (slice_set xs k x) k ≡ Some x
  get-set [] k x h = absurd (omega arith)
  get-set (y ∷ xs) zero x h = refl
  get-set (y ∷ xs) (suc k) x h = get-set xs k x (omega arith)

  get-below_set : (xs : List X) (j k : ℕ) (x : X) → j < k → slice_get (slice_set xs k x) j ≡ slice_get xs j
  get-below_set [] zero k x h = refl
  get-below_set [] (suc j) k x h = refl
  get-below_set (y ∷ xs) j zero x h = absurd (omega arith)
  get-below_set (y ∷ xs) zero (suc k) x h = refl
  get-below_set (y ∷ xs) (suc j) (suc k) x h = get-below_set xs j k x (omega arith)

module _ {T : Type 0} where
  waiting-set : (trees : List (Bor (Tree T))) (d k : ℕ) (t : Bor (Tree T)) → d ≤ k → waiting (slice_set trees k t) d ≡ waiting trees d
  waiting-set trees zero k t h = refl
  waiting-set trees (suc d) k t h =
      let same : slice_get (slice_set trees k t) d ≡ slice_get trees d = get-below_set trees d k t (omega arith) in
      rw (same, waiting-set trees d k t (omega arith)) refl

  links-set : (trees : List (Bor (Tree T))) (d k : ℕ) (t : Bor (Tree T)) → d ≤ k → AreLinks trees d → AreLinks (slice_set trees k t) d
  links-set trees zero k t h are = tt
  links-set trees (suc d) k t h are =
      let same : slice_get (slice_set trees k t) d ≡ slice_get trees d = get-below_set trees d k t (omega arith) in
      (subst IsLinkAt (sym same) are.0, links-set trees d k t (omega arith) are.1)

  pub waiting-more : (trees : List (Bor (Tree T))) (d : ℕ) (t : Bor (Tree T)) → d < length trees
      → waiting (slice_set trees d t) (d + 1) ≡ from_link t.now ++ waiting trees d
  waiting-more trees d t h = rw (add-one, get-set trees d t h, waiting-set trees d d t (omega arith)) refl

  pub links-more : (trees : List (Bor (Tree T))) (d : ℕ) (t : Bor (Tree T)) → d < length trees → IsLink t.now → AreLinks trees d
      → AreLinks (slice_set trees d t) (d + 1)
  links-more trees d t h is are = rw add-one (subst IsLinkAt (sym (get-set trees d t h)) is, links-set trees d d t (omega arith) are)

-- the last items of a list
module _ {X : Type 0} where
  latest-one_fewer : (xs : List X) (left : ℕ) (x : X) → 0 < left → left ≤ length xs → slice_get xs (length xs - left) ≡ Some x
      → drop (length xs - left) xs ≡ x ∷ drop (length xs - (left - 1)) xs
  latest-one_fewer xs left x some few is =
      let next : length xs - (left - 1) ≡ length xs - left + 1 = omega arith in rw next (drop-one_more xs (length xs - left) x is)

  latest-none : (xs : List X) (left : ℕ) → left ≤ 0 → drop (length xs - left) xs ≡ []
  latest-none xs left none = let all : length xs - left ≡ length xs = omega arith in rw all (grind (arith, common_steps))

-- the link of a tree
module _ {T : Type 0} where
  pub link-items : (t : Tree T) (k : Link T) → HasLink t k → items t ≡ items k.left ++ k.item ∷ items k.right
  link-items Empty k has = absurd has
  link-items (Filled' p x l r b n) k has = rw (has.0, has.1.0, has.1.1) refl

  pub link-from : (t : Tree T) (k : Link T) → HasLink t k → from_link t ≡ k.item ∷ items k.right
  link-from Empty k has = absurd has
  link-from (Filled' p x l r b n) k has = rw (has.0, has.1.1) refl

  pub link-is : (t : Tree T) (k : Link T) → HasLink t k → IsSized t → IsLink t
  link-is Empty k has sized = absurd has
  link-is (Filled' p x l r b n) k has sized = sized.1.1.1

  pub link-left : (t : Tree T) (k : Link T) → HasLink t k → IsSized t → IsSized k.left
  link-left Empty k has sized = absurd has
  link-left (Filled' p x l r b n) k has sized = subst IsSized has.1.0 sized.1.1.0

  -- its links before the first wait for it
  pub waiting-deeper : (trees : List (Bor (Tree T))) (d : ℕ) (t : Bor (Tree T)) (k : Link T) → d < length trees → HasLink t.now k
      → items k.left ++ waiting (slice_set trees d t) (d + 1) ≡ items t.now ++ waiting trees d
  waiting-deeper trees d t k h has =
      ap (λ ws. items k.left ++ ws) (waiting-more trees d t h ∙ ap (λ xs. xs ++ waiting trees d) (link-from t.now k has))
      ∙ (sym (append_assoc (items k.left) (k.item ∷ items k.right) (waiting trees d)) ∙ ap (λ xs. xs ++ waiting trees d) (sym (link-items t.now k has)))

-- one of the items that are too deep
module _ {T : Type 0} where
  pub deep-step : (t : Tree T) (xs : List T) (left : ℕ) (x : T) (ws : List T) → t ≡ Empty → 0 < left → left ≤ length xs
      → slice_get xs (length xs - left) ≡ Some x
      → from_link t ++ drop (length xs - left) xs ++ ws ≡ x ∷ (from_link t ++ drop (length xs - (left - 1)) xs ++ ws)
  deep-step t xs left x ws none some few is = rw none (ap (λ ys. ys ++ ws) (latest-one_fewer xs left x some few is))

  pub deep-last : (t next : Tree T) (xs : List T) (left : ℕ) (x : T) (ws rest : List T) → t ≡ Empty → 0 < left → left ≤ 1 → left ≤ length xs
      → slice_get xs (length xs - left) ≡ Some x → from_link next ++ rest ≡ ws
      → from_link t ++ drop (length xs - left) xs ++ ws ≡ x ∷ (from_link next ++ drop (length xs - (left - 1)) xs ++ rest)
  deep-last t next xs left x ws rest none some one few is e =
      let no_more : drop (length xs - (left - 1)) xs ≡ [] = latest-none xs (left - 1) (omega arith) in
      let alone : from_link t ++ drop (length xs - left) xs ≡ x ∷ [] =
      rw none (latest-one_fewer xs left x some few is ∙ ap (λ ys. x ∷ ys) no_more) in
      ap (λ ys. ys ++ ws) alone
      ∙ ap (λ ys. x ∷ ys) (sym e ∙ ap (λ ys. ys ++ rest) (sym (append-nil (from_link next)) ∙ ap (λ ys. from_link next ++ ys) (sym no_more)))
