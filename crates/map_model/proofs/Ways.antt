-- Ways to a layer within groups, one step at a time.
use Rattle.std.proofs.Common.{◌≡◌, ◌≢◌, ℕ, zero, suc, ◌+◌, ◌-◌, ◌<◌, List, [], ◌∷◌, ◌++◌, length, drop, Option, Some, None, IsSomeAnd, is_some, true, ◌≤◌, refl}
use Rattle.std.proofs.Common.{sym, ap, ◌∙◌, arith}
use mathlib.Core.List.{reverse}
use Rattle.std.specs.List.{flat_map, position, slice_get}
use Rattle.std.proofs.lemmas.List.{reverse-append}
use Rattle.std.proofs.lemmas.Option.{slice_get_within}
use Rattle.map_model.specs.declared.parts.Layer.{Layer}
use Rattle.map_model.specs.Groups.{drawn, group_of, holds, inside, tree}
use Rattle.map_model.specs.Keeping.{inner_tier}
use Rattle.map_model.specs.Lists.{Distinct, or_empty}
use Rattle.map_model.specs.Ways.{IsWay, LeadsFrom, ArrivesAt, ArrivesIn}
use Rattle.map_model.specs.WellFormed.{ids_of}
use Rattle.map_model.proofs.Places.{Distinct-tree, Each-held, position-held}
use Rattle.map_model.proofs.Trees.{tree-is}
use Rattle.map_model.proofs.Walks.{holds-group, holds-own}

-- the first of the items that are left behind n of them
pub at_drop : (ls : List Layer) (n : ℕ) (l : Layer) (rest : List Layer) → l ∷ rest ≡ drop n ls → (slice_get ls n ≡ Some l) × (rest ≡ drop (n + 1) ls)
at_drop [] zero l rest e = absurd (cc e)
at_drop [] (suc n) l rest e = absurd (cc e)
at_drop (k ∷ ls) zero l rest e = let first : l ≡ k = cc e in let others : rest ≡ ls = cc e in (ap Some (sym first), others)
at_drop (k ∷ ls) (suc n) l rest e = let same : suc n + 1 ≡ suc (n + 1) = omega arith in rw same (at_drop ls n l rest e)

-- no place leads further from the layer with the id
pub leads-own : (id groups : ℕ) (l : Layer) (way : List ℕ) → way ≡ [] → l.id ≡ id → LeadsFrom id groups (reverse way) l
unfolding LeadsFrom
leads-own id zero l way e own = rw e own
leads-own id (suc groups) l way e own = rw e own

-- what leads from a group leads from the layers that stand in it, and the other way
pub leads-group : (id groups : ℕ) (l : Layer) (ks : List Layer) (way : List ℕ) → l.id ≢ id → groups ≢ 0 → group_of l ≡ Some ks → IsWay id (groups - 1) way ks
    → LeadsFrom id groups way l
unfolding LeadsFrom
leads-group id zero l ks way other some g h = absurd (some refl)
leads-group id (suc groups) l ks [] other some g h = absurd h
leads-group id (suc groups) l ks (at ∷ way) other some g h = let same : suc groups - 1 ≡ groups = omega arith in (other, rw g (rw same at h))

pub leads-inside : (id groups : ℕ) (l : Layer) (way : List ℕ) → l.id ≢ id → LeadsFrom id groups way l → IsSomeAnd (group_of l) (IsWay id (groups - 1) way)
unfolding LeadsFrom
leads-inside id zero l [] other h = absurd (other h)
leads-inside id (suc groups) l [] other h = absurd (other h)
leads-inside id zero l (at ∷ way) other h = absurd h
leads-inside id (suc groups) l (at ∷ way) other h = let same : suc groups - 1 ≡ groups = omega arith in rw same h.1

-- ---- a way, and its outermost place
pub way-pushed : (id groups : ℕ) (ls : List Layer) (l : Layer) (way : List ℕ) (at : ℕ) → position (holds id groups) ls ≡ Some at → slice_get ls at ≡ Some l
    → LeadsFrom id groups (reverse way) l
    → IsWay id groups (reverse (way ++ at ∷ [])) ls
way-pushed id groups ls l way at place there leads = rw (reverse-append way (at ∷ [])) (place, rw there leads)

pub way-split : (id groups : ℕ) (ls : List Layer) (way rest : List ℕ) (at : ℕ) → way ≡ rest ++ at ∷ [] → IsWay id groups (reverse way) ls
    → IsWay id groups (at ∷ reverse rest) ls
way-split id groups ls way rest at e h = rw (reverse-append rest (at ∷ [])) at (rw e at h)

pub way-some : (id groups : ℕ) (ls : List Layer) (way : List ℕ) → IsWay id groups (reverse way) ls → 0 < length way
way-some id groups ls [] h = absurd h
way-some id groups ls (at ∷ way) h = omega arith

-- where there is a way, the layer is among those of the list or in one of them
pub way-held : (id groups : ℕ) (ls : List Layer) (way : List ℕ) → IsWay id groups way ls → is_some (position (holds id groups) ls) ≡ true
way-held id groups ls [] h = absurd h
way-held id groups ls (at ∷ way) h = ap is_some h.0

-- the outermost place is one of the list's
pub way-within : (id groups : ℕ) (ls : List Layer) (way : List ℕ) (at : ℕ) → IsWay id groups (at ∷ way) ls → at < length ls
way-within id groups ls way at h = by_found (slice_get ls at) refl h.1
  where
    by_found : (o : Option Layer) → slice_get ls at ≡ o → IsSomeAnd o (LeadsFrom id groups way) → at < length ls
    by_found None e k = absurd k
    by_found (Some l) e k = slice_get_within ls at l e

-- ---- a way to a layer with the id, where the ids are distinct
-- from the layer with the id there is no place to go to
pub arrives-own : (id : ℕ) (l : Layer) (way : List ℕ) → way ≡ [] → l.id ≡ id → ArrivesAt id (reverse way) l
unfolding ArrivesAt
arrives-own id l way e own = rw e own

pub arrives-group : (id : ℕ) (l : Layer) (ks : List Layer) (way : List ℕ) → group_of l ≡ Some ks → ArrivesIn id way ks → ArrivesAt id way l
unfolding ArrivesAt
arrives-group id l ks [] g h = absurd h
arrives-group id l ks (at ∷ way) g h = rw g h

pub arrives-pushed : (id : ℕ) (ls : List Layer) (l : Layer) (way : List ℕ) (at : ℕ) → slice_get ls at ≡ Some l → ArrivesAt id (reverse way) l
    → ArrivesIn id (reverse (way ++ at ∷ [])) ls
arrives-pushed id ls l way at there arrives = rw (reverse-append way (at ∷ [])) (rw there arrives)

-- where a list of places arrives, it leads to, and it is held
arrived_one : (id : ℕ) (way : List ℕ) (groups tier : ℕ) (l : Layer) → length way ≤ groups → Distinct (flat_map ids_of (tree groups tier l)) → ArrivesAt id way l
    → LeadsFrom id groups way l × (holds id groups l ≡ true)
unfolding LeadsFrom ArrivesAt
arrived_one id [] groups tier l short distinct h = (leads-own id groups l [] refl h, sym (holds-own id groups l h))
arrived_one id (at ∷ way) zero tier l short distinct h = absurd (omega (arith, short))
arrived_one id (at ∷ way) (suc groups) tier l short distinct h =
    by_group (λ k d r. arrived_one id way groups (inner_tier tier) k (omega (arith, short)) d r) (group_of l) refl h
  where
    inner : Distinct (l.id ∷ flat_map ids_of (drawn groups (inner_tier tier) (inside l)))
    inner = rw (tree-is (suc groups) tier l) at distinct

    by_group : ((k : Layer) → Distinct (flat_map ids_of (tree groups (inner_tier tier) k)) → ArrivesAt id way k
        → LeadsFrom id groups way k × (holds id groups k ≡ true))
        → (o : Option (List Layer)) → group_of l ≡ o → IsSomeAnd o (λ ls. IsSomeAnd (slice_get ls at) (ArrivesAt id way))
        → LeadsFrom id (suc groups) (at ∷ way) l × (holds id (suc groups) l ≡ true)
    by_group further None g q = absurd q
    by_group further (Some ks) g q = by_slot (slice_get ks at) refl q
      where
        those : inside l ≡ ks
        those = ap or_empty g

        apart : Distinct (l.id ∷ flat_map ids_of (drawn groups (inner_tier tier) ks))
        apart = rw those at inner

        by_slot : (o : Option Layer) → slice_get ks at ≡ o → IsSomeAnd o (ArrivesAt id way)
            → LeadsFrom id (suc groups) (at ∷ way) l × (holds id (suc groups) l ≡ true)
        by_slot None e r = absurd r
        by_slot (Some k) e r =
            let there = further k (Distinct-tree groups (inner_tier tier) ks at k e apart.1) r in
            let place = position-held id groups (inner_tier tier) ks at k e there.1 apart.1 in
            let other : l.id ≢ id = Each-held (λ n. l.id ≢ n) id groups (inner_tier tier) ks at k e there.1 apart.0 in
            let same : suc groups - 1 ≡ groups = omega arith in
            let held = rw same at (holds-group id (suc groups) l ks other (λ z. absurd (omega (arith, z))) g) in
            ((other, rw g (place, rw e there.0)), sym held ∙ ap is_some place)

pub way-arrived : (id : ℕ) (way : List ℕ) (groups tier : ℕ) (ls : List Layer) → length way ≤ groups + 1 → Distinct (flat_map ids_of (drawn groups tier ls))
    → ArrivesIn id way ls → IsWay id groups way ls
way-arrived id [] groups tier ls short distinct h = h
way-arrived id (at ∷ way) groups tier ls short distinct h = by_slot (slice_get ls at) refl h
  where
    by_slot : (o : Option Layer) → slice_get ls at ≡ o → IsSomeAnd o (ArrivesAt id way) → IsWay id groups (at ∷ way) ls
    by_slot None e r = absurd r
    by_slot (Some l) e r =
        let further = arrived_one id way groups tier l (omega (arith, short)) (Distinct-tree groups tier ls at l e distinct) r in
        (position-held id groups tier ls at l e further.1 distinct, rw e further.0)
