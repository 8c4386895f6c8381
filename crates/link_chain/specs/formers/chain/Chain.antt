-- `Chain` as a type that may hold the type that holds it.
use Rattle.std.specs.Prelude.{◌+◌, ◌<◌, ◌^◌, length}
use native.Mathlib.Bridge.{le_prop}
use native.Mathlib.Omega.{arith}
use lib.ListN.{length-map}
use mathlib.Core.Path.{◌≡◌, refl, sym}
use mathlib.Core.List.{List, [], ◌∷◌, ◌++◌, map}
use mathlib.Core.Former.{Former, one_more, this, pair, list, via, children}
use base.Stored.{code_map}
use denote.RattleType.{RattleType}
use denote.HoleLaws.{Alike}
use denote.HolePlaces.{Recodes, struct_places, laid}
use denote.Hole.Carrier.{listed, list-listed}
use denote.Hole.Fix.{over}
use denote.Param.Weighed.{Weighed, w_list}
use denote.Model.Placed.{view_places, held}
use Rattle.std.below.std_collections.specs.formers.linked_list.LinkedList as linked
use Rattle.std.specs.contracts.alloc.Global as heap
use Rattle.std.specs.contracts.impls.GlobalAllocator.TheImpl.{ghosts}
use Rattle.link_chain.specs.declared.chain.Chain.TheInside.{Inside}
use Rattle.link_chain.specs.declared.chain.Chain.TheView.{view, invariant}
use Rattle.link_chain.specs.contracts.chain.Chain as C
use Rattle.link_chain.specs.contracts.chain.Chain.TheInside as I

abbrev pub the_former : Former {0} → Former {0}
the_former g = list g

abbrev pub the_weighed : {g : Former {0}} → Weighed g → Weighed (the_former g)
the_weighed w = w_list w

pub the_empty : List ⊥
the_empty = []

abbrev pub the_items : (X : Type 0) → List X → List X
the_items X d = d

pub the_items_listed : (X : Type 0) (d : List X) → listed _ (children (the_former this) X d) ≡ the_items X d
the_items_listed X d = list-listed X d

abbrev two : Former {0}
two = pair (list this) (list this)

abbrev fields : Former {0}
fields = via two Inside (λ X a. (a.before, a.after)) (λ X v. record { before = v.0; after = v.1 }) (λ X a. refl) (λ X v. refl)

-- the items of both lists, one after the other, are what the two lists hold
held-append : (X : Type 0) (xs ys : List X) → held (list this) X (xs ++ ys) ≡ held two X (xs, ys)
held-append X [] ys = refl
held-append X (x ∷ xs) ys = λ i. (one_more (held-append X xs ys i).0, (x, (held-append X xs ys i).1))

map-append : (X Y : Type 0) (h : X → Y) (xs ys : List X) → map h xs ++ map h ys ≡ map h (xs ++ ys)
map-append X Y h [] ys = refl
map-append X Y h (x ∷ xs) ys = λ i. h x ∷ map-append X Y h xs ys i

module _ (R S : RattleType) (h : R.Denot → S.Denot) where
  below : (xs ys : List R.Denot) → length xs + length ys < 2 ^ 63 → length (map h xs) + length (map h ys) < 2 ^ 63
  below xs ys e = omega (arith, length-map xs h, length-map ys h)

  below_back : (xs ys : List R.Denot) → length (map h xs) + length (map h ys) < 2 ^ 63 → length xs + length ys < 2 ^ 63
  below_back xs ys e = omega (arith, length-map xs h, length-map ys h)

  pub the_places : Alike R S h → Alike (C.the_row R) (C.the_row S) ((the_former this).map R.Denot S.Denot h)
  the_places a = view_places fields (list this) view (λ X Y k u. map-append X Y k u.before u.after) (λ X u. held-append X u.before u.after) R.Denot S.Denot h
      (C.the_row R).coded (C.the_row S).coded
      (invariant R.Denot) (invariant S.Denot) (λ u p q. le_prop p q) (λ u p q. le_prop p q)
      (λ u e. below u.before u.after e) (λ u e. below_back u.before u.after e)
      (over (I.the_row R)) (over (I.the_row S))
      (struct_places (I.the_type R) (I.the_type S) (map h, (map h, tt)) _ (λ d. refl) refl
      (laid _ _ _ (linked.the_places heap.the_row ghosts R S h a), (laid _ _ _ (linked.the_places heap.the_row ghosts R S h a), tt)))

  pub the_codes_placed : Recodes R S h → Recodes (C.the_row R) (C.the_row S) ((the_former this).map R.Denot S.Denot h)
  the_codes_placed e d = sym (code_map R.coded.code S.coded.code h (λ x. sym (e x)) d)
