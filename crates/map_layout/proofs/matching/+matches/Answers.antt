use Rattle.std.proofs.Common.{◌≡◌, ◌+◌, bytes_eq, ◌-◌, [], ◌∷◌, ◌++◌, length, take, true}
use Rattle.std.proofs.Common.{Some, None, string_bytes, sym, ap, ◌∙◌, subst, arith, take_all, append_assoc, append-nil}
use Rattle.std.proofs.lemmas.List.{take_more}
use Rattle.std.proofs.lemmas.Slice.Eq.{bytes_eq-Decides}
use Rattle.std.specs.List.Sorted.{IsStrictlySortedBy}
use Rattle.std.specs.Map.{keys_of}
use Rattle.std.specs.String.{string_cmp}
use Rattle.json.specs.Token.{Token}
use Rattle.json.specs.Json.{parse_map, after_end_array, read_key, items, members, value}
use Rattle.json.specs.Reads.{token_of}
use Rattle.json.proofs.Grammar.{value-begin_array, value-begin_object, read_key-shorter}
use Rattle.serde_json.specs.Data.{array, object, put}
use Rattle.serde_json.specs.Read.{of_json, of_items, of_members, converted}
use Rattle.serde_json.specs.View.{view, items_view, members_view}
use Rattle.serde_json.proofs.Views.{Entry, view-Array, view-Object, put_last}
use Rattle.map_layout.proofs.Reading.{begins, leaf_read, converted-array, converted-object, item_read}
use Rattle.map_layout.proofs.Reading.{items_over, member_read, members_over, items_before, items_before-no_items, one_more_item}
use Rattle.map_layout.proofs.matching.+matches.Goals as goal

pub comes-returns-then-depth-gt0-clause-same : goal.comes-returns-then-depth-gt0-clause-same
comes-returns-then-depth-gt0-clause-same t c is =
    let ts = c.next.new.self in
    let first : c.args.reader.now ≡ token_of c.in-Some.token ∷ ts = grind arith in
    let opened : c.args.reader.now ≡ Token.begin_array ∷ ts = first ∙ ap (λ k. token_of k ∷ ts) c.in-BeginArray.is in
    let seen : view c.args.wanted.now ≡ array (items_view c.in-Array.wanted.items) = ap view c.in-Array.is ∙ view-Array c.in-Array.wanted in
    ap (λ k. converted of_json (value c.args.depth k)) opened ∙ ap (converted of_json) (value-begin_array c.args.depth ts (omega arith))
    ∙ converted-array (items (value (c.args.depth - 1)) (length ts) ts) ∙ ap (parse_map array) (c.items_come.ensures.same is)
    ∙ ap (λ d. Some (d, c.items_come.new.reader)) (sym seen)

pub comes-returns-then-depth-gt0-2-clause-same : goal.comes-returns-then-depth-gt0-2-clause-same
comes-returns-then-depth-gt0-2-clause-same t c is =
    let ts = c.next.new.self in
    let first : c.args.reader.now ≡ token_of c.in-Some.token ∷ ts = grind arith in
    let opened : c.args.reader.now ≡ Token.begin_object ∷ ts = first ∙ ap (λ k. token_of k ∷ ts) c.in-BeginObject.is in
    let seen : view c.args.wanted.now ≡ object (members_view c.in-Object.wanted.entries) = ap view c.in-Object.is ∙ view-Object c.in-Object.wanted in
    ap (λ k. converted of_json (value c.args.depth k)) opened ∙ ap (converted of_json) (value-begin_object c.args.depth ts (omega arith))
    ∙ converted-object (members (value (c.args.depth - 1)) (length ts) ts) ∙ ap (parse_map object) (c.members_come.ensures.same is)
    ∙ ap (λ d. Some (d, c.members_come.new.reader)) (sym seen)

pub comes-returns-in_default-token : goal.comes-returns-in_default-token
comes-returns-in_default-token t c =
    let ts = c.next.new.self in
    let first : c.args.reader.now ≡ token_of c.in-Some.token ∷ ts = grind arith in
    let long : length c.args.reader.now ≡ length (token_of c.in-Some.token ∷ ts) = ap length first in
    record {
      same = λ is. ap (λ k. converted of_json (value c.args.depth k)) first ∙ leaf_read c.args.depth (token_of c.in-Some.token) ts _ (c.is_leaf.ensures is);
      shorter = λ is. omega (arith, long);
    }

pub items_come-loop-item-preserved : goal.items_come-loop-item-preserved
items_come-loop-item-preserved t c =
    let p = value c.args.depth in
    let l = c.loop-item in
    let n = l.invariant.0 in
    let xs = c.deref-item-items.result.now in
    let v = c.item-item.result in
    let r = c.comes.new.reader in
    let is : c.comes.result ≡ true = grind arith in
    let read = c.comes.ensures.same is in
    let shorter = c.comes.ensures.shorter is in
    let more : take (l.item-index + 1) xs ≡ take l.item-index xs ++ v ∷ [] =
    take_more xs l.item-index v c.loop-item-test.true ∙ ap (λ w. take l.item-index xs ++ w ∷ []) (sym c.item-item.is) in
    let turn = item_read p n l.reader r (view v) (omega (arith, l.invariant.1, shorter)) (begins c.args.depth l.reader r (view v) read) read in (
      n - 1,
      omega (arith, l.invariant.1, shorter),
      l.invariant.2 ∙ ap (parse_map (items_before (take l.item-index xs))) turn ∙ one_more_item (take l.item-index xs) v _
          ∙ ap (λ vs. parse_map (items_before vs) (converted of_items (items p (n - 1) r))) (sym more),
      omega (arith, l.invariant.3, shorter),
    )

pub items_come-returns-clause-same : goal.items_come-returns-clause-same
items_come-returns-clause-same t c is =
    let p = value c.args.depth in
    let l = c.loop-item in
    let n = l.invariant.0 in
    let xs = c.deref-item-items.result.now in
    let r = c.take_end_array.new.self in
    let ended : after_end_array l.reader ≡ Some r = grind (arith, is) in
    let all = take_all l.item-index xs c.loop-item-test.false ∙ c.deref-item-items.ensures.value in
    l.invariant.2 ∙ ap (parse_map (items_before (take l.item-index xs))) (items_over p n l.reader r l.invariant.1 ended)
    ∙ ap (λ ds. Some (ds, r)) (items_before-no_items (take l.item-index xs)) ∙ ap (λ vs. Some (items_view vs, r)) all

pub members_come-loop-key-preserved : goal.members_come-loop-key-preserved
members_come-loop-key-preserved t c =
    let p = value c.args.depth in
    let l = c.loop-key in
    let done = l.invariant.0 in
    let now = l.invariant.2 in
    let n = now.0 in
    let old = members_view done in
    let e : Entry = (c.in-Some.key.now, c.in-Some.member.now) in
    let left = c.next.new.self in
    let k = c.in-Ok-Some.name.now in
    let s = c.next_key.new.self in
    let r = c.comes.new.reader in
    let all : c.args.wanted.now.entries ≡ done ++ e ∷ left = l.invariant.1 ∙ ap (λ es. done ++ es) c.in-Some.ensures.steps in
    let last = put_last done e left (subst (λ es. IsStrictlySortedBy string_cmp (keys_of es)) all c.iter-key-items.ensures.ordered) in
    let equal : bytes_eq k c.as_str.result.now ≡ true = grind arith in
    let named : k ≡ string_bytes e.0 = (bytes_eq-Decides k c.as_str.result.now).0 equal ∙ c.as_str.ensures.value in
    let key : read_key l.reader ≡ Some (Some k, s) = grind arith in
    let is : c.comes.result ≡ true = grind arith in
    let read = c.comes.ensures.same is in
    let shorter = c.comes.ensures.shorter is in
    let less = read_key-shorter l.reader (Some k) s key in (
      done ++ e ∷ [],
      all ∙ sym (append_assoc done (e ∷ []) left),
      (
        n - 1,
        omega (arith, now.1, less, shorter),
        now.2 ∙ member_read p old n k l.reader s r (view e.1) (omega (arith, now.1, less)) key read
            ∙ ap (λ found. converted (λ ms. of_members ms found) (members p (n - 1) r)) (ap (λ x. put x (view e.1) old) named ∙ last),
        omega (arith, now.3, less, shorter),
      ),
    )

pub members_come-returns-in-Ok-None-clause-same : goal.members_come-returns-in-Ok-None-clause-same
members_come-returns-in-Ok-None-clause-same t c _ =
    let p = value c.args.depth in
    let l = c.loop-key in
    let done = l.invariant.0 in
    let now = l.invariant.2 in
    let r = c.next_key-2.new.self in
    let over : l.key-iterator ≡ [] = grind arith in
    let ended : read_key l.reader ≡ Some (None, r) = grind arith in
    let all = l.invariant.1 ∙ ap (λ es. done ++ es) over ∙ append-nil done in
    now.2 ∙ members_over p (members_view done) now.0 l.reader r now.1 ended ∙ ap (λ es. Some (members_view es, r)) (sym all)
