use Rattle.std.proofs.Common.{◌≡◌, ◌-◌, ◌∷◌, length, Some, string_bytes, sym, ap, ◌∙◌, arith, rules}
use Rattle.json.specs.Token.{Token}
use Rattle.json.specs.Json.{parse_map, after_end_array, read_key, items, members, value}
use Rattle.json.specs.Reads.{token_of}
use Rattle.json.proofs.Grammar.{value_is, value-begin_array, value-begin_object, read_key-shorter}
use Rattle.serde_json.specs.Data.{null, boolean, number, string, array, object, put}
use Rattle.serde_json.specs.Read.{of_json, of_items, of_members, converted}
use Rattle.serde_json.specs.View.{view, number_view, members_view}
use Rattle.serde_json.specs.declared.value.Value.{String, Number, Bool, Null, the_lemmas}
use Rattle.serde_json.proofs.Views.{view-Array, view-Object, members_view-insert_entry}
use Rattle.map_layout.proofs.Reading.{begins, converted-array, converted-object, item_read, items_over}
use Rattle.map_layout.proofs.Reading.{member_read, members_over, items_before, items_before-no_items, one_more_item}
use Rattle.map_layout.proofs.read.+reads.Goals as goal

pub value_from-returns-in-Some-clause-ok : goal.value_from-returns-in-Some-clause-ok
value_from-returns-in-Some-clause-ok t c =
    let ts = c.args.reader.now in
    let is : token_of c.args.token ≡ Token.number c.in-Number.text.now = ap token_of c.in-Number.is in
    let seen : view (Number c.in-Some.number) ≡ number (number_view c.in-Some.number) = search (rules, the_lemmas) in
    ap (λ k. converted of_json (value c.args.depth (k ∷ ts))) is ∙ ap (converted of_json) (value_is c.args.depth (Token.number c.in-Number.text.now ∷ ts))
    ∙ rw (c.in-Some.ensures, seen)

pub value_from-returns-in_ok-from_str-in-String-clause-ok : goal.value_from-returns-in_ok-from_str-in-String-clause-ok
value_from-returns-in_ok-from_str-in-String-clause-ok t c =
    let ts = c.args.reader.now in
    let is : token_of c.args.token ≡ Token.string c.in-String.text.now = ap token_of c.in-String.is in
    let seen : view (String c.in_ok-from_str-in-String.field-0) ≡ string c.in-String.text.now = search (rules, the_lemmas) in
    ap (λ k. converted of_json (value c.args.depth (k ∷ ts))) is ∙ ap (converted of_json) (value_is c.args.depth (Token.string c.in-String.text.now ∷ ts))
    ∙ ap (λ d. Some (d, ts)) (sym seen)

pub value_from-returns-in-Bool-clause-ok : goal.value_from-returns-in-Bool-clause-ok
value_from-returns-in-Bool-clause-ok t c =
    let ts = c.args.reader.now in
    let is : token_of c.args.token ≡ Token.boolean c.in-Bool.b = ap token_of c.in-Bool.is in
    let seen : view (Bool c.in-Bool.b) ≡ boolean c.in-Bool.b = search (rules, the_lemmas) in
    ap (λ k. converted of_json (value c.args.depth (k ∷ ts))) is ∙ ap (converted of_json) (value_is c.args.depth (Token.boolean c.in-Bool.b ∷ ts))
    ∙ ap (λ d. Some (d, ts)) (sym seen)

pub value_from-returns-in-Null-clause-ok : goal.value_from-returns-in-Null-clause-ok
value_from-returns-in-Null-clause-ok t c =
    let ts = c.args.reader.now in
    let is : token_of c.args.token ≡ Token.null = ap token_of c.in-Null.is in
    let seen : view Null ≡ null = search (rules, the_lemmas) in
    ap (λ k. converted of_json (value c.args.depth (k ∷ ts))) is ∙ ap (converted of_json) (value_is c.args.depth (Token.null ∷ ts))
    ∙ ap (λ d. Some (d, ts)) (sym seen)

pub value_from-returns-in_ok-read_items-in-BeginArray-clause-ok : goal.value_from-returns-in_ok-read_items-in-BeginArray-clause-ok
value_from-returns-in_ok-read_items-in-BeginArray-clause-ok t c =
    let ts = c.args.reader.now in
    let is : token_of c.args.token ≡ Token.begin_array = ap token_of c.in-BeginArray.is in
    let opened = ap (λ k. converted of_json (value c.args.depth (k ∷ ts))) is ∙ ap (converted of_json) (value-begin_array c.args.depth ts (omega arith))
    ∙ converted-array (items (value (c.args.depth - 1)) (length ts) ts) in
    let found = c.in_ok-read_items-in-BeginArray in
    opened ∙ ap (parse_map array) found.ensures.ok ∙ ap (λ d. Some (d, c.read_items.new.reader)) (sym (view-Array found.field-0))

pub value_from-returns-in_ok-read_members-in-BeginObject-clause-ok : goal.value_from-returns-in_ok-read_members-in-BeginObject-clause-ok
value_from-returns-in_ok-read_members-in-BeginObject-clause-ok t c =
    let ts = c.args.reader.now in
    let is : token_of c.args.token ≡ Token.begin_object = ap token_of c.in-BeginObject.is in
    let opened = ap (λ k. converted of_json (value c.args.depth (k ∷ ts))) is ∙ ap (converted of_json) (value-begin_object c.args.depth ts (omega arith))
    ∙ converted-object (members (value (c.args.depth - 1)) (length ts) ts) in
    let found = c.in_ok-read_members-in-BeginObject in
    opened ∙ ap (parse_map object) found.ensures.ok ∙ ap (λ d. Some (d, c.read_members.new.reader)) (sym (view-Object found.field-0))

pub read_items-items-preserved : goal.read_items-items-preserved
read_items-items-preserved t c =
    let p = value c.args.depth in
    let l = c.items in
    let n = l.invariant.0 in
    let s = c.next.new.self in
    let first : l.reader ≡ token_of c.in-Some.token ∷ s = grind arith in
    let done = c.in_ok-value_from.ensures in
    let v = c.in_ok-value_from.field-0 in
    let r = c.value_from.new.reader in
    let read : converted of_json (p l.reader) ≡ Some (view v, r) = ap (λ ts. converted of_json (p ts)) first ∙ done.ok in
    let long : length l.reader ≡ length (token_of c.in-Some.token ∷ s) = ap length first in
    let shorter = done.shorter in
    let turn = item_read p n l.reader r (view v) (omega (arith, l.invariant.1, long)) (begins c.args.depth l.reader r (view v) read) read in (
      n - 1,
      omega (arith, l.invariant.1, long, shorter),
      l.invariant.2 ∙ ap (parse_map (items_before l.found.items)) turn ∙ one_more_item l.found.items v _
          ∙ ap (λ vs. parse_map (items_before vs) (converted of_items (items p (n - 1) r))) (sym c.in_ok-push.ensures.items),
      omega (arith, l.invariant.3, long, shorter),
    )

pub read_items-returns-in-EndArray-clause-ok : goal.read_items-returns-in-EndArray-clause-ok
read_items-returns-in-EndArray-clause-ok t c =
    let p = value c.args.depth in
    let l = c.items in
    let n = l.invariant.0 in
    let r = c.next.new.self in
    let first : l.reader ≡ token_of c.in-Some.token ∷ r = grind arith in
    let ended : l.reader ≡ Token.end_array ∷ r = first ∙ ap (λ k. token_of k ∷ r) c.in-EndArray.is in
    l.invariant.2 ∙ ap (parse_map (items_before l.found.items)) (items_over p n l.reader r l.invariant.1 (ap after_end_array ended))
    ∙ ap (λ ds. Some (ds, r)) (items_before-no_items l.found.items)

pub read_members-members-preserved : goal.read_members-members-preserved
read_members-members-preserved t c =
    let p = value c.args.depth in
    let l = c.members in
    let n = l.invariant.0 in
    let old = members_view l.found.entries in
    let k = c.in-Some.name.now in
    let s = c.next_key.new.self in
    let rest = c.next.new.self in
    let named : read_key l.reader ≡ Some (Some k, s) = grind arith in
    let first : s ≡ token_of c.in-Some-next.token ∷ rest = grind arith in
    let done = c.in_ok-member.ensures in
    let v = c.in_ok-member.member in
    let r = c.value_from.new.reader in
    let read : converted of_json (p s) ≡ Some (view v, r) = ap (λ ts. converted of_json (p ts)) first ∙ done.ok in
    let less = read_key-shorter l.reader (Some k) s named in
    let long : length s ≡ length (token_of c.in-Some-next.token ∷ rest) = ap length first in
    let shorter = done.shorter in
    let copied : string_bytes c.in_ok-key.key ≡ k = search rules in
    let inserted : members_view c.insert.new.self.entries ≡ put k (view v) old =
    ap members_view c.in_ok-insert.ensures.entries ∙ members_view-insert_entry l.found.entries c.in_ok-key.key v
    ∙ ap (λ name. put name (view v) old) copied in (
      n - 1,
      omega (arith, l.invariant.1, less, long, shorter),
      l.invariant.2 ∙ member_read p old n k l.reader s r (view v) (omega (arith, l.invariant.1, less)) named read
          ∙ ap (λ found. converted (λ ms. of_members ms found) (members p (n - 1) r)) (sym inserted),
      omega (arith, l.invariant.3, less, long, shorter),
    )

pub read_members-returns-clause-ok : goal.read_members-returns-clause-ok
read_members-returns-clause-ok t c =
    let p = value c.args.depth in
    let l = c.members in
    let n = l.invariant.0 in
    let old = members_view l.found.entries in
    l.invariant.2 ∙ members_over p old n l.reader c.next_key.new.self l.invariant.1 (grind arith)
