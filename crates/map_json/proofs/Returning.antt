-- A text that is put together reads as what was put together.
use Rattle.std.proofs.Common.{◌≡◌, IsUtf8, ℕ, suc, ◌≤◌, List, [], ◌∷◌, ◌++◌, max, Some, option_map, option_and_then, Bool, true, false, refl, sym, ap, ap₂, ◌∙◌}
use Rattle.std.proofs.Common.{arith, append_assoc, append-nil}
use Rattle.std.proofs.lemmas.Str.{IsUtf8-append}
use Rattle.json.specs.Json as json
use Rattle.json.specs.Tree as tree
use Rattle.json.specs.Tree.{MembersHaveNumbers, json_tokens}
use Rattle.json.specs.Lex.{tokens}
use Rattle.json.specs.Print.{quoted}
use Rattle.json.proofs.Numbered.{document-HasNumbers}
use Rattle.json.specs.Token.{Token}
use Rattle.json.proofs.Printed.Tokens.{tokens-print}
use Rattle.json.proofs.Printed.Trees.{ArePrintable-json_tokens, value-json_tokens}
use Rattle.json.proofs.Printed.Utf8.{IsUtf8-are_ascii, IsUtf8-key}
use Rattle.serde_json.specs.Data.{Data, null, boolean, number, string, array, object, Items, no_items, item, Members, no_members, member, put, depth}
use Rattle.serde_json.specs.Data.{items_depth, members_depth}
use Rattle.serde_json.specs.Read.{read, max_depth, of_json, of_members}
use Rattle.serde_json.specs.Written.{IsInOrder, has_float, outline, items_outline, members_outline, compact_text, members_text}
use Rattle.serde_json.proofs.Texts.{tokens_from_order, print-outline}
use Rattle.map_values.specs.Texts.{Returns}
use Rattle.map_values.proofs.Returning.{ascii_then, comma_then}

mutual
  depth-outline : (d : Data) → tree.depth (outline d) ≡ depth d
  depth-outline null = refl
  depth-outline (boolean b) = refl
  depth-outline (number n) = refl
  depth-outline (string s) = refl
  depth-outline (array ds) = ap suc (items_depth-outline ds)
  depth-outline (object ms) = ap suc (members_depth-outline ms)

  items_depth-outline : (ds : Items) → tree.items_depth (items_outline ds) ≡ items_depth ds
  items_depth-outline no_items = refl
  items_depth-outline (item d ds) = ap₂ max (depth-outline d) (items_depth-outline ds)

  members_depth-outline : (ms : Members) → tree.members_depth (members_outline ms) ≡ members_depth ms
  members_depth-outline no_members = refl
  members_depth-outline (member k d ms) = ap₂ max (depth-outline d) (members_depth-outline ms)

-- tokens of a value's JSON, read at most n deep
pub parsed-outline : (n : ℕ) (d : Data) (ts : List Token) → ts ≡ json_tokens (outline d) → depth d ≤ n
    → option_and_then (λ p. json.if_last p.0 p.1) (json.value n ts) ≡ Some (outline d)
parsed-outline n d ts same shallow =
    ap (option_and_then (λ p. json.if_last p.0 p.1))
    (ap (json.value n) (same ∙ sym (append-nil (json_tokens (outline d)))) ∙ value-json_tokens (outline d) n [] (omega (arith, depth-outline d)))

-- a value whose text reads as the value
pub Returns-read : (d : Data) (text : List ℕ) → IsUtf8 (compact_text d) → IsInOrder text d → has_float d ≡ false → depth d ≤ max_depth → read text ≡ Some d
    → Returns d
Returns-read d text utf8 ordered whole shallow again =
    let same : tokens text ≡ json_tokens (outline d) = tokens_from_order text d ordered whole in
    record {
      utf8 = utf8;
      numbers = document-HasNumbers text (outline d) (parsed-outline json.max_depth d (tokens text) same (omega arith));
      reads = sym (ap (option_and_then of_json) (parsed-outline max_depth d (tokens text) same shallow)) ∙ again;
    }

-- the text of a value that returns
pub read-compact_text : (d : Data) → Returns d → depth d ≤ max_depth → read (compact_text d) ≡ Some d
read-compact_text d h shallow =
    let same = ap tokens (sym (print-outline d)) ∙ tokens-print (json_tokens (outline d)) (ArePrintable-json_tokens (outline d) h.numbers) in
    ap (option_and_then of_json) (parsed-outline max_depth d (tokens (compact_text d)) same shallow) ∙ h.reads

-- ---- members
key_then : (k rest : List ℕ) → IsUtf8 k → IsUtf8 rest → IsUtf8 (quoted k ++ 58 ∷ rest)
key_then k rest name utf8 = rw (← append_assoc (quoted k) (58 ∷ []) rest) (IsUtf8-append (quoted k ++ 58 ∷ []) rest (IsUtf8-key k name) utf8)

-- the members, put one after another over those that were found, are these
pub record MembersReturn (ms found all : Members) : Type 0 where
  pub utf8 : (later : Bool) → IsUtf8 (members_text later ms)
  pub numbers : MembersHaveNumbers (members_outline ms)
  pub reads : of_members (members_outline ms) found ≡ Some all

pub MembersReturn-none : (all : Members) → MembersReturn no_members all all
MembersReturn-none all = record { utf8 = λ later. IsUtf8-are_ascii (125 ∷ []) refl; numbers = tt; reads = refl }

pub MembersReturn-member : (k : List ℕ) (d : Data) (ms found all : Members) → IsUtf8 k → Returns d → MembersReturn ms (put k d found) all
    → MembersReturn (member k d ms) found all
MembersReturn-member k d ms found all name one more =
    let rest = compact_text d ++ members_text true ms in
    record {
      utf8 = λ later. comma_then later (quoted k ++ 58 ∷ rest)
          (key_then k rest name (IsUtf8-append (compact_text d) (members_text true ms) one.utf8 (more.utf8 true)));
      numbers = (one.numbers, more.numbers);
      reads = ap (option_and_then (λ e. of_members (members_outline ms) (put k e found))) one.reads ∙ more.reads;
    }

pub Returns-object : (ms : Members) → MembersReturn ms no_members ms → Returns (object ms)
Returns-object ms h =
    record {
      utf8 = ascii_then 123 (members_text false ms) (IsUtf8-are_ascii (123 ∷ []) refl) (h.utf8 false);
      numbers = h.numbers;
      reads = ap (option_map object) h.reads;
    }

-- ---- texts, regrouped
pub regroup_item : (text comma value rest : List ℕ) → ((text ++ comma) ++ value) ++ rest ≡ text ++ (comma ++ (value ++ rest))
regroup_item text comma value rest = simp append_assoc

pub regroup_member : (text comma name value rest : List ℕ) → ((text ++ (comma ++ (name ++ 58 ∷ []))) ++ value) ++ rest ≡ text
    ++ (comma ++ (name ++ 58 ∷ (value ++ rest)))
regroup_member text comma name value rest = simp append_assoc
